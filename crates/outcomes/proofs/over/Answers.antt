-- `outcomes::over` meets its contract: the room is tested, then the calls.
use Rattle.outcomes.proofs.Tests.{past-cells, past-calls}
use Rattle.outcomes.proofs.over.Goals as goal

pub returns-then-room-cells : goal.returns-then-room-cells
returns-then-room-cells c =
    let a = c.args in
    past-cells a.calls a.cells a.room c.if-room-cells.true

pub returns : goal.returns
returns c =
    let a = c.args in
    past-calls a.calls a.cells a.room c.if-room-cells.false
