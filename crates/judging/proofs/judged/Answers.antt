-- `judging::judged` meets its contract: refusal 10 where the walks are too much, else what is said of the findings.
use mathlib.Core.Path.{sym}
use native.Mathlib.Omega.{arith}
use lib.Seq.{length-take-le}
use Rattle.judging.proofs.Judging.{starts, few-written, small, reported, too_much_work}
use Rattle.judging.proofs.judged.Goals as goal

pub walk-requires-clause-starts : goal.walk-requires-clause-starts
walk-requires-clause-starts c = starts _ c.requires.known

pub returns-in_default-clause-given : goal.returns-in_default-clause-given
returns-in_default-clause-given c b h = too_much_work _ (c.in_default.ensures.by_index c.args.b.now.types.kinds.now b h.holding) c.refused.ensures

pub slice_bounds-out-end : goal.slice_bounds-out-end
slice_bounds-out-end c =
    let k = c.requires.known in
    omega (arith, few-written k.holds (c.in-Ok.ensures.by_index c.args.b.now.types.kinds.now k.block k.holds.holding), c.type_inv.out)

pub slice_bounds-found-end-2 : goal.slice_bounds-found-end-2
slice_bounds-found-end-2 c =
    let k = c.requires.known in
    sym (length-take-le c.in-Ok.walks.written c.walk.new.out (omega (arith, few-written k.holds (c.in-Ok.ensures.by_index c.args.b.now.types.kinds.now k.block k.holds.holding))))

pub say-requires : goal.say-requires
say-requires c =
    let k = c.requires.known in
    small k.holds k.few (c.in-Ok.ensures.by_index c.args.b.now.types.kinds.now k.block k.holds.holding)

pub returns-clause-given : goal.returns-clause-given
returns-clause-given c b h = reported h _ (c.in-Ok.ensures.by_index c.args.b.now.types.kinds.now b h.holding) c.say.ensures
