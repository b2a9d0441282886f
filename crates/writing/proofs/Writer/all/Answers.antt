-- `all` meets its contract: the bytes before the index are written, and one more.
use Rattle.std.proofs.Common.{arith, rules}
use Rattle.writing.proofs.Writing.{writes_next}
use Rattle.writing.proofs.Writer.all.Goals as goal

pub loop-b-preserved : goal.loop-b-preserved
loop-b-preserved c =
    writes_next c.args.text.now c.loop-b.b-index (search rules) (omega arith) c.loop-b.invariant c.byte.ensures
