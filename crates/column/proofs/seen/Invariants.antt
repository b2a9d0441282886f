-- `column::seen` meets its contract: the flags are right of the rows so far.
use Rattle.column.proofs.Columns.{Flags}
use Rattle.matrix.specs.Places.{head_at}
use Rattle.column.proofs.seen.Given as goal

abbrev pub invariant-loop-p : goal.invariant-loop-p
invariant-loop-p l = Flags (head_at l.b.nodes.now l.b.left.now l.n) l.ps l.from l.p-index l.flags
