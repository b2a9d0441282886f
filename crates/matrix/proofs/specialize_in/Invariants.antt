-- `matrix::specialize_in` meets its contract: the steps of the first i rows are written.
use Rattle.matrix.specs.Places.{steps, Written}
use lib.ListN.{take}
use Prim.Native.Nat.{◌≤◌}
use Rattle.matrix.proofs.specialize_in.Given as goal

abbrev pub invariant-loop-i : goal.invariant-loop-i
invariant-loop-i l = Written l.initial.s l.rows (steps l.b.types.bytes.now l.b.nodes.now l.b.left.now l.n l.key (take l.i (take l.rows l.initial.s))) l.k l.s × (l.k ≤ l.i)
