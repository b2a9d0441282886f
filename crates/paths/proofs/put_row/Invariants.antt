-- `paths::put_row` meets its contract: what is still to come, put after what stands, is the whole.
use Rattle.paths.specs.Path.{spelt}
use lib.ListN.{length}
use lib.Seq.{sets}
use Prim.Native.Nat.{◌+◌, ◌-◌}
use mathlib.Core.Path.{◌≡◌}
use Rattle.paths.proofs.put_row.Given as goal

abbrev pub invariant-loop-i : goal.invariant-loop-i
invariant-loop-i l = (sets l.out l.at (spelt l.arities l.nodes l.sets l.i (l.depth - l.i) l.n) ≡ sets l.initial.out l.written (spelt l.arities l.nodes l.sets 0 l.depth l.n))
    × (l.at + length (spelt l.arities l.nodes l.sets l.i (l.depth - l.i) l.n) ≡ l.written + length (spelt l.arities l.nodes l.sets 0 l.depth l.n))
