-- `paths::choose` and `paths::put_rows` meet their contracts. The measure: twice the steps that are still to be chosen.
use Prim.Native.Nat.{◌+◌, ◌*◌}
use Rattle.paths.proofs.PathChoose.{Chosen}
use Rattle.paths.proofs.+choose_put_rows.Given as goal

abbrev pub decreases-choose : goal.decreases-choose
decreases-choose l = 2 * l.k + 1

abbrev pub decreases-put_rows : goal.decreases-put_rows
decreases-put_rows l = 2 * l.k

abbrev pub invariant-choose-loop-c : goal.invariant-choose-loop-c
invariant-choose-loop-c l = Chosen l.arities l.initial.nodes l.sets l.depth l.k l.n l.initial.at.written l.initial.at.rows l.initial.out l.nodes l.rest l.b l.c l.at l.out
