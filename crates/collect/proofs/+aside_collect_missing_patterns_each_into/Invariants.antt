-- `collect::collect_missing_patterns`, `each`, `into` and `aside` meet their contracts. The measure: the size of the matrix that a call walks, then how far a call is in its cycle.
use mathlib.Core.Bool.{cond}
use lib.Dec.{ltb}
use lib.ListN.{length, take}
use Rattle.matrix.specs.Numbers.{ar_of, rows_by, matrix}
use Rattle.walks.specs.Walks.{size}
use Rattle.collect.proofs.Calls.{Walked}
use Prim.Native.Nat.{◌+◌, ◌*◌, ◌-◌}
use Rattle.collect.proofs.+aside_collect_missing_patterns_each_into.Given as goal

abbrev pub decreases-aside : goal.decreases-aside
decreases-aside l = 1024 * size (l.n - 1 + ar_of l.b.now.types.arities.now l.key) (rows_by l.b.now.types.bytes.now l.key (ar_of l.b.now.types.arities.now l.key) (matrix l.b.now.nodes.now l.b.now.left.now l.n (take l.rows l.s.now))) + 701

abbrev pub decreases-collect_missing_patterns : goal.decreases-collect_missing_patterns
decreases-collect_missing_patterns l = 1024 * size l.n (matrix l.b.now.nodes.now l.b.now.left.now l.n (take l.rows l.s.now)) + 600

abbrev pub decreases-each : goal.decreases-each
decreases-each l = 1024 * size l.n (matrix l.b.now.nodes.now l.b.now.left.now l.n (take l.rows l.s.now)) + 500

abbrev pub decreases-into : goal.decreases-into
decreases-into l = 1024 * size (l.n - 1 + ar_of l.b.now.types.arities.now l.key) (rows_by l.b.now.types.bytes.now l.key (ar_of l.b.now.types.arities.now l.key) (matrix l.b.now.nodes.now l.b.now.left.now l.n (take l.rows l.s.now))) + cond (ltb (length l.s.now) (l.rows + l.rows)) 702 700

abbrev pub invariant-each-loop-c : goal.invariant-each-loop-c
invariant-each-loop-c l = Walked l.b l.n l.initial.s l.rows l.initial.steps l.depth l.key l.more l.initial.out l.initial.at l.room l.c l.s l.steps l.out l.at
