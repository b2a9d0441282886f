-- The cycle of `is_useful` meets its contracts: each call is ready for its work, the measure falls, and each answer is what the limits make of the definition.
use Rattle.useful.proofs.Calls.{height, Tried}
use Rattle.useful.specs.Ready.{new_row}
use Rattle.matrix.specs.Numbers.{ar_of, rows_by, matrix}
use lib.ListN.{length, take}
use Prim.Native.Nat.{◌+◌, ◌-◌}
use mathlib.Core.Path.{◌≡◌}
use Rattle.useful.proofs.+into_is_useful_try_each_wildcard.Given as goal

abbrev pub decreases-into : goal.decreases-into
decreases-into l = height (l.n - 1 + ar_of l.b.now.types.arities.now l.key) (rows_by l.b.now.types.bytes.now l.key (ar_of l.b.now.types.arities.now l.key) (matrix l.b.now.nodes.now l.b.now.left.now l.n (take l.rows l.s.now))) (new_row l.row.wilds l.row.rest.now) 700

abbrev pub decreases-is_useful : goal.decreases-is_useful
decreases-is_useful l = height l.n (matrix l.b.now.nodes.now l.b.now.left.now l.n (take l.rows l.s.now)) (new_row l.row.wilds l.row.rest.now) 600

abbrev pub decreases-try_each : goal.decreases-try_each
decreases-try_each l = height l.n (matrix l.b.now.nodes.now l.b.now.left.now l.n (take l.rows l.s.now)) (new_row l.row.wilds l.row.rest.now) 400

abbrev pub decreases-wildcard : goal.decreases-wildcard
decreases-wildcard l = height l.n (matrix l.b.now.nodes.now l.b.now.left.now l.n (take l.rows l.s.now)) (new_row l.row.wilds l.row.rest.now) 500

abbrev pub invariant-try_each-loop-i : goal.invariant-try_each-loop-i
invariant-try_each-loop-i l = let b = l.b in (length l.s ≡ length l.initial.s) × Tried b.types.bytes.now b.nodes.now b.left.now b.types.counts.now b.types.arities.now l.row.rest.now l.row.wilds l.n l.key l.more l.initial.s l.rows l.room l.initial.calls l.i l.calls l.s
