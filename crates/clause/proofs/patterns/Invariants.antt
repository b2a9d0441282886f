-- `clause::patterns` meets its contract: the patterns still to read from p on reach what all reach.
use Prim.Native.Nat.{◌+◌, ◌-◌, ◌*◌, ◌≤◌}
use mathlib.Core.Path.{◌≡◌}
use lib.ListN.{length}
use Rattle.scope.specs.Frames.{patterns}
use Rattle.fields.specs.Places.{read_at}
use Rattle.clause.proofs.patterns.Given as goal

abbrev pub invariant-loop-left : goal.invariant-loop-left
invariant-loop-left l = (l.p ≤ length l.bytes) × (l.left + 256 * l.at ≤ l.n + 256 * l.p) × (read_at l.bytes l.p (patterns l.left) ≡ read_at l.bytes l.at (patterns l.n))

abbrev pub decreases-loop-left : goal.decreases-loop-left
decreases-loop-left l = length l.bytes - l.p
