-- `declarations::labelled` meets its contract: the fields still to read from p on reach what all reach.
use Prim.Native.Nat.{◌≤◌, ◌-◌}
use mathlib.Core.Path.{◌≡◌}
use lib.ListN.{length}
use Rattle.scope.specs.Frames.{times}
use Rattle.fields.specs.Places.{read_at}
use Rattle.declarations.specs.Pieces.{field}
use Rattle.declarations.proofs.labelled.Given as goal

abbrev pub invariant-loop : goal.invariant-loop
invariant-loop l = (l.p ≤ length l.bytes) × (read_at l.bytes l.p (times (l.n - l.counter) field) ≡ read_at l.bytes l.at (times l.n field))
