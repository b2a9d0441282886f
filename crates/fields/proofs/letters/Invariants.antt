-- `fields::letters` meets its contract: the bytes still to read reach what all reach.
use Prim.Native.Nat.{◌+◌, ◌-◌, ◌≤◌}
use mathlib.Core.Path.{◌≡◌}
use mathlib.Core.Bool.{false}
use lib.ListN.{length}
use Rattle.scope.specs.Frames.{passing, times}
use Rattle.fields.specs.Places.{read_at, letter_of}
use Rattle.fields.proofs.letters.Given as goal

abbrev pub invariant-loop-i : goal.invariant-loop-i
invariant-loop-i l = (l.at + l.i ≤ length l.bytes) × (read_at l.bytes (l.at + l.i) (times (l.n - l.i) (passing (letter_of l.big false))) ≡ read_at l.bytes l.at (times l.n (passing (letter_of l.big false))))
