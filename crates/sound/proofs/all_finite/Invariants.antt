-- `sound::all_finite` meets its contract: after so many rounds the flags are what so many rounds know.
use mathlib.Core.Path.{◌≡◌}
use Rattle.sound.specs.Sound.{flags, known_in}
use Rattle.sound.proofs.all_finite.Given as goal

abbrev pub invariant-loop : goal.invariant-loop
invariant-loop l = l.known ≡ flags (known_in l.types.kinds.now l.types.counts.now l.types.arities.now l.types.starts.now l.types.fields.now l.n l.counter)
