-- `sound::round` meets its contract: the flags that are set and those still to come are the whole round.
use mathlib.Core.Path.{◌≡◌}
use mathlib.Core.List.{map}
use Prim.Native.Nat.{◌-◌}
use lib.Seq.{sets}
use Rattle.layout.specs.Places.{places}
use Rattle.sound.specs.Sound.{flags, value_in}
use Rattle.sound.proofs.round.Given as goal

abbrev pub invariant-loop-t : goal.invariant-loop-t
invariant-loop-t l = let q = value_in l.types.kinds.now l.types.counts.now l.types.arities.now l.types.starts.now l.types.fields.now l.known in sets l.next l.t (map q (places l.t (l.n - l.t))) ≡ flags (map q (places 0 l.n))
