-- `ctors::unseen` meets its contract: the set is that of the flags from i on.
use Rattle.ctors.specs.Sets.{down_set}
use Prim.Native.Nat.{◌-◌}
use mathlib.Core.Path.{◌≡◌}
use Rattle.ctors.proofs.unseen.Given as goal

abbrev pub invariant-loop-i : goal.invariant-loop-i
invariant-loop-i l = l.set ≡ down_set l.flags l.i (l.k - l.i)
