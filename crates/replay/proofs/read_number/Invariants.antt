-- `replay::read_number` meets its contract: the number stays below a million.
use Prim.Native.Nat.{◌<◌}
use Rattle.replay.proofs.read_number.Given as goal

abbrev pub invariant-loop-digits : goal.invariant-loop-digits
invariant-loop-digits l = l.value < 1000000
