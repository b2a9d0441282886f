-- `hexadecimal::decode` meets its contract: in turn k the bytes before byte k are written.
use Prim.Native.Nat.{◌/◌}
use mathlib.Core.Path.{◌≡◌}
use lib.ListN.{length, take}
use lib.Seq.{sets}
use Rattle.scope.specs.Lines.{unhex}
use Rattle.hexadecimal.proofs.decode.Given as goal

abbrev pub invariant-loop-k : goal.invariant-loop-k
invariant-loop-k l = (l.n ≡ length l.ds / 2) × (l.out ≡ sets l.initial.out l.at (take l.k (unhex l.ds)))
