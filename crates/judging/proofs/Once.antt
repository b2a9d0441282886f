-- Any two outcomes that the contract of `judged` permits are equal, from the block that the slices are known to hold.
use mathlib.Core.Path.{◌≡◌}
use mathlib.Core.List.{List}
use lib.ListN.{length}
use Prim.Native.Nat.{ℕ}
use Rattle.scope.specs.declared.Answer.{Answer}
use Rattle.scope.specs.Blocks.{Block, parsed}
use Rattle.scope.specs.Answer.{outcome_of}
use Rattle.fitting.specs.Given.{Given}
use Rattle.fitting.proofs.Once.{one-given}
use Rattle.judging.specs.Blocks.{Slices, Holds, Known}

-- what the contract says of one outcome; the scratch is an equation
abbrev pub Judges : Slices → Answer → List ℕ → List ℕ → Type 0
Judges s r entry exit = (b : Block) → Holds s b → Given (outcome_of (length entry) (parsed b)) r entry exit

pub one_judging : (s : Slices) → Known s → (entry a b : List ℕ) (q r : Answer) → Judges s q entry a → Judges s r entry b → (q ≡ r) × (a ≡ b)
one_judging s known entry a b q r h k = one-given (h known.block known.holds) (k known.block known.holds)
