-- Any two outcomes that the contracts of `print` and of the exported function permit are equal, from what they promise.
use mathlib.Core.Path.{◌≡◌, sym, ◌∙◌}
use mathlib.Core.List.{List}
use Prim.Native.Nat.{ℕ}
use Rattle.block.specs.Print.{Prints}
use Rattle.block.specs.Called.{Called}

pub one-print : {file scratch out a b x y : List ℕ} {m n : ℕ} → Prints file scratch out m a x → Prints file scratch out n b y → (m ≡ n) × (a ≡ b) × (x ≡ y)
one-print h k = (h.long ∙ sym k.long, h.holds ∙ sym k.holds, h.scratch_is ∙ sym k.scratch_is)

pub one-call : {file scratch report a b x y : List ℕ} {n n' k k' l l' : ℕ} → Called file scratch report n k l a x → Called file scratch report n' k' l' b y → (n ≡ n') × (k ≡ k') × (l ≡ l') × (a ≡ b) × (x ≡ y)
one-call h k = (h.number_is ∙ sym k.number_is, h.line_is ∙ sym k.line_is, h.length_is ∙ sym k.length_is, h.report_is ∙ sym k.report_is, h.scratch_is ∙ sym k.scratch_is)
