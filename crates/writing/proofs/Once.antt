-- A text is written in one way: any two outcomes that the contract of a writer permits are equal, from what it promises.
use mathlib.Core.Path.{◌≡◌, sym, ◌∙◌}
use mathlib.Core.List.{List}
use Prim.Native.Nat.{ℕ}
use Rattle.scope.specs.Lists.{Text}
use Rattle.writing.specs.declared.Writer.{Writer}
use Rattle.writing.specs.Writing.{Wrote, Writes}

pub one_writing : {entry a b : List ℕ} {at m n : ℕ} {text : Text} → Wrote entry a at m text → Wrote entry b at n text → (m ≡ n) × (a ≡ b)
one_writing h k = (h.ends ∙ sym k.ends, h.holds ∙ sym k.holds)

pub one_writer : {before a b : Writer} {text : Text} → Writes before a text → Writes before b text → (a.at ≡ b.at) × (a.out.now ≡ b.out.now)
one_writer h k = one_writing h.wrote k.wrote
