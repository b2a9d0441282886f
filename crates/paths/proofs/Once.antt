-- What the contract of `put_rows` determines: its answer, and the rows written where it is not over.
use mathlib.Core.Path.{◌≡◌, sym, ◌∙◌}
use mathlib.Core.List.{List}
use Prim.Native.Nat.{ℕ}
use Rattle.std.specs.Prelude.{Result, Ok}
use Rattle.matrix.specs.Numbers.{Rows}
use Rattle.outcomes.specs.declared.Spelt.{Spelt}
use Rattle.outcomes.specs.declared.TooMuch.{TooMuch}
use Rattle.outcomes.proofs.Tests.{same-spelt}
use Rattle.paths.specs.Spread.{Spread}

module _ {d a b : List ℕ} {written rows : ℕ} {m : Rows} {r s : Result Spelt TooMuch} (h : Spread d written rows m r a) (k : Spread d written rows m s b) where
  pub one-spread : r ≡ s
  one-spread = same-spelt r s (h.is ∙ sym k.is)

  pub one_spelling : (v : Spelt) → r ≡ Ok v → a ≡ b
  one_spelling v e = h.text v e ∙ sym (k.text v (sym one-spread ∙ e))
