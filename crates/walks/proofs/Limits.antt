-- A walk is within both limits, or past one.
use mathlib.Core.Path.{◌≡◌, sym, ap, ap₂, ◌∙◌, refl}
use mathlib.Core.Logic.{⊎_elim}
use mathlib.Core.Bool.{Bool, true, false, ◌||◌, not, ◌&&◌}
use Prim.Native.Nat.{ℕ, ◌+◌, ◌≤◌, ◌<◌}
use native.Mathlib.Nat.{zero-add}
use lib.Dec.{leb, ltb}
use borrow.Author.Tests.{le-leb, lt-leb, lt-ltb, le-ltb}
use Rattle.scope.specs.Walks.{Walk}
use Rattle.scope.specs.Limits.{max_calls, max_cells}
use Rattle.walks.specs.Limits.{within}
use Rattle.matrix.proofs.Orders.{le_or, and-false}

-- within both limits, or past one
module _ {A : Type 0} (c room : ℕ) (w : Walk A) where
  pub within_both : c + w.calls ≤ 65536 → w.peak ≤ room → within c room w ≡ true
  within_both p q = simp (le-leb (c + w.calls) 65536 p, le-leb w.peak room q)

  pub past-calls : 65536 < c + w.calls → within c room w ≡ false
  past-calls p = simp (lt-leb (c + w.calls) 65536 p)

  pub past-cells : room < w.peak → within c room w ≡ false
  past-cells p = simp (lt-leb w.peak room p, and-false)

  pub within-cases : {B : Type 0} → (c + w.calls ≤ 65536 → w.peak ≤ room → B) → (65536 < c + w.calls → B) → (room < w.peak → B) → B
  within-cases f g h = ⊎_elim (λ p. ⊎_elim (f p) h (le_or w.peak room)) g (le_or (c + w.calls) 65536)

-- a test and its opposite, and two of them
pub test-not : (a b : ℕ) → leb a b ≡ not (ltb b a)
test-not a b = ⊎_elim (λ l. le-leb a b l ∙ sym (ap not (le-ltb b a l))) (λ l. lt-leb a b l ∙ sym (ap not (lt-ltb b a l))) (le_or a b)

pub not_or : (a b : Bool) → (not a && not b) ≡ not (a || b)
not_or true b = refl
not_or false b = refl

-- a walk is within both limits exactly when neither test of refusal 10 passes
pub within-not : {A : Type 0} (w : Walk A) → within 0 max_cells w ≡ not (ltb max_calls w.calls || ltb max_cells w.peak)
within-not w = ap₂ ◌&&◌ (ap (λ (x : ℕ). leb x max_calls) (zero-add w.calls) ∙ test-not w.calls max_calls) (test-not w.peak max_cells) ∙ not_or (ltb max_calls w.calls) (ltb max_cells w.peak)
