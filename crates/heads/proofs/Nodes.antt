-- What the code's tests of a node say of its number.
use mathlib.Core.Path.{◌≡◌, refl, sym, ap, ◌∙◌}
use mathlib.Core.Bool.{true, false}
use Prim.Native.Nat.{ℕ, ◌<◌}
use native.Mathlib.Omega.{arith}
use lib.Dec.{eqb}
use borrow.Author.Tests.{ne_eqb, eqb-true, eqb-false}
use Rattle.heads.specs.declared.Node.{Node}
use Rattle.heads.specs.declared.Node.TheVariants.{Wildcard, Constructor, Literal}
use Rattle.heads.specs.contracts.NodePartialEq.TheImpl.{eq-value}
use Rattle.heads.specs.Heads.{SaysNode}

-- a node is a wildcard where its number is 0
pub wild : (h : ℕ) (n : Node) → SaysNode h n → eq-value.it n Wildcard ≡ eqb h 0
wild h Wildcard e = ap (λ (k : ℕ). eqb k 0) (sym e)
wild h (Constructor c) (e, l, m) = sym (ne_eqb h 0 (λ z. omega arith))
wild h (Literal p) e = sym (ne_eqb h 0 (λ z. omega arith))

-- the same from the code's test
module _ (h : ℕ) (n : Node) (says : SaysNode h n) where
  pub is_wild : true ≡ eq-value.it n Wildcard → h ≡ 0
  is_wild e = eqb-true h 0 (sym (e ∙ wild h n says))

  pub no_wild : false ≡ eq-value.it n Wildcard → h ≡ 0 → ⊥
  no_wild e = eqb-false h 0 (sym (e ∙ wild h n says))

-- below the literals stands what is none
pub no_literal : (h : ℕ) (n : Node) → SaysNode h n → ((p : ℕ) → n ≡ Literal p → ⊥) → h < 32768
no_literal h Wildcard e k = omega arith
no_literal h (Constructor c) (e, l, m) k = omega arith
no_literal h (Literal p) e k = absurd (k p refl)
