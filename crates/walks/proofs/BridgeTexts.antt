-- Literals compared by their bytes are the literals compared: same kind, same length, same text.
use mathlib.Core.Path.{◌≡◌, refl, sym, ap, ap₂, subst, ◌∙◌}
use mathlib.Core.Logic.{⊎_elim}
use mathlib.Core.Bool.{false, ◌&&◌}
use mathlib.Core.List.{List}
use Prim.Native.Nat.{ℕ, zero, suc, ◌+◌, ◌≤◌}
use native.Mathlib.Numerals.{add-one}
use native.Mathlib.Omega.{arith}
use lib.ListN.{length, get_or, take, drop, length-drop}
use lib.Seq.{drop-cons, length-take-le}
use lib.Dec.{eqb}
use borrow.Author.Tests.{eq-eqb, ne_eqb}
use Rattle.scope.specs.Lists.{Text, same}
use Rattle.scope.specs.Simplify.{int, byte_array, same_literal}
use Rattle.scope.proofs.Tests.{same_true}
use Rattle.layout.specs.Types.{text_at}
use Rattle.layout.specs.Nodes.{literal_at, LiteralStands}
use Rattle.matrix.specs.Numbers.{agree, same_lit}
use Rattle.matrix.proofs.Orders.{same_or, test}
use Rattle.matrix.proofs.Literals.{lit-kind}

-- texts of other lengths are other texts
same_length_lem : (s t : Text) → (length s ≡ length t → ⊥) → same s t ≡ false
same_length_lem s t ne = test (same s t) (λ e. absurd (ne (ap length (same_true s t e)))) (λ e. e)

module _ (bytes : List ℕ) where
  same-agree : (n x y : ℕ) → x + n ≤ length bytes → y + n ≤ length bytes → same (take n (drop x bytes)) (take n (drop y bytes)) ≡ agree bytes n x y
  unfolding same agree
  same-agree zero x y lx ly = refl
  same-agree (suc n) x y lx ly =
      rw (drop-cons bytes x 0 (omega arith), drop-cons bytes y 0 (omega arith))
      (ap (eqb (get_or bytes x 0) (get_or bytes y 0) &&◌) (same-agree n (suc x) (suc y) (omega arith) (omega arith)))

  text-length : (p : ℕ) → p + 1 + get_or bytes p 0 ≤ length bytes → length (text_at bytes p) ≡ get_or bytes p 0
  unfolding text_at
  text-length p l = length-take-le (get_or bytes p 0) (drop (suc p) bytes) (omega (arith, length-drop (suc p) bytes))

  text_at_lem : (p : ℕ) → text_at bytes p ≡ take (get_or bytes p 0) (drop (p + 1) bytes)
  unfolding text_at
  text_at_lem p = ap (λ (k : ℕ). take (get_or bytes p 0) (drop k bytes)) (sym (add-one p))

  texts : (a b : ℕ) → a + 1 + get_or bytes a 0 ≤ length bytes → b + 1 + get_or bytes b 0 ≤ length bytes
      → same (text_at bytes a) (text_at bytes b) ≡ (eqb (get_or bytes a 0) (get_or bytes b 0) && agree bytes (get_or bytes a 0) (a + 1) (b + 1))
  texts a b la lb = ⊎_elim
      (λ e. equal e)
      (λ ne. same_length_lem (text_at bytes a) (text_at bytes b) (λ q. ne (sym (text-length a la) ∙ q ∙ text-length b lb)) ∙ sym (ap (◌&& agree bytes (get_or bytes a 0) (a + 1) (b + 1)) (ne_eqb (get_or bytes a 0) (get_or bytes b 0) ne)))
      (same_or (get_or bytes a 0) (get_or bytes b 0))
    where
      equal : get_or bytes a 0 ≡ get_or bytes b 0 → same (text_at bytes a) (text_at bytes b) ≡ (eqb (get_or bytes a 0) (get_or bytes b 0) && agree bytes (get_or bytes a 0) (a + 1) (b + 1))
      equal e =
          ap₂ same (text_at_lem a) (text_at_lem b ∙ ap (λ (k : ℕ). take k (drop (b + 1) bytes)) (sym e))
          ∙ same-agree (get_or bytes a 0) (a + 1) (b + 1) (omega arith) (omega arith)
          ∙ sym (ap (◌&& agree bytes (get_or bytes a 0) (a + 1) (b + 1)) (eq-eqb (get_or bytes a 0) (get_or bytes b 0) e))

  -- by the two kinds
  literal_3 : (p : ℕ) → get_or bytes p 0 ≡ 3 → literal_at bytes p ≡ int (text_at bytes (suc p))
  unfolding literal_at
  literal_3 p e = simp (eq-eqb (get_or bytes p 0) 3 e)

  literal_4 : (p : ℕ) → get_or bytes p 0 ≡ 4 → literal_at bytes p ≡ byte_array (text_at bytes (suc p))
  unfolding literal_at
  literal_4 p e = simp (ne_eqb (get_or bytes p 0) 3 (λ z. omega arith))

  alike : (a b : ℕ) → LiteralStands bytes a → LiteralStands bytes b → get_or bytes a 0 ≡ get_or bytes b 0 → same (text_at bytes (suc a)) (text_at bytes (suc b)) ≡ same_lit bytes a b
  unfolding same_lit
  alike a b sa sb e =
      let two : (p : ℕ) → p + 2 ≡ suc (suc p) = λ p. omega arith in
      let la : suc a + 1 + get_or bytes (suc a) 0 ≤ length bytes = subst (λ (k : ℕ). k + 1 + get_or bytes k 0 ≤ length bytes) (add-one a) (omega (arith, sa.whole)) in
      let lb : suc b + 1 + get_or bytes (suc b) 0 ≤ length bytes = subst (λ (k : ℕ). k + 1 + get_or bytes k 0 ≤ length bytes) (add-one b) (omega (arith, sb.whole)) in
      texts (suc a) (suc b) la lb ∙ simp (eq-eqb (get_or bytes a 0) (get_or bytes b 0) e, add-one, two)

  pub literals : (a b : ℕ) → LiteralStands bytes a → LiteralStands bytes b → same_literal (literal_at bytes a) (literal_at bytes b) ≡ same_lit bytes a b
  literals a b sa sb = ⊎_elim
      (λ i. ⊎_elim
      (λ j. ap₂ same_literal (literal_3 a i) (literal_3 b j) ∙ alike a b sa sb (i ∙ sym j))
      (λ j. ap₂ same_literal (literal_3 a i) (literal_4 b j) ∙ lit-kind bytes a b (λ e. omega arith))
      sb.known)
      (λ i. ⊎_elim
      (λ j. ap₂ same_literal (literal_4 a i) (literal_3 b j) ∙ lit-kind bytes a b (λ e. omega arith))
      (λ j. ap₂ same_literal (literal_4 a i) (literal_4 b j) ∙ alike a b sa sb (i ∙ sym j))
      sb.known)
      sa.known
