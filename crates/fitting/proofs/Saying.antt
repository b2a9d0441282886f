-- What a report in its buffer is, from what the writer leaves: first measured over none of the buffer, then written.
use mathlib.Core.Path.{◌≡◌, refl, sym, ap, ◌∙◌}
use mathlib.Core.Bool.{Bool, true, false}
use mathlib.Core.List.{List, [], ◌∷◌, ◌++◌}
use Prim.Native.Nat.{ℕ, ◌-◌, ◌≤◌}
use native.Mathlib.Nat.{zero-add}
use native.Mathlib.Omega.{arith}
use lib.ListN.{length, take, drop, length-take, length-drop, take-append-drop}
use lib.Seq.{sets, sets-eq, length-sets}
use lib.Dec.{leb}
use borrow.Author.Tests.{leb-true, leb-false}
use Rattle.scope.specs.declared.Answer.{Answer}
use Rattle.scope.specs.declared.Answer.TheVariants.{Report, Refused}
use Rattle.scope.specs.Lists.{Text}
use Rattle.scope.proofs.Tests.{clash}
use Rattle.scope.specs.Answer.{Outcome, fitted}
use Rattle.writing.specs.Writing.{Wrote}
use Rattle.scope.proofs.Answers.{fitted_in, fitted-over}
use Rattle.fitting.specs.Given.{Given}

-- a text in front of a buffer
pub written : (d t : List ℕ) → length t ≤ length d → sets d 0 t ≡ t ++ drop (length t) d
written d t l = sets-eq t d 0 (omega arith) ∙ ap (λ (k : ℕ). t ++ drop k d) (zero-add (length t))

-- in no cells nothing is written
none : (p : List ℕ) (t : Text) → length p ≡ 0 → sets p 0 t ≡ p
none [] t z = empty (sets [] 0 t) (length-sets [] 0 t)
  where
    empty : (x : List ℕ) → length x ≡ 0 → x ≡ []
    empty [] i = refl
    empty (a ∷ x) i = absurd (omega arith)
none (a ∷ p) t z = absurd (omega arith)

-- the part from a on, past the end, written and put back
untouched : (a : ℕ) (d e : List ℕ) (t : Text) → e ≡ sets (take (length d - a) (drop a d)) 0 t → length d ≤ a → take a d ++ (e ++ drop (length d - a) (drop a d)) ≡ d
untouched a d e t h l =
    let k = length d - a in
    ap (λ (x : List ℕ). take a d ++ (x ++ drop k (drop a d))) (h ∙ none (take k (drop a d)) t (omega (arith, length-take k (drop a d), length-drop a d)))
    ∙ ap (λ (x : List ℕ). take a d ++ x) (take-append-drop k (drop a d))
    ∙ take-append-drop a d

module _ (t : Text) (n a : ℕ) (d e : List ℕ) (measured : Wrote (take (length d - a) (drop a d)) e 0 n t) (past : length d ≤ a) (r : Answer) (told : (u : Text) → n ≡ length u → r ≡ (fitted (length d) u).answer) where
  answer : r ≡ (fitted (length d) t).answer
  answer = told t (measured.ends ∙ zero-add (length t))

  given : (o : Outcome) → fitted (length d) t ≡ o → (x : List ℕ) → x ≡ o.text ++ drop (length o.text) d → Given (fitted (length d) t) r d x
  given o i x h = record { answer_is = answer; buffer_is = h ∙ ap (λ (p : Outcome). p.text ++ drop (length p.text) d) (sym i) }

  -- it does not fit
  pub too_long : (x y : ℕ) → r ≡ Refused x y → Given (fitted (length d) t) r d (take a d ++ (e ++ drop (length d - a) (drop a d)))
  too_long x y q = go (leb (length t) (length d)) refl
    where
      in_vain : {A : Type 0} → Report (length t) ≡ Refused x y → A
      in_vain h = clash (cc)

      go : (b : Bool) → leb (length t) (length d) ≡ b → Given (fitted (length d) t) r d (take a d ++ (e ++ drop (length d - a) (drop a d)))
      go true l = in_vain (sym (ap (λ (p : Outcome). p.answer) (fitted_in (length d) t (leb-true (length t) (length d) l))) ∙ sym answer ∙ q)
      go false l = given _ (fitted-over (length d) t (leb-false (length t) (length d) l)) _ (untouched a d e t measured.holds past)

  -- it fits
  pub in_buffer : (k m : ℕ) (x : List ℕ) → r ≡ Report k → Wrote (take a d ++ (e ++ drop (length d - a) (drop a d))) x 0 m t → Given (fitted (length d) t) r d x
  in_buffer k m x q w = go (leb (length t) (length d)) refl
    where
      in_vain : {A : Type 0} → Refused 11 0 ≡ Report k → A
      in_vain h = clash (cc)

      go : (b : Bool) → leb (length t) (length d) ≡ b → Given (fitted (length d) t) r d x
      go true l =
          let le : length t ≤ length d = leb-true (length t) (length d) l in
          given _ (fitted_in (length d) t le) x (w.holds ∙ ap (λ (y : List ℕ). sets y 0 t) (untouched a d e t measured.holds past) ∙ written d t le)
      go false l = in_vain (sym (ap (λ (p : Outcome). p.answer) (fitted-over (length d) t (leb-false (length t) (length d) l))) ∙ sym answer ∙ q)
