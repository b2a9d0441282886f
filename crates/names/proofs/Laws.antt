-- Comparing texts, and where one stands in another.
use mathlib.Core.Path.{◌≡◌, refl, sym, ap, ap₂, ◌∙◌}
use mathlib.Core.List.{[], ◌∷◌}
use mathlib.Core.Bool.{Bool, true, false, ◌&&◌, ◌||◌}
use Prim.Native.Nat.{ℕ, zero, suc, ◌+◌, ◌≤◌, ◌<◌}
use native.Mathlib.Omega.{arith}
use lib.ListN.{length, get_or, take, drop, length-drop}
use lib.Dec.{eqb, ltb}
use borrow.Author.Tests.{ltb-true, ltb-false}
use denote.Ref.{Bor}
use Rattle.std.specs.Prelude.{Option, None, Some, MatchBool, IsSomeAnd, IfSome, option_map, nat_eq}
use Rattle.std.specs.List.{IsSubsliceAt}
use Rattle.std.specs.Cmp.Lexicographic.{pointwise}
use Rattle.std.specs.Iterator.Runs.{Run, AnyItem, AllItems, IsWindowsRun}
use Rattle.scope.specs.Lists.{Text, same}
use Rattle.scope.specs.Text.{starts_with, contains}
use Rattle.scope.proofs.Tests.{clash}

and-false : (z : Bool) → z && false ≡ false
and-false true = refl
and-false false = refl

or-true : (z : Bool) → (z || true) ≡ true
or-true true = refl
or-true false = refl

-- std's test of two slices compares texts byte by byte
pub pointwise_same : (a b : Text) → pointwise nat_eq a b ≡ same a b
unfolding same
pointwise_same [] [] = refl
pointwise_same [] (y ∷ b) = refl
pointwise_same (x ∷ a) [] = refl
pointwise_same (x ∷ a) (y ∷ b) = ap (λ (z : Bool). eqb x y && z) (pointwise_same a b)

-- a longer text stands at the start of no shorter one
starts-short : (s t : Text) → length t < length s → starts_with s t ≡ false
starts-short [] t h = absurd (omega arith)
starts-short (x ∷ s) [] h = refl
starts-short (x ∷ s) (y ∷ t) h = ap (λ (z : Bool). eqb x y && z) (starts-short s t (omega arith)) ∙ and-false (eqb x y)

-- a text begins with s if so many bytes of it are s
starts-same : (s t : Text) → length s ≤ length t → pointwise nat_eq s (take (length s) t) ≡ starts_with s t
starts-same [] t h = refl
starts-same (x ∷ s) [] h = absurd (omega arith)
starts-same (x ∷ s) (y ∷ t) h = ap (λ (z : Bool). eqb x y && z) (starts-same s t (omega arith))

-- nothing stands everywhere
pub contains-nothing : (s t : Text) → length s ≡ 0 → contains s t ≡ true
unfolding contains
contains-nothing [] [] h = refl
contains-nothing [] (b ∷ t) h = refl
contains-nothing (x ∷ s) t h = absurd (omega arith)

-- s stands at a place, so it stands somewhere
contains-there : (s t : Text) (k : ℕ) → starts_with s (drop k t) ≡ true → contains s t ≡ true
unfolding contains
contains-there s [] zero h = h
contains-there s (b ∷ t) zero h = rw h
contains-there s [] (suc k) h = h
contains-there s (b ∷ t) (suc k) h = ap (λ (z : Bool). starts_with s (b ∷ t) || z) (contains-there s t k h) ∙ or-true (starts_with s (b ∷ t))

-- s stands at no place, so it stands nowhere
contains-nowhere : (s t : Text) → ((k : ℕ) → starts_with s (drop k t) ≡ false) → contains s t ≡ false
unfolding contains
contains-nowhere s [] h = h 0
contains-nowhere s (b ∷ t) h = ap₂ ◌||◌ (h 0) (contains-nowhere s t (λ k. h (suc k)))

module _ {A : Type 0} (P Q : A → Type 0) where
  both_at : (o : Option A) → IsSomeAnd o P → IfSome o Q → (x : A) × P x × Q x
  both_at None p q = absurd p
  both_at (Some x) p q = (x, p, q)

  some_at : {B : Type 0} (f : A → B) (y : B) (o : Option A) → option_map f o ≡ Some y → IfSome o P → IfSome o Q → (x : A) × P x × Q x
  some_at f y None e p q = clash (cc)
  some_at f y (Some x) e p q = (x, p, q)

-- a search through the parts of t that are as long as s
module _ {S : Type 0} {steps : S → Option (Bor Text) → S → Type 0} (p : Run steps) (s t : Text) (w : IsWindowsRun p (length s) t) (some : 0 < length s) where
  abbrev Answers : Bool → Bor Text → Type 0
  Answers b x = pointwise nat_eq s x.now ≡ b

  abbrev Part : ℕ → Bor Text → Type 0
  Part k x = (length x.now ≡ length s) × (k + length s ≤ length t) × IsSubsliceAt (length s) t k x.now

  part-answers : (b : Bool) (k : ℕ) (x : Bor Text) → Answers b x → Part k x → starts_with s (drop k t) ≡ b
  part-answers b k x a h = sym (starts-same s (drop k t) (omega (arith, h.1, length-drop k t))) ∙ ap (pointwise nat_eq s) (sym h.2.0) ∙ a

  found : AnyItem p (Answers true) → contains s t ≡ true
  found (k, l, h) =
      let x = both_at (Answers true) (Part k) (p.at k) h (w.2 k) in
      contains-there s t k (part-answers true k x.0 x.1 x.2)

  missed : p.whole ≡ true → AllItems p (Answers false) → (k : ℕ) → starts_with s (drop k t) ≡ false
  missed whole h k = go (ltb (length t) (k + length s)) refl
    where
      go : (b : Bool) → ltb (length t) (k + length s) ≡ b → starts_with s (drop k t) ≡ false
      go true e = starts-short s (drop k t) (omega (arith, ltb-true (length t) (k + length s) e, length-drop k t))
      go false e =
          let near : k < p.len = omega (arith, ltb-false (length t) (k + length s) e, w.1 whole) in
          let x = some_at (Answers false) (Part k) (λ y. get_or y.now 0 0) _ (p.at k) (w.3 k 0 near) (h k) (w.2 k) in
          part-answers false k x.0 x.1 x.2

  pub contains-windows : (r : Bool) → MatchBool r (AnyItem p (Answers true)) ((p.whole ≡ true) × AllItems p (Answers false)) → r ≡ contains s t
  contains-windows true h = sym (found h)
  contains-windows false h = sym (contains-nowhere s t (missed h.0 h.1))
