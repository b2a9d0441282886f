-- What `all` and `any` tell of a range of places: the test of each place in turn.
use mathlib.Core.Path.{◌≡◌, refl, sym, ap, ◌∙◌}
use mathlib.Core.Bool.{Bool, true, false, ◌&&◌, ◌||◌}
use mathlib.Core.List.{List, [], ◌∷◌, map}
use lib.ListN.{get_or}
use Prim.Native.Nat.{ℕ, zero, suc, ◌+◌, ◌<◌}
use native.Mathlib.Nat.{add-zero, add-suc, suc-add}
use native.Mathlib.Omega.{arith}
use Rattle.std.specs.Prelude.{Option, None, Some, MatchBool, IsSomeAnd, IfSome, option_map}
use Rattle.std.specs.Iterator.Runs.{Run, AnyItem, AllItems, ItemsCountUp}
use Rattle.scope.specs.Lists.{all, any}
use Rattle.layout.specs.Places.{places, reads}
use Rattle.scope.proofs.Tests.{clash, any-map}

module _ (q : ℕ → Bool) where
  all-each : (a n : ℕ) → ((k : ℕ) → k < n → q (a + k) ≡ true) → all q (places a n) ≡ true
  unfolding places
  all-each a zero h = refl
  all-each a (suc n) h = rw (ap q (sym (add-zero a)) ∙ h 0 (omega arith), all-each (suc a) n (λ k l. ap q (suc-add a k ∙ sym (add-suc a k)) ∙ h (suc k) (omega arith)))

  all-but : (a n k : ℕ) → k < n → q (a + k) ≡ false → all q (places a n) ≡ false
  unfolding places
  all-but a zero k l h = absurd (omega arith)
  all-but a (suc n) zero l h = rw (ap q (sym (add-zero a)) ∙ h)
  all-but a (suc n) (suc k) l h = ap (λ b. q a && b) (all-but (suc a) n k (omega arith) (ap q (suc-add a k ∙ sym (add-suc a k)) ∙ h)) ∙ and_no (q a)
    where
      and_no : (b : Bool) → (b && false) ≡ false
      and_no true = refl
      and_no false = refl

  any-one : (a n k : ℕ) → k < n → q (a + k) ≡ true → any q (places a n) ≡ true
  unfolding places
  any-one a zero k l h = absurd (omega arith)
  any-one a (suc n) zero l h = rw (ap q (sym (add-zero a)) ∙ h)
  any-one a (suc n) (suc k) l h = ap (λ b. q a || b) (any-one (suc a) n k (omega arith) (ap q (suc-add a k ∙ sym (add-suc a k)) ∙ h)) ∙ or_yes (q a)
    where
      or_yes : (b : Bool) → (b || true) ≡ true
      or_yes true = refl
      or_yes false = refl

  any-none : (a n : ℕ) → ((k : ℕ) → k < n → q (a + k) ≡ false) → any q (places a n) ≡ false
  unfolding places
  any-none a zero h = refl
  any-none a (suc n) h = rw (ap q (sym (add-zero a)) ∙ h 0 (omega arith), any-none (suc a) n (λ k l. ap q (suc-add a k ∙ sym (add-suc a k)) ∙ h (suc k) (omega arith)))

  -- where place x was asked and counts as the k-th
  asked : (a b k : ℕ) (r : Bool) (o : Option ℕ) → IsSomeAnd o (λ x. q x ≡ r) → IfSome o (λ x. (x ≡ a + k) × (x < b)) → (a + k < b) × (q (a + k) ≡ r)
  asked a b k r None p c = absurd p
  asked a b k r (Some x) p c = (omega (arith, c), ap q (sym c.0) ∙ p)

  told : (a k : ℕ) (r : Bool) (o : Option ℕ) → option_map (λ y. y) o ≡ Some (a + k) → IfSome o (λ x. q x ≡ r) → q (a + k) ≡ r
  told a k r None e p = clash (cc)
  told a k r (Some x) e p = let same : x ≡ a + k = cc in ap q (sym same) ∙ p

  module _ {S : Type 0} {steps : S → Option ℕ → S → Type 0} (p : Run steps) (a b n : ℕ) (up : ItemsCountUp p a b) (size : b ≡ a + n) where
    each-asked : (r : Bool) → p.whole ≡ true → AllItems p (λ x. q x ≡ r) → (k : ℕ) → k < n → q (a + k) ≡ r
    each-asked r w h k l = told a k r (p.at k) (up.3 k (omega (arith, up.1 w))) (h k)

    one-asked : (r : Bool) → AnyItem p (λ x. q x ≡ r) → (k : ℕ) × (k < n) × (q (a + k) ≡ r)
    one-asked r (k, l, h) = let x = asked a b k r (p.at k) h (up.2 k) in (k, omega (arith, x.0), x.1)

    pub all-places : (r : Bool) → MatchBool r ((p.whole ≡ true) × AllItems p (λ x. q x ≡ true)) (AnyItem p (λ x. q x ≡ false)) → r ≡ all q (places a n)
    all-places true h = sym (all-each a n (each-asked true h.0 h.1))
    all-places false h = let x = one-asked false h in sym (all-but a n x.0 x.1 x.2)

    pub any-places : (r : Bool) → MatchBool r (AnyItem p (λ x. q x ≡ true)) ((p.whole ≡ true) × AllItems p (λ x. q x ≡ false)) → r ≡ any q (places a n)
    any-places true h = let x = one-asked true h in sym (any-one a n x.0 x.1 x.2)
    any-places false h = sym (any-none a n (each-asked false h.0 h.1))

all-map : {A B : Type 0} (q : B → Bool) (f : A → B) (l : List A) → all q (map f l) ≡ all (λ a. q (f a)) l
all-map q f [] = refl
all-map q f (a ∷ l) = ap (λ b. q (f a) && b) (all-map q f l)

-- and of what stands at the places of a list
module _ (q : ℕ → Bool) (l : List ℕ) {S : Type 0} {steps : S → Option ℕ → S → Type 0} (p : Run steps) (a b n : ℕ) (up : ItemsCountUp p a b) (size : b ≡ a + n) where
  pub all-read : (r : Bool) → MatchBool r ((p.whole ≡ true) × AllItems p (λ i. q (get_or l i 0) ≡ true)) (AnyItem p (λ i. q (get_or l i 0) ≡ false)) → r ≡ all q (reads l (places a n))
  all-read r h = all-places (λ i. q (get_or l i 0)) p a b n up size r h ∙ sym (all-map q (λ i. get_or l i 0) (places a n))

  pub any-read : (r : Bool) → MatchBool r (AnyItem p (λ i. q (get_or l i 0) ≡ true)) ((p.whole ≡ true) × AllItems p (λ i. q (get_or l i 0) ≡ false)) → r ≡ any q (reads l (places a n))
  any-read r h = any-places (λ i. q (get_or l i 0)) p a b n up size r h ∙ sym (any-map q (λ i. get_or l i 0) (places a n))
