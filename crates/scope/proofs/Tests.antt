-- Facts about tests that more than one proof leans on: what a passed or failed test says, of lists and texts too, and that 0 is not 1.
use mathlib.Core.List.{List, [], ◌∷◌, map}
use mathlib.Core.Path.{◌≡◌, refl, ap, ap₂}
use mathlib.Core.Logic.{◌⊎◌, inl, inr}
use mathlib.Core.Bool.{Bool, true, false, ◌&&◌, ◌||◌}
use Prim.Native.Nat.{ℕ, zero, suc, ◌≤◌, ◌<◌}
use native.Mathlib.Nat.{le_of_suc-le-suc, not-suc-le-zero}
use native.Mathlib.Omega.{arith}
use lib.ListN.{length, get_or}
use lib.Dec.{eqb, leb}
use borrow.Author.Tests.{eqb-true, eq-eqb, leb-true, le-leb}
use Rattle.scope.specs.Lists.{Text, all, any, among, same}

-- two constructors are never equal: `cc` shows 0 ≡ 1 from such an equation
pub clash {ℓ} : {A : Type ℓ} → ◌≡◌ {A = ℕ} 0 1 → A
clash z = absurd (omega arith)

-- both halves of a passed test
pub both : (a b : Bool) → (a && b) ≡ true → (a ≡ true) × (b ≡ true)
both true b h = (refl, h)
both false b h = clash (cc)

-- and back
pub and-true : {a b : Bool} → a ≡ true → b ≡ true → (a && b) ≡ true
and-true p q = rw (p, q)

-- one of two failed
pub not-both : (a b : Bool) → (a && b) ≡ false → (a ≡ false) ⊎ (b ≡ false)
not-both true b h = inr h
not-both false b h = inl refl

-- one of two tests passed
pub either : (a b : Bool) → (a || b) ≡ true → (a ≡ true) ⊎ (b ≡ true)
either true b h = inl refl
either false b h = inr h

pub or_left : {a : Bool} (b : Bool) → a ≡ true → (a || b) ≡ true
or_left b p = rw p

pub or_right : (a : Bool) {b : Bool} → b ≡ true → (a || b) ≡ true
or_right true q = refl
or_right false q = q

-- neither did
pub neither : (a b : Bool) → (a || b) ≡ false → (a ≡ false) × (b ≡ false)
neither true b h = clash (cc)
neither false b h = (refl, h)

pub or_false : {a b : Bool} → a ≡ false → b ≡ false → (a || b) ≡ false
or_false p q = rw (p, q)

-- a test that cannot fail passes, and one that cannot pass fails
pub not_failed : (a : Bool) → (a ≡ false → ⊥) → a ≡ true
not_failed true h = refl
not_failed false h = absurd (h refl)

pub not-passed : (a : Bool) → (a ≡ true → ⊥) → a ≡ false
not-passed true h = absurd (h refl)
not-passed false h = refl

-- between two bounds
pub among-is : (lo hi b : ℕ) → among lo hi b ≡ true → (lo ≤ b) × (b ≤ hi)
among-is lo hi b h = let w = both (leb lo b) (leb b hi) h in (leb-true lo b w.0, leb-true b hi w.1)

pub is_among : (lo hi b : ℕ) → lo ≤ b → b ≤ hi → among lo hi b ≡ true
is_among lo hi b l h = and-true (le-leb lo b l) (le-leb b hi h)

-- some element of a list gives x
pub record At {A : Type 0} (p : A → Bool) (l : List A) (d : A) (x : Bool) : Type 0 where
  pub at : ℕ
  pub within : at < length l
  pub is : p (get_or l at d) ≡ x

next-at : {A : Type 0} {p : A → Bool} {l : List A} {d : A} {x : Bool} (a : A) → At p l d x → At p (a ∷ l) d x
next-at a h = let l = h.within in record { at = suc h.at; within = omega arith; is = h.is }

-- what all pass each passes, and back; where not all do, some element fails
pub all-at : {A : Type 0} (p : A → Bool) (l : List A) (d : A) → all p l ≡ true → (i : ℕ) → i < length l → p (get_or l i d) ≡ true
all-at p [] d h i l = absurd (not-suc-le-zero l)
all-at p (x ∷ xs) d h zero l = (both (p x) (all p xs) h).0
all-at p (x ∷ xs) d h (suc i) l = all-at p xs d (both (p x) (all p xs) h).1 i (le_of_suc-le-suc l)

pub at_all : {A : Type 0} (p : A → Bool) (l : List A) (d : A) → ((i : ℕ) → i < length l → p (get_or l i d) ≡ true) → all p l ≡ true
at_all p [] d h = refl
at_all p (x ∷ xs) d h = and-true (h 0 (omega arith)) (at_all p xs d (λ i l. h (suc i) (omega arith)))

pub not-all : {A : Type 0} (p : A → Bool) (l : List A) (d : A) → all p l ≡ false → At p l d false
not-all p [] d h = clash (cc)
not-all p (a ∷ l) d h = go (not-both (p a) (all p l) h) (λ e. not-all p l d e)
  where
    go : (p a ≡ false) ⊎ (all p l ≡ false) → (all p l ≡ false → At p l d false) → At p (a ∷ l) d false
    go (inl e) more = record { at = 0; within = omega arith; is = e }
    go (inr e) more = next-at a (more e)

-- where any passes, some element does; where none does, each fails
pub some_at : {A : Type 0} (p : A → Bool) (l : List A) (d : A) → any p l ≡ true → At p l d true
some_at p [] d h = clash (cc)
some_at p (a ∷ l) d h = go (either (p a) (any p l) h) (λ e. some_at p l d e)
  where
    go : (p a ≡ true) ⊎ (any p l ≡ true) → (any p l ≡ true → At p l d true) → At p (a ∷ l) d true
    go (inl e) more = record { at = 0; within = omega arith; is = e }
    go (inr e) more = next-at a (more e)

pub none-at : {A : Type 0} (p : A → Bool) (l : List A) (d : A) → any p l ≡ false → (i : ℕ) → i < length l → p (get_or l i d) ≡ false
none-at p [] d h i l = absurd (not-suc-le-zero l)
none-at p (x ∷ xs) d h zero l = (neither (p x) (any p xs) h).0
none-at p (x ∷ xs) d h (suc i) l = none-at p xs d (neither (p x) (any p xs) h).1 i (le_of_suc-le-suc l)

pub any-map : {A B : Type 0} (p : B → Bool) (f : A → B) (l : List A) → any p (map f l) ≡ any (λ a. p (f a)) l
any-map p f [] = refl
any-map p f (a ∷ l) = ap (λ (x : Bool). p (f a) || x) (any-map p f l)

-- texts that compare equal are equal
pub same_true : (s t : Text) → same s t ≡ true → s ≡ t
unfolding same
same_true [] [] h = refl
same_true [] (b ∷ t) h = clash (cc)
same_true (a ∷ s) [] h = clash (cc)
same_true (a ∷ s) (b ∷ t) h = let p = both (eqb a b) (same s t) h in ap₂ ◌∷◌ (eqb-true a b p.0) (same_true s t p.1)

pub same_self : (s : Text) → same s s ≡ true
unfolding same
same_self [] = refl
same_self (a ∷ s) = and-true (eq-eqb a a refl) (same_self s)
