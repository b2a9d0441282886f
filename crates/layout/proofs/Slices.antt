-- What stands at places that follow one another is a part of the list.
use mathlib.Core.Path.{◌≡◌, refl, sym, ap, ◌∙◌}
use mathlib.Core.Bool.{Bool, true, ◌&&◌}
use mathlib.Core.List.{List, [], ◌∷◌, map}
use Prim.Native.Nat.{ℕ, zero, suc, ◌+◌, ◌≤◌, ◌<◌}
use native.Mathlib.Nat.{add-zero, add-suc, suc-add}
use native.Mathlib.Omega.{arith}
use lib.ListN.{length, get_or, take, drop, length-take, length-drop}
use Rattle.scope.specs.Lists.{all, any}
use Rattle.layout.specs.Places.{places, reads}

reads-tail : (x : ℕ) (l : List ℕ) (at n : ℕ) → reads (x ∷ l) (places (suc at) n) ≡ reads l (places at n)
unfolding places
reads-tail x l at zero = refl
reads-tail x l at (suc n) = ap (λ r. get_or l at 0 ∷ r) (reads-tail x l (suc at) n)

pub reads-part : (l : List ℕ) (at n : ℕ) → at + n ≤ length l → reads l (places at n) ≡ take n (drop at l)
unfolding places
reads-part l zero zero h = refl
reads-part [] zero (suc n) h = absurd (omega arith)
reads-part (x ∷ l) zero (suc n) h = ap (λ r. x ∷ r) (reads-tail x l zero n ∙ reads-part l zero n (omega arith))
reads-part [] (suc at) n h = absurd (omega arith)
reads-part (x ∷ l) (suc at) n h = reads-tail x l at n ∙ reads-part l at n (omega arith)

-- a part that has its full length is what stands there
pub reads-full : (l : List ℕ) (at n : ℕ) (fs : List ℕ) → take n (drop at l) ≡ fs → length fs ≡ n → reads l (places at n) ≡ fs
unfolding places
reads-full l at zero fs e h = e
reads-full l at (suc n) fs e h = reads-part l at (suc n) (omega (arith, length-take (suc n) (drop at l), length-drop at l, ap length e)) ∙ e

all-zero : (p : ℕ → Bool) → p 0 ≡ true → (ps : List ℕ) → all p (reads [] ps) ≡ true
all-zero p h [] = refl
all-zero p h (x ∷ ps) = rw (h, all-zero p h ps)

-- a test that 0 passes does not see the end
pub all-reads : (p : ℕ → Bool) → p 0 ≡ true → (l : List ℕ) (n : ℕ) → all p (reads l (places 0 n)) ≡ all p (take n l)
unfolding places
all-reads p h l zero = refl
all-reads p h [] (suc n) = all-zero p h (places 0 (suc n))
all-reads p h (x ∷ l) (suc n) = ap (λ b. p x && b) (ap (all p) (reads-tail x l 0 n) ∙ all-reads p h l n)

module _ {A B : Type 0} (d : A) (f : ℕ → B) (q : A → B) where
  -- what is asked of each place in turn is what is asked of each element
  pub map_index : (xs : List A) (at : ℕ) → ((i : ℕ) → i < length xs → f (at + i) ≡ q (get_or xs i d)) → map f (places at (length xs)) ≡ map q xs
  unfolding places
  map_index [] at h = refl
  map_index (x ∷ xs) at h =
      let first : f at ≡ q x = ap f (sym (add-zero at)) ∙ h 0 (omega arith) in
      rw (first, map_index xs (suc at) (λ i l. ap f (suc-add at i ∙ sym (add-suc at i)) ∙ h (suc i) (omega arith)))

all-bits : {A : Type 0} (p : A → Bool) (xs : List A) → all p xs ≡ all (λ b. b) (map p xs)
all-bits p [] = refl
all-bits p (x ∷ xs) = rw (all-bits p xs)

any-bits : {A : Type 0} (p : A → Bool) (xs : List A) → any p xs ≡ any (λ b. b) (map p xs)
any-bits p [] = refl
any-bits p (x ∷ xs) = rw (any-bits p xs)

module _ {A : Type 0} (d : A) (f : ℕ → Bool) (q : A → Bool) (xs : List A) (at : ℕ) (h : (i : ℕ) → i < length xs → f (at + i) ≡ q (get_or xs i d)) where
  pub all_index : all f (places at (length xs)) ≡ all q xs
  all_index = all-bits f (places at (length xs)) ∙ ap (all (λ b. b)) (map_index d f q xs at h) ∙ sym (all-bits q xs)

  pub any_index : any f (places at (length xs)) ≡ any q xs
  any_index = any-bits f (places at (length xs)) ∙ ap (any (λ b. b)) (map_index d f q xs at h) ∙ sym (any-bits q xs)
