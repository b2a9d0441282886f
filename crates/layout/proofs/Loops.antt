-- One turn of the loops that go through places: what is left to do falls by one.
use mathlib.Core.Path.{◌≡◌, refl, ap}
use mathlib.Core.List.{List, [], ◌∷◌, map}
use mathlib.Core.Bool.{Bool, true, false}
use Prim.Native.Nat.{ℕ, zero, suc, ◌+◌, ◌-◌, ◌≤◌, ◌<◌}
use native.Mathlib.Omega.{arith}
use native.Mathlib.Numerals.{add-one}
use lib.ListN.{length, get_or, set}
use lib.Seq.{sets}
use Rattle.scope.specs.Lists.{all, any}
use Rattle.layout.specs.Places.{places, labelled, reads}

left-suc : (i n : ℕ) → i < n → n - i ≡ suc (n - (i + 1))
left-suc i n h = omega arith

left-none : (i n : ℕ) → n ≤ i → n - i ≡ 0
left-none i n h = omega arith

pub places-step : (at i n : ℕ) → i < n → places (at + i) (n - i) ≡ (at + i) ∷ places (at + (i + 1)) (n - (i + 1))
unfolding places
places-step at i n h = let e : at + (i + 1) ≡ suc (at + i) = omega arith in rw (left-suc i n h, e)

pub places-next : (i n : ℕ) → i < n → places i (n - i) ≡ i ∷ places (i + 1) (n - (i + 1))
unfolding places
places-next i n h = rw (left-suc i n h, add-one i)

pub places-on : (p n m : ℕ) → n ≡ suc m → places p n ≡ p ∷ places (p + 1) m
unfolding places
places-on p n m h = rw (h, add-one p)

pub places-end : (at i n : ℕ) → n ≤ i → places at (n - i) ≡ []
unfolding places
places-end at i n h = rw (left-none i n h)

pub labelled_step : (bytes : List ℕ) (p q n m : ℕ) → n ≡ suc m → q ≡ p + 1 + 1 + get_or bytes (p + 1) 0 → labelled bytes p n ≡ p ∷ labelled bytes q m
unfolding labelled
labelled_step bytes p q n m h e = let f : p + 2 + get_or bytes (p + 1) 0 ≡ q = omega arith in rw (h, f)

pub labelled-end : (bytes : List ℕ) (p n : ℕ) → n ≤ 0 → labelled bytes p n ≡ []
unfolding labelled
labelled-end bytes p n h = let z : n ≡ 0 = omega arith in rw z

-- before the first store
pub run-start : (f : ℕ → ℕ) (d : List ℕ) (from : ℕ) (ps : ℕ → List ℕ) (n : ℕ) → sets d from (map f (ps (from + n - from))) ≡ sets d from (map f (ps n))
run-start f d from ps n = let e : from + n - from ≡ n = omega arith in rw e

module _ {A : Type 0} (f : ℕ → A) (d : List A) where
  -- one store of a run, then what is left of it
  pub run_step : (d' : List A) (k k' p : ℕ) (v : A) (ps qs : List ℕ) → k' ≡ suc k → ps ≡ p ∷ qs → v ≡ f p → d' ≡ set d k v → sets d' k' (map f qs) ≡ sets d k (map f ps)
  run_step d' k k' p v ps qs n h e s = rw (h, s, e, n)

  -- after the last store
  pub run_end : (k : ℕ) (ps : List ℕ) → ps ≡ [] → d ≡ sets d k (map f ps)
  run_end k ps h = rw h

module _ {A : Type 0} (p : A → Bool) (xs : List A) where
  -- a search for one that fails goes on, stops, and ends
  pub all-on : (x : A) (ys : List A) → xs ≡ x ∷ ys → p x ≡ true → all p xs ≡ all p ys
  all-on x ys e h = rw (e, h)

  pub all_off : (x : A) (ys : List A) → xs ≡ x ∷ ys → p x ≡ false → all p xs ≡ false
  all_off x ys e h = rw (e, h)

  pub all_end : xs ≡ [] → all p xs ≡ true
  all_end e = rw e

  -- a search for one that passes goes on, stops, and ends
  pub any-on : (x : A) (ys : List A) → xs ≡ x ∷ ys → p x ≡ false → any p xs ≡ any p ys
  any-on x ys e h = rw (e, h)

  pub any_off : (x : A) (ys : List A) → xs ≡ x ∷ ys → p x ≡ true → any p xs ≡ true
  any_off x ys e h = rw (e, h)

  pub any-end : xs ≡ [] → any p xs ≡ false
  any-end e = rw e

pub length-places : (at n : ℕ) → length (places at n) ≡ n
unfolding places
length-places at zero = refl
length-places at (suc n) = ap suc (length-places (suc at) n)

pub length-map : {A B : Type 0} (f : A → B) (l : List A) → length (map f l) ≡ length l
length-map f [] = refl
length-map f (x ∷ l) = ap suc (length-map f l)

module _ (l : List ℕ) where
  pub reads-step : (at i n : ℕ) → i < n → reads l (places (at + i) (n - i)) ≡ get_or l (at + i) 0 ∷ reads l (places (at + (i + 1)) (n - (i + 1)))
  reads-step at i n h = ap (reads l) (places-step at i n h)

  pub reads-next : (i n : ℕ) → i < n → reads l (places i (n - i)) ≡ get_or l i 0 ∷ reads l (places (i + 1) (n - (i + 1)))
  reads-next i n h = ap (reads l) (places-next i n h)

  pub reads_end : (at i n : ℕ) → n ≤ i → reads l (places at (n - i)) ≡ []
  reads_end at i n h = ap (reads l) (places-end at i n h)
