-- What is known of the types, as 64 flags and as a list: one constructor, one type, one round.
use mathlib.Core.Path.{◌≡◌, refl, sym, ap, ◌∙◌}
use mathlib.Core.Bool.{Bool, false, ◌||◌}
use mathlib.Core.List.{List, [], ◌∷◌, ◌++◌, map}
use Prim.Native.Nat.{ℕ, zero, suc, ◌+◌, ◌*◌, ◌≤◌}
use native.Mathlib.Nat.{zero-add}
use native.Mathlib.Omega.{arith}
use native.Mathlib.Numerals.{add-one}
use lib.ListN.{length, get_or, drop, replicate}
use lib.Seq.{sets-eq, get_or-drop}
use lib.Dec.{leb}
use Rattle.scope.specs.Lists.{all, any}
use Rattle.scope.specs.Finite.{is_known}
use Rattle.layout.specs.Places.{places, reads}
use Rattle.sound.specs.Sound.{flags, fields_known, value_in, known_in, all_finite_in}
use Rattle.layout.proofs.Loops.{length-places, length-map}

module _ {A : Type 0} (p q : A → Bool) (h : (x : A) → p x ≡ q x) where
  -- tests that agree pass the same lists
  pub all_same : (xs : List A) → all p xs ≡ all q xs
  all_same [] = refl
  all_same (x ∷ xs) = rw (h x, all_same xs)

  pub any_same : (xs : List A) → any p xs ≡ any q xs
  any_same [] = refl
  any_same (x ∷ xs) = rw (h x, any_same xs)

  pub map_same : (xs : List A) → map p xs ≡ map q xs
  map_same [] = refl
  map_same (x ∷ xs) = rw (h x, map_same xs)

all-false : (n i : ℕ) → get_or (replicate n false) i false ≡ false
all-false zero i = refl
all-false (suc n) zero = refl
all-false (suc n) (suc i) = all-false n i

-- what stands after a list changes no read of it, if it is the default everywhere
before_default : (xs ys : List Bool) → ((i : ℕ) → get_or ys i false ≡ false) → (i : ℕ) → get_or (xs ++ ys) i false ≡ get_or xs i false
before_default [] ys h i = h i
before_default (x ∷ xs) ys h zero = refl
before_default (x ∷ xs) ys h (suc i) = before_default xs ys h i

-- as flags, the same is known
flags-known : (known : List Bool) → length known ≤ 64 → (t : ℕ) → is_known (flags known) t ≡ is_known known t
flags-known known h t =
    ap (λ (l : List Bool). get_or l t false) (sets-eq known (replicate 64 false) 0 (rw (zero-add (length known)) h))
    ∙ before_default known (drop (0 + length known) (replicate 64 false)) (λ i. get_or-drop (0 + length known) (replicate 64 false) i false ∙ all-false 64 (0 + length known + i)) t

module _ (kinds counts arities starts fields : List ℕ) where
  value-flags : (known : List Bool) → length known ≤ 64 → (t : ℕ) → value_in kinds counts arities starts fields (flags known) t ≡ value_in kinds counts arities starts fields known t
  unfolding value_in fields_known
  value-flags known h t = ap (λ b. leb (get_or kinds t 0) 3 || b) (any_same _ _ (λ i. all_same (is_known (flags known)) (is_known known) (flags-known known h) (reads fields (places (get_or starts i 0) (get_or arities i 0)))) (places (32 * t) (get_or counts t 0)))

  known-length : (types n : ℕ) → length (known_in kinds counts arities starts fields types n) ≤ types
  unfolding known_in
  known-length types zero = omega arith
  known-length types (suc n) = omega (arith, length-map (value_in kinds counts arities starts fields (known_in kinds counts arities starts fields types n)) (places 0 types), length-places 0 types)

  -- before the first round nothing is known
  pub known_start : (types : ℕ) → replicate 64 false ≡ flags (known_in kinds counts arities starts fields types 0)
  unfolding known_in
  known_start types = refl

  -- one round more
  pub known_next : (types i : ℕ) (known next : List Bool) → types ≤ 64 → known ≡ flags (known_in kinds counts arities starts fields types i) → next ≡ flags (map (value_in kinds counts arities starts fields known) (places 0 types)) → next ≡ flags (known_in kinds counts arities starts fields types (i + 1))
  unfolding known_in
  known_next types i known next h e n =
      let before = known_in kinds counts arities starts fields types i in
      let few : length before ≤ 64 = omega (arith, known-length types i) in
      n
      ∙ ap (λ (k : List Bool). flags (map (value_in kinds counts arities starts fields k) (places 0 types))) e
      ∙ ap flags (map_same _ _ (value-flags before few) (places 0 types))
      ∙ ap (λ j. flags (known_in kinds counts arities starts fields types j)) (sym (add-one i))

  -- the round that looks
  pub known-last : (types i : ℕ) (known : List Bool) → types ≤ 64 → i ≡ types → known ≡ flags (known_in kinds counts arities starts fields types i) → all (value_in kinds counts arities starts fields known) (places 0 types) ≡ all_finite_in kinds counts arities starts fields types
  unfolding all_finite_in
  known-last types i known h t e =
      let last = known_in kinds counts arities starts fields types types in
      let few : length last ≤ 64 = omega (arith, known-length types types) in
      ap (λ (k : List Bool). all (value_in kinds counts arities starts fields k) (places 0 types)) (e ∙ ap (λ j. flags (known_in kinds counts arities starts fields types j)) t)
      ∙ all_same _ _ (value-flags last few) (places 0 types)
