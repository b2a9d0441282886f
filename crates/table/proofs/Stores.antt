-- What is stored in a slice by one call: two stores, a part that is copied or filled, a run of fields.
use mathlib.Core.Path.{◌≡◌, refl, sym, ap, ◌∙◌}
use mathlib.Core.List.{List, [], ◌∷◌, append_assoc}
use Prim.Native.Nat.{ℕ, zero, suc, ◌+◌, ◌-◌, ◌≤◌}
use native.Mathlib.Omega.{arith}
use native.Mathlib.Numerals.{add-one}
use lib.ListN.{length, get_or, take, drop, set, replicate, length-drop, length-replicate}
use lib.Seq.{sets, sets-eq, drop-drop, length-take-le}
use borrow.Rule.Slice.PartMut.{mid_of, put_mid}
use Rattle.layout.specs.Places.{places, reads}
use Rattle.table.specs.Build.{built_arities}
use Rattle.layout.proofs.Loops.{length-places, length-map}

-- two stores, one after another
pub two : (d d₁ d₂ : List ℕ) (k k' a a' b b' : ℕ) → d₁ ≡ set d k a → a ≡ a' → k' ≡ k + 1 → d₂ ≡ set d₁ k' b → b ≡ b' → d₂ ≡ sets d k (a' ∷ b' ∷ [])
two d d₁ d₂ k k' a a' b b' p e m q f = rw (q, p, m, e, f, add-one k)

other : {A : Type 0} (d x y z : A) (k : ℕ) → (k ≡ 3 → ⊥) → (k ≡ 4 → ⊥) → (k ≡ 5 → ⊥) → get_or (d ∷ d ∷ d ∷ x ∷ y ∷ z ∷ []) k d ≡ d
other d x y z zero a b c = refl
other d x y z (suc zero) a b c = refl
other d x y z (suc (suc zero)) a b c = refl
other d x y z (suc (suc (suc zero))) a b c = absurd (a refl)
other d x y z (suc (suc (suc (suc zero)))) a b c = absurd (b refl)
other d x y z (suc (suc (suc (suc (suc zero))))) a b c = absurd (c refl)
other d x y z (suc (suc (suc (suc (suc (suc k)))))) a b c = refl

-- the arities of the built-in constructors, copied
pub built : reads built_arities (places 0 2) ≡ built_arities
unfolding places
built = refl

-- a part of a slice that is written whole
pub part_stored : (d vs : List ℕ) (k n : ℕ) → n ≡ length vs → k + length vs ≤ length d → put_mid k n d vs ≡ sets d k vs
part_stored d vs k n e h = rw (e, drop-drop (length vs) k d) (sym (sets-eq vs d k h ∙ append_assoc (take k d) vs (drop (k + length vs) d)))

-- and one that is filled
pub part_filled : (d vs : List ℕ) (k n v : ℕ) → k + n ≤ length d → vs ≡ replicate (length (mid_of k (k + n - k) d)) v → put_mid k (k + n - k) d vs ≡ sets d k (replicate n v)
part_filled d vs k n v h s =
    let many : k + n - k ≡ n = omega arith in
    let long : length (take (k + n - k) (drop k d)) ≡ n = length-take-le (k + n - k) (drop k d) (omega (arith, length-drop k d)) ∙ many in
    let same : vs ≡ replicate n v = s ∙ ap (λ j. replicate j v) long in
    let size : length vs ≡ n = ap length same ∙ length-replicate n v in
    part_stored d vs k (k + n - k) (omega arith) (omega arith) ∙ ap (sets d k) same

-- as many fields as places
pub length_reads : (bytes : List ℕ) (at n : ℕ) → length (reads bytes (places at n)) ≡ n
length_reads bytes at n = length-map (λ p. get_or bytes p 0) (places at n) ∙ length-places at n
