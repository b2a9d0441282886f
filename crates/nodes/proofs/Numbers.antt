-- A node has one number: a constructor's its key, a literal's its place.
use mathlib.Core.Path.{◌≡◌, refl, sym, ap₂, ◌∙◌}
use mathlib.Core.Bool.{Bool, true, false}
use mathlib.Core.List.{List, [], ◌∷◌}
use Prim.Native.Nat.{ℕ, zero, suc, ◌+◌, ◌*◌, ◌-◌, ◌/◌, ◌%◌, ◌≤◌, ◌<◌}
use native.Mathlib.Omega.{arith}
use lib.Dec.{ltb}
use borrow.Author.Tests.{ltb-true, ltb-false, lt-ltb, le-ltb}
use Rattle.scope.proofs.Tests.{clash}
use Rattle.scope.specs.Simplify.{wild, lit, con}
use Rattle.layout.specs.Nodes.{literal_at, node_of, row_of, places_in}
use Rattle.nodes.specs.Keys.{key_of, literal_key}

-- the node of a literal
pub literal-node : (bytes : List ℕ) (at : ℕ) → at < 32768 → node_of bytes (literal_key at) ≡ lit (literal_at bytes at)
unfolding node_of
literal-node bytes at l =
    let e : literal_key at ≡ suc (32767 + at) = omega arith in
    let m : 32767 + at - 32767 ≡ at = omega arith in
    rw (e, le-ltb (32767 + at) 32767 (omega arith), m)

-- the node of a constructor
pub key-node : (bytes : List ℕ) (t c : ℕ) → t < 64 → c < 32 → node_of bytes (key_of t c) ≡ con t c
unfolding node_of
key-node bytes t c l m =
    let e : key_of t c ≡ suc (32 * t + c) = omega arith in
    let d : (32 * t + c) / 32 ≡ t = omega arith in
    let r : (32 * t + c) % 32 ≡ c = omega arith in
    rw (e, lt-ltb (32 * t + c) 32767 (omega arith), d, r)

-- the place of a literal's node
pub literal-place : (at : ℕ) → places_in (literal_key at ∷ []) ≡ at % 32768 ∷ []
unfolding places_in
literal-place at = let e : literal_key at - 32768 ≡ at % 32768 = omega arith in rw (le-ltb (literal_key at) 32768 (omega arith), e)

module _ (bytes : List ℕ) where
  -- a constructor's node, and a literal's
  low-node : (i : ℕ) → suc i < 32768 → node_of bytes (suc i) ≡ con (i / 32) (i % 32)
  unfolding node_of
  low-node i l = rw (lt-ltb i 32767 (omega (arith, l)))

  high-node : (i : ℕ) → 32768 ≤ suc i → node_of bytes (suc i) ≡ lit (literal_at bytes (i - 32767))
  unfolding node_of
  high-node i l = rw (le-ltb i 32767 (omega (arith, l)))

  -- a node that is no literal has one number
  same_low : (x y : ℕ) → x < 32768 → y < 32768 → node_of bytes x ≡ node_of bytes y → x ≡ y
  unfolding node_of
  same_low zero zero l m e = refl
  same_low zero (suc j) l m e = let f : wild ≡ con (j / 32) (j % 32) = e ∙ low-node j m in clash (cc)
  same_low (suc i) zero l m e = let f : con (i / 32) (i % 32) ≡ wild = sym (low-node i l) ∙ e in clash (cc)
  same_low (suc i) (suc j) l m e =
      let f : con (i / 32) (i % 32) ≡ con (j / 32) (j % 32) = sym (low-node i l) ∙ e ∙ low-node j m in
      let q : i / 32 ≡ j / 32 = cc in
      let r : i % 32 ≡ j % 32 = cc in
      omega (arith, q, r)

  -- and is not a literal's
  not_mixed : (x y : ℕ) → x < 32768 → 32768 ≤ y → node_of bytes x ≡ node_of bytes y → ◌≡◌ {A = ℕ} 0 1
  unfolding node_of
  not_mixed x zero l m e = absurd (omega (arith, m))
  not_mixed zero (suc j) l m e = let f : wild ≡ lit (literal_at bytes (j - 32767)) = e ∙ high-node j m in clash (cc)
  not_mixed (suc i) (suc j) l m e = let f : con (i / 32) (i % 32) ≡ lit (literal_at bytes (j - 32767)) = sym (low-node i l) ∙ e ∙ high-node j m in clash (cc)

  -- the places of the literals from a node on
  places-low : (n : ℕ) (ns : List ℕ) → n < 32768 → places_in (n ∷ ns) ≡ places_in ns
  unfolding places_in
  places-low n ns l = rw (lt-ltb n 32768 l)

  places-high : (n : ℕ) (ns : List ℕ) → 32768 ≤ n → places_in (n ∷ ns) ≡ (n - 32768) ∷ places_in ns
  unfolding places_in
  places-high n ns l = rw (le-ltb n 32768 l)

  -- two nodes that say the same, before nodes whose literals stand at the same places
  same-node : (x y : ℕ) (xs ys : List ℕ) → node_of bytes x ≡ node_of bytes y → places_in (x ∷ xs) ≡ places_in (y ∷ ys) → (x ≡ y) × (places_in xs ≡ places_in ys)
  same-node x y xs ys e p = go (ltb x 32768) (ltb y 32768) refl refl
    where
      go : (a b : Bool) → ltb x 32768 ≡ a → ltb y 32768 ≡ b → (x ≡ y) × (places_in xs ≡ places_in ys)
      go true true f g =
          let l = ltb-true x 32768 f in
          let m = ltb-true y 32768 g in
          (same_low x y l m e, sym (places-low x xs l) ∙ p ∙ places-low y ys m)
      go true false f g = clash (not_mixed x y (ltb-true x 32768 f) (ltb-false y 32768 g) e)
      go false true f g = clash (not_mixed y x (ltb-true y 32768 g) (ltb-false x 32768 f) (sym e))
      go false false f g =
          let l = ltb-false x 32768 f in
          let m = ltb-false y 32768 g in
          let q : (x - 32768) ∷ places_in xs ≡ (y - 32768) ∷ places_in ys = sym (places-high x xs l) ∙ p ∙ places-high y ys m in
          let n : x - 32768 ≡ y - 32768 = cc in
          let t : places_in xs ≡ places_in ys = cc in
          (omega (arith, l, m, n), t)

  -- nodes that say one row, and whose literals stand at the same places, are the same
  pub same_nodes : (a b : List ℕ) → row_of bytes a ≡ row_of bytes b → places_in a ≡ places_in b → a ≡ b
  same_nodes [] [] e p = refl
  same_nodes [] (y ∷ ys) e p = clash (cc)
  same_nodes (x ∷ xs) [] e p = clash (cc)
  same_nodes (x ∷ xs) (y ∷ ys) e p =
      let f : node_of bytes x ∷ row_of bytes xs ≡ node_of bytes y ∷ row_of bytes ys = e in
      let i : node_of bytes x ≡ node_of bytes y = cc in
      let j : row_of bytes xs ≡ row_of bytes ys = cc in
      let n = same-node x y xs ys i p in
      ap₂ ◌∷◌ n.0 (same_nodes xs ys j n.1)
