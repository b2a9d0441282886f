-- What falls: a specialised matrix has no more nodes that are no wildcards, and fewer where its key is in the column.
use mathlib.Core.Path.{◌≡◌, refl, sym, ap, ◌∙◌}
use mathlib.Core.Logic.{⊎_elim}
use mathlib.Core.Bool.{Bool, true, false, cond}
use mathlib.Core.List.{List, [], ◌∷◌, ◌++◌, map}
use Prim.Native.Nat.{ℕ, zero, suc, ◌+◌, ◌≤◌, ◌<◌}
use native.Mathlib.Omega.{arith}
use lib.ListN.{replicate}
use lib.Dec.{eqb}
use borrow.Author.Tests.{ne_eqb}
use Rattle.scope.proofs.Tests.{clash}
use Rattle.matrix.specs.Numbers.{Rows, ar_of, same_node, row1, rows_by, head_of, mem}
use Rattle.walks.specs.Walks.{nonzero, nz, nzs, size}
use Rattle.matrix.proofs.Orders.{same_or}
use Rattle.matrix.proofs.Arities.{arity_0}
use Rattle.matrix.proofs.Literals.{node_self}

pub nz-wild : (k : ℕ) (r : List ℕ) → nz (replicate k 0 ++ r) ≡ nz r
nz-wild zero r = refl
nz-wild (suc k) r = omega (arith, nz-wild k r)

pub nz-cons : (h : ℕ) (r : List ℕ) → (h ≡ 0 → ⊥) → nz (h ∷ r) ≡ 1 + nz r
nz-cons zero r z = absurd (z refl)
nz-cons (suc h) r z = refl

nzs_append : (a b : Rows) → nzs (a ++ b) ≡ nzs a + nzs b
nzs_append [] b = omega arith
nzs_append (r ∷ a) b = omega (arith, nzs_append a b)

nonzero-one : (h : ℕ) → (h ≡ 0 → ⊥) → nonzero h ≡ 1
nonzero-one zero z = absurd (z refl)
nonzero-one (suc h) z = refl

module _ (bytes : List ℕ) (key a : ℕ) where
  row-falls : (r : List ℕ) → nzs (row1 bytes key a r) ≤ nz r
  unfolding row1
  row-falls [] = omega arith
  row-falls (h ∷ r) = go (eqb h 0) (eqb key 0) (same_node bytes h key)
    where
      go : (x y z : Bool) → nzs (cond x ((replicate a 0 ++ r) ∷ []) (cond y [] (cond z (r ∷ []) []))) ≤ nonzero h + nz r
      go true y z = omega (arith, nz-wild a r)
      go false true z = omega arith
      go false false true = omega arith
      go false false false = omega arith

  -- a row that begins with a constructor loses it where that is the key
  row-falls-more : (r : List ℕ) → (key ≡ 0 → ⊥) → head_of r ≡ key → nzs (row1 bytes key a r) < nz r
  unfolding row1
  row-falls-more [] z e = absurd (z (sym e))
  row-falls-more (h ∷ r) z e =
      let h0 : h ≡ 0 → ⊥ = λ q. z (sym e ∙ q) in
      let s : same_node bytes h key ≡ true = ap (λ (x : ℕ). same_node bytes x key) e ∙ node_self bytes key in
      simp (ne_eqb h 0 h0, ne_eqb key 0 z, s) (omega (arith, nonzero-one h h0))

  pub rows_fall : (m : Rows) → nzs (rows_by bytes key a m) ≤ nzs m
  unfolding rows_by
  rows_fall [] = omega arith
  rows_fall (r ∷ m) = omega (arith, nzs_append (row1 bytes key a r) (rows_by bytes key a m), row-falls r, rows_fall m)

  pub rows_fall_more : (m : Rows) → (key ≡ 0 → ⊥) → mem key (map head_of m) ≡ true → nzs (rows_by bytes key a m) < nzs m
  unfolding rows_by mem
  rows_fall_more [] z e = clash (cc)
  rows_fall_more (r ∷ m) z e = ⊎_elim
      (λ h. omega (arith, nzs_append (row1 bytes key a r) (rows_by bytes key a m), row-falls-more r z h, rows_fall m))
      (λ h. omega (arith, nzs_append (row1 bytes key a r) (rows_by bytes key a m), row-falls r, rows_fall_more m z (rw (ne_eqb (head_of r) key h) at e)))
      (same_or (head_of r) key)

-- the calls that a step makes are smaller
module _ (bytes ars : List ℕ) (n : ℕ) (m : Rows) where
  pub size_default : (q : List ℕ) → size (n + ar_of ars 0) (q ∷ rows_by bytes 0 (ar_of ars 0) m) < size (suc n) (q ∷ m)
  unfolding size
  size_default q = omega (arith, arity_0 ars, rows_fall bytes 0 (ar_of ars 0) m)

  pub size_alt : (q : List ℕ) (key : ℕ) → 0 < key → ar_of ars key ≤ 255 → mem key (map head_of m) ≡ true
      → size (n + ar_of ars key) ((replicate (ar_of ars key) 0 ++ q) ∷ rows_by bytes key (ar_of ars key) m) < size (suc n) (q ∷ m)
  unfolding size
  size_alt q key z le e = omega (arith, nz-wild (ar_of ars key) q, rows_fall_more bytes key (ar_of ars key) m (λ y. omega arith) e)

  pub size-own : (q : List ℕ) (h : ℕ) → (h ≡ 0 → ⊥) → ar_of ars h ≤ 255 → size (n + ar_of ars h) (q ∷ rows_by bytes h (ar_of ars h) m) < size (suc n) ((h ∷ q) ∷ m)
  unfolding size
  size-own q h z le = omega (arith, nz-cons h q z, rows_fall bytes h (ar_of ars h) m)

pub size-wild : (n : ℕ) (m : Rows) (q : List ℕ) → size n ((0 ∷ q) ∷ m) ≡ size n (q ∷ m)
unfolding size
size-wild n m q = omega (arith, nz-wild 1 q)
