-- The walk below a column that is not complete: the set of the unseen constructors, and the step that it makes.
use mathlib.Core.Path.{◌≡◌, refl, sym, ap, ap₂, subst, ◌∙◌}
use mathlib.Core.Bool.{Bool, true, false, not, cond, ◌&&◌}
use mathlib.Core.List.{List, [], ◌∷◌, ◌++◌, map}
use Prim.Native.Nat.{ℕ, zero, suc, ◌+◌, ◌*◌, ◌/◌, ◌%◌, ◌≤◌, ◌<◌}
use native.Mathlib.Nat.{add-zero}
use native.Mathlib.Omega.{arith}
use lib.ListN.{replicate}
use borrow.Author.Tests.{eq-eqb, ne_eqb}
use Rattle.scope.specs.Lists.{bit}
use Rattle.scope.specs.Walks.{Walk, turned}
use Rattle.scope.proofs.Tests.{clash}
use Rattle.matrix.specs.Numbers.{base_of, Rows, ar_of, head_of, first_of, mem, all_in, count_of, Seen, bare, part, full, seen_of, recover, each_row}
use Rattle.walks.specs.Walks.{unseen_from, missing_by, missing_seen}
use Rattle.matrix.specs.Places.{Few}
use Rattle.ctors.specs.Sets.{unseen_set, ctors_of}
use Rattle.ctors.specs.declared.Ctors.TheVariants.{Open}
use Rattle.paths.specs.Path.{one, each, chosen, stepped, step_of}
use Rattle.matrix.proofs.Seen.{first_in, ctor_range, seen-cases, first-few, partly}

-- the constructors of the set are the unseen ones
module _ (ars hs : List ℕ) where
  chosen-empty : (b k : ℕ) (r : List ℕ) → chosen ars 0 b k r ≡ []
  unfolding chosen
  chosen-empty b zero r = refl
  chosen-empty b (suc k) r = chosen-empty (suc b) k r

  pub chosen-unseen : (k j b : ℕ) (r : List ℕ) → k ≤ j → chosen ars (unseen_set hs b k) b j r ≡ unseen_from ars hs b k r
  unfolding unseen_set unseen_from chosen
  chosen-unseen zero j b r l = chosen-empty b j r
  chosen-unseen (suc k) zero b r l = absurd (omega arith)
  chosen-unseen (suc k) (suc j) b r l = go (mem b hs) (chosen-unseen k j (suc b) r (omega arith))
    where
      go : (t : Bool) → chosen ars (unseen_set hs (suc b) k) (suc b) j r ≡ unseen_from ars hs (suc b) k r
          → chosen ars (bit (not t) + 2 * unseen_set hs (suc b) k) b (suc j) r ≡ cond t [] ((b ∷ replicate (ar_of ars b) 0 ++ r) ∷ []) ++ unseen_from ars hs (suc b) k r
      go true ih =
          let x = unseen_set hs (suc b) k in
          let m : (bit (not true) + 2 * x) % 2 ≡ 1 → ⊥ = λ q. omega arith in
          let d : (bit (not true) + 2 * x) / 2 ≡ x = omega arith in
          ap₂ (λ (u : Bool) (v : ℕ). cond u ((b ∷ replicate (ar_of ars b) 0 ++ r) ∷ []) [] ++ chosen ars v (suc b) j r) (ne_eqb ((bit (not true) + 2 * x) % 2) 1 m) d ∙ ih
      go false ih =
          let x = unseen_set hs (suc b) k in
          let m : (bit (not false) + 2 * x) % 2 ≡ 1 = omega arith in
          let d : (bit (not false) + 2 * x) / 2 ≡ x = omega arith in
          ap₂ (λ (u : Bool) (v : ℕ). cond u ((b ∷ replicate (ar_of ars b) 0 ++ r) ∷ []) [] ++ chosen ars v (suc b) j r) (eq-eqb ((bit (not false) + 2 * x) % 2) 1 m) d
          ∙ ap (λ (y : Rows). ((b ∷ replicate (ar_of ars b) 0 ++ r) ∷ []) ++ y) ih

-- a column of which some are not seen has a set
module _ (hs : List ℕ) where
  none_left : (k b : ℕ) → unseen_set hs b k ≡ 0 → (j : ℕ) → j < k → mem (b + j) hs ≡ true
  unfolding unseen_set
  none_left zero b e j l = absurd (omega arith)
  none_left (suc k) b e zero l = subst (λ (x : ℕ). mem x hs ≡ true) (sym (add-zero b)) (go (mem b hs) e)
    where
      go : (t : Bool) → bit (not t) + 2 * unseen_set hs (suc b) k ≡ 0 → t ≡ true
      go true q = refl
      go false q = absurd (omega arith)
  none_left (suc k) b e (suc j) l = subst (λ (x : ℕ). mem x hs ≡ true) shift (none_left k (suc b) (omega arith) j (omega arith))
    where
      shift : suc b + j ≡ b + suc j
      shift = omega arith

  all_in_lem : (k b : ℕ) → ((j : ℕ) → j < k → mem (b + j) hs ≡ true) → all_in b k hs ≡ true
  unfolding all_in
  all_in_lem zero b f = refl
  all_in_lem (suc k) b f = ap₂ ◌&&◌ (all_in_lem k b (λ j l. f j (omega arith))) (f k (omega arith))

  pub unseen-some : (b k : ℕ) → all_in b k hs ≡ false → unseen_set hs b k ≡ 0 → ⊥
  unseen-some b k e z = let t : all_in b k hs ≡ true = all_in_lem k b (none_left k b z) in clash (cc)

-- what a column that is not complete makes of the walk below it
each_same : (f g : List ℕ → Rows) → ((r : List ℕ) → f r ≡ g r) → (m : Rows) → each_row f m ≡ each_row g m
unfolding each_row
each_same f g h [] = refl
each_same f g h (r ∷ m) = ap₂ ◌++◌ (h r) (each_same f g h m)

module _ (cs hs : List ℕ) (few : Few cs hs) where
  -- the node of the step is a constructor with 32 more numbers after it, or a wildcard
  pub open_low : (x : Seen) → seen_of cs hs ≡ x → (node g : ℕ) → Open node g ≡ ctors_of cs hs x → node + 32 < 65536
  unfolding ctors_of
  open_low bare e node g q = let z : node ≡ 0 = cc in omega arith
  open_low (part b) e node g q =
      let p = partly cs hs b e in
      let z : node ≡ b = cc in
      omega (arith, ctor_range (first_of hs) (first_in hs p.found).ctor, p.base)
  open_low (full b) e node g q = clash (cc)

  pub open_step : (ars : List ℕ) (x : Seen) → seen_of cs hs ≡ x → (node g : ℕ) → Open node g ≡ ctors_of cs hs x → (m : Rows)
      → (P : Seen → Rows → Type 0) → ((r : Rows) → r ≡ recover 0 m → P bare r) → ((b : ℕ) (r : Rows) → r ≡ each_row (unseen_from ars hs b (count_of cs b)) m → P (part b) r) → P x (stepped ars (step_of node g) m)
  unfolding ctors_of stepped
  open_step ars bare e node g q m P f h =
      let z : node ≡ 0 = cc in
      let y : g ≡ 0 = cc in
      f (stepped ars (step_of node g) m) (ap₂ (λ (u v : ℕ). stepped ars (step_of u v) m) z y)
  open_step ars (part b) e node g q m P f h =
      let p = partly cs hs b e in
      let z : node ≡ b = cc in
      let y : g ≡ unseen_set hs b (count_of cs b) = cc in
      let nz : unseen_set hs b (count_of cs b) ≡ 0 → ⊥ = unseen-some hs b (count_of cs b) p.lacks in
      let le : count_of cs b ≤ 32 = first-few cs hs few (first_of hs) b (count_of cs b) refl p.found p.base refl in
      h b (stepped ars (step_of node g) m)
      (ap₂ (λ (u v : ℕ). stepped ars (step_of u v) m) z y
      ∙ ap (λ (t : Bool). stepped ars (cond t (one b) (each b (unseen_set hs b (count_of cs b)))) m) (ne_eqb (unseen_set hs b (count_of cs b)) 0 nz)
      ∙ each_same (chosen ars (unseen_set hs b (count_of cs b)) b 32) (unseen_from ars hs b (count_of cs b)) (λ r. chosen-unseen ars hs (count_of cs b) 32 b r le) m)
  open_step ars (full b) e node g q m P f h = clash (cc)

-- a type whose constructors are all seen has at most 32
pub full-few : (cs hs : List ℕ) → Few cs hs → (b : ℕ) → seen_of cs hs ≡ full b → count_of cs b ≤ 32
full-few cs hs few b e = seen-cases cs hs (λ (x : Seen). x ≡ full b → count_of cs b ≤ 32)
    (λ z q. clash (cc))
    (λ z a q. clash (cc))
    (λ z a q. let s : base_of (first_of hs) ≡ b = cc in first-few cs hs few (first_of hs) b (count_of cs b) refl z (sym s) refl)
    e

-- the walk below a column that is not complete
pub open_walk : (bytes cs ars : List ℕ) (again : ℕ → Rows → Walk Rows) (n : ℕ) (m : Rows) → Few cs (map head_of m)
    → (node g : ℕ) → Open node g ≡ ctors_of cs (map head_of m) (seen_of cs (map head_of m))
    → turned (stepped ars (step_of node g)) (missing_by bytes cs ars again n m 0) ≡ missing_seen bytes cs ars again (seen_of cs (map head_of m)) n m
open_walk bytes cs ars again n m few node g q =
    let w = missing_by bytes cs ars again n m 0 in
    open_step cs (map head_of m) few ars (seen_of cs (map head_of m)) refl node g q w.result
    (λ x r. record { result = r; calls = w.calls; peak = w.peak } ≡ missing_seen bytes cs ars again x n m)
    (λ r e. ap (λ (y : Rows). record { result = y; calls = w.calls; peak = w.peak }) e)
    (λ b r e. ap (λ (y : Rows). record { result = y; calls = w.calls; peak = w.peak }) e)
