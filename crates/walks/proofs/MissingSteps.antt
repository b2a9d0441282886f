-- More fuel than the size changes nothing: the definition of missing rows on numbers is its own recursion; and what falls in it.
use mathlib.Core.Path.{◌≡◌, refl, ap, ap₂, subst}
use mathlib.Core.Bool.{true}
use mathlib.Core.List.{List, [], ◌∷◌, ◌++◌, map}
use Prim.Native.Nat.{ℕ, zero, suc, ◌+◌, ◌*◌, ◌≤◌, ◌<◌}
use native.Mathlib.Nat.{add-zero}
use native.Mathlib.Omega.{arith}
use lib.ListN.{length}
use Rattle.scope.specs.Walks.{Walk, holding, turned, joined}
use Rattle.matrix.specs.Numbers.{Rows, ar_of, rows_by, head_of, mem, count_of, Seen, bare, part, full, seen_of, recover, each_row}
use Rattle.walks.specs.Walks.{unseen_from, gather_from, missing_by, missing_seen, missing_body, missing_step, size, missing_in, missing_of}
use Rattle.matrix.proofs.Arities.{arity_0}
use Rattle.walks.proofs.Measure.{rows_fall, rows_fall_more}
use Rattle.matrix.proofs.Seen.{seen-whole}

-- the calls that a step makes are smaller
module _ (bytes ars : List ℕ) (n : ℕ) (m : Rows) where
  pub size-wild : size (n + ar_of ars 0) (rows_by bytes 0 (ar_of ars 0) m) < size (suc n) m
  unfolding size
  size-wild = omega (arith, arity_0 ars, rows_fall bytes 0 (ar_of ars 0) m)

  pub size-key : (key : ℕ) → 0 < key → ar_of ars key ≤ 255 → mem key (map head_of m) ≡ true → size (n + ar_of ars key) (rows_by bytes key (ar_of ars key) m) < size (suc n) m
  unfolding size
  size-key key z le e = omega (arith, rows_fall_more bytes key (ar_of ars key) m (λ y. omega arith) e)

-- two walks that agree on the constructors from key on
gather-same : (g h : ℕ → Walk Rows) (key k : ℕ) → ((j : ℕ) → j < k → g (key + j) ≡ h (key + j)) → gather_from g key k ≡ gather_from h key k
unfolding gather_from
gather-same g h key zero e = refl
gather-same g h key (suc k) e = ap₂ (λ (w v : Walk Rows). joined ◌++◌ (turned (recover key) w) v)
    (subst (λ (x : ℕ). g x ≡ h x) (add-zero key) (e 0 (omega arith)))
    (gather-same g h (suc key) k (λ j l. subst (λ (x : ℕ). g x ≡ h x) (shift j) (e (suc j) (omega arith))))
  where
    shift : (j : ℕ) → key + suc j ≡ suc key + j
    shift j = omega arith

-- two walks that agree below a size
module _ (bytes cs ars : List ℕ) (low : (h : ℕ) → ar_of ars h ≤ 255) (f g : ℕ → Rows → Walk Rows) (z : ℕ) (same : (n : ℕ) (m : Rows) → size n m < z → f n m ≡ g n m) where
  seen_same : (n : ℕ) (m : Rows) → size (suc n) m ≤ z → (x : Seen) → seen_of cs (map head_of m) ≡ x → missing_seen bytes cs ars f x n m ≡ missing_seen bytes cs ars g x n m
  seen_same n m le bare e = ap (turned (recover 0)) (same (n + ar_of ars 0) (rows_by bytes 0 (ar_of ars 0) m) (omega (arith, size-wild bytes ars n m)))
  seen_same n m le (part b) e = ap (turned (each_row (unseen_from ars (map head_of m) b (count_of cs b)))) (same (n + ar_of ars 0) (rows_by bytes 0 (ar_of ars 0) m) (omega (arith, size-wild bytes ars n m)))
  seen_same n m le (full b) e =
      let s = seen-whole cs (map head_of m) b e in
      gather-same (missing_by bytes cs ars f n m) (missing_by bytes cs ars g n m) b (count_of cs b)
      (λ j l. same (n + ar_of ars (b + j)) (rows_by bytes (b + j) (ar_of ars (b + j)) m) (omega (arith, size-key bytes ars n m (b + j) (omega (arith, s.positive)) (low (b + j)) (s.listed.each j l))))

  body_same : (n : ℕ) (m : Rows) → size n m ≤ z → missing_body bytes cs ars f n m ≡ missing_body bytes cs ars g n m
  body_same n [] le = refl
  body_same zero (r ∷ m) le = refl
  body_same (suc n) (r ∷ m) le = seen_same n (r ∷ m) le (seen_of cs (map head_of (r ∷ m))) refl

  step_same : (n : ℕ) (m : Rows) → size n m ≤ z → missing_step bytes cs ars f n m ≡ missing_step bytes cs ars g n m
  unfolding missing_step
  step_same n m le = ap (holding (length m * n)) (body_same n m le)

module _ (bytes cs ars : List ℕ) (low : (h : ℕ) → ar_of ars h ≤ 255) where
  pub missing_fuel : (f g n : ℕ) (m : Rows) → size n m < f → size n m < g → missing_in bytes cs ars f n m ≡ missing_in bytes cs ars g n m
  unfolding missing_in
  missing_fuel zero g n m l k = absurd (omega arith)
  missing_fuel (suc f) zero n m l k = absurd (omega arith)
  missing_fuel (suc f) (suc g) n m l k =
      step_same bytes cs ars low (missing_in bytes cs ars f) (missing_in bytes cs ars g) (size n m) (λ n' m' i. missing_fuel f g n' m' (omega arith) (omega arith)) n m (omega arith)

  pub missing-is : (n : ℕ) (m : Rows) → missing_of bytes cs ars n m ≡ missing_step bytes cs ars (missing_of bytes cs ars) n m
  unfolding missing_of missing_in
  missing-is n m =
      step_same bytes cs ars low (missing_in bytes cs ars (size n m)) (missing_of bytes cs ars) (size n m) (λ n' m' i. missing_fuel (size n m) (suc (size n' m')) n' m' i (omega arith)) n m (omega arith)
