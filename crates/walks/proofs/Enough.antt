-- More fuel than the size changes nothing: the definition on numbers is its own recursion.
use mathlib.Core.Path.{◌≡◌, refl, ap, ap₂, subst}
use mathlib.Core.Bool.{Bool, cond, ◌||◌}
use mathlib.Core.List.{List, [], ◌∷◌, ◌++◌, map}
use Prim.Native.Nat.{ℕ, zero, suc, ◌+◌, ◌*◌, ◌≤◌, ◌<◌}
use native.Mathlib.Nat.{add-zero}
use native.Mathlib.Omega.{arith}
use lib.ListN.{length, replicate}
use Rattle.scope.specs.Walks.{Walk, holding, joined}
use Rattle.matrix.specs.Numbers.{Rows, ar_of, rows_by, head_of, count_of, Seen, bare, part, full, seen_of}
use Rattle.walks.specs.Walks.{any_from, useful_alt, useful_seen, useful_head, useful_body, useful_step, size, useful_in, useful_of}
use Rattle.walks.proofs.Measure.{size_default, size_alt, size-own, size-wild}
use Rattle.matrix.proofs.Seen.{seen-whole}

-- two walks that agree on the constructors from key on agree up to the first yes
pub any_same : (g h : ℕ → Walk Bool) (key k : ℕ) → ((j : ℕ) → j < k → g (key + j) ≡ h (key + j)) → any_from g key k ≡ any_from h key k
unfolding any_from
any_same g h key zero e = refl
any_same g h key (suc k) e = ap₂ (λ (w v : Walk Bool). cond w.result w (joined ◌||◌ w v))
    (subst (λ (x : ℕ). g x ≡ h x) (add-zero key) (e 0 (omega arith)))
    (any_same g h (suc key) k (λ j l. subst (λ (x : ℕ). g x ≡ h x) (shift j) (e (suc j) (omega arith))))
  where
    shift : (j : ℕ) → key + suc j ≡ suc key + j
    shift j = omega arith

-- two walks that agree below a size
module _ (bytes cs ars : List ℕ) (low : (h : ℕ) → ar_of ars h ≤ 255) (f g : ℕ → Rows → List ℕ → Walk Bool) (z : ℕ) (same : (n : ℕ) (m : Rows) (q : List ℕ) → size n (q ∷ m) < z → f n m q ≡ g n m q) where
  seen_same : (n : ℕ) (m : Rows) (q : List ℕ) → size (suc n) (q ∷ m) ≤ z → (x : Seen) → seen_of cs (map head_of m) ≡ x → useful_seen bytes cs ars f x n m q ≡ useful_seen bytes cs ars g x n m q
  seen_same n m q le bare e = same (n + ar_of ars 0) (rows_by bytes 0 (ar_of ars 0) m) q (omega (arith, size_default bytes ars n m q))
  seen_same n m q le (part b) e = same (n + ar_of ars 0) (rows_by bytes 0 (ar_of ars 0) m) q (omega (arith, size_default bytes ars n m q))
  seen_same n m q le (full b) e =
      let s = seen-whole cs (map head_of m) b e in
      any_same (useful_alt bytes cs ars f n m q) (useful_alt bytes cs ars g n m q) b (count_of cs b)
      (λ j l. same (n + ar_of ars (b + j)) (rows_by bytes (b + j) (ar_of ars (b + j)) m) (replicate (ar_of ars (b + j)) 0 ++ q)
      (omega (arith, size_alt bytes ars n m q (b + j) (omega (arith, s.positive)) (low (b + j)) (s.listed.each j l))))

  head-same : (n : ℕ) (m : Rows) (q : List ℕ) → size (suc n) (q ∷ m) ≤ z → useful_head bytes cs ars f n m q ≡ useful_head bytes cs ars g n m q
  head-same n m [] le = seen_same n m [] le (seen_of cs (map head_of m)) refl
  head-same n m (zero ∷ q) le = seen_same n m q (omega (arith, size-wild (suc n) m q)) (seen_of cs (map head_of m)) refl
  head-same n m (suc h ∷ q) le = same (n + ar_of ars (suc h)) (rows_by bytes (suc h) (ar_of ars (suc h)) m) q (omega (arith, size-own bytes ars n m q (suc h) (λ y. omega arith) (low (suc h))))

  body_same : (n : ℕ) (m : Rows) (q : List ℕ) → size n (q ∷ m) ≤ z → useful_body bytes cs ars f n m q ≡ useful_body bytes cs ars g n m q
  body_same n [] q le = refl
  body_same zero (r ∷ m) q le = refl
  body_same (suc n) (r ∷ m) q le = head-same n (r ∷ m) q le

  step_same : (n : ℕ) (m : Rows) (q : List ℕ) → size n (q ∷ m) ≤ z → useful_step bytes cs ars f n m q ≡ useful_step bytes cs ars g n m q
  unfolding useful_step
  step_same n m q le = ap (holding ((length m + 1) * n)) (body_same n m q le)

module _ (bytes cs ars : List ℕ) (low : (h : ℕ) → ar_of ars h ≤ 255) where
  fuel_same : (f g n : ℕ) (m : Rows) (q : List ℕ) → size n (q ∷ m) < f → size n (q ∷ m) < g → useful_in bytes cs ars f n m q ≡ useful_in bytes cs ars g n m q
  unfolding useful_in
  fuel_same zero g n m q l k = absurd (omega arith)
  fuel_same (suc f) zero n m q l k = absurd (omega arith)
  fuel_same (suc f) (suc g) n m q l k =
      step_same bytes cs ars low (useful_in bytes cs ars f) (useful_in bytes cs ars g) (size n (q ∷ m)) (λ n' m' q' i. fuel_same f g n' m' q' (omega arith) (omega arith)) n m q (omega arith)

  pub useful_is : (n : ℕ) (m : Rows) (q : List ℕ) → useful_of bytes cs ars n m q ≡ useful_step bytes cs ars (useful_of bytes cs ars) n m q
  unfolding useful_of useful_in
  useful_is n m q =
      step_same bytes cs ars low (useful_in bytes cs ars (size n (q ∷ m))) (useful_of bytes cs ars) (size n (q ∷ m)) (λ n' m' q' i. fuel_same (size n (q ∷ m)) (suc (size n' (q' ∷ m'))) n' m' q' i (omega arith)) n m q (omega arith)
