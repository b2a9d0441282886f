-- Rows under a path: a step goes through `++`, and which cells of the path matter.
use mathlib.Core.Path.{◌≡◌, refl, sym, ap, ap₂, ◌∙◌}
use mathlib.Core.Bool.{Bool, true, false, cond}
use mathlib.Core.List.{List, [], ◌∷◌, ◌++◌, append_assoc, append-nil, map-append}
use Prim.Native.Nat.{ℕ, zero, suc, ◌+◌, ◌*◌, ◌-◌, ◌/◌, ◌%◌, ◌≤◌, ◌<◌}
use native.Mathlib.Omega.{arith}
use native.Mathlib.Numerals.{add-one}
use lib.ListN.{length, get_or, take, set, replicate, length-append, length-replicate}
use lib.Seq.{get_or-set_same, get_or-set_other, get_or-take}
use lib.Dec.{eqb}
use borrow.Author.Tests.{eq-eqb, ne_eqb}
use Rattle.matrix.specs.Numbers.{Rows, ar_of, each_row}
use Rattle.paths.specs.Path.{Step, one, each, chosen, stepped, under, step_of, path_of, spelt1, spelt}

pub each_append : (f : List ℕ → Rows) (a b : Rows) → each_row f (a ++ b) ≡ each_row f a ++ each_row f b
unfolding each_row
each_append f [] b = refl
each_append f (r ∷ a) b = ap (λ (x : Rows). f r ++ x) (each_append f a b) ∙ sym (append_assoc (f r) (each_row f a) (each_row f b))

module _ (ars : List ℕ) where
  stepped_append : (x : Step) (a b : Rows) → stepped ars x (a ++ b) ≡ stepped ars x a ++ stepped ars x b
  unfolding stepped
  stepped_append (one x) a b = map-append (x ∷◌) a b
  stepped_append (each c g) a b = each_append (chosen ars g c 32) a b

  -- a path goes through `++`
  pub under_append : (p : List Step) (a b : Rows) → under ars p (a ++ b) ≡ under ars p a ++ under ars p b
  unfolding under
  under_append [] a b = refl
  under_append (x ∷ p) a b = ap (under ars p) (stepped_append x a b) ∙ under_append p (stepped ars x a) (stepped ars x b)

  pub under_none : (p : List Step) → under ars p [] ≡ []
  unfolding under stepped each_row
  under_none [] = refl
  under_none (one x ∷ p) = under_none p
  under_none (each c g ∷ p) = under_none p

  -- one row under the innermost step
  pub under_one : (x : ℕ) (p : List Step) (r : List ℕ) → under ars (one x ∷ p) (r ∷ []) ≡ under ars p ((x ∷ r) ∷ [])
  unfolding under stepped
  under_one x p r = refl

  pub under-each : (b g : ℕ) (p : List Step) (r : List ℕ) → under ars (each b g ∷ p) (r ∷ []) ≡ under ars p (chosen ars g b 32 r)
  unfolding under stepped each_row
  under-each b g p r = ap (under ars p) (append-nil (chosen ars g b 32 r))

  -- the first of the constructors is in the set, or not
  chosen-suc : (g b k : ℕ) (r : List ℕ) → chosen ars g b (suc k) r ≡ cond (eqb (g % 2) 1) ((b ∷ replicate (ar_of ars b) 0 ++ r) ∷ []) [] ++ chosen ars (g / 2) (suc b) k r
  unfolding chosen
  chosen-suc g b k r = refl

  more-suc : (k : ℕ) → 0 < k → k ≡ suc (k - 1)
  more-suc k l = omega arith

  pub chosen_none : (g b k : ℕ) (r : List ℕ) → k ≡ 0 → chosen ars g b k r ≡ []
  unfolding chosen
  chosen_none g b zero r e = refl
  chosen_none g b (suc k) r e = absurd (omega arith)

  pub chosen-not : (g b k : ℕ) (r : List ℕ) → 0 < k → g % 2 ≡ 0 → chosen ars g b k r ≡ chosen ars (g / 2) (b + 1) (k - 1) r
  chosen-not g b k r l e =
      let n : g % 2 ≡ 1 → ⊥ = λ q. omega arith in
      ap (λ (j : ℕ). chosen ars g b j r) (more-suc k l) ∙ chosen-suc g b (k - 1) r
      ∙ ap (λ (t : Bool). cond t ((b ∷ replicate (ar_of ars b) 0 ++ r) ∷ []) [] ++ chosen ars (g / 2) (suc b) (k - 1) r) (ne_eqb (g % 2) 1 n)
      ∙ ap (λ (x : ℕ). chosen ars (g / 2) x (k - 1) r) (sym (add-one b))

  pub chosen_is : (g b k : ℕ) (r : List ℕ) → 0 < k → (g % 2 ≡ 0 → ⊥) → chosen ars g b k r ≡ ((b ∷ replicate (ar_of ars b) 0 ++ r) ∷ []) ++ chosen ars (g / 2) (b + 1) (k - 1) r
  chosen_is g b k r l e =
      let o : g % 2 ≡ 1 = omega arith in
      ap (λ (j : ℕ). chosen ars g b j r) (more-suc k l) ∙ chosen-suc g b (k - 1) r
      ∙ ap (λ (t : Bool). cond t ((b ∷ replicate (ar_of ars b) 0 ++ r) ∷ []) [] ++ chosen ars (g / 2) (suc b) (k - 1) r) (eq-eqb (g % 2) 1 o)
      ∙ ap (λ (x : ℕ). ((b ∷ replicate (ar_of ars b) 0 ++ r) ∷ []) ++ chosen ars (g / 2) x (k - 1) r) (sym (add-one b))

-- which cells matter
module _ (p q a b : List ℕ) where
  pub path_same : (d : ℕ) → ((i : ℕ) → i < d → get_or p i 0 ≡ get_or q i 0) → ((i : ℕ) → i < d → get_or a i 0 ≡ get_or b i 0) → path_of p a d ≡ path_of q b d
  unfolding path_of
  path_same zero f g = refl
  path_same (suc d) f g = ap₂ (λ (x : Step) (y : List Step). x ∷ y) (ap₂ step_of (f d (omega arith)) (g d (omega arith))) (path_same d (λ i l. f i (omega arith)) (λ i l. g i (omega arith)))

  pub spelt-same : (ars : List ℕ) (n k d : ℕ) → ((i : ℕ) → d ≤ i → get_or p i 0 ≡ get_or q i 0) → ((i : ℕ) → d ≤ i → get_or a i 0 ≡ get_or b i 0) → spelt ars p a d k n ≡ spelt ars q b d k n
  unfolding spelt
  spelt-same ars n zero d f g = refl
  spelt-same ars n (suc k) d f g = ap₂ ◌++◌ (ap₂ (spelt1 ars) (f d (omega arith)) (g d (omega arith))) (spelt-same ars n k (suc d) (λ i l. f i (omega arith)) (λ i l. g i (omega arith)))

  -- what `take` keeps
  take-read : (d i : ℕ) → take d p ≡ take d q → i < d → get_or p i 0 ≡ get_or q i 0
  take-read d i e l = sym (get_or-take d p i 0 l) ∙ ap (λ (x : List ℕ). get_or x i 0) e ∙ get_or-take d q i 0 l

pub path_take : (p q a b : List ℕ) (d : ℕ) → take d p ≡ take d q → take d a ≡ take d b → path_of p a d ≡ path_of q b d
path_take p q a b d e f = path_same p q a b d (λ i l. take-read p q a b d i e l) (λ i l. take-read a b a b d i f l)

pub path_set : (p a : List ℕ) (d i x : ℕ) → d ≤ i → path_of (set p i x) a d ≡ path_of p a d
path_set p a d i x l = path_same (set p i x) p a a d (λ j h. get_or-set_other p i j x 0 (λ e. omega arith)) (λ j h. refl)

pub spelt-set : (ars p a : List ℕ) (n k d i x : ℕ) → i < d → spelt ars (set p i x) a d k n ≡ spelt ars p a d k n
spelt-set ars p a n k d i x l = spelt-same (set p i x) p a a ars n k d (λ j h. get_or-set_other p i j x 0 (λ e. omega arith)) (λ j h. refl)

-- one more step at the end of the path
pub path_next : (p a : List ℕ) (d x g : ℕ) → d < length p → d < length a → path_of (set p d x) (set a d g) (d + 1) ≡ step_of x g ∷ path_of p a d
unfolding path_of
path_next p a d x g lp la =
    ap (path_of (set p d x) (set a d g)) (add-one d)
    ∙ ap₂ (λ (s : Step) (t : List Step). s ∷ t)
    (ap₂ step_of (get_or-set_same p d x 0 lp) (get_or-set_same a d g 0 la))
    (path_same (set p d x) p (set a d g) a d (λ j h. get_or-set_other p d j x 0 (λ e. omega arith)) (λ j h. get_or-set_other a d j g 0 (λ e. omega arith)))

-- how long the row is that a path says
module _ (ars p a : List ℕ) (n : ℕ) where
  wilds-length : (k : ℕ) → length (replicate {A = ℕ} k 0) ≡ k
  wilds-length k = length-replicate {A = ℕ} k 0

  step-least : (x g : ℕ) → 1 ≤ length (spelt1 ars x g)
  step-least x g = go (eqb g 0)
    where
      go : (t : Bool) → 1 ≤ length (cond t (x ∷ []) (x ∷ replicate (ar_of ars x) 0))
      go true = omega arith
      go false = omega arith

  pub step-most : (low : (h : ℕ) → ar_of ars h ≤ 255) (x g : ℕ) → length (spelt1 ars x g) ≤ 256
  step-most low x g = go (eqb g 0)
    where
      go : (t : Bool) → length (cond t (x ∷ []) (x ∷ replicate (ar_of ars x) 0)) ≤ 256
      go true = omega arith
      go false = omega (arith, wilds-length (ar_of ars x), low x)

  pub spelt-least : (k d : ℕ) → k + n ≤ length (spelt ars p a d k n)
  unfolding spelt
  spelt-least zero d = omega (arith, wilds-length n)
  spelt-least (suc k) d = omega (arith, length-append (spelt1 ars (get_or p d 0) (get_or a d 0)) (spelt ars p a (suc d) k n), step-least (get_or p d 0) (get_or a d 0), spelt-least k (suc d))

  pub spelt-most : (low : (h : ℕ) → ar_of ars h ≤ 255) (k d : ℕ) → length (spelt ars p a d k n) ≤ 256 * k + n
  unfolding spelt
  spelt-most low zero d = omega (arith, wilds-length n)
  spelt-most low (suc k) d = omega (arith, length-append (spelt1 ars (get_or p d 0) (get_or a d 0)) (spelt ars p a (suc d) k n), step-most low (get_or p d 0) (get_or a d 0), spelt-most low k (suc d))

  pub spelt-next : (k d : ℕ) → 0 < k → spelt ars p a d k n ≡ spelt1 ars (get_or p d 0) (get_or a d 0) ++ spelt ars p a (d + 1) (k - 1) n
  unfolding spelt
  spelt-next zero d l = absurd (omega arith)
  spelt-next (suc k) d l = ap₂ (λ (i j : ℕ). spelt1 ars (get_or p d 0) (get_or a d 0) ++ spelt ars p a i j n) (sym (add-one d)) less
    where
      less : k ≡ suc k - 1
      less = omega arith

  pub spelt-none : (k d : ℕ) → k ≡ 0 → spelt ars p a d k n ≡ replicate n 0
  unfolding spelt
  spelt-none zero d e = refl
  spelt-none (suc k) d e = absurd (omega arith)

-- the rows of the first k steps, by the last of them
module _ (ars p a : List ℕ) (n k depth : ℕ) (pos : 0 < k) (le : k ≤ depth) where
  path_suc : path_of p a k ≡ step_of (get_or p (k - 1) 0) (get_or a (k - 1) 0) ∷ path_of p a (k - 1)
  unfolding path_of
  path_suc = go k pos
    where
      go : (j : ℕ) → 0 < j → path_of p a j ≡ step_of (get_or p (j - 1) 0) (get_or a (j - 1) 0) ∷ path_of p a (j - 1)
      go zero l = absurd (omega arith)
      go (suc j) l = ap (λ (i : ℕ). step_of (get_or p i 0) (get_or a i 0) ∷ path_of p a i) less
        where
          less : j ≡ suc j - 1
          less = omega arith

  pub rows-one : get_or a (k - 1) 0 ≡ 0 → under ars (path_of p a (k - 1)) (spelt ars p a (k - 1) (depth - (k - 1)) n ∷ []) ≡ under ars (path_of p a k) (spelt ars p a k (depth - k) n ∷ [])
  rows-one e =
      let x = get_or p (k - 1) 0 in
      let g = get_or a (k - 1) 0 in
      let i : k - 1 + 1 ≡ k = omega arith in
      let j : depth - (k - 1) - 1 ≡ depth - k = omega arith in
      let r = spelt ars p a k (depth - k) n in
      let s : spelt ars p a (k - 1) (depth - (k - 1)) n ≡ x ∷ r =
      spelt-next ars p a n (depth - (k - 1)) (k - 1) (omega arith)
      ∙ ap₂ (λ (t : Bool) (y : List ℕ). cond t (x ∷ []) (x ∷ replicate (ar_of ars x) 0) ++ y) (eq-eqb g 0 e) (ap₂ (λ (u v : ℕ). spelt ars p a u v n) i j) in
      ap (λ (y : List ℕ). under ars (path_of p a (k - 1)) (y ∷ [])) s
      ∙ sym (under_one ars x (path_of p a (k - 1)) r)
      ∙ ap (λ (t : Bool). under ars (cond t (one x) (each x g) ∷ path_of p a (k - 1)) (r ∷ [])) (sym (eq-eqb g 0 e))
      ∙ ap (λ (y : List Step). under ars y (r ∷ [])) (sym path_suc)

  pub rows-each : (get_or a (k - 1) 0 ≡ 0 → ⊥) → under ars (path_of p a (k - 1)) (chosen ars (get_or a (k - 1) 0) (get_or p (k - 1) 0) 32 (spelt ars p a (k - 1 + 1) (depth - (k - 1 + 1)) n)) ≡ under ars (path_of p a k) (spelt ars p a k (depth - k) n ∷ [])
  rows-each e =
      let x = get_or p (k - 1) 0 in
      let g = get_or a (k - 1) 0 in
      let i : k - 1 + 1 ≡ k = omega arith in
      let r = spelt ars p a k (depth - k) n in
      ap (λ (j : ℕ). under ars (path_of p a (k - 1)) (chosen ars g x 32 (spelt ars p a j (depth - j) n))) i
      ∙ sym (under-each ars x g (path_of p a (k - 1)) r)
      ∙ ap (λ (t : Bool). under ars (cond t (one x) (each x g) ∷ path_of p a (k - 1)) (r ∷ [])) (sym (ne_eqb g 0 e))
      ∙ ap (λ (y : List Step). under ars y (r ∷ [])) (sym path_suc)

-- the row of a constructor chosen for step k
pub row-chosen : (ars p a : List ℕ) (n k depth b : ℕ) → k < depth → k < length p → 0 < get_or a k 0
    → under ars (path_of (set p k b) a k) (spelt ars (set p k b) a k (depth - k) n ∷ []) ≡ under ars (path_of p a k) ((b ∷ replicate (ar_of ars b) 0 ++ spelt ars p a (k + 1) (depth - (k + 1)) n) ∷ [])
row-chosen ars p a n k depth b lt lp l =
    let g = get_or a k 0 in
    let j : depth - k - 1 ≡ depth - (k + 1) = omega arith in
    let nz : g ≡ 0 → ⊥ = λ e. omega arith in
    ap₂ (λ (y : List Step) (z : List ℕ). under ars y (z ∷ []))
    (path_set p a k k b (omega arith))
    (spelt-next ars (set p k b) a n (depth - k) k (omega arith)
    ∙ ap₂ ◌++◌
    (ap₂ (λ (x : ℕ) (t : Bool). cond t (x ∷ []) (x ∷ replicate (ar_of ars x) 0)) (get_or-set_same p k b 0 lp) (ne_eqb g 0 nz))
    (spelt-set ars p a n (depth - k - 1) (k + 1) k b (omega arith) ∙ ap (λ (v : ℕ). spelt ars p a (k + 1) v n) j))
