-- What `count_left` gives: how many patterns are left, one node after another.
use mathlib.Core.Path.{◌≡◌, refl, sym, ap, ◌∙◌}
use mathlib.Core.List.{List, [], ◌∷◌, ◌++◌, map, map-append}
use Prim.Native.Nat.{ℕ, suc, ◌+◌, ◌-◌, ◌<◌}
use native.Mathlib.Omega.{arith}
use native.Mathlib.Numerals.{add-one}
use lib.ListN.{length, get_or, take, set, length-map}
use lib.Seq.{sets, take-suc, length-take-le}
use Rattle.cells.proofs.Laws.{sets-sets}
use Rattle.nodes.specs.Keys.{low16}
use Rattle.nodes.specs.Lefts.{arity_of, lefts_of, left_after}

module _ (arities : List ℕ) where
  lefts-more : (k : ℕ) (ns : List ℕ) (n : ℕ) → lefts_of arities k (ns ++ n ∷ []) ≡ lefts_of arities k ns ++ left_after arities k ns ∷ []
  unfolding lefts_of left_after
  lefts-more k [] n = refl
  lefts-more k (x ∷ ns) n = ap (λ (l : List ℕ). k ∷ l) (lefts-more (k - 1 + arity_of arities x) ns n)

  after_more : (k : ℕ) (ns : List ℕ) (n : ℕ) → left_after arities k (ns ++ n ∷ []) ≡ left_after arities k ns - 1 + arity_of arities n
  unfolding left_after
  after_more k [] n = refl
  after_more k (x ∷ ns) n = after_more (k - 1 + arity_of arities x) ns n

  pub lefts-length : (k : ℕ) (ns : List ℕ) → length (lefts_of arities k ns) ≡ length ns
  unfolding lefts_of
  lefts-length k [] = refl
  lefts-length k (x ∷ ns) = ap suc (lefts-length (k - 1 + arity_of arities x) ns)

  -- nothing is stored yet
  pub left-none : (d : List ℕ) (used : ℕ) (ns : List ℕ) → d ≡ sets d used (map low16 (lefts_of arities 1 (take 0 ns)))
  unfolding lefts_of
  left-none d used ns = refl

  pub after_none : (ns : List ℕ) → 1 ≡ left_after arities 1 (take 0 ns)
  unfolding left_after
  after_none ns = refl

  -- one more is stored
  pub left-next : (d : List ℕ) (used i : ℕ) (ns : List ℕ) → i < length ns
      → set (sets d used (map low16 (lefts_of arities 1 (take i ns)))) (used + i) (low16 (left_after arities 1 (take i ns))) ≡ sets d used (map low16 (lefts_of arities 1 (take (i + 1) ns)))
  left-next d used i ns h =
      let vs = map low16 (lefts_of arities 1 (take i ns)) in
      let x = left_after arities 1 (take i ns) in
      let n : length vs ≡ i = length-map (lefts_of arities 1 (take i ns)) low16 ∙ lefts-length 1 (take i ns) ∙ length-take-le i ns (omega arith) in
      ap (λ (k : ℕ). set (sets d used vs) (used + k) (low16 x)) (sym n)
      ∙ sets-sets vs (low16 x ∷ []) d used
      ∙ ap (sets d used) (sym (map-append low16 (lefts_of arities 1 (take i ns)) (x ∷ [])) ∙ ap (map low16) (sym (lefts-more 1 (take i ns) (get_or ns i 0))) ∙ ap (λ (l : List ℕ). map low16 (lefts_of arities 1 l)) (sym (take-suc ns i 0 h) ∙ ap (λ (k : ℕ). take k ns) (sym (add-one i))))

  pub after_next : (i : ℕ) (ns : List ℕ) → i < length ns → left_after arities 1 (take (i + 1) ns) ≡ left_after arities 1 (take i ns) - 1 + arity_of arities (get_or ns i 0)
  after_next i ns h = ap (left_after arities 1) (ap (λ (k : ℕ). take k ns) (add-one i) ∙ take-suc ns i 0 h) ∙ after_more 1 (take i ns) (get_or ns i 0)
