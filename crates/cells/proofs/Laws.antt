-- Laws of runs of stores: `sets d at vs` is d with vs stored from a place on, cut at d's end.
use Prim.Native.Nat.{ℕ, suc, ◌+◌, ◌<◌}
use native.Mathlib.Nat.{add-zero, add-suc, suc-add}
use native.Mathlib.Omega.{arith}
use native.Mathlib.Numerals.{add-one}
use mathlib.Core.Path.{◌≡◌, sym, ap, ◌∙◌}
use mathlib.Core.List.{List, [], ◌∷◌, ◌++◌}
use lib.ListN.{length, get_or, take, set, replicate, length-replicate, replicate-append-replicate}
use lib.Seq.{sets, take-suc, length-take-le}

-- one run after another is one run
pub sets-sets : (vs ws d : List ℕ) (at : ℕ) → sets (sets d at vs) (at + length vs) ws ≡ sets d at (vs ++ ws)
sets-sets [] ws d at = ap (λ (k : ℕ). sets d k ws) (add-zero at)
sets-sets (v ∷ vs) ws d at = ap (λ (k : ℕ). sets (sets (set d at v) (suc at) vs) k ws) (add-suc at (length vs) ∙ sym (suc-add at (length vs))) ∙ sets-sets vs ws (set d at v) (suc at)

-- the next element of a list, after those before it
pub sets-next : (vs d : List ℕ) (at i : ℕ) → i < length vs → set (sets d at (take i vs)) (at + i) (get_or vs i 0) ≡ sets d at (take (i + 1) vs)
sets-next vs d at i h =
    ap (λ (k : ℕ). set (sets d at (take i vs)) (at + k) (get_or vs i 0)) (sym (length-take-le i vs (omega arith)))
    ∙ sets-sets (take i vs) (get_or vs i 0 ∷ []) d at
    ∙ ap (sets d at) (sym (take-suc vs i 0 h) ∙ ap (λ (k : ℕ). take k vs) (sym (add-one i)))

-- one cell more of the same
pub many-next : (d : List ℕ) (from i x : ℕ) → set (sets d from (replicate i x)) (from + i) x ≡ sets d from (replicate (i + 1) x)
many-next d from i x =
    ap (λ (k : ℕ). set (sets d from (replicate i x)) (from + k) x) (sym (length-replicate i x))
    ∙ sets-sets (replicate i x) (x ∷ []) d from
    ∙ ap (sets d from) (replicate-append-replicate i 1 x)
