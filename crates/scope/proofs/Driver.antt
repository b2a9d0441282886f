-- Clauses judged one after another: the driver on one clause more is the driver on the others, and then that clause against all of them.
use mathlib.Core.Path.{◌≡◌, refl, sym, ap, ap₂, ◌∙◌}
use mathlib.Core.List.{List, [], ◌∷◌, ◌++◌, append-nil, append_assoc}
use Prim.Native.Nat.{ℕ}
use native.Mathlib.Omega.{arith}
use Rattle.scope.specs.Types.{Table}
use Rattle.scope.specs.Simplify.{Row, Matrix}
use Rattle.scope.specs.Walks.{Walk, plain, turned, joined, is_useful}
use Rattle.scope.specs.Driver.{judged}

-- a walk by its three parts
walk_is : {A : Type 0} (w v : Walk A) → w.result ≡ v.result → w.calls ≡ v.calls → w.peak ≡ v.peak → w ≡ v
walk_is {A} w v r c p = ap₂ (λ (x : A) (y : ℕ). made x y w.peak) r c ∙ ap (made v.result v.calls) p
  where
    made : A → ℕ → ℕ → Walk A
    made x y z = record { result = x; calls = y; peak = z }

-- joining walks of lists: nothing on a side, and three of them
module _ {A : Type 0} where
  joined-first : (w : Walk (List A)) → joined ◌++◌ (plain []) w ≡ w
  joined-first w = walk_is (joined ◌++◌ (plain []) w) w refl (omega arith) (omega arith)

  joined-last : (w : Walk (List A)) → joined ◌++◌ w (plain []) ≡ w
  joined-last w = walk_is (joined ◌++◌ w (plain [])) w (append-nil w.result) (omega arith) (omega arith)

  joined_assoc : (u v w : Walk (List A)) → joined ◌++◌ (joined ◌++◌ u v) w ≡ joined ◌++◌ u (joined ◌++◌ v w)
  joined_assoc u v w = walk_is (joined ◌++◌ (joined ◌++◌ u v) w) (joined ◌++◌ u (joined ◌++◌ v w)) (append_assoc u.result v.result w.result) (omega arith) (omega arith)

-- one clause more at the end
pub judged-snoc : (table : Table) (rs before : Matrix) (r : Row) → judged table before (rs ++ r ∷ []) ≡ joined ◌++◌ (judged table before rs) (turned (◌∷ []) (is_useful table 1 (before ++ rs) r))
unfolding judged
judged-snoc table [] before r =
    joined-last (turned (◌∷ []) (is_useful table 1 before r))
    ∙ sym (joined-first (turned (◌∷ []) (is_useful table 1 (before ++ []) r)) ∙ ap (λ (x : Matrix). turned (◌∷ []) (is_useful table 1 x r)) (append-nil before))
judged-snoc table (x ∷ rs) before r =
    let here = turned (◌∷ []) (is_useful table 1 before x) in
    ap (joined ◌++◌ here) (judged-snoc table rs (before ++ x ∷ []) r ∙ ap (λ (y : Matrix). joined ◌++◌ (judged table (before ++ x ∷ []) rs) (turned (◌∷ []) (is_useful table 1 y r))) (append_assoc before (x ∷ []) rs))
    ∙ sym (joined_assoc here (judged table (before ++ x ∷ []) rs) (turned (◌∷ []) (is_useful table 1 (before ++ x ∷ rs) r)))
