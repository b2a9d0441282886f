-- How many patterns of a row are left from each of its nodes on.
use Rattle.std.specs.Prelude.{cond, List, [], ◌∷◌, ℕ, zero, suc, ◌+◌, ◌-◌, get_or, ltb}

-- how many arguments a node has: none at a wildcard and a literal
abbrev pub arity_of : List ℕ → ℕ → ℕ
arity_of arities zero = 0
arity_of arities (suc i) = cond (ltb i 32767) (get_or arities i 0) 0

-- how many patterns are left at each node of a row of k patterns
unfoldable pub lefts_of : List ℕ → ℕ → List ℕ → List ℕ
lefts_of arities k [] = []
lefts_of arities k (n ∷ ns) = k ∷ lefts_of arities (k - 1 + arity_of arities n) ns

-- how many are left after the nodes
unfoldable pub left_after : List ℕ → ℕ → List ℕ → ℕ
left_after arities k [] = k
left_after arities k (n ∷ ns) = left_after arities (k - 1 + arity_of arities n) ns
