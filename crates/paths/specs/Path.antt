-- The path from the root of the missing walk, as the code carries it, and the rows that it says.
use Rattle.std.specs.Prelude.{cond, List, [], ◌∷◌, ◌++◌, ℕ, zero, suc, ◌/◌, ◌%◌, get_or, replicate, eqb}
use Rattle.matrix.specs.Numbers.{Rows, ar_of, recover, each_row}

-- a step: a node; or each unseen constructor, the first of the type and a set of 32 bits telling which
pub data Step : Type 0 where
  one : ℕ → Step
  each : ℕ → ℕ → Step

-- of the constructors b, b + 1, .., k of them, those in the set, whose lowest bit is for b, each with wildcards, in front of the row r
unfoldable pub chosen : List ℕ → ℕ → ℕ → ℕ → List ℕ → Rows
chosen ars set b zero r = []
chosen ars set b (suc k) r = cond (eqb (set % 2) 1) ((b ∷ replicate (ar_of ars b) 0 ++ r) ∷ []) [] ++ chosen ars (set / 2) (suc b) k r

-- a step in front of each row
unfoldable pub stepped : List ℕ → Step → Rows → Rows
stepped ars (one x) m = recover x m
stepped ars (each b set) m = each_row (chosen ars set b 32) m

-- a path, its innermost step first, in front of each row
unfoldable pub under : List ℕ → List Step → Rows → Rows
under ars [] m = m
under ars (x ∷ p) m = under ars p (stepped ars x m)

-- the step that a cell of the path and its set say
abbrev pub step_of : ℕ → ℕ → Step
step_of node set = cond (eqb set 0) (one node) (each node set)

-- the path that the first d cells say
unfoldable pub path_of : List ℕ → List ℕ → ℕ → List Step
path_of path alts zero = []
path_of path alts (suc d) = step_of (get_or path d 0) (get_or alts d 0) ∷ path_of path alts d

-- a step as it is chosen now
abbrev pub spelt1 : List ℕ → ℕ → ℕ → List ℕ
spelt1 ars node set = cond (eqb set 0) (node ∷ []) (node ∷ replicate (ar_of ars node) 0)

-- k steps from cell d on as they are chosen now, in front of n wildcards
unfoldable pub spelt : List ℕ → List ℕ → List ℕ → ℕ → ℕ → ℕ → List ℕ
spelt ars path alts d zero n = replicate n 0
spelt ars path alts d (suc k) n = spelt1 ars (get_or path d 0) (get_or alts d 0) ++ spelt ars path alts (suc d) k n
