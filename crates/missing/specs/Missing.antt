-- The missing rows of all clauses: on rows of numbers, and as `scope` has them, under the limits.
use Rattle.std.specs.Prelude.{◌≡◌, cond, ◌&&◌, List, map, ℕ, length, take, drop, replicate, leb, Result, Ok, Err}
use Rattle.std.proofs.lemmas.List.Edits.{sets}
use Rattle.scope.specs.Limits.{max_cells, max_missing}
use Rattle.scope.specs.Lists.{flatten}
use Rattle.scope.specs.Types.{Ref, Table}
use Rattle.scope.specs.Simplify.{Matrix}
use Rattle.scope.specs.Walks.{Walk, collect_missing_patterns}
use Rattle.scope.specs.Blocks.{Step, ok, refuse, nodes_in}
use Rattle.layout.specs.Nodes.{row_of}
use Rattle.outcomes.specs.Past.{said_seek}
use Rattle.outcomes.specs.declared.Seek.{Seek}
use Rattle.outcomes.specs.declared.TooMuch.{TooMuch}
use Rattle.matrix.specs.Numbers.{Rows}
use Rattle.walks.specs.Walks.{missing_of}
use Rattle.walks.specs.Limits.{within}
use Rattle.walks.specs.Bridge.{Holding}

-- the rows that are missing from all clauses, whose places `starts` has
abbrev pub missing_rows : List ℕ → List ℕ → List ℕ → List ℕ → List ℕ → Walk Rows
missing_rows bytes cs ars nodes starts = missing_of bytes cs ars 1 (map (λ p. drop p nodes) starts)

-- the buffer afterwards: the rows at its front, one after another, and the rest unchanged; all zero where the answer is over
unfoldable pub out_after : List ℕ → Rows → Result Seek TooMuch → List ℕ
out_after out m (Ok v) = sets out 0 (flatten m)
out_after out m (Err e) = replicate (length out) 0

-- what is said under the limits of `collect_missing_patterns`: 10 exactly when one is passed
unfoldable pub found_of : Walk Matrix → Step (ℕ × (ℕ × ℕ))
found_of w = cond (within 0 max_cells w && leb (nodes_in w.result) max_missing) (ok (nodes_in w.result, (length w.result, w.calls))) (refuse 10)

-- the walk of `scope` under the limits: its answer, and its rows at the front of the buffer
pub record Finds (bytes : List ℕ) (table : Table) (m : Matrix) (out_end : List ℕ) (r : Result Seek TooMuch) : Type 0 where
  pub answer : said_seek r ≡ found_of (collect_missing_patterns table 1 m)
  pub rows : (v : Seek) → r ≡ Ok v → row_of bytes (take v.written out_end) ≡ flatten (collect_missing_patterns table 1 m).result

-- for every block that the slices hold
abbrev pub FindsAll : List ℕ → List ℕ → List ℕ → List ℕ → List ℕ → List ℕ → List ℕ → Result Seek TooMuch → Type 0
FindsAll bytes nodes left counts arities starts out_end r = (kinds : List ℕ) (table : Table) (t : Ref) (m : Matrix) → Holding bytes kinds nodes left counts arities starts table t m → Finds bytes table m out_end r
