-- The driver: every clause judged against those before it, the missing rows of all clauses, and what is too much work (10).
use Rattle.std.specs.Prelude.{List, [], ◌∷◌, ◌++◌, Bool, ◌||◌, ltb}
use Rattle.scope.specs.Limits.{max_calls, max_cells, max_missing}
use Rattle.scope.specs.Types.{Table}
use Rattle.scope.specs.Simplify.{Matrix}
use Rattle.scope.specs.Blocks.{Block, nodes_in}
use Rattle.scope.specs.Walks.{Walk, plain, turned, joined, is_useful, collect_missing_patterns}

-- Driver: each row is judged against all rows before it, reached or not
unfoldable pub judged : Table → Matrix → Matrix → Walk (List Bool)
judged table before [] = plain []
judged table before (r ∷ rs) = joined ◌++◌ (turned (◌∷ []) (is_useful table 1 before r)) (judged table (before ++ r ∷ []) rs)

-- both walks of a block: the verdicts, and the missing rows
pub record Findings : Type 0 where
  pub reached : Walk (List Bool)
  pub missing : Walk Matrix

-- missing rows come from all clauses
unfoldable pub findings : Block → Findings
findings b = record { reached = judged b.table [] b.rows; missing = collect_missing_patterns b.table 1 b.rows }

-- the verdicts on a block's clauses, in order
abbrev pub verdicts : Block → List Bool
verdicts b = (findings b).reached.result

-- the missing rows of a block, in order
abbrev pub gaps : Block → Matrix
gaps b = (findings b).missing.result

-- 10: over 65,536 calls of either kind, over 16,384 cells held by open calls, or over 4,096 constructors and wildcards in the final missing rows
unfoldable pub too_much : Findings → Bool
too_much f =
    ltb max_calls f.reached.calls || ltb max_calls f.missing.calls ||
    ltb max_cells f.reached.peak || ltb max_cells f.missing.peak ||
    ltb max_missing (nodes_in f.missing.result)
