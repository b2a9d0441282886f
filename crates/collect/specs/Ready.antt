-- What the walk of missing rows may assume, and what it leaves.
use Rattle.std.specs.Prelude.{◌≡◌, cond, ◌&&◌, List, ℕ, ◌+◌, ◌≤◌, ◌<◌, length, take, leb, Result, Ok}
use Rattle.std.proofs.lemmas.List.Edits.{sets}
use Rattle.scope.specs.Limits.{max_missing}
use Rattle.scope.specs.Lists.{flatten}
use Rattle.scope.specs.Walks.{Walk}
use Rattle.scope.specs.Blocks.{Step, ok, refuse}
use Rattle.outcomes.specs.Past.{said_seek}
use Rattle.outcomes.specs.declared.Seek.{Seek}
use Rattle.outcomes.specs.declared.TooMuch.{TooMuch}
use Rattle.matrix.specs.Numbers.{Rows}
use Rattle.matrix.specs.Places.{Places, Sizes}
use Rattle.walks.specs.Limits.{within}
use Rattle.paths.specs.declared.Steps.{Steps}
use Rattle.paths.specs.Spread.{Low, nodes_of}

-- what the answer of `collect_missing_patterns` says after so many calls, nodes and rows: 10 exactly when a limit is passed
unfoldable pub sought : ℕ → ℕ → ℕ → ℕ → Walk Rows → Step (ℕ × (ℕ × ℕ))
sought calls room written found w =
    cond (within calls room w && leb (written + nodes_of w.result) max_missing)
    (ok (written + nodes_of w.result, (found + length w.result, calls + w.calls)))
    (refuse 10)

-- every open call that has rows holds a cell or more: the path is never longer than what the room has lost
pub record Trail (path alts : List ℕ) (depth room written found : ℕ) : Type 0 where
  pub deep : depth + room ≤ 16384
  pub long_path : 16384 ≤ length path
  pub long_alts : 16384 ≤ length alts
  pub low : Low path depth
  pub within : written ≤ 4096
  pub few : found ≤ written

-- a matrix of rows of n patterns at the front of the scratch s
pub record Opened (nodes left counts arities : List ℕ) (n : ℕ) (s : List ℕ) (rows room : ℕ) : Type 0 where
  pub sizes : Sizes nodes arities
  pub places : Places nodes left counts arities n (take rows s)
  pub low : rows ≤ 64
  pub fits : rows ≤ length s
  pub space : room ≤ length s
  pub wide : n ≤ 16640

-- the same on the way into a specialised matrix, its own cells counted
pub record Held (nodes left counts arities : List ℕ) (n : ℕ) (s : List ℕ) (rows room : ℕ) : Type 0 where
  pub sizes : Sizes nodes arities
  pub places : Places nodes left counts arities n (take rows s)
  pub low : rows ≤ 64
  pub space : rows + room ≤ length s
  pub wide : n ≤ 16384
  pub some : 0 < n

-- what a walk leaves: the matrix at the front of the scratch, the path, the answer that the limits make of the walk o, and its rows written out
pub record Sought (s : List ℕ) (rows : ℕ) (e : List ℕ) (p q : Steps) (depth : ℕ) (out out_end : List ℕ) (at : Seek) (room : ℕ) (r : Result Seek TooMuch) (o : Walk Rows) : Type 0 where
  pub kept : take rows e ≡ take rows s
  pub kept_path : take depth q.nodes ≡ take depth p.nodes
  pub kept_alts : take depth q.sets ≡ take depth p.sets
  pub long_path : length q.nodes ≡ length p.nodes
  pub long_alts : length q.sets ≡ length p.sets
  pub long_out : length out_end ≡ length out
  pub is : said_seek r ≡ sought at.calls room at.written at.rows o
  pub text : (v : Seek) → r ≡ Ok v → out_end ≡ sets out at.written (flatten o.result)
  pub few : (v : Seek) → r ≡ Ok v → v.rows ≤ v.written
