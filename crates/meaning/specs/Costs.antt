-- Request 7, "What costs nothing to ask", over the rows of a file: the calls that each takes, what they come to in the report, and their bounds.
use mathlib.Core.List.{List, [], ◌∷◌, Mem}
use Rattle.std.specs.Prelude.{◌≡◌, Bool, false, ℕ, zero, suc, ◌+◌, ◌≤◌, ◌<◌, length, get_or, take}
use Rattle.scope.specs.Lines.{lines}
use Rattle.scope.specs.Simplify.{wild, con, Matrix}
use Rattle.scope.specs.Walks.{Walk, is_useful, collect_missing_patterns}
use Rattle.scope.specs.Blocks.{Block, parsed, block_of}
use Rattle.scope.specs.Driver.{judged, findings, verdicts, gaps}
use Rattle.scope.specs.Calls.{Counts, Flat}

-- the walk for row i, counted from 0: the row judged against all rows before it
abbrev pub row_walk : Block → ℕ → Walk Bool
row_walk b i = is_useful b.table 1 (take i b.rows) (get_or b.rows i [])

-- the missing walk
abbrev pub missing_walk : Block → Walk Matrix
missing_walk b = collect_missing_patterns b.table 1 b.rows

-- the calls that the first so many rows take, added up
abbrev pub calls_to : Block → ℕ → ℕ
calls_to b zero = 0
calls_to b (suc i) = calls_to b i + (row_walk b i).calls

-- the subject is of a data type with k constructors, all of arity 0
abbrev pub FlatSubject : Block → ℕ → Type 0
FlatSubject b k = Flat b.table b.subject k

-- each of its first k constructors stands among these rows
abbrev pub AllNamed : Block → ℕ → Matrix → Type 0
AllNamed b k m = (c : ℕ) → c < k → Mem (con b.subject c ∷ []) m

-- What the rows of a block cost
pub record Costs (b : Block) : Type 0 where
  -- the walks are those that the findings are made of: each row's says its verdict, and the missing walk says the missing rows
  pub judges : (i : ℕ) → i < length b.rows → (row_walk b i).result ≡ get_or (verdicts b) i false
  pub misses : (missing_walk b).result ≡ gaps b
  -- the sum over the first rows is what the driver counts for them, so that over all rows is the first number of calls; the missing walk's are the second
  pub sooner : (i : ℕ) → i ≤ length b.rows → calls_to b i ≡ (judged b.table [] (take i b.rows)).calls
  pub first : calls_to b (length b.rows) ≡ (findings b).reached.calls
  pub second : (missing_walk b).calls ≡ (findings b).missing.calls
  -- "a clause or alternative whose simplified form holds no wildcard and N constructors and literals takes at most N + 1 calls"
  pub solid : (i N : ℕ) → i < length b.rows → Counts 0 N (get_or b.rows i []) → (row_walk b i).calls ≤ N + 1
  -- "a subject of a data type with k constructors, all of arity 0, takes at most k + 1 calls for each row and for the missing walk"
  pub flat_row : (k : ℕ) → FlatSubject b k → (i : ℕ) → i < length b.rows → (row_walk b i).calls ≤ k + 1
  pub flat_missing : (k : ℕ) → FlatSubject b k → (missing_walk b).calls ≤ k + 1
  -- and just so many: where a row without wildcards is never reached; where all constructors are named, for a wildcard after them and for the missing walk
  pub never : (i N : ℕ) → i < length b.rows → Counts 0 N (get_or b.rows i []) → get_or (verdicts b) i false ≡ false → (row_walk b i).calls ≡ N + 1
  pub named : (k : ℕ) → FlatSubject b k → (i : ℕ) → i < length b.rows → AllNamed b k (take i b.rows) → get_or b.rows i [] ≡ wild ∷ []
      → (row_walk b i).calls ≡ k + 1
  pub named_missing : (k : ℕ) → FlatSubject b k → AllNamed b k b.rows → (missing_walk b).calls ≡ k + 1

-- so it is of every file that says a block, with a report or without
abbrev pub CostsOfRows : Type 0
CostsOfRows = (file : List ℕ) (b : Block) → block_of (lines file) ≡ parsed b → Costs b
