-- What the walks of usefulness may assume, and what they leave.
use Rattle.std.specs.Prelude.{◌≡◌, Bool, cond, List, ◌++◌, map, ℕ, ◌+◌, ◌*◌, ◌-◌, ◌≤◌, ◌<◌, ◌⊎◌, length, get_or, take, drop, replicate, Result}
use Rattle.scope.specs.Walks.{Walk}
use Rattle.scope.specs.Blocks.{Step, ok, refuse}
use Rattle.outcomes.specs.declared.TooMuch.{TooMuch}
use Rattle.outcomes.specs.declared.Verdict.{Verdict}
use Rattle.matrix.specs.Numbers.{head_of, seen_of, matrix}
use Rattle.walks.specs.Walks.{any_from, useful_by, useful_alt, useful_seen, useful_of}
use Rattle.matrix.specs.Places.{Places, Patterned, Sizes}
use Rattle.outcomes.specs.Past.{said_verdict}
use Rattle.walks.specs.Limits.{within}

-- the new row: w invented wildcards, then a part of the table
abbrev pub new_row : ℕ → List ℕ → List ℕ
new_row w row = replicate w 0 ++ row

-- a head, and the row behind it: an invented wildcard, or what stands first in the table
abbrev pub Splits : ℕ → List ℕ → ℕ → ℕ → List ℕ → Type 0
Splits w row h w' row' = ((0 < w) × (h ≡ 0) × (w' ≡ w - 1) × (row' ≡ row)) ⊎ ((w ≡ 0) × (h ≡ get_or row 0 0) × (w' ≡ 0) × (row' ≡ drop 1 row))

-- A matrix of rows of n patterns at the front of the scratch s, and the new row. Of 16,384 cells of scratch an open call takes at most 64, and its cells, rows + 1 at least, leave the room: so the scratch never ends before the room does
pub record Ready (nodes left counts arities row : List ℕ) (w n : ℕ) (s : List ℕ) (rows room : ℕ) : Type 0 where
  pub sizes : Sizes nodes arities
  pub places : Places nodes left counts arities n (take rows s)
  pub pats : Patterned arities row (n - w)
  pub inside : w ≤ n
  pub low : rows ≤ 64
  pub space : 16384 + 64 * room ≤ 65 * length s
  pub cap : room ≤ 16384
  pub wide : n ≤ 16640

-- the same on the way into a specialised matrix, its own cells counted; k patterns of the new row are left
pub record Work (nodes left counts arities row : List ℕ) (w k n : ℕ) (s : List ℕ) (rows room : ℕ) : Type 0 where
  pub sizes : Sizes nodes arities
  pub places : Places nodes left counts arities n (take rows s)
  pub pats : Patterned arities row (k - w)
  pub inside : w ≤ k
  pub low : rows ≤ 64
  pub space : 16384 + 64 * room + 65 * rows ≤ 65 * length s
  pub cap : room ≤ 16384
  pub wide : n ≤ 16384
  pub some : 0 < n

-- what the answer of `is_useful` says: 10 exactly when a limit is passed
unfoldable pub limited : ℕ → ℕ → Walk Bool → Step (Bool × ℕ)
limited calls room w = cond (within calls room w) (ok (w.result, calls + w.calls)) (refuse 10)

-- what a walk leaves: the matrix at the front of the scratch s, which is e in the end, and the answer r that the limits make of the walk o
pub record Walked (s : List ℕ) (rows : ℕ) (e : List ℕ) (r : Result Verdict TooMuch) (calls room : ℕ) (o : Walk Bool) : Type 0 where
  pub kept : take rows e ≡ take rows s
  pub is : said_verdict r ≡ limited calls room o

-- The walks that the code makes, of the matrix at the front of the scratch s and the new row
module _ (bytes nodes left counts arities row : List ℕ) (w n : ℕ) (s : List ℕ) (rows : ℕ) where
  -- into the matrix specialised by key
  abbrev pub into_walk : ℕ → Walk Bool
  into_walk key = useful_by bytes counts arities (useful_of bytes counts arities) (n - 1) (matrix nodes left n (take rows s)) (new_row w row) key

  -- into the constructors key, key + 1, .., more of them, up to the first yes
  abbrev pub each_walk : ℕ → ℕ → Walk Bool
  each_walk key more = any_from (useful_alt bytes counts arities (useful_of bytes counts arities) (n - 1) (matrix nodes left n (take rows s)) (new_row w row)) key more

  -- below a head wildcard
  abbrev pub wild_walk : Walk Bool
  wild_walk = useful_seen bytes counts arities (useful_of bytes counts arities) (seen_of counts (map head_of (matrix nodes left n (take rows s)))) (n - 1) (matrix nodes left n (take rows s)) (new_row w row)

  -- of the whole new row
  abbrev pub useful_walk : Walk Bool
  useful_walk = useful_of bytes counts arities n (matrix nodes left n (take rows s)) (new_row w row)
