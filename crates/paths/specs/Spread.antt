-- What the writing of rows may assume, and what it leaves.
use Rattle.std.specs.Prelude.{◌≡◌, cond, List, map, ℕ, ◌+◌, ◌≤◌, ◌<◌, length, get_or, leb, Result, Ok}
use Rattle.std.proofs.lemmas.List.Edits.{sets}
use Rattle.scope.specs.Limits.{max_missing}
use Rattle.scope.specs.Lists.{sum, flatten}
use Rattle.scope.specs.Blocks.{Step, ok, refuse}
use Rattle.outcomes.specs.Past.{said_spelt}
use Rattle.outcomes.specs.declared.Spelt.{Spelt}
use Rattle.outcomes.specs.declared.TooMuch.{TooMuch}
use Rattle.matrix.specs.Numbers.{Rows}

-- the constructors and wildcards of rows
abbrev pub nodes_of : Rows → ℕ
nodes_of m = sum (map length m)

-- the list vs is written from a place on, up to the end of d: the place after it, and what d is then
pub record Put (d : List ℕ) (at : ℕ) (vs : List ℕ) (r : ℕ) (e : List ℕ) : Type 0 where
  pub place : r ≡ at + length vs
  pub text : e ≡ sets d at vs

-- what is said of rows written out after so many nodes and rows: 10 exactly when the nodes are over 4,096
unfoldable pub fitted : ℕ → ℕ → Rows → Step (ℕ × ℕ)
fitted written rows m = cond (leb (written + nodes_of m) max_missing) (ok (written + nodes_of m, rows + length m)) (refuse 10)

-- the answer r of writing the rows m out to d
pub record Spread (d : List ℕ) (written rows : ℕ) (m : Rows) (r : Result Spelt TooMuch) (e : List ℕ) : Type 0 where
  pub is : said_spelt r ≡ fitted written rows m
  pub long : length e ≡ length d
  pub text : (v : Spelt) → r ≡ Ok v → e ≡ sets d written (flatten m)
  pub few : (v : Spelt) → r ≡ Ok v → v.rows ≤ v.written

-- the constructors of the first cells of a path, and 32 more, are numbers of 16 bits
pub record Low (path : List ℕ) (depth : ℕ) : Type 0 where
  pub each : (i : ℕ) → i < depth → get_or path i 0 + 32 < 65536

-- k of the steps of a path are still to be chosen, in front of n wildcards; no row is without a node
pub record Spelling (path alts : List ℕ) (depth k n written rows : ℕ) : Type 0 where
  pub inside : k ≤ depth
  pub long_path : depth ≤ length path
  pub long_alts : depth ≤ length alts
  pub deep : depth ≤ 16384
  pub wide : n ≤ 16640
  pub low : Low path k
  pub some : 0 < depth + n
  pub within : written ≤ 4096
  pub few : rows ≤ written
