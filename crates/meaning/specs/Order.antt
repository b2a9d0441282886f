-- Request 13, "Authors reorder clauses", over rows: what two blocks of the same types and subject share, as far as the same rows stand in both.
use mathlib.Core.List.{List, [], Subset}
use Rattle.std.specs.Prelude.{◌≡◌, ◌↔◌, false, ℕ, ◌<◌, length, get_or, take}
use Rattle.scope.specs.Lines.{lines}
use Rattle.scope.specs.Blocks.{Block, parsed, block_of}
use Rattle.scope.specs.Driver.{findings, verdicts, gaps}

-- the same members, in whatever order and however often
pub record SameMembers {A : Type 0} (l k : List A) : Type 0 where
  pub there : Subset l k
  pub back : Subset k l

-- What two blocks share
pub record OrderFree (b c : Block) : Type 0 where
  -- "a clause's verdict depends only on which clauses stand before it, and not on their order or repeats": the same row, after the same rows
  pub verdict : (i j : ℕ) → i < length b.rows → j < length c.rows → get_or b.rows i [] ≡ get_or c.rows j []
      → SameMembers (take i b.rows) (take j c.rows) → get_or (verdicts b) i false ≡ get_or (verdicts c) j false
  -- "whether gaps is 0 depends only on which clauses the block has"
  pub no_gaps : SameMembers b.rows c.rows → (length (gaps b) ≡ 0) ↔ (length (gaps c) ≡ 0)
  -- and more than the request asks: the missing rows are the same, in the same order, found in as many calls
  pub missing_rows : SameMembers b.rows c.rows → gaps b ≡ gaps c
  pub missing_calls : SameMembers b.rows c.rows → (findings b).missing.calls ≡ (findings c).missing.calls

-- two files say blocks of the same types and subject
pub record SameSubject (file file' : List ℕ) (b c : Block) : Type 0 where
  pub one : block_of (lines file) ≡ parsed b
  pub other : block_of (lines file') ≡ parsed c
  pub types : b.table ≡ c.table
  pub subject : b.subject ≡ c.subject

-- so it is of every two such files; that they get a report, the request's other premise, is not needed for it
abbrev pub OrderDoesNotMatter : Type 0
OrderDoesNotMatter = (file file' : List ℕ) (b c : Block) → SameSubject file file' b c → OrderFree b c
