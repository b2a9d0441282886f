-- What both walks find in a block.
use Rattle.std.specs.Prelude.{◌≡◌, true, false, List, ℕ, Result, Ok, Err, length, take}
use Rattle.scope.specs.Lists.{flatten}
use Rattle.scope.specs.Blocks.{Block, Step, ok, refuse, nodes_in}
use Rattle.scope.specs.Driver.{findings, too_much}
use Rattle.layout.specs.Nodes.{row_of}
use Rattle.verdicts.specs.Verdicts.{said}
use Rattle.outcomes.specs.declared.TooMuch.{TooMuch}
use Rattle.judging.specs.declared.Walks.{Walks}

-- document 01's number and values for each case: the first walk's calls, how many nodes and rows are missing, the second walk's calls; 10
abbrev pub said_walks : Result Walks TooMuch → Step (ℕ × (ℕ × (ℕ × ℕ)))
said_walks (Ok w) = ok (w.first, (w.written, (w.gaps, w.second)))
said_walks (Err e) = refuse 10

-- what both walks find in a block: 10, too much work, or the verdicts, the missing rows one after another, and the calls of both kinds
pub data Walked (bytes : List ℕ) (b : Block) (verdicts out : List ℕ) : Step (ℕ × (ℕ × (ℕ × ℕ))) → Type 0 where
  over : too_much (findings b) ≡ true → Walked bytes b verdicts out (refuse 10)
  done : {first written gaps second : ℕ} → too_much (findings b) ≡ false → said (take (length b.rows) verdicts) ≡ (findings b).reached.result → row_of bytes (take written out) ≡ flatten (findings b).missing.result
      → written ≡ nodes_in (findings b).missing.result → gaps ≡ length (findings b).missing.result
      → first ≡ (findings b).reached.calls → second ≡ (findings b).missing.calls → Walked bytes b verdicts out (ok (first, (written, (gaps, second))))
