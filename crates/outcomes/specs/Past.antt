-- A call held to the limits, a row more held to the limit of nodes, and a leaf's rows with its call.
use Rattle.std.specs.Prelude.{Bool, cond, ◌||◌, ℕ, ◌+◌, leb, ltb, Result, Ok, Err}
use Rattle.scope.specs.Limits.{max_calls, max_missing}
use Rattle.scope.specs.Blocks.{Step, ok, refuse}
use Rattle.outcomes.specs.declared.TooMuch.{TooMuch}
use Rattle.outcomes.specs.declared.Verdict.{Verdict}
use Rattle.outcomes.specs.declared.Spelt.{Spelt}
use Rattle.outcomes.specs.declared.Seek.{Seek}

-- document 01's number and values for each case: whether the row is useful, and the calls; 10
abbrev pub said_verdict : Result Verdict TooMuch → Step (Bool × ℕ)
said_verdict (Ok v) = ok (v.yes, v.calls)
said_verdict (Err e) = refuse 10

-- how many nodes and rows are written; 10
abbrev pub said_spelt : Result Spelt TooMuch → Step (ℕ × ℕ)
said_spelt (Ok r) = ok (r.written, r.rows)
said_spelt (Err e) = refuse 10

-- how many nodes and rows are written, and the calls; 10
abbrev pub said_seek : Result Seek TooMuch → Step (ℕ × (ℕ × ℕ))
said_seek (Ok r) = ok (r.written, (r.rows, r.calls))
said_seek (Err e) = refuse 10

-- is a call that holds so many cells past a limit, after so many calls and with room for so many cells
unfoldable pub past : ℕ → ℕ → ℕ → Bool
past calls cells room = ltb room cells || leb max_calls calls

-- one row more, after which so many nodes are written
unfoldable pub fitting : ℕ → ℕ → Step (ℕ × ℕ)
fitting at rows = cond (leb at max_missing) (ok (at, rows + 1)) (refuse 10)

-- a leaf's rows, and its call counted
abbrev pub counting : Step (ℕ × ℕ) → ℕ → Step (ℕ × (ℕ × ℕ))
counting (ok (w, k)) calls = ok (w, (k, calls + 1))
counting (refuse n) calls = refuse n
