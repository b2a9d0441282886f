-- What the mission asks of a check, for every file and every pair of buffers.
use Rattle.std.specs.Prelude.{◌≡◌, List, ◌++◌, ℕ, ◌<◌, length, get_or, drop}
use Rattle.scope.specs.declared.Answer.{Answer}
use Rattle.scope.specs.Lists.{Text}
use Rattle.scope.specs.Patterns.{Raw}
use Rattle.scope.specs.Answer.{Said, said}
use Rattle.refusals.specs.Refusals.{Refuses, Reports}
use Rattle.agreement.specs.Agreement.{SourceAgrees}
use Rattle.promises.specs.Clauses.{ClausesOf, Demand3}
use Rattle.promises.specs.Words.{Words}

-- a report of so many bytes was written over a buffer, lent so many cells of scratch
pub record Reporting (file buffer : List ℕ) (cells long : ℕ) (buffer' : List ℕ) : Type 0 where
  -- demand 1: a report of that length is due: no row of document 01's table applies
  pub due : Reports file cells (length buffer) long
  -- the clauses as the file writes them
  pub clauses : List (List Raw)
  pub own : ClausesOf file clauses
  -- demand 2: verdicts and missing rows equal the Rust's, in text and order
  pub source : SourceAgrees clauses due.block
  -- demand 3: what verdicts and missing rows mean for the values that the clauses take
  pub meaning : Demand3 clauses due.block
  -- the first bytes of the buffer are a text in the report's words, and the rest are unchanged
  pub text : Text
  pub words : Words clauses due.block text
  pub is_long : length text ≡ long
  pub holds : buffer' ≡ text ++ drop long buffer

-- Demand 1: every file gets a report (number 0, line 0, its length) or one numbered refusal with its line, as document 01's table fixes it; a refusal
-- changes no byte of the buffer
pub data Answered (file buffer : List ℕ) (cells : ℕ) (buffer' : List ℕ) (a : Said) : Type 0 where
  a_report : a.number ≡ 0 → a.line ≡ 0 → Reporting file buffer cells a.long buffer' → Answered file buffer cells buffer' a
  a_refusal : Refuses file cells (length buffer) a.number a.line → a.long ≡ 0 → buffer' ≡ buffer → Answered file buffer cells buffer' a

-- a check of a file with a scratch and a report buffer: its answer r, the buffer and the scratch afterwards
pub record Mission (file scratch buffer : List ℕ) (r : Answer) (buffer' scratch' : List ℕ) : Type 0 where
  pub answered : Answered file buffer (length scratch) buffer' (said r)
  -- lent scratch is all zero on return, for every answer
  pub scratch_long : length scratch' ≡ length scratch
  pub scratch_zero : (i : ℕ) → i < length scratch → get_or scratch' i 1 ≡ 0
