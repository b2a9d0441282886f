-- The table is exactly the definition `answer`: what is to be proved of the two, and where a refusal stands.
use Rattle.std.specs.Prelude.{◌≡◌, List, ◌↔◌, ℕ, ◌+◌, ◌≤◌, length}
use Rattle.scope.specs.declared.Answer.{Answer}
use Rattle.scope.specs.declared.Answer.TheVariants.{Report, Refused}
use Rattle.scope.specs.Lines.{lines}
use Rattle.scope.specs.Answer.{answer}
use Rattle.refusals.specs.Refusals.{Refuses, Reports}

-- an answer that document 01 gives for a file
pub data Answers (file : List ℕ) (cells room : ℕ) : Answer → Type 0 where
  refusal : {n k : ℕ} → Refuses file cells room n k → Answers file cells room (Refused n k)
  a_report : {L : ℕ} → Reports file cells room L → Answers file cells room (Report L)

-- there is one, and no other
pub record OneAnswer (file : List ℕ) (cells room : ℕ) : Type 0 where
  pub given : Answer
  pub is : Answers file cells room given
  pub only : (other : Answer) → Answers file cells room other → other ≡ given

-- where a refusal stands in a file of so many lines: 3 to 9 at one of them, 5 also at the last + 1, the others at none
pub data AtLine (last : ℕ) : ℕ → ℕ → Type 0 where
  itself : {n k : ℕ} → 3 ≤ n → n ≤ 9 → 1 ≤ k → k ≤ last → AtLine last n k
  no_end : AtLine last 5 (last + 1)
  short_scratch : AtLine last 1 0
  long_file : AtLine last 2 0
  too_much_work : AtLine last 10 0
  long_report : AtLine last 11 0

-- the table and the definition agree for every file, scratch and buffer
pub record Exactly : Type 0 where
  -- the answer is `Refused n k` exactly when a row says so
  pub refused : (file : List ℕ) (cells room n k : ℕ) → (answer file cells room ≡ Refused n k) ↔ Refuses file cells room n k
  -- and a report of L bytes exactly when that is due
  pub report : (file : List ℕ) (cells room L : ℕ) → (answer file cells room ≡ Report L) ↔ Reports file cells room L
  -- where no row applies a report is due
  pub otherwise : (file : List ℕ) (cells room : ℕ) → ((n k : ℕ) → Refuses file cells room n k → ⊥) → (L : ℕ) × Reports file cells room L
  -- so each file has exactly one answer
  pub one : (file : List ℕ) (cells room : ℕ) → OneAnswer file cells room
  -- and a refusal stands at a line that is there
  pub line : (file : List ℕ) (cells room n k : ℕ) → Refuses file cells room n k → AtLine (length (lines file)) n k
