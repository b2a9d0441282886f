-- Request 7, "What costs nothing to ask", over files and the last lines of their reports: when is a verdict cheap?
use Rattle.std.specs.Prelude.{List, [], ◌∷◌, ◌++◌, ◌≡◌, ℕ, ◌+◌, ◌*◌, ◌≤◌, ◌<◌, length, get_or}
use Rattle.scope.specs.Lists.{Text}
use Rattle.scope.specs.Patterns.{Raw}
use Rattle.scope.specs.Calls.{Counts, FewCalls}
use Rattle.meaning.specs.Costs.{row_walk, missing_walk, calls_to, FlatSubject, Costs}
use Rattle.meaning.specs.Tight.{Tight}
use Rattle.written.specs.Solid.{Solid}
use Rattle.promises.specs.Words.{calls_text}
use Rattle.promises.specs.Reviews.{Review, the_block, the_rows, the_clauses, the_lines, SameTypes, Lists, EveryReport}

-- a report's last line has these numbers of calls
pub record CallsAre (r : Review) (first second : ℕ) : Type 0 where
  pub above : List Text
  pub last : the_lines r ≡ above ++ calls_text first second ∷ []

-- The walks whose calls are bounded are those that the report is made of
pub record Counted (r : Review) : Type 0 where
  -- what the walk for row i says is listed as the verdict on clause i
  pub listed : (i : ℕ) → i < length (the_clauses r) → Lists r i (row_walk (the_block r) i).result
  -- the last line has the sum over rows, and the calls of the missing walk, and no other numbers
  pub summed : CallsAre r (calls_to (the_block r) (length (the_rows r))) (missing_walk (the_block r)).calls
  pub no_other : (first second : ℕ) → CallsAre r first second
      → (first ≡ calls_to (the_block r) (length (the_rows r))) × (second ≡ (missing_walk (the_block r)).calls)

-- the other file has the same types and subject, and one clause more after the same clauses
pub record OneMore (r s : Review) : Type 0 where
  pub types : SameTypes r s
  pub clause : List Raw
  pub clauses : the_clauses s ≡ the_clauses r ++ clause ∷ []

-- the first number of calls is greater by at most so many in the other report
abbrev pub GrowsBy : Review → Review → ℕ → Type 0
GrowsBy r s most = (first second first' second' : ℕ) → CallsAre r first second → CallsAre s first' second' → first' ≤ first + most

-- Request 7
pub record Request7 : Type 0 where
  -- the bounds, of every file that gets a report, and that its report sums what they bound
  pub costs : (r : Review) → Costs (the_block r)
  pub counted : (r : Review) → Counted r
  pub gets : EveryReport
  -- a clause that writes no discard, no variable and no spread holds no wildcard, and N can be counted as it is written
  pub written : (r : Review) (i N : ℕ) → i < length (the_clauses r) → Solid N (get_or (the_clauses r) i []) → Counts 0 N (get_or (the_rows r) i [])
  -- so with a flat subject the numbers themselves are bounded, the first by k + 1 for each clause
  pub flat_report : (r : Review) (k first second : ℕ) → FlatSubject (the_block r) k → CallsAre r first second
      → (first ≤ length (the_clauses r) * (k + 1)) × (second ≤ k + 1)
  -- and an editor that asks again with one clause more sees the first number grow by no more than the bound of its row
  pub solid_asked : (r s : Review) (N : ℕ) → OneMore r s → Counts 0 N (get_or (the_rows s) (length (the_clauses r)) []) → GrowsBy r s (N + 1)
  pub flat_asked : (r s : Review) (k : ℕ) → OneMore r s → FlatSubject (the_block s) k → GrowsBy r s (k + 1)
  -- the bounds of any rows whatever, whichever stand before
  pub any_rows : FewCalls
  -- and they are tight
  pub tight : Tight
