-- The answer as numbers.
use Rattle.std.specs.Prelude.{◌≡◌, List, ℕ, length}
use Rattle.scope.specs.Answer.{said, answer, buffer_after, scratch_after}

-- a file was checked with a scratch and a report buffer: the answer's number, its line and its length, the buffer and the scratch afterwards
pub record Called (file scratch report : List ℕ) (number line long : ℕ) (report' scratch' : List ℕ) : Type 0 where
  pub number_is : number ≡ (said (answer file (length scratch) (length report))).number
  pub line_is : line ≡ (said (answer file (length scratch) (length report))).line
  pub length_is : long ≡ (said (answer file (length scratch) (length report))).long
  pub report_is : report' ≡ buffer_after file (length scratch) report
  pub scratch_is : scratch' ≡ scratch_after scratch
