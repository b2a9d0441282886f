-- What `check` promises.
use Rattle.std.specs.Prelude.{◌≡◌, List, ℕ, length}
use Rattle.scope.specs.declared.Answer.{Answer}
use Rattle.scope.specs.Answer.{answer, buffer_after, scratch_after}

-- a file was checked with a scratch and a report buffer: the answer r, the report buffer and the scratch afterwards
pub record Checked (file scratch report : List ℕ) (r : Answer) (report' scratch' : List ℕ) : Type 0 where
  pub answer_is : r ≡ answer file (length scratch) (length report)
  pub report_is : report' ≡ buffer_after file (length scratch) report
  pub scratch_is : scratch' ≡ scratch_after scratch

-- two answers, two report buffers and two scratches afterwards are one outcome
pub record Same (r s : Answer) (b c x y : List ℕ) : Type 0 where
  pub answers : r ≡ s
  pub reports : b ≡ c
  pub scratches : x ≡ y
