-- What a whole check answers and leaves, from the outcome of its file.
use mathlib.Core.Path.{◌≡◌, refl, sym, ◌∙◌}
use mathlib.Core.List.{List}
use Prim.Native.Nat.{ℕ, ◌<◌}
use lib.ListN.{length, replicate}
use Rattle.scope.specs.declared.Answer.{Answer}
use Rattle.scope.specs.declared.Answer.TheVariants.{Refused}
use Rattle.scope.specs.Answer.{Outcome, refused, outcome, scratch_after}
use Rattle.scope.proofs.Answers.{outcome_1, answer_of, buffer_of}
use Rattle.fitting.specs.Given.{Given}
use Rattle.block.specs.Check.{Checked}

-- an outcome given, and the scratch cleared
pub checked : (file scratch report : List ℕ) (o : Outcome) (r : Answer) (report' scratch' : List ℕ) → outcome file (length scratch) (length report) ≡ o → Given o r report report' → scratch' ≡ replicate (length scratch) 0 → Checked file scratch report r report' scratch'
unfolding scratch_after
checked file scratch report o r report' scratch' e g z = record {
  answer_is = g.answer_is ∙ sym (answer_of file (length scratch) (length report) e);
  report_is = g.buffer_is ∙ sym (buffer_of file (length scratch) report e);
  scratch_is = z;
}

-- 1
pub short-scratch : (file scratch report report' scratch' : List ℕ) → length scratch < 16384 → report' ≡ report → scratch' ≡ replicate (length scratch) 0 → Checked file scratch report (Refused 1 0) report' scratch'
short-scratch file scratch report report' scratch' l h z = checked file scratch report (refused 1 0) (Refused 1 0) report' scratch' (outcome_1 file (length scratch) (length report) l) (record { answer_is = refl; buffer_is = h }) z
