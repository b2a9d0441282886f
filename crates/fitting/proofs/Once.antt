-- Any two outcomes that the contract of `say` permits are equal where the slices say findings, from what an outcome is.
use mathlib.Core.Path.{◌≡◌, sym, ◌∙◌}
use mathlib.Core.List.{List}
use Prim.Native.Nat.{ℕ}
use lib.ListN.{length}
use Rattle.scope.specs.declared.Answer.{Answer}
use Rattle.scope.specs.Types.{Table}
use Rattle.scope.specs.Driver.{Findings}
use Rattle.scope.specs.Report.{report}
use Rattle.scope.specs.Answer.{Outcome, fitted}
use Rattle.text.specs.Rows.{Slices}
use Rattle.text.specs.Findings.{Says}
use Rattle.fitting.specs.Given.{Given}

pub one-given : {o : Outcome} {r s : Answer} {d a b : List ℕ} → Given o r d a → Given o s d b → (r ≡ s) × (a ≡ b)
one-given h k = (h.answer_is ∙ sym k.answer_is, h.buffer_is ∙ sym k.buffer_is)

module _ (s : Slices) (verdicts : List ℕ) (gaps first second : ℕ) where
  -- what the contract says of one outcome
  abbrev pub Fits : Answer → List ℕ → List ℕ → Type 0
  Fits r entry exit = (table : Table) (f : Findings) → Says s verdicts gaps first second table f → Given (fitted (length entry) (report table f)) r entry exit

  pub one-saying : (table : Table) (f : Findings) → Says s verdicts gaps first second table f → (entry a b : List ℕ) (q r : Answer) → Fits q entry a → Fits r entry b → (q ≡ r) × (a ≡ b)
  one-saying table f says entry a b q r h k = one-given (h table f says) (k table f says)
