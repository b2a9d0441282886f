-- What the exported function promises, from what `check` and `tell` promise.
use mathlib.Core.Path.{◌≡◌, ap, ◌∙◌}
use mathlib.Core.List.{List}
use Prim.Native.Nat.{ℕ}
use Rattle.scope.specs.declared.Answer.{Answer}
use Rattle.scope.specs.Answer.{said}
use Rattle.block.specs.Check.{Checked}
use Rattle.block.specs.Called.{Called}

pub called : (file scratch report : List ℕ) (r : Answer) (report' scratch' : List ℕ) (number line long : ℕ) → Checked file scratch report r report' scratch' → (number ≡ (said r).number) × ((line ≡ (said r).line) × (long ≡ (said r).long)) → Called file scratch report number line long report' scratch'
called file scratch report r report' scratch' number line long c t = record {
  number_is = t.0 ∙ ap (λ (x : Answer). (said x).number) c.answer_is;
  line_is = t.1.0 ∙ ap (λ (x : Answer). (said x).line) c.answer_is;
  length_is = t.1.1 ∙ ap (λ (x : Answer). (said x).long) c.answer_is;
  report_is = c.report_is;
  scratch_is = c.scratch_is;
}
