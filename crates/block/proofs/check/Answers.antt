-- `block::check` meets its contract: refusal 1, else what the driver answers.
use mathlib.Core.Path.{refl, sym, subst}
use Rattle.scope.specs.declared.Answer.{Answer}
use Rattle.block.specs.Check.{Checked}
use Rattle.block.proofs.Answering.{short-scratch, checked}
use Rattle.block.proofs.check.Goals as goal

pub returns-then-scratch-lt16384 : goal.returns-then-scratch-lt16384
returns-then-scratch-lt16384 c =
    subst (λ (a : Answer). Checked c.args.file.now c.args.scratch.now c.args.report.now a c.args.report.now c.clear.new.s) (sym c.refused.ensures) (short-scratch c.args.file.now c.args.scratch.now c.args.report.now _ c.clear.new.s c.if-scratch-lt16384.true refl c.clear.ensures)

pub returns : goal.returns
returns c =
    (checked c.args.file.now c.args.scratch.now c.args.report.now _ c.answer.result c.answer.new.report c.answer.new.scratch refl c.answer.ensures.given c.answer.ensures.scratch_after)
