-- `frame` meets its contract: no fault, and no bytes over.
use mathlib.Core.Path.{◌∙◌}
use Rattle.scope.specs.Frames.{frame}
use lib.ListN.{length, drop}
use Rattle.fields.proofs.Readers.{tells, passed_on, reached}
use Rattle.frames.proofs.Wholes.{frame-keeps, whole-fault, whole-over, whole-done}
use Rattle.frames.proofs.shape.frame.Goals as goal

pub returns-in_err-to : goal.returns-in_err-to
returns-in_err-to c =
    tells _ _ _ (passed_on _ _ _ c.in_err-to.was c.from_residual.ensures ∙ whole-fault (length c.args.bytes.now) (frame c.args.kind (drop c.args.at c.args.bytes.now)) c.held.result c.in_err-to.field-0.0 c.held.ensures c.in_err-to.was)

pub returns-then-to-bytes : goal.returns-then-to-bytes
returns-then-to-bytes c =
    tells _ _ _ (whole-over (frame c.args.kind) c.args.bytes.now c.args.at c.in_ok-to.to (reached (frame c.args.kind) (frame-keeps c.args.kind) c.args.bytes.now c.args.at c.in_ok-to.to c.held.result c.requires.at_in_bounds c.held.ensures c.in_ok-to.was) c.if-to-bytes.true)

pub returns : goal.returns
returns c =
    tells _ _ _ (whole-done (frame c.args.kind) c.args.bytes.now c.args.at c.in_ok-to.to (reached (frame c.args.kind) (frame-keeps c.args.kind) c.args.bytes.now c.args.at c.in_ok-to.to c.held.result c.requires.at_in_bounds c.held.ensures c.in_ok-to.was) c.if-to-bytes.false)
