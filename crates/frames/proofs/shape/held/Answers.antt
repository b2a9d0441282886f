-- `held` meets its contract, by the kind.
use Prim.Native.Nat.{ℕ}
use mathlib.Core.Path.{sym, ap, ◌∙◌}
use Rattle.scope.specs.Frames.{frame}
use Rattle.scope.specs.Numbers.{frame_byte}
use Rattle.fields.specs.Places.{read_at}
use Rattle.fields.proofs.Readers.{told}
use Rattle.frames.proofs.Wholes.{held-type, held-constructor, held-subject, held-clause, held-end, held_none}
use Rattle.frames.proofs.shape.held.Goals as goal

pub returns-in-Ok-TypeFrame : goal.returns-in-Ok-TypeFrame
returns-in-Ok-TypeFrame c =
    held-type c.args.bytes.now c.args.at c.type_frame.result (told _ _ c.type_frame.result c.type_frame.ensures) ∙ ap (λ (k : ℕ). read_at c.args.bytes.now c.args.at (frame k)) (sym (c.in-Ok-TypeFrame.ensures ∙ ap frame_byte c.in-Ok-TypeFrame.field-0-is))

pub returns-in-Ok-ConstructorFrame : goal.returns-in-Ok-ConstructorFrame
returns-in-Ok-ConstructorFrame c =
    held-constructor c.args.bytes.now c.args.at c.constructor_frame.result (told _ _ c.constructor_frame.result c.constructor_frame.ensures) ∙ ap (λ (k : ℕ). read_at c.args.bytes.now c.args.at (frame k)) (sym (c.in-Ok-ConstructorFrame.ensures ∙ ap frame_byte c.in-Ok-ConstructorFrame.field-0-is))

pub returns-in-Ok-SubjectFrame : goal.returns-in-Ok-SubjectFrame
returns-in-Ok-SubjectFrame c =
    held-subject c.args.bytes.now c.args.at c.byte.result (told _ _ c.byte.result c.byte.ensures) ∙ ap (λ (k : ℕ). read_at c.args.bytes.now c.args.at (frame k)) (sym (c.in-Ok-SubjectFrame.ensures ∙ ap frame_byte c.in-Ok-SubjectFrame.field-0-is))

pub returns-in-Ok-ClauseFrame : goal.returns-in-Ok-ClauseFrame
returns-in-Ok-ClauseFrame c =
    held-clause c.args.bytes.now c.args.at c.patterns.result (told _ _ c.patterns.result c.patterns.ensures) ∙ ap (λ (k : ℕ). read_at c.args.bytes.now c.args.at (frame k)) (sym (c.in-Ok-ClauseFrame.ensures ∙ ap frame_byte c.in-Ok-ClauseFrame.field-0-is))

pub returns-in-Ok-EndFrame : goal.returns-in-Ok-EndFrame
returns-in-Ok-EndFrame c =
    held-end c.args.bytes.now c.args.at c.requires.at_in_bounds ∙ ap (λ (k : ℕ). read_at c.args.bytes.now c.args.at (frame k)) (sym (c.in-Ok-EndFrame.ensures ∙ ap frame_byte c.in-Ok-EndFrame.field-0-is))

pub returns-in-Err : goal.returns-in-Err
returns-in-Err c =
    held_none c.args.bytes.now c.args.at c.args.kind c.requires.at_in_bounds c.in-Err.ensures
