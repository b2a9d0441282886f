-- `reading::line::enter_subject` meets its contract: a sound subject, or 7.
use mathlib.Core.Path.{◌∙◌}
use Rattle.reading.specs.Enters.{unsound, sound}
use Rattle.reading.proofs.Numbers.{subject-bit}
use Rattle.reading.proofs.line.enter_subject.Goals as goal

pub returns-then-not-is_sound : goal.returns-then-not-is_sound
returns-then-not-is_sound c =
    let t = c.args.types.now in
    unsound (subject-bit t.kinds.now t.counts.now t.arities.now t.starts.now t.fields.now c.args.s.fields c.args.s.types _ _ (c.from-t.ensures ∙ c.get.ensures) c.is_sound.ensures ∙ c.if-not-is_sound.true)

pub returns : goal.returns
returns c =
    let t = c.args.types.now in
    let n = c.after_subject.ensures in
    sound (subject-bit t.kinds.now t.counts.now t.arities.now t.starts.now t.fields.now c.args.s.fields c.args.s.types _ _ (c.from-t.ensures ∙ c.get.ensures) c.is_sound.ensures ∙ c.if-not-is_sound.false) (record { phase_is = n.phase_is; types_are = n.types_are; ctors_are = n.ctors_are; fields_are = n.fields_are; subject_is = n.subject_is ∙ c.from-t.ensures ∙ c.get.ensures; clauses_are = n.clauses_are; used_is = n.used_is; count_is = n.count_is })
