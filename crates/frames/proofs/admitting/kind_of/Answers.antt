-- `kind_of` meets its contract: the tests come in document 01's order.
use mathlib.Core.Path.{sym, ap, ◌∙◌}
use Rattle.scope.specs.Frames.{is_kind}
use Rattle.scope.specs.Blocks.{ok}
use Rattle.frames.proofs.Checks.{is-kind, unknown, out_of_place, too_many, not-whole, whole-frame}
use Rattle.frames.proofs.admitting.kind_of.Goals as goal

pub returns-in_default : goal.returns-in_default
returns-in_default c =
    unknown c.args.bytes.now c.args.at c.requires.at_in_bounds c.args.s c.args.last c.read_frame-f.result c.read_frame-f.ensures c.in_default.ensures

pub returns-then-not-stands : goal.returns-then-not-stands
returns-then-not-stands c =
    out_of_place c.args.bytes.now c.args.at c.requires.at_in_bounds c.args.s c.args.last c.read_frame-f.result c.read_frame-f.ensures (ap is_kind c.in-Ok.ensures ∙ is-kind c.in-Ok.kind) (sym c.stands.ensures ∙ c.if-not-stands.true)

pub returns-then-not-has_room : goal.returns-then-not-has_room
returns-then-not-has_room c =
    too_many c.args.bytes.now c.args.at c.requires.at_in_bounds c.args.s c.args.last c.read_frame-f.result c.read_frame-f.ensures (ap is_kind c.in-Ok.ensures ∙ is-kind c.in-Ok.kind) (sym c.stands.ensures ∙ c.if-not-stands.false) (sym c.has_room.ensures ∙ c.if-not-has_room.true)

pub returns-in-Ok-end : goal.returns-in-Ok-end
returns-in-Ok-end c =
    ap ok (sym c.in-Ok.ensures) ∙ whole-frame c.args.bytes.now c.args.at c.requires.at_in_bounds c.args.s c.args.last c.read_frame-f.result c.read_frame-f.ensures (ap is_kind c.in-Ok.ensures ∙ is-kind c.in-Ok.kind) (sym c.stands.ensures ∙ c.if-not-stands.false) (sym c.has_room.ensures ∙ c.if-not-has_room.false) c.in-Ok-end.field-0 c.in-Ok-end.is

pub returns-in-Err : goal.returns-in-Err
returns-in-Err c =
    not-whole c.args.bytes.now c.args.at c.requires.at_in_bounds c.args.s c.args.last c.read_frame-f.result c.read_frame-f.ensures (ap is_kind c.in-Ok.ensures ∙ is-kind c.in-Ok.kind) (sym c.stands.ensures ∙ c.if-not-stands.false) (sym c.has_room.ensures ∙ c.if-not-has_room.false) c.in-Err.field-0 c.in-Err.is
