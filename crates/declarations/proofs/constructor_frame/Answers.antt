-- `declarations::constructor_frame` meets its contract: the name, then the fields.
use mathlib.Core.Path.{◌∙◌}
use mathlib.Core.Bool.{true}
use Rattle.scope.specs.Frames.{big_name}
use Rattle.fields.proofs.Readers.{passed_on, tells, told, reached}
use Rattle.fields.proofs.Readings.{name-keeps}
use Rattle.declarations.proofs.Shapes.{constructor-name, constructor-fields}
use Rattle.declarations.proofs.constructor_frame.Goals as goal

pub returns-in_err-from : goal.returns-in_err-from
returns-in_err-from c =
    tells _ _ _ (passed_on _ _ _ c.in_err-from.was c.from_residual.ensures ∙ constructor-name c.args.bytes.now c.args.at c.name.result c.in_err-from.field-0.0 (told _ _ _ c.name.ensures) c.in_err-from.was)

pub fields-requires : goal.fields-requires
fields-requires c =
    (reached big_name (name-keeps true) c.args.bytes.now c.args.at c.in_ok-from.from c.name.result c.requires (told _ _ _ c.name.ensures) c.in_ok-from.was).inside

pub returns : goal.returns
returns c =
    tells _ _ _ (constructor-fields c.args.bytes.now c.args.at c.fields.result c.in_ok-from.from (reached big_name (name-keeps true) c.args.bytes.now c.args.at c.in_ok-from.from c.name.result c.requires (told _ _ _ c.name.ensures) c.in_ok-from.was) c.fields.ensures)
