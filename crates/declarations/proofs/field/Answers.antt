-- `declarations::field` meets its contract: the type, then the label.
use mathlib.Core.Path.{◌∙◌}
use native.Mathlib.Omega.{arith}
use Rattle.fields.proofs.Readers.{passed_on, told, byte-passed}
use Rattle.declarations.proofs.Shapes.{field-type, field_label}
use Rattle.declarations.proofs.field.Goals as goal

pub returns-in_err-from : goal.returns-in_err-from
returns-in_err-from c =
    passed_on _ _ _ c.in_err-from.was c.from_residual.ensures
    ∙ field-type c.args.bytes.now c.args.at c.byte.result c.in_err-from.field-0.0 (told _ _ _ c.byte.ensures) c.in_err-from.was

pub name-requires : goal.name-requires
name-requires c =
    let x = byte-passed c.args.bytes.now c.args.at c.in_ok-from.from c.byte.result c.requires (told _ _ _ c.byte.ensures) c.in_ok-from.was in
    omega (arith, x.next, x.inside)

pub returns : goal.returns
returns c =
    field_label c.args.bytes.now c.args.at c.name.result c.in_ok-from.from (byte-passed c.args.bytes.now c.args.at c.in_ok-from.from c.byte.result c.requires (told _ _ _ c.byte.ensures) c.in_ok-from.was) (told _ _ _ c.name.ensures)
