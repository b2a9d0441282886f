-- `declarations::type_frame` meets its contract, by the kind of type.
use mathlib.Core.Path.{ap, ◌∙◌}
use Rattle.scope.specs.Numbers.{type_byte}
use Rattle.fields.proofs.Readers.{tells, told}
use Rattle.declarations.proofs.Shapes.{type-end, type-integer, type-bytes, type-opaque, type-list, type-tuple, type-pair, type_data, type-none}
use Rattle.declarations.proofs.type_frame.Goals as goal

pub returns-then-bytes-at : goal.returns-then-bytes-at
returns-then-bytes-at c =
    tells _ _ _ (type-end c.args.bytes.now c.args.at c.requires c.if-bytes-at.true)

pub returns-in-Ok-Integer : goal.returns-in-Ok-Integer
returns-in-Ok-Integer c =
    tells _ _ _ (type-integer c.args.bytes.now c.args.at c.if-bytes-at.false (c.in-Ok-Integer.ensures ∙ ap type_byte c.in-Ok-Integer.field-0-is))

pub returns-in-Ok-ByteString : goal.returns-in-Ok-ByteString
returns-in-Ok-ByteString c =
    tells _ _ _ (type-bytes c.args.bytes.now c.args.at c.if-bytes-at.false (c.in-Ok-ByteString.ensures ∙ ap type_byte c.in-Ok-ByteString.field-0-is))

pub returns-in-Ok-Opaque : goal.returns-in-Ok-Opaque
returns-in-Ok-Opaque c =
    tells _ _ _ (type-opaque c.args.bytes.now c.args.at c.if-bytes-at.false (c.in-Ok-Opaque.ensures ∙ ap type_byte c.in-Ok-Opaque.field-0-is))

pub returns-in-Ok-List : goal.returns-in-Ok-List
returns-in-Ok-List c =
    tells _ _ _ (type-list c.args.bytes.now c.args.at c.if-bytes-at.false c.byte.result (c.in-Ok-List.ensures ∙ ap type_byte c.in-Ok-List.field-0-is) (told _ _ _ c.byte.ensures))

pub returns-in-Ok-Tuple : goal.returns-in-Ok-Tuple
returns-in-Ok-Tuple c =
    tells _ _ _ (type-tuple c.args.bytes.now c.args.at c.if-bytes-at.false c.tuple_type.result (c.in-Ok-Tuple.ensures ∙ ap type_byte c.in-Ok-Tuple.field-0-is) c.tuple_type.ensures)

pub returns-in-Ok-Pair : goal.returns-in-Ok-Pair
returns-in-Ok-Pair c =
    tells _ _ _ (type-pair c.args.bytes.now c.args.at c.if-bytes-at.false c.skip.result (c.in-Ok-Pair.ensures ∙ ap type_byte c.in-Ok-Pair.field-0-is) (told _ _ _ c.skip.ensures))

pub returns-in-Ok-Data : goal.returns-in-Ok-Data
returns-in-Ok-Data c =
    tells _ _ _ (type_data c.args.bytes.now c.args.at c.if-bytes-at.false (c.in-Ok-Data.ensures ∙ ap type_byte c.in-Ok-Data.field-0-is))

pub returns-in-Err : goal.returns-in-Err
returns-in-Err c =
    tells _ _ _ (type-none c.args.bytes.now c.args.at c.if-bytes-at.false c.in-Err.ensures)
