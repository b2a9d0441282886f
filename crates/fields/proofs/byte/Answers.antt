-- `fields::byte` meets its contract: a byte that passes no test.
use mathlib.Core.Path.{refl, ◌∙◌}
use Rattle.fields.proofs.Readers.{tells, any, passing-ends, passing-goes, byte_at}
use Rattle.fields.proofs.byte.Goals as goal

pub returns-then-at-bytes : goal.returns-then-at-bytes
returns-then-at-bytes c =
    tells _ _ _ (passing-goes any c.args.bytes.now c.args.at c.if-at-bytes.true refl ∙ byte_at c.args.bytes.now c.args.at)

pub returns-else-at-bytes : goal.returns-else-at-bytes
returns-else-at-bytes c =
    tells _ _ _ (passing-ends any c.args.bytes.now c.args.at c.requires c.if-at-bytes.false ∙ byte_at c.args.bytes.now c.args.at)
