-- `declarations::tuple_type` meets its contract: the count, then so many bytes.
use mathlib.Core.Path.{◌≡◌, sym, ◌∙◌}
use Rattle.std.proofs.Common.{rules}
use Rattle.scope.specs.Lists.{among}
use Rattle.fields.proofs.Readers.{told}
use Rattle.declarations.proofs.Shapes.{counted_none, counted-types}
use Rattle.declarations.proofs.tuple_type.Goals as goal

pub returns-then-not-contains : goal.returns-then-not-contains
returns-then-not-contains c =
    let a = c.args in
    let fits : c.contains.result ≡ among 2 16 c.get-n.result = search rules in
    counted_none a.bytes.now a.at c.get-n.result c.get-n.ensures c.requires (sym fits ∙ c.if-not-contains.true)

pub returns : goal.returns
returns c =
    let a = c.args in
    let fits : c.contains.result ≡ among 2 16 c.get-n.result = search rules in
    counted-types a.bytes.now a.at c.get-n.result c.get-n.ensures c.skip.result c.from.result c.from.ensures (sym fits ∙ c.if-not-contains.false) (told _ _ _ c.skip.ensures)
