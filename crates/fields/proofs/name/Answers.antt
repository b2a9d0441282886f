-- `fields::name` meets its contract: its length, its first byte, the others.
use mathlib.Core.Path.{sym, ◌∙◌}
use Rattle.fields.proofs.Readings.{name-length, name-first, name-others}
use Rattle.fields.proofs.Readers.{tells}
use Rattle.fields.proofs.name.Goals as goal

pub returns-then-not-is_name_length : goal.returns-then-not-is_name_length
returns-then-not-is_name_length c =
    let a = c.args in
    tells _ _ _ (name-length a.big a.bytes.now a.at c.get-n.result c.requires c.get-n.ensures (sym c.is_name_length.ensures ∙ c.if-not-is_name_length.true))

pub returns-then-not-is_letter : goal.returns-then-not-is_letter
returns-then-not-is_letter c =
    let a = c.args in
    tells _ _ _ (name-first a.big a.bytes.now a.at c.get-n.result c.requires c.get-n.ensures c.get.result c.get.ensures (sym c.is_name_length.ensures ∙ c.if-not-is_name_length.false) (sym c.is_letter.ensures ∙ c.if-not-is_letter.true))

pub returns : goal.returns
returns c =
    let a = c.args in
    tells _ _ _ (name-others a.big a.bytes.now a.at c.get-n.result c.requires c.get-n.ensures c.get.result c.get.ensures (sym c.is_name_length.ensures ∙ c.if-not-is_name_length.false) c.letters.result c.from.result c.from.ensures (sym c.is_letter.ensures ∙ c.if-not-is_letter.false) c.letters.ensures)
