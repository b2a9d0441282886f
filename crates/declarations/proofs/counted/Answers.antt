-- `declarations::counted` meets its contract: the arity, then fields with labels or without.
use Prim.Native.Nat.{ℕ}
use mathlib.Core.Path.{sym, ap, ◌∙◌}
use Rattle.scope.specs.Lists.{among}
use Rattle.fields.proofs.Readers.{told}
use Rattle.declarations.proofs.Shapes.{flag_is, arity-stops, fields-plain, fields-labelled}
use Rattle.declarations.proofs.counted.Goals as goal

pub returns-then-not-is_arity : goal.returns-then-not-is_arity
returns-then-not-is_arity c =
    let a = c.args in
    let said = c.is_arity.ensures ∙ ap (λ (k : ℕ). among k 16 c.get-n.result) (flag_is a.labels c.from.result c.from.ensures) in
    arity-stops a.bytes.now a.at a.labels c.get-n.result c.requires c.get-n.ensures (sym said ∙ c.if-not-is_arity.true)

pub returns-then-labels : goal.returns-then-labels
returns-then-labels c =
    let a = c.args in
    let said = c.is_arity.ensures ∙ ap (λ (k : ℕ). among k 16 c.get-n.result) (flag_is a.labels c.from.result c.from.ensures) in
    fields-labelled a.bytes.now a.at a.labels c.get-n.result c.requires c.get-n.ensures (sym said ∙ c.if-not-is_arity.false) c.labelled.result c.from-then-labels.result c.from-then-labels.ensures c.if-labels.true c.labelled.ensures

pub returns-else-labels : goal.returns-else-labels
returns-else-labels c =
    let a = c.args in
    let said = c.is_arity.ensures ∙ ap (λ (k : ℕ). among k 16 c.get-n.result) (flag_is a.labels c.from.result c.from.ensures) in
    fields-plain a.bytes.now a.at a.labels c.get-n.result c.requires c.get-n.ensures (sym said ∙ c.if-not-is_arity.false) c.skip.result c.from-else-labels.result c.from-else-labels.ensures c.if-labels.false (told _ _ _ c.skip.ensures)
