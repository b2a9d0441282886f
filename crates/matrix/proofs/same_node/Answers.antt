-- `matrix::same_node` meets its contract: two literals, or numbers of which one says no literal.
use mathlib.Core.Path.{ap₂, ◌∙◌}
use mathlib.Core.Logic.{inl, inr}
use Rattle.heads.proofs.Nodes.{no_literal}
use Rattle.matrix.specs.Numbers.{same_lit}
use Rattle.matrix.proofs.Literals.{node-number, node-places}
use Rattle.matrix.proofs.same_node.Goals.{in_default-via-in-Literal+in_default, in_default-via-in_default}
use Rattle.matrix.proofs.same_node.Goals as goal

pub returns-in-Literal-Literal : goal.returns-in-Literal-Literal
returns-in-Literal-Literal c =
    let a = c.args in
    let l = c.in-Literal-Literal in
    c.same_literal.ensures ∙ ap₂ (same_lit a.bytes.now) c.from-in-Literal-Literal.ensures c.from-in-Literal-Literal-2.ensures ∙ node-places a.bytes.now a.h a.key l.a l.b l.ensures l.ensures'

pub returns-in_default : goal.returns-in_default
returns-in_default c =
    let a = c.args in
    node-number a.bytes.now a.h a.key (elim c.in_default.branch [
      | in_default-via-in-Literal+in_default w ↦ inr (no_literal a.key c.from-2.result c.from-2.ensures w.in_default.not-Literal-1)
      | in_default-via-in_default w ↦ inl (no_literal a.h c.from.result c.from.ensures w.in_default.not-Literal-0)
    ])
