-- `looks::name_of` meets its contract: a part of the fixed names, or the name among the bytes.
use mathlib.Core.Path.{ap, ◌∙◌}
use lib.ListN.{take, drop}
use Rattle.scope.specs.Lists.{Text}
use Rattle.naming.proofs.Naming.{name-cons, name-nil, name-tuple, name-declared}
use Rattle.looks.proofs.Nodes.{is_kind, no_kind}
use Rattle.looks.proofs.name_of.Goals as goal

pub returns-then-c-eq0-clause-result_value : goal.returns-then-c-eq0-clause-result_value
returns-then-c-eq0-clause-result_value c =
    let a = c.args in
    ap (take 2) c.requires ∙ name-cons a.bytes.now a.kind a.c a.place (is_kind _ _ _ _ c.try_from-kind.ensures c.if-eq.ensures) c.if-c-eq0.true

pub returns-else-c-eq0-clause-result_value : goal.returns-else-c-eq0-clause-result_value
returns-else-c-eq0-clause-result_value c =
    let a = c.args in
    ap (λ (x : Text). take 2 (drop 2 x)) c.requires ∙ name-nil a.bytes.now a.kind a.c a.place (is_kind _ _ _ _ c.try_from-kind.ensures c.if-eq.ensures) c.if-c-eq0.false

pub returns-then-eq-2-clause-result_value : goal.returns-then-eq-2-clause-result_value
returns-then-eq-2-clause-result_value c =
    let a = c.args in
    c.name_at.ensures.result_value ∙ name-declared a.bytes.now a.kind a.c a.place (is_kind _ _ _ _ c.try_from-kind.ensures c.if-eq-2.ensures)

pub returns-clause-result_value : goal.returns-clause-result_value
returns-clause-result_value c =
    let a = c.args in
    ap (λ (x : Text). take 7 (drop 4 x)) c.requires ∙ name-tuple a.bytes.now a.kind a.c a.place (no_kind _ _ _ _ c.try_from-kind.ensures c.if-eq.ensures) (no_kind _ _ _ _ c.try_from-kind.ensures c.if-eq-2.ensures)
