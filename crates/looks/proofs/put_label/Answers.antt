-- `looks::put_label` meets its contract: the label, and a colon before what is no wildcard.
use mathlib.Core.Path.{ap, sym, ◌∙◌}
use mathlib.Core.List.{◌++◌}
use borrow.Author.Tests.{eqb-true, eqb-false}
use Rattle.scope.specs.Lists.{Text, bytes}
use Rattle.layout.specs.Types.{text_at}
use Rattle.writing.proofs.Writing.{writes_more, writes_as}
use Rattle.looks.proofs.Nodes.{label_wild, label_colon}
use Rattle.looks.proofs.put_label.Goals as goal

pub returns-then-not-is_wild-clause-wrote : goal.returns-then-not-is_wild-clause-wrote
returns-then-not-is_wild-clause-wrote c =
    let a = c.args in
    writes_as (ap (λ (t : Text). t ++ bytes ": ") c.name_at.ensures.result_value ∙ label_colon (text_at a.types.now.bytes.now a.label) a.node (eqb-false a.node 0 (sym c.if-not-is_wild.ensures))) (writes_more c.all.ensures c.all-then-not-is_wild.ensures)

pub returns-else-not-is_wild-clause-wrote : goal.returns-else-not-is_wild-clause-wrote
returns-else-not-is_wild-clause-wrote c =
    let a = c.args in
    writes_as (c.name_at.ensures.result_value ∙ label_wild (text_at a.types.now.bytes.now a.label) a.node (eqb-true a.node 0 (sym c.if-not-is_wild.ensures))) c.all.ensures
