-- `column::all` meets its contract: the flags are tested one after another.
use Rattle.std.proofs.Common.{rules, tests, arith, ◌≡◌, Bool, take, ◌∙◌}
use Rattle.std.specs.List.{list_all}
use Rattle.std.proofs.lemmas.Iterator.{YieldsList-from_slice}
use Rattle.std.proofs.lemmas.Iterator.Search.{all_from_yields_List}
use Rattle.column.proofs.Columns.{up-all}
use Rattle.column.proofs.all.Goals as goal

pub returns : goal.returns
returns c =
    let a = c.args in
    let e : c.all.result ≡ list_all (λ (up : Bool). up) (take a.k a.flags) = all_from_yields_List (λ (up : Bool). up) _ _ c.all.result c.all.ensures.ran (YieldsList-from_slice (take a.k a.flags) (cc)) (λ x b q k. search (rules, tests)) in
    e ∙ up-all a.flags a.k (omega arith)
