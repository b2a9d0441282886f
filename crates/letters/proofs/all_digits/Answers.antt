-- `letters::all_digits` meets its contract: `all` of the bytes says what the document's `all` says.
use Rattle.std.proofs.Common.{◌∙◌, ◌&&◌, refl, rules, tests}
use Rattle.std.specs.List.{list_all}
use Rattle.std.proofs.lemmas.Iterator.{YieldsList-from_slice}
use Rattle.std.proofs.lemmas.Iterator.Search.{all_from_yields_List}
use Rattle.std.proofs.lemmas.List.Recursion.{same_from_clauses}
use Rattle.scope.specs.Lists.{all}
use Rattle.letters.specs.Classes.{digit_of}
use Rattle.letters.proofs.all_digits.Goals as goal

pub returns : goal.returns
returns c =
    let test = digit_of c.args.hex in
    all_from_yields_List test _ _ c.all.result c.all.ensures.ran (YieldsList-from_slice c.args.t.now cc) (λ x b q k. search (rules, tests))
    ∙ same_from_clauses (list_all test) (all test) (λ x b. test x && b) refl (λ _ _. refl) (λ _ _. refl) c.args.t.now
