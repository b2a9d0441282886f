-- `declarations::fields` meets its contract: labels or not, then arity and fields.
use mathlib.Core.Path.{◌∙◌}
use native.Mathlib.Omega.{arith}
use Rattle.scope.specs.Lists.{among}
use Rattle.fields.proofs.Readers.{passed_on, told, passed}
use Rattle.declarations.proofs.Shapes.{fields-flag, fields-on}
use Rattle.declarations.proofs.fields.Goals as goal

pub returns-in_err-from : goal.returns-in_err-from
returns-in_err-from c =
    let a = c.args in
    passed_on _ _ _ c.in_err-from.was c.from_residual.ensures
    ∙ fields-flag a.bytes.now a.at c.within.result c.in_err-from.field-0.0 (told _ _ _ c.within.ensures) c.in_err-from.was

pub bounds-bytes-at : goal.bounds-bytes-at
bounds-bytes-at c =
    let a = c.args in
    (passed (among 0 1) a.bytes.now a.at c.in_ok-from.from c.within.result c.requires (told _ _ _ c.within.ensures) c.in_ok-from.was).inside

pub counted-requires : goal.counted-requires
counted-requires c =
    let a = c.args in
    let x = passed (among 0 1) a.bytes.now a.at c.in_ok-from.from c.within.result c.requires (told _ _ _ c.within.ensures) c.in_ok-from.was in
    omega (arith, x.next, x.inside)

pub returns : goal.returns
returns c =
    let a = c.args in
    fields-on a.bytes.now a.at c.counted.result c.in_ok-from.from (passed (among 0 1) a.bytes.now a.at c.in_ok-from.from c.within.result c.requires (told _ _ _ c.within.ensures) c.in_ok-from.was) c.counted.ensures
