-- `fields::text` meets its contract: its length, its bytes, then decimal text is judged whole.
use Prim.Native.Nat.{◌-◌}
use mathlib.Core.Path.{refl, sym, ap, ◌∙◌}
use mathlib.Core.Bool.{Bool}
use native.Mathlib.Omega.{arith}
use lib.ListN.{take, drop}
use Rattle.fields.specs.Places.{judged}
use Rattle.fields.proofs.Readers.{tells, passed_on}
use Rattle.fields.proofs.Readings.{text-length, text-begun, text-short, measured, text-good, text-bad}
use Rattle.fields.proofs.text.Goals.{else-decimal-via-then-decimal+else-not-is_decimal, else-decimal-via-else-decimal}
use Rattle.fields.proofs.text.Goals as goal

pub returns-in_err-from : goal.returns-in_err-from
returns-in_err-from c =
    let a = c.args in
    tells _ _ _ (passed_on _ _ _ c.in_err-from.was c.from_residual.ensures ∙ text-length a.lo a.bytes.now a.at c.requires c.within.result c.within.ensures (judged a.decimal) c.in_err-from.field-0.0 c.in_err-from.was)

pub bounds-bytes-at : goal.bounds-bytes-at
bounds-bytes-at c =
    let a = c.args in
    (text-begun a.lo a.bytes.now a.at c.requires c.within.result c.within.ensures c.in_ok-from.from _ c.in_ok-from.was refl).inside

pub skip-requires : goal.skip-requires
skip-requires c =
    let a = c.args in
    let x = text-begun a.lo a.bytes.now a.at c.requires c.within.result c.within.ensures c.in_ok-from.from c.from.result c.in_ok-from.was c.from.ensures in
    omega (arith, x.next, x.inside)

pub returns-in_err-to : goal.returns-in_err-to
returns-in_err-to c =
    let a = c.args in
    tells _ _ _ (passed_on _ _ _ c.in_err-to.was c.from_residual-in_err-to.ensures ∙ text-short a.lo a.bytes.now a.at c.requires c.within.result c.within.ensures c.in_ok-from.from c.from.result c.in_ok-from.was c.from.ensures c.skip.result c.skip.ensures (judged a.decimal) c.in_err-to.field-0.0 c.in_err-to.was)

pub slice_bounds-is_decimal-count : goal.slice_bounds-is_decimal-count
slice_bounds-is_decimal-count c =
    let a = c.args in
    let m = measured a.lo a.bytes.now a.at c.requires c.within.result c.within.ensures c.in_ok-from.from c.from.result c.in_ok-from.was c.from.ensures c.skip.result c.skip.ensures c.in_ok-to.to c.in_ok-to.was in
    omega (arith, m.others.next)

pub slice_bounds-is_decimal-start : goal.slice_bounds-is_decimal-start
slice_bounds-is_decimal-start c =
    let a = c.args in
    let m = measured a.lo a.bytes.now a.at c.requires c.within.result c.within.ensures c.in_ok-from.from c.from.result c.in_ok-from.was c.from.ensures c.skip.result c.skip.ensures c.in_ok-to.to c.in_ok-to.was in
    omega (arith, m.others.next)

pub slice_bounds-is_decimal-end : goal.slice_bounds-is_decimal-end
slice_bounds-is_decimal-end c =
    let a = c.args in
    let m = measured a.lo a.bytes.now a.at c.requires c.within.result c.within.ensures c.in_ok-from.from c.from.result c.in_ok-from.was c.from.ensures c.skip.result c.skip.ensures c.in_ok-to.to c.in_ok-to.was in
    m.others.inside

pub returns-then-not-is_decimal : goal.returns-then-not-is_decimal
returns-then-not-is_decimal c =
    let a = c.args in
    let m = measured a.lo a.bytes.now a.at c.requires c.within.result c.within.ensures c.in_ok-from.from c.from.result c.in_ok-from.was c.from.ensures c.skip.result c.skip.ensures c.in_ok-to.to c.in_ok-to.was in
    let t = take (c.in_ok-to.to - c.in_ok-from.from) (drop c.in_ok-from.from a.bytes.now) in
    tells _ _ _ (text-bad a.lo (judged a.decimal) a.bytes.now a.at _ _ _ m (ap (λ (d : Bool). judged d t) c.if-decimal.true ∙ sym c.is_decimal.ensures ∙ c.if-not-is_decimal.true))

pub returns : goal.returns
returns c =
    let a = c.args in
    let m = measured a.lo a.bytes.now a.at c.requires c.within.result c.within.ensures c.in_ok-from.from c.from.result c.in_ok-from.was c.from.ensures c.skip.result c.skip.ensures c.in_ok-to.to c.in_ok-to.was in
    let t = take (c.in_ok-to.to - c.in_ok-from.from) (drop c.in_ok-from.from a.bytes.now) in
    elim c.else-decimal.branch [
      | else-decimal-via-then-decimal+else-not-is_decimal w ↦ tells _ _ _ (text-good a.lo (judged a.decimal) a.bytes.now a.at _ _ _ m (ap (λ (d : Bool). judged d t) w.if-decimal.true ∙ sym w.is_decimal.ensures ∙ w.if-not-is_decimal.false))
      | else-decimal-via-else-decimal w ↦ tells _ _ _ (text-good a.lo (judged a.decimal) a.bytes.now a.at _ _ _ m (ap (λ (d : Bool). judged d t) w.if-decimal.false))
    ]
