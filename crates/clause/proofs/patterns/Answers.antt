-- `clause::patterns` meets its contract: the patterns still to read from p on reach what all reach.
use Prim.Native.Nat.{◌≤◌}
use mathlib.Core.Path.{sym, ap, ◌∙◌}
use native.Mathlib.Omega.{arith}
use Rattle.clause.specs.Written.{leaves}
use Rattle.fields.proofs.Readers.{tells, raised}
use Rattle.clause.proofs.Written.{pattern-told, opened, patterns-done, patterns-stops, patterns-goes}
use Rattle.clause.proofs.patterns.Goals as goal

pub returns-in_err-next : goal.returns-in_err-next
returns-in_err-next c =
    let e = c.in_err-next.field-0.0 in
    tells _ _ _ (raised _ e c.from_residual.ensures ∙ patterns-stops c.args.bytes.now c.loop-left.p c.loop-left.left c.one_pattern.result e c.loop-left-test.true (pattern-told _ _ _ c.one_pattern.ensures.result_value) c.in_err-next.was ∙ c.loop-left.invariant.2)

pub overflow_add-left : goal.overflow_add-left
overflow_add-left c =
    let r = c.in_ok-next.field-0 in
    let x = opened c.args.bytes.now c.loop-left.p r.next r.inner c.one_pattern.result c.loop-left.invariant.0 (pattern-told _ _ _ c.one_pattern.ensures.result_value) c.in_ok-next.was in
    let f : r.inner ≤ 256 = omega (arith, c.one_pattern.ensures.result_bound, ap leaves c.in_ok-next.was) in
    omega (arith, x.onward, x.inside, f, c.loop-left, c.loop-left-test, c.requires)

pub loop-left-smaller : goal.loop-left-smaller
loop-left-smaller c =
    let r = c.in_ok-next.field-0 in
    let x = opened c.args.bytes.now c.loop-left.p r.next r.inner c.one_pattern.result c.loop-left.invariant.0 (pattern-told _ _ _ c.one_pattern.ensures.result_value) c.in_ok-next.was in
    omega (arith, x.onward, x.inside)

pub loop-left-preserved : goal.loop-left-preserved
loop-left-preserved c =
    let r = c.in_ok-next.field-0 in
    let x = opened c.args.bytes.now c.loop-left.p r.next r.inner c.one_pattern.result c.loop-left.invariant.0 (pattern-told _ _ _ c.one_pattern.ensures.result_value) c.in_ok-next.was in
    let f : r.inner ≤ 256 = omega (arith, c.one_pattern.ensures.result_bound, ap leaves c.in_ok-next.was) in
    (x.inside, omega (arith, x.onward, f, c.loop-left, c.loop-left-test), sym (patterns-goes c.args.bytes.now c.loop-left.p c.loop-left.left r.next r.inner c.loop-left-test.true x) ∙ c.loop-left.invariant.2)

pub returns : goal.returns
returns c =
    tells _ _ _ (patterns-done c.args.bytes.now c.loop-left.p c.loop-left.left c.loop-left-test.false c.loop-left.invariant.0 ∙ c.loop-left.invariant.2)
