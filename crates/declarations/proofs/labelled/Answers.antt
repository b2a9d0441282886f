-- `declarations::labelled` meets its contract: the fields still to read from p on reach what all reach.
use Prim.Native.Nat.{ℕ, ◌+◌, ◌-◌}
use mathlib.Core.Path.{◌≡◌, sym, ap, ◌∙◌}
use native.Mathlib.Omega.{arith}
use Rattle.scope.specs.Frames.{times}
use Rattle.fields.specs.Places.{read_at}
use Rattle.declarations.specs.Pieces.{field}
use Rattle.fields.proofs.Readers.{passed_on, reached, times-stops, times_goes, times-done}
use Rattle.declarations.proofs.Shapes.{field-keeps}
use Rattle.declarations.proofs.labelled.Goals as goal

pub returns-in_err-p : goal.returns-in_err-p
returns-in_err-p c =
    let l = c.loop in
    passed_on _ _ _ c.in_err-p.was c.from_residual.ensures
    ∙ times-stops field c.args.bytes.now l.p (c.args.n - l.counter) c.field.result c.in_err-p.field-0.0.at (omega (arith, c.loop-test.true)) c.field.ensures c.in_err-p.was
    ∙ l.invariant.1

pub loop-preserved : goal.loop-preserved
loop-preserved c =
    let a = c.args in
    let l = c.loop in
    let q = c.in_ok-p.p in
    let fewer : a.n - (l.counter + 1) ≡ a.n - l.counter - 1 = omega arith in
    let x = reached field field-keeps a.bytes.now l.p q c.field.result l.invariant.0 c.field.ensures c.in_ok-p.was in
    (x.inside, ap (λ (k : ℕ). read_at a.bytes.now q (times k field)) fewer ∙ sym (times_goes field a.bytes.now l.p (a.n - l.counter) q (omega (arith, c.loop-test.true)) x) ∙ l.invariant.1)

pub returns : goal.returns
returns c =
    let l = c.loop in
    times-done field c.args.bytes.now l.p (c.args.n - l.counter) (omega (arith, c.loop-test.false)) l.invariant.0 ∙ l.invariant.1
