-- `paths::put_row` meets its contract: what is still to come, put after what stands, is the whole.
use Rattle.paths.proofs.PathLaws.{spelt-most}
use Rattle.paths.proofs.PathPuts.{row_next, row-end}
use Rattle.matrix.proofs.Arities.{arity-byte}
use native.Mathlib.Omega.{arith}
use mathlib.Core.Path.{◌∙◌}
use Rattle.paths.proofs.put_row.Goals as goal

pub put_step-at-requires : goal.put_step-at-requires
put_step-at-requires c =
    let a = c.args in
    omega (arith, c.requires, c.loop-i.invariant.1, spelt-most a.arities.now a.nodes.now a.sets.now a.n (arity-byte a.arities.now (λ i. omega (arith, c.type_inv.arities i))) a.depth 0)

pub loop-i-preserved : goal.loop-i-preserved
loop-i-preserved c =
    let a = c.args in
    let p = c.loop-i in
    let w = c.put_step-at in
    let n = row_next a.arities.now a.nodes.now a.sets.now a.depth a.n p.out p.at p.i c.loop-i-test.true w.result w.new.out w.ensures in
    (n.0 ∙ p.invariant.0, n.1 ∙ p.invariant.1)

pub put_wilds-requires : goal.put_wilds-requires
put_wilds-requires c =
    let a = c.args in
    omega (arith, c.requires, c.loop-i.invariant.1, spelt-most a.arities.now a.nodes.now a.sets.now a.n (arity-byte a.arities.now (λ i. omega (arith, c.type_inv.arities i))) a.depth 0)

pub returns : goal.returns
returns c =
    let a = c.args in
    let p = c.loop-i in
    let w = c.put_wilds in
    row-end a.arities.now a.nodes.now a.sets.now a.depth a.n p.out p.at p.i c.loop-i-test.false a.out.now _ a.written p.invariant.0 p.invariant.1 w.result w.new.out w.ensures
