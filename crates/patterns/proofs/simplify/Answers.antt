-- `patterns::simplify` meets its contract: unsuited, too long, or kept with `left` beside it.
use native.Mathlib.Omega.{arith}
use Rattle.patterns.proofs.Beside.{unsuited, too_long, kept}
use Rattle.patterns.proofs.simplify.Goals as goal

pub returns-in_err-count : goal.returns-in_err-count
returns-in_err-count c =
    let a = c.args in
    let b = a.types.now in
    let v = c.row.new.nodes in
    unsuited b.bytes.now a.from b.kinds.now b.counts.now b.arities.now b.starts.now b.fields.now a.subject a.used a.nodes.now a.left.now v c.in_err-count.field-0.0 c.from_residual.result c.from_residual.ensures.0 c.in_err-count.ensures

pub returns-then-count-nodes : goal.returns-then-count-nodes
returns-then-count-nodes c =
    let a = c.args in
    let b = a.types.now in
    let v = c.row.new.nodes in
    kept b.bytes.now a.from b.kinds.now b.counts.now b.arities.now b.starts.now b.fields.now a.subject a.used a.nodes.now a.left.now v c.in_ok-count.count c.requires.nodes_short c.requires.room c.in_ok-count.ensures c.count_left.new.left (omega (arith, c.row.auto.nodes, c.if-count-nodes.true)) c.count_left.ensures

pub returns-else-count-nodes : goal.returns-else-count-nodes
returns-else-count-nodes c =
    let a = c.args in
    let b = a.types.now in
    let v = c.row.new.nodes in
    too_long b.bytes.now a.from b.kinds.now b.counts.now b.arities.now b.starts.now b.fields.now a.subject a.used a.nodes.now a.left.now v c.in_ok-count.count c.requires.nodes_short c.requires.room c.in_ok-count.ensures (omega (arith, c.row.auto.nodes, c.if-count-nodes.false))
