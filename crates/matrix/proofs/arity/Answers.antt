-- `matrix::arity` meets its contract: a wildcard, or what the table of arities has.
use Rattle.heads.proofs.Nodes.{is_wild, no_wild}
use Rattle.matrix.proofs.Arities.{arity-none, arity-node}
use Rattle.matrix.proofs.arity.Goals as goal

pub returns-then-eq : goal.returns-then-eq
returns-then-eq c = arity-none c.args.arities.now c.args.node (is_wild _ _ c.from.ensures c.if-eq.ensures)

pub returns : goal.returns
returns c = cc (arity-node c.args.arities.now c.args.node (no_wild _ _ c.from.ensures c.if-eq.ensures))
