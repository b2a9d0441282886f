-- `paths::put_step` meets its contract: a node alone, or with its wildcards.
use Rattle.matrix.proofs.Arities.{arity-byte}
use native.Mathlib.Omega.{arith}
use Rattle.paths.proofs.put_step.Goals as goal

pub put_wilds-requires : goal.put_wilds-requires
put_wilds-requires c =
    let a = c.args in
    omega (arith, c.put-next.ensures.value, c.arity-a.ensures, arity-byte a.arities.now (λ i. omega (arith, c.type_inv.arities i)) a.node, c.requires)
