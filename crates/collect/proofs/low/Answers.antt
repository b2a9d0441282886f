-- `collect::low` meets its contract: a cell of a slice of bytes is at most 255.
use Rattle.matrix.proofs.Arities.{arity-byte}
use native.Mathlib.Omega.{arith}
use Rattle.collect.proofs.low.Goals as goal

pub returns : goal.returns
returns c =
    arity-byte c.args.arities.now (λ i. omega (arith, c.type_inv.arities i))
