-- `clause::list_pattern` meets its contract: the count, then the tail's flag.
use Prim.Native.Nat.{◌+◌}
use mathlib.Core.Path.{◌∙◌}
use native.Mathlib.Omega.{arith}
use Rattle.clause.proofs.Written.{list_read, list-few}
use Rattle.clause.proofs.list_pattern.Goals as goal

pub returns : goal.returns
returns c =
    let e = list_read c.args.bytes.now c.args.at (c.from.result + c.from-2.result) c.flagged-r.result c.leaving.result c.leaving.ensures c.from-2.result (omega (arith, c.from.ensures, c.get.ensures)) (c.from-2.ensures ∙ c.get-2.ensures) c.flagged-r.ensures in
    record { value = e; result_bound = list-few c.args.bytes.now c.args.at c.leaving.result (omega (arith, c.get.ensures, c.get.type_inv)) e }
