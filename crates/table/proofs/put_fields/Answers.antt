-- `table::put_fields` meets its contract: what is written and what is still to come are the whole run.
use mathlib.Core.Path.{◌∙◌}
use Prim.Native.Nat.{◌+◌}
use native.Mathlib.Omega.{arith}
use lib.ListN.{get_or}
use Rattle.layout.proofs.Loops.{places-step, places-end, run_step, run_end}
use Rattle.table.proofs.put_fields.Goals as goal

pub loop-k-preserved : goal.loop-k-preserved
loop-k-preserved c =
    let a = c.args in
    let k = c.loop-k.k in
    run_step (λ p. get_or a.bytes.now p 0) c.loop-k.fields c.put.new.s (a.from + k) (a.from + (k + 1)) _ _ _ _ (omega arith) (places-step a.at k a.n c.loop-k-test.true) c.get.ensures c.put.ensures.s_after ∙ c.loop-k.invariant

pub returns-clause-fields_after : goal.returns-clause-fields_after
returns-clause-fields_after c =
    let a = c.args in
    run_end (λ p. get_or a.bytes.now p 0) c.loop-k.fields (a.from + c.loop-k.k) _ (places-end (a.at + c.loop-k.k) c.loop-k.k a.n (omega arith)) ∙ c.loop-k.invariant
