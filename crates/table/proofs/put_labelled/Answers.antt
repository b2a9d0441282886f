-- `table::put_labelled` meets its contract: in both tables what is written and what is still to come are the whole run.
use mathlib.Core.Path.{◌∙◌}
use Prim.Native.Nat.{◌+◌, ◌-◌}
use native.Mathlib.Omega.{arith}
use lib.ListN.{get_or}
use Rattle.layout.proofs.Loops.{labelled_step, labelled-end, run_step, run_end}
use Rattle.table.specs.Build.{low}
use Rattle.table.proofs.put_labelled.Goals as goal

pub loop-k-preserved : goal.loop-k-preserved
loop-k-preserved c =
    let a = c.args in
    let l = c.loop-k in
    let next = c.after_name-p in
    let step = labelled_step a.bytes.now l.p next.result (a.n - l.k) (a.n - (l.k + 1)) (omega arith) next.ensures.value in (
      omega (arith, next.ensures.upper_bound),
      run_step (λ p. get_or a.bytes.now p 0) l.fields c.put.new.s (a.from + l.k) (a.from + (l.k + 1)) _ _ _ _ (omega arith) step c.get.ensures c.put.ensures.s_after ∙ l.invariant.1,
      run_step (λ p. low (p + 1)) l.labels c.put-in-loop-k.new.s (a.from + l.k) (a.from + (l.k + 1)) l.p c.low.result _ _ (omega arith) step c.low.ensures c.put-in-loop-k.ensures.s_after ∙ l.invariant.2,
    )

pub returns : goal.returns
returns c =
    let a = c.args in
    let l = c.loop-k in
    let none = labelled-end a.bytes.now l.p (a.n - l.k) (omega arith) in
    record {
      fields_after = run_end (λ p. get_or a.bytes.now p 0) l.fields (a.from + l.k) _ none ∙ l.invariant.1;
      labels_after = run_end (λ p. low (p + 1)) l.labels (a.from + l.k) _ none ∙ l.invariant.2;
    }
