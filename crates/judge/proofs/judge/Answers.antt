-- `judge::judge` meets its contract: before clause k the calls and verdicts are those of the first k clauses.
use Rattle.judge.proofs.Driver.{said-err, judges-all}
use Rattle.std.specs.Prelude.{Ok}
use Rattle.judge.proofs.Clauses.{rising, none_yet, before-none, before-within, before-next, before-over, over-at, done_at, written-whole}
use Rattle.scope.specs.Blocks.{ok}
use Rattle.outcomes.specs.Past.{said_verdict}
use Rattle.judge.specs.Driver.{judged_to, answered, written}
use Rattle.scope.specs.Lists.{bit}
use lib.Seq.{sets}
use lib.ListN.{length}
use native.Mathlib.Omega.{arith}
use Prim.Native.Nat.{ℕ}
use mathlib.Core.List.{map}
use mathlib.Core.Path.{◌≡◌, refl, sym, ap, ◌∙◌}
use Rattle.judge.proofs.judge.Goals as goal

pub loop-k-init : goal.loop-k-init
loop-k-init c =
    let a = c.args in
    (refl, before-none a.b.now.types.bytes.now a.b.now.types.counts.now a.b.now.types.arities.now a.b.now.nodes.now a.starts.now a.verdicts.now)

pub returns-in_err-v : goal.returns-in_err-v
returns-in_err-v c =
    let a = c.args in
    let f = judged_to a.b.now.types.bytes.now a.b.now.types.counts.now a.b.now.types.arities.now a.b.now.nodes.now a.starts.now in
    let g = c.loop-k.invariant.1 in
    let w = before-within a.b.now.types.bytes.now a.b.now.types.counts.now a.b.now.types.arities.now a.b.now.nodes.now a.starts.now c.loop-k.k c.loop-k.calls a.verdicts.now c.loop-k.verdicts g in
    let o = over-at f (rising a.b.now.types.bytes.now a.b.now.types.counts.now a.b.now.types.arities.now a.b.now.nodes.now a.starts.now) c.loop-k.k (length a.starts.now) c.loop-k-test.true (none_yet a.b.now.types.bytes.now a.b.now.types.counts.now a.b.now.types.arities.now a.b.now.nodes.now a.starts.now c.loop-k.k) w (before-over a.b.now.types.bytes.now a.b.now.types.counts.now a.b.now.types.arities.now a.b.now.nodes.now a.starts.now c.loop-k.k c.loop-k.calls a.verdicts.now c.loop-k.verdicts g (sym (ap said_verdict c.in_err-v.was) ∙ c.clause.ensures)) in
    let is = said-err c.from_residual.result c.from_residual.ensures.0 ∙ o.0 in
    let said : c.loop-k.verdicts ≡ sets a.verdicts.now 0 (map bit (written f (length a.starts.now))) = g.verdicts ∙ ap (λ l. sets a.verdicts.now 0 (map bit l)) (sym o.1) in
    record { result_value = is; verdicts_after = said; judges_all = judges-all a.b.now.types.bytes.now a.b.now.nodes.now a.b.now.left.now a.b.now.types.counts.now a.b.now.types.arities.now a.starts.now c.requires.sizes.low a.verdicts.now c.loop-k.verdicts c.from_residual.result is said }

pub loop-k-preserved : goal.loop-k-preserved
loop-k-preserved c =
    let a = c.args in
    (c.clause.auto.s ∙ c.loop-k.invariant.0, before-next a.b.now.types.bytes.now a.b.now.types.counts.now a.b.now.types.arities.now a.b.now.nodes.now a.starts.now c.loop-k.k c.loop-k.calls a.verdicts.now c.loop-k.verdicts c.loop-k.invariant.1 c.in_ok-v.v.yes c.in_ok-v.v.calls c.bit_of.result _ (sym (ap said_verdict c.in_ok-v.was) ∙ c.clause.ensures) c.bit_of.ensures refl)

pub returns : goal.returns
returns c =
    let a = c.args in
    let f = judged_to a.b.now.types.bytes.now a.b.now.types.counts.now a.b.now.types.arities.now a.b.now.nodes.now a.starts.now in
    let g = c.loop-k.invariant.1 in
    let e : c.loop-k.k ≡ length a.starts.now = omega arith in
    let w = before-within a.b.now.types.bytes.now a.b.now.types.counts.now a.b.now.types.arities.now a.b.now.nodes.now a.starts.now c.loop-k.k c.loop-k.calls a.verdicts.now c.loop-k.verdicts g in
    let is : ok c.loop-k.calls ≡ answered (f (length a.starts.now)) = ap ok g.called ∙ done_at f (rising a.b.now.types.bytes.now a.b.now.types.counts.now a.b.now.types.arities.now a.b.now.nodes.now a.starts.now) c.loop-k.k w ∙ ap (λ (i : ℕ). answered (f i)) e in
    let said : c.loop-k.verdicts ≡ sets a.verdicts.now 0 (map bit (written f (length a.starts.now))) = g.verdicts ∙ ap (λ l. sets a.verdicts.now 0 (map bit l)) (sym (written-whole f c.loop-k.k (none_yet a.b.now.types.bytes.now a.b.now.types.counts.now a.b.now.types.arities.now a.b.now.nodes.now a.starts.now c.loop-k.k) w) ∙ ap (written f) e) in
    record { result_value = is; verdicts_after = said; judges_all = judges-all a.b.now.types.bytes.now a.b.now.nodes.now a.b.now.left.now a.b.now.types.counts.now a.b.now.types.arities.now a.starts.now c.requires.sizes.low a.verdicts.now c.loop-k.verdicts (Ok c.loop-k.calls) is said }
