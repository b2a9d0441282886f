-- `fresh::labels_twice` meets its contract: each label is looked for among those after it.
use mathlib.Core.Path.{sym, ◌∙◌}
use Prim.Native.Nat.{◌-◌}
use native.Mathlib.Omega.{arith}
use Rattle.fresh.proofs.Texts.{labels-step, labels-end, twice-on, twice_off, twice-end}
use Rattle.fresh.proofs.labels_twice.Goals as goal

pub returns-then-label_there : goal.returns-then-label_there
returns-then-label_there c =
    let a = c.args in
    let l = c.loop-more in
    let step = labels-step a.bytes.now l.q l.more (l.more - 1) c.after_name-next.result (omega arith) c.after_name-next.ensures.value in
    sym (l.invariant.decides ∙ twice_off _ _ _ step (sym c.label_there.ensures ∙ c.if-label_there.true))

pub loop-more-preserved : goal.loop-more-preserved
loop-more-preserved c =
    let a = c.args in
    let l = c.loop-more in
    let next = c.after_name-next in
    let step = labels-step a.bytes.now l.q l.more (l.more - 1) next.result (omega arith) next.ensures.value in
    record {
      near = omega (arith, next.ensures.upper_bound);
      decides = l.invariant.decides ∙ twice-on _ _ _ step (sym c.label_there.ensures ∙ c.if-label_there.false);
    }

pub returns : goal.returns
returns c =
    let a = c.args in
    let l = c.loop-more in
    sym (l.invariant.decides ∙ twice-end _ (labels-end a.bytes.now l.q l.more (omega arith)))
