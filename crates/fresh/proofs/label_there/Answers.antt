-- `fresh::label_there` meets its contract: the labels that are left decide.
use mathlib.Core.Path.{refl, sym, ◌∙◌}
use Prim.Native.Nat.{◌+◌, ◌-◌}
use native.Mathlib.Omega.{arith}
use lib.ListN.{get_or}
use Rattle.scope.specs.Lists.{same as same_text}
use Rattle.layout.specs.Types.{text_at}
use Rattle.layout.proofs.Loops.{any-on, any_off, any-end}
use Rattle.fresh.proofs.Texts.{labels-step, labels-end}
use Rattle.fresh.proofs.label_there.Goals as goal

pub returns-then-same_at : goal.returns-then-same_at
returns-then-same_at c =
    let a = c.args in
    let l = c.loop in
    let step = labels-step a.bytes.now l.q (a.n - l.counter) (a.n - (l.counter + 1)) (l.q + 1 + 1 + get_or a.bytes.now (l.q + 1) 0) (omega arith) refl in
    sym (l.invariant.decides ∙ any_off (same_text (text_at a.bytes.now a.at)) _ _ _ step (sym c.same_at.ensures ∙ c.if-same_at.true))

pub loop-preserved : goal.loop-preserved
loop-preserved c =
    let a = c.args in
    let l = c.loop in
    let next = c.after_name-q in
    let step = labels-step a.bytes.now l.q (a.n - l.counter) (a.n - (l.counter + 1)) next.result (omega arith) next.ensures.value in
    record {
      near = omega (arith, next.ensures.upper_bound);
      decides = l.invariant.decides ∙ any-on (same_text (text_at a.bytes.now a.at)) _ _ _ step (sym c.same_at.ensures ∙ c.if-same_at.false);
    }

pub returns : goal.returns
returns c =
    let a = c.args in
    let l = c.loop in
    sym (l.invariant.decides ∙ any-end (same_text (text_at a.bytes.now a.at)) _ (labels-end a.bytes.now l.q (a.n - l.counter) (omega arith)))
