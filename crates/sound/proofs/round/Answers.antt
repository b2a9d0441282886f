-- `sound::round` meets its contract: the flags that are set and those still to come are the whole round.
use mathlib.Core.Path.{refl, ◌∙◌}
use Prim.Native.Nat.{◌+◌}
use native.Mathlib.Omega.{arith}
use Rattle.sound.specs.Sound.{value_in}
use Rattle.layout.proofs.Loops.{places-next, places-end, run_step, run_end}
use Rattle.sound.proofs.round.Goals as goal

pub loop-t-preserved : goal.loop-t-preserved
loop-t-preserved c =
    let a = c.args in
    let l = c.loop-t in
    run_step (value_in a.types.now.kinds.now a.types.now.counts.now a.types.now.arities.now a.types.now.starts.now a.types.now.fields.now a.known.now) l.next _ l.t (l.t + 1) _ _ _ _ (omega arith) (places-next l.t a.n (omega arith)) c.has_value.ensures refl ∙ l.invariant

pub returns : goal.returns
returns c =
    let a = c.args in
    let l = c.loop-t in
    run_end (value_in a.types.now.kinds.now a.types.now.counts.now a.types.now.arities.now a.types.now.starts.now a.types.now.fields.now a.known.now) l.next l.t _ (places-end l.t l.t a.n (omega arith)) ∙ l.invariant
