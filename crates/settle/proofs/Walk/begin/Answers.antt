-- `settle::Walk::begin` meets its contract: one push, then `settle`.
use mathlib.Core.Path.{subst}
use mathlib.Core.List.{List}
use Prim.Native.Nat.{◌+◌}
use Rattle.nodes.specs.declared.Open.{Open}
use Rattle.nodes.proofs.Pending.{pushed}
use Rattle.settle.specs.Settled.{came_to, Settled}
use Rattle.settle.proofs.Walk.begin.Goals as goal

pub returns-clause-settled : goal.returns-clause-settled
returns-clause-settled c =
    let w = c.args.self.now in
    let v = c.settle.new.self in
    λ bytes. subst (λ (fs : List Open). Settled bytes c.args.fields.now fs (w.depth + 1) w.place w.nodes.now v.stack.now v.nodes.now (came_to c.settle.result v.depth v.place)) (pushed w.stack.now c.push.new.stack w.depth c.args.o c.requires.depth_in_bounds c.push.ensures) (c.settle.ensures.settled bytes)
