-- `settle::Walk::advance` meets its contract: a tail, or one of the patterns before it.
use mathlib.Core.Path.{ap, ◌∙◌}
use mathlib.Core.List.{◌∷◌}
use Prim.Native.Nat.{ℕ}
use native.Mathlib.Omega.{arith}
use lib.ListN.{get_or}
use Rattle.nodes.specs.Opens.{opens}
use Rattle.nodes.specs.declared.Open.{Open}
use Rattle.nodes.proofs.Pending.{pushed}
use Rattle.settle.proofs.Settling.{advance-tail, advance-taken}
use Rattle.settle.proofs.Walk.advance.Goals as goal

pub returns-then-o-eq0-clause-settled : goal.returns-then-o-eq0-clause-settled
returns-then-o-eq0-clause-settled c =
    let w = c.args.self.now in
    λ bytes. advance-tail bytes c.args.fields.now w.stack.now w.depth c.args.o w.nodes.now w.place c.list_type.result c.list_type.ensures.1 c.if-o-eq0.true c.requires.more_nonzero c.list_type.ensures.0

pub returns-clause-settled : goal.returns-clause-settled
returns-clause-settled c =
    let w = c.args.self.now in
    let p = pushed w.stack.now c.push.new.stack w.depth c.take_one.result c.requires.below_in_bounds c.push.ensures ∙ ap (λ (f : Open). f ∷ opens w.stack.now w.depth) c.take_one.ensures in
    λ bytes. advance-taken bytes c.args.fields.now w.stack.now w.depth c.args.o w.nodes.now w.place c.from-2.result (omega arith) c.push.new.stack c.cell-self.new.nodes c.cell-self.result (omega arith) (c.from-2.ensures ∙ c.get.ensures ∙ ap (λ (i : ℕ). get_or c.args.fields.now i 0) c.from.ensures) c.cell-self.ensures.value c.cell-self.ensures.nodes_after p
