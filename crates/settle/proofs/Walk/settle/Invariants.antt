-- `settle::Walk::settle` meets its contract: the invariant is `Settling`, the stack is as it was, and its depth falls.
use mathlib.Core.Path.{◌≡◌}
use mathlib.Core.List.{List}
use Prim.Native.Nat.{ℕ, ◌-◌, ◌≤◌}
use Rattle.nodes.specs.Opens.{opens}
use Rattle.settle.specs.Settled.{Kept}
use Rattle.settle.proofs.Settling.{Settling}
use Rattle.settle.proofs.Walk.settle.Given as goal

abbrev pub invariant-loop-o : goal.invariant-loop-o
invariant-loop-o l = record {
  kept : Kept l.initial.self l.self;
  height : l.self.depth ≤ l.initial.self.depth;
  same : l.self.stack.now ≡ l.initial.self.stack.now;
  settling : (bytes : List ℕ) → Settling bytes l.fields (opens l.initial.self.stack.now l.initial.self.depth) (opens l.initial.self.stack.now l.self.depth) (l.initial.self.depth - l.self.depth) l.initial.self.place l.initial.self.nodes.now l.self.nodes.now l.self.place;
}

abbrev pub decreases-loop-o : goal.decreases-loop-o
decreases-loop-o l = l.self.depth
