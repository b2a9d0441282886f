-- `patterns::row` meets its contract: the invariant is `Going`, what is left of the bytes falls.
use Prim.Native.Nat.{◌-◌}
use lib.ListN.{length}
use Rattle.settle.specs.Settled.{Kept}
use Rattle.patterns.proofs.Rounds.{Going}
use Rattle.patterns.proofs.row.Given as goal

abbrev pub invariant-loop-next : goal.invariant-loop-next
invariant-loop-next l = record {
  going : Going l.types.bytes.now l.types.kinds.now l.types.counts.now l.types.arities.now l.types.starts.now l.types.fields.now l.from l.subject l.used l.initial.walk.nodes.now l.at l.t l.walk.depth l.walk.place l.walk.stack.now l.walk.nodes.now;
  kept : Kept l.initial.walk l.walk;
}

abbrev pub decreases-loop-next : goal.decreases-loop-next
decreases-loop-next l = length l.types.bytes.now - l.at
