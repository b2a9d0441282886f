-- `judge::judge` meets its contract: before clause k the calls and verdicts are those of the first k clauses.
use Rattle.judge.proofs.Clauses.{Before}
use lib.ListN.{length}
use mathlib.Core.Path.{◌≡◌}
use Rattle.judge.proofs.judge.Given as goal

abbrev pub invariant-loop-k : goal.invariant-loop-k
invariant-loop-k l = let b = l.b in (length l.s ≡ length l.initial.s) × Before b.types.bytes.now b.types.counts.now b.types.arities.now b.nodes.now l.starts l.k l.calls l.initial.verdicts l.verdicts
