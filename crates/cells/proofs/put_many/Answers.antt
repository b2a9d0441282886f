-- `cells::put_many` meets its contract: x is stored i times.
use mathlib.Core.List.{List}
use Rattle.cells.proofs.Laws.{many-next}
use lib.ListN.{set}
use Prim.Native.Nat.{ℕ, ◌+◌}
use mathlib.Core.Path.{ap, ◌∙◌}
use Rattle.cells.proofs.put_many.Goals as goal

pub loop-i-preserved : goal.loop-i-preserved
loop-i-preserved c =
    c.put.ensures.s_after ∙ ap (λ (l : List ℕ). set l (c.args.from + c.loop-i.i) c.args.x) c.loop-i.invariant ∙ many-next c.args.s.now c.args.from c.loop-i.i c.args.x
