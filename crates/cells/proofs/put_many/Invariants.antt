-- `cells::put_many` meets its contract: x is stored i times.
use lib.Seq.{sets}
use lib.ListN.{replicate}
use mathlib.Core.Path.{◌≡◌}
use Rattle.cells.proofs.put_many.Given as goal

abbrev pub invariant-loop-i : goal.invariant-loop-i
invariant-loop-i l = l.s ≡ sets l.initial.s l.from (replicate l.i l.x)
