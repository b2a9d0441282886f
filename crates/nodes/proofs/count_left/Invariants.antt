-- `nodes::count_left` meets its contract: before i, `left` has what the nodes before i leave.
use mathlib.Core.Path.{◌≡◌}
use Prim.Native.Nat.{◌+◌, ◌*◌, ◌≤◌}
use mathlib.Core.List.{map}
use lib.ListN.{take, drop}
use lib.Seq.{sets}
use Rattle.nodes.specs.Keys.{low16}
use Rattle.nodes.specs.Lefts.{lefts_of, left_after}
use Rattle.nodes.proofs.count_left.Given as goal

abbrev pub invariant-loop-i : goal.invariant-loop-i
invariant-loop-i l = (l.left ≡ sets l.initial.left l.used (map low16 (lefts_of l.arities 1 (take l.i (take l.count (drop l.used l.nodes)))))) × (l.more ≡ left_after l.arities 1 (take l.i (take l.count (drop l.used l.nodes)))) × (l.more ≤ 1 + 255 * l.i)
