-- `pretty` and `pretty_tail`, with the functions between them, meet their contracts. Each call is on fewer nodes, or a step of the same node: 2,048 for each node that is left.
use Prim.Native.Nat.{◌+◌, ◌-◌, ◌*◌}
use lib.ListN.{length}
use Rattle.looks.specs.Nodes.{mode_of}
use Rattle.text.specs.Rows.{held}
use Rattle.text.proofs.Printing.{Items}
use Rattle.text.proofs.pretty.Printer.+printer.Given as goal

abbrev pub decreases-cell : goal.decreases-cell
decreases-cell l = 2048 * (length l.self.now.nodes.now - l.p) + 1500

abbrev pub decreases-ctor : goal.decreases-ctor
decreases-ctor l = 2048 * (length l.self.now.nodes.now - l.p) + 2000

abbrev pub decreases-enclosed : goal.decreases-enclosed
decreases-enclosed l = 2048 * (length l.self.now.nodes.now - l.p) + 1600

abbrev pub decreases-field : goal.decreases-field
decreases-field l = 2048 * (length l.self.now.nodes.now - l.p) + 2

abbrev pub decreases-fields : goal.decreases-fields
decreases-fields l = 2048 * (length l.self.now.nodes.now - l.p) + 4

abbrev pub decreases-pretty : goal.decreases-pretty
decreases-pretty l = 2048 * (length l.self.now.nodes.now - l.p)

abbrev pub decreases-pretty_tail : goal.decreases-pretty_tail
decreases-pretty_tail l = 2048 * (length l.self.now.nodes.now - l.p)

abbrev pub decreases-spelled : goal.decreases-spelled
decreases-spelled l = 2048 * (length l.self.now.nodes.now - l.p) + 1900

abbrev pub decreases-square : goal.decreases-square
decreases-square l = 2048 * (length l.self.now.nodes.now - l.p) + 1600

abbrev pub invariant-fields-loop-k : goal.invariant-fields-loop-k
invariant-fields-loop-k l = Items (held l.self) (mode_of l.self.paste) l.labelled l.p l.i l.initial.w l.w l.q l.k
