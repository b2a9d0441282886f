-- `reading::file::read_lines` meets its contract. The loop's invariant: what is said so far, and that what is left of the file decides; the measure is what is left of it.
use Prim.Native.Nat.{◌-◌}
use lib.ListN.{length, take}
use Rattle.reading.specs.Said.{held_in}
use Rattle.reading.proofs.Lines.{Within}
use Rattle.reading.proofs.file.read_lines.Given as goal

abbrev pub invariant-loop-i : goal.invariant-loop-i
invariant-loop-i l = Within l.file l.k l.i l.at l.s (held_in (take l.at l.store.bytes) l.store.tables l.store.rows)

abbrev pub decreases-loop-i : goal.decreases-loop-i
decreases-loop-i l = length l.file - l.i
