-- `gap_lines` meets its contract: the rows before the counter are printed.
use Rattle.text.specs.Rows.{lent}
use Rattle.text.proofs.Gaps.{Printing}
use Rattle.text.proofs.lines.gap_lines.Given as goal

abbrev pub invariant-loop : goal.invariant-loop
invariant-loop l = Printing (lent l.types l.found.nodes.now) l.found.gaps l.initial.w l.w l.p l.counter
