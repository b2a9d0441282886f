-- `clause_lines` meets its contract: the lines of the verdicts before i are written.
use Prim.Native.Nat.{◌+◌, ◌*◌, ◌≤◌}
use lib.ListN.{take}
use Rattle.scope.specs.Report.{clause_lines}
use Rattle.writing.specs.Writing.{Writes}
use Rattle.verdicts.specs.Verdicts.{said}
use Rattle.verdicts.proofs.clause_lines.Given as goal

abbrev pub invariant-loop-i : goal.invariant-loop-i
invariant-loop-i l = (l.w.at ≤ l.fn.w.at + 64 * l.i) × Writes l.fn.w l.w (clause_lines 1 (said (take l.i l.verdicts)))
