-- `clause_lines` meets its contract: the lines of the verdicts before i are written.
use native.Mathlib.Omega.{arith}
use Rattle.writing.proofs.Writing.{writes_more, writes_as}
use Rattle.verdicts.proofs.Verdicts.{lines_next}
use Rattle.verdicts.proofs.clause_lines.Goals as goal

pub loop-i-preserved : goal.loop-i-preserved
loop-i-preserved c =
    let p = c.loop-i in
    (omega (arith, p.invariant.0, c.clause_line.ensures.upper_bound), writes_as (lines_next c.args.verdicts.now p.i (omega arith)) (writes_more p.invariant.1 c.clause_line.ensures.wrote))
