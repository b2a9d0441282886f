-- `gap_lines` meets its contract: the rows before the counter are printed.
use mathlib.Core.Path.{refl, ◌∙◌}
use native.Mathlib.Omega.{arith}
use Rattle.text.proofs.Gaps.{gaps-none, gaps-next}
use Rattle.text.proofs.lines.gap_lines.Goals as goal

pub loop-init : goal.loop-init
loop-init c = record { few = omega arith; places = omega arith; texts = omega arith; same = refl; long = refl; printed = gaps-none }

pub loop-preserved : goal.loop-preserved
loop-preserved c =
    let i = c.loop.invariant in
    record {
      few = omega (arith, c.loop-test.true);
      places = omega (arith, i.places, c.gap_line-p.ensures.p_bound_2);
      texts = omega (arith, i.texts, c.gap_line-p.ensures.at_bound_2);
      same = c.gap_line-p.ensures.same ∙ i.same;
      long = c.gap_line-p.ensures.long ∙ i.long;
      printed = gaps-next c.loop.counter i.printed c.gap_line-p.ensures.printed;
    }
