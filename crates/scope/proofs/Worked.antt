-- P1 to P10 of document 01 hold of the definitions: the table by computing, and P1 of every block without clauses.
use mathlib.Core.List.{List, []}
use mathlib.Core.Path.{◌≡◌, refl, ap, ◌∙◌}
use mathlib.Core.Bool.{false}
use Prim.Native.Nat.{ℕ, ◌≤◌}
use native.Mathlib.Omega.{arith}
use Rattle.scope.specs.declared.Answer.TheVariants.{Report}
use Rattle.scope.specs.Lines.{lines}
use Rattle.scope.specs.Blocks.{Block, block_of}
use Rattle.scope.specs.Driver.{findings, too_much}
use Rattle.scope.specs.Report.{report}
use Rattle.scope.specs.Answer.{fitted, outcome, printed_for, program_prints}
use Rattle.scope.specs.SmallBlocks.{all_missing, NoClauses, AnyNone, SmallBlocks}
use Rattle.scope.proofs.Compute.{compute}
use Rattle.scope.proofs.Answers.{fitted_in, outcome-lines, judged-parsed, answer_of, text_of}

bare-report : (b : Block) → b.rows ≡ [] → report b.table (findings b) ≡ all_missing
unfolding compute
bare-report b e = rw e

bare_work : (b : Block) → b.rows ≡ [] → too_much (findings b) ≡ false
unfolding compute
bare_work b e = rw e

-- enough is lent, so the outcome is that report
bare-outcome : (file : List ℕ) (cells room : ℕ) → NoClauses file → 16384 ≤ cells → 63 ≤ room → outcome file cells room ≡ record { answer = Report 63; text = all_missing }
bare-outcome file cells room n c r =
    outcome-lines file cells room c n.size ∙
    judged-parsed room n.block (block_of (lines file)) n.says (bare_work n.block n.none) ∙
    ap (fitted room) (bare-report n.block n.none) ∙
    fitted_in room all_missing r

any_none_lem : AnyNone
unfolding program_prints
any_none_lem = record {
  reports = bare-report;
  answers = λ file cells room n c r. answer_of file cells room (bare-outcome file cells room n c r);
  report_texts = λ file cells room n c r. text_of file cells room (bare-outcome file cells room n c r);
  prints_it = λ file n. ap printed_for (bare-outcome file 16384 32768 n (omega arith) (omega arith));
}

pub P1_P10 : SmallBlocks
unfolding compute
P1_P10 = record { each = (refl, (refl, (refl, (refl, (refl, (refl, (refl, (refl, (refl, (refl, tt)))))))))); any_none = any_none_lem }
