-- The definitions' answer, buffer and scratch meet the mission, and nothing else does: from what the table, the findings and the report's words are.
use mathlib.Core.Path.{◌≡◌, refl, sym, ap, subst, ◌∙◌}
use mathlib.Core.List.{List, ◌++◌}
use Prim.Native.Nat.{ℕ, ◌<◌}
use native.Mathlib.Omega.{arith}
use lib.ListN.{length, drop, length-replicate, get_or-replicate}
use lib.Seq.{ext_get_or}
use Rattle.scope.specs.declared.Answer.{Answer}
use Rattle.scope.specs.declared.Answer.TheVariants.{Report, Refused}
use Rattle.scope.specs.Lines.{lines}
use Rattle.scope.specs.Types.{Table}
use Rattle.scope.specs.Blocks.{Block, parsed, block_of}
use Rattle.scope.specs.Driver.{Findings, findings}
use Rattle.scope.specs.Report.{report}
use Rattle.scope.specs.Answer.{said, answer, report_text, buffer_after, scratch_after}
use Rattle.refusals.specs.Refusals.{Refuses}
use Rattle.promises.specs.Clauses.{Demand3}
use Rattle.promises.specs.Mission.{Reporting, Answered, a_report, a_refusal, Mission}
use Rattle.scope.proofs.Answers.{scratch-zero, scratch-length}
use Rattle.scope.proofs.Refusals.{refused-keeps, report_fills}
use Rattle.meaning.proofs.Parsing.{same_block}
use Rattle.meaning.proofs.Promised.{promises, reported}
use Rattle.refusals.proofs.Answered.{refused-exactly, report-exactly, whole-block}
use Rattle.agreement.proofs.Raws.{clauses_in}
use Rattle.agreement.proofs.Agreement.{source-agrees}
use Rattle.promises.proofs.Own.{clauses-exactly}
use Rattle.promises.proofs.Promised.{demand3}
use Rattle.promises.proofs.Said.{words}
use Rattle.promises.proofs.Listed.{one-text}

module _ (file : List ℕ) (cells : ℕ) (buffer : List ℕ) where
  -- a report's text is what its block says
  text-is : (n : ℕ) (b : Block) → block_of (lines file) ≡ parsed b → answer file cells (length buffer) ≡ Report n → report_text file cells (length buffer) ≡ report b.table (findings b)
  text-is n b i e =
      let q = reported file cells (length buffer) n e in
      q.text ∙ ap (λ (x : Block). report x.table (findings x)) (same_block q.says i)

  pub reporting : (n : ℕ) → answer file cells (length buffer) ≡ Report n → Reporting file buffer cells n (buffer_after file cells buffer)
  reporting n e =
      let due = (report-exactly file cells (length buffer) n).0 e in
      let i = whole-block due.whole in
      let p = promises file cells (length buffer) n e in
      let own = (clauses-exactly file (clauses_in (lines file))).0 refl in
      let d = subst (Demand3 (clauses_in (lines file))) (same_block p.says i) (demand3 file p (clauses_in (lines file)) own) in
      record {
        due = due;
        source = source-agrees file due.block i;
        clauses = clauses_in (lines file);
        own = own;
        meaning = d;
        text = report due.block.table (findings due.block);
        words = words (clauses_in (lines file)) due.block d file i;
        is_long = ap length (sym (text-is n due.block i e)) ∙ (reported file cells (length buffer) n e).long;
        holds = (report_fills file cells buffer n e).holds ∙ ap (◌++ drop n buffer) (text-is n due.block i e);
      }

  answered : (r : Answer) → answer file cells (length buffer) ≡ r → Answered file buffer cells (buffer_after file cells buffer) (said r)
  unfolding said
  answered (Report n) e = a_report refl refl (reporting n e)
  answered (Refused n k) e = a_refusal ((refused-exactly file cells (length buffer) n k).0 e) refl (refused-keeps file cells buffer n k e)

-- what the definitions say meets the mission
pub met : (file scratch buffer : List ℕ) → Mission file scratch buffer (answer file (length scratch) (length buffer)) (buffer_after file (length scratch) buffer) (scratch_after scratch)
met file scratch buffer = record {
  answered = answered file (length scratch) buffer (answer file (length scratch) (length buffer)) refl;
  scratch_long = scratch-length scratch;
  scratch_zero = scratch-zero scratch;
}

-- the text of a report is that of its block's findings
pub says-report : {file buffer buffer' : List ℕ} {cells n : ℕ} (h : Reporting file buffer cells n buffer') → h.text ≡ report h.due.block.table (findings h.due.block)
says-report {file} h = one-text h.words (words h.clauses h.due.block h.meaning file (whole-block h.due.whole))

-- a report is not empty
some-text : (table : Table) (f : Findings) → 0 < length (report table f)
unfolding report
some-text table f = omega arith

-- and what meets it is that
pub record Fixed (file scratch buffer : List ℕ) (r : Answer) (buffer' scratch' : List ℕ) : Type 0 where
  pub answer_is : r ≡ answer file (length scratch) (length buffer)
  pub buffer_is : buffer' ≡ buffer_after file (length scratch) buffer
  pub scratch_is : scratch' ≡ scratch_after scratch

-- a row of the table gives its number and its line
refusal_is : {file : List ℕ} {cells room n k : ℕ} → Refuses file cells room n k → answer file cells room ≡ Refused n k
refusal_is {file} {cells} {room} {n} {k} h = (refused-exactly file cells room n k).1 h

-- no refusal has number 0
not-zero : {file : List ℕ} {cells room k : ℕ} → Refuses file cells room 0 k → ⊥
not-zero = elim [ ]

module _ {file buffer buffer' : List ℕ} {cells : ℕ} where
  -- where no row applies there is a report
  reporting-is : {n : ℕ} → Reporting file buffer cells n buffer' → answer file cells (length buffer) ≡ Report n
  reporting-is {n} h = (report-exactly file cells (length buffer) n).1 h.due

  -- no report has length 0
  not-empty : Reporting file buffer cells 0 buffer' → ⊥
  not-empty h = absurd (omega (arith, some-text h.due.block.table (findings h.due.block), ap length (says-report h), h.is_long))

  -- so the answer is the definitions'
  answered-is : (r : Answer) → Answered file buffer cells buffer' (said r) → r ≡ answer file cells (length buffer)
  unfolding said
  answered-is (Report n) (a_report z k h) = sym (reporting-is h)
  answered-is (Report n) (a_refusal h z e) = absurd (not-zero h)
  answered-is (Refused n k) (a_report z l h) = absurd (not-empty h)
  answered-is (Refused n k) (a_refusal h z e) = sym (refusal_is h)

  -- and so is the buffer
  answered-buffer : (r : Answer) → Answered file buffer cells buffer' (said r) → buffer' ≡ buffer_after file cells buffer
  unfolding said
  answered-buffer r (a_report z k h) =
      let e = reporting-is h in
      h.holds ∙ ap (◌++ drop (said r).long buffer) (says-report h ∙ sym (text-is file cells buffer (said r).long h.due.block (whole-block h.due.whole) e)) ∙ sym (report_fills file cells buffer (said r).long e).holds
  answered-buffer r (a_refusal h z e) = e ∙ sym (refused-keeps file cells buffer (said r).number (said r).line (refusal_is h))

pub fixed : {file scratch buffer buffer' scratch' : List ℕ} {r : Answer} → Mission file scratch buffer r buffer' scratch' → Fixed file scratch buffer r buffer' scratch'
unfolding scratch_after
fixed {scratch = scratch} {scratch' = scratch'} {r = r} m = record {
  answer_is = answered-is r m.answered;
  buffer_is = answered-buffer r m.answered;
  scratch_is = ext_get_or 1 scratch' _ (m.scratch_long ∙ sym (length-replicate (length scratch) 0)) (λ i l.
      let k : i < length scratch = omega (arith, m.scratch_long) in
      m.scratch_zero i k ∙ sym (get_or-replicate (length scratch) i 0 1 k));
}
