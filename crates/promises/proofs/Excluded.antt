-- What the mission shuts out, from its text alone and from what the table, the findings and the report are.
use mathlib.Core.Path.{◌≡◌, refl, sym, ap, ◌∙◌}
use mathlib.Core.List.{List, ◌++◌}
use Prim.Native.Nat.{ℕ}
use lib.ListN.{length, get_or, drop, length-replicate}
use Rattle.scope.specs.declared.Answer.{Answer}
use Rattle.scope.specs.declared.Answer.TheVariants.{Report, Refused}
use Rattle.scope.specs.Limits.{scratch_cells, report_bytes}
use Rattle.scope.specs.Lines.{lines}
use Rattle.scope.specs.Types.{Table}
use Rattle.scope.specs.Driver.{Findings, findings}
use Rattle.scope.specs.Report.{report}
use Rattle.scope.specs.Answer.{said, answer, report_text}
use Rattle.refusals.specs.Refusals.{Refuses, Reports}
use Rattle.refusals.specs.Exactly.{AtLine}
use Rattle.promises.specs.Mission.{Answered, a_report, a_refusal, Mission}
use Rattle.promises.specs.Excluded.{lent, lent_buffer, example, example_text, heavy, Excluded}
use Rattle.scope.proofs.Compute.{compute}
use Rattle.scope.proofs.Refusals.{report_fills}
use Rattle.scope.proofs.Tests.{clash}
use Rattle.refusals.proofs.Answered.{refused-exactly, report-exactly, exactly}
use Rattle.promises.proofs.Meets.{says-report, fixed}

module _ (file scratch buffer buffer' scratch' : List ℕ) where
  no_refusal_lem : (long n k : ℕ) → Reports file (length scratch) (length buffer) long → Mission file scratch buffer (Refused n k) buffer' scratch' → ⊥
  no_refusal_lem long n k due m = let a = (report-exactly file (length scratch) (length buffer) long).1 due in let e = (fixed m).answer_is in clash (cc)

  no_report_lem : (long n k : ℕ) → Refuses file (length scratch) (length buffer) n k → Mission file scratch buffer (Report long) buffer' scratch' → ⊥
  no_report_lem long n k due m = let a = (refused-exactly file (length scratch) (length buffer) n k).1 due in let e = (fixed m).answer_is in clash (cc)

  line_exists_lem : (n k : ℕ) → Mission file scratch buffer (Refused n k) buffer' scratch' → AtLine (length (lines file)) n k
  line_exists_lem n k m = exactly.line file (length scratch) (length buffer) n k ((refused-exactly file (length scratch) (length buffer) n k).0 (sym (fixed m).answer_is))

-- a report begins with c, so a buffer that does not has changed
is-written : (file scratch buffer scratch' : List ℕ) (long : ℕ) → (get_or buffer 0 0 ≡ 99 → ⊥) → Mission file scratch buffer (Report long) buffer scratch' → ⊥
unfolding said report
is-written file scratch buffer scratch' long other m = go m.answered
  where
    first : (table : Table) (f : Findings) (rest : List ℕ) → ◌≡◌ {A = ℕ} (get_or (report table f ++ rest) 0 0) 99
    first table f rest = refl

    go : Answered file buffer (length scratch) buffer (said (Report long)) → ⊥
    go (a_report z k h) =
        let e = h.holds ∙ ap (◌++ drop long buffer) (says-report h) in
        other (ap (λ (l : List ℕ). get_or l 0 0) e ∙ first h.due.block.table (findings h.due.block) (drop long buffer))
    go (a_refusal h z e) = absurd (no_report_lem file scratch buffer buffer scratch' long 0 0 h m)

lent-all : (file : List ℕ) (a : Answer) → answer file scratch_cells report_bytes ≡ a → answer file (length lent) (length lent_buffer) ≡ a
unfolding lent lent_buffer
lent-all file a e = rw (length-replicate {A = ℕ} scratch_cells 0, length-replicate {A = ℕ} report_bytes 0) e

-- 10 is due, by computing
heavy_10 : answer heavy scratch_cells report_bytes ≡ Refused 10 0
unfolding compute answer
heavy_10 = refl

heavy-report : (long : ℕ) (buffer' scratch' : List ℕ) → Mission heavy lent lent_buffer (Report long) buffer' scratch' → ⊥
heavy-report long buffer' scratch' m =
    no_report_lem heavy lent lent_buffer buffer' scratch' long 10 0 ((refused-exactly heavy (length lent) (length lent_buffer) 10 0).0 (lent-all heavy (Refused 10 0) heavy_10)) m

-- document 01's own block gets a report, by computing
example-report : answer example scratch_cells report_bytes ≡ Report 130
unfolding compute answer
example-report = refl

example-text : report_text example scratch_cells report_bytes ≡ example_text
unfolding compute report_text
example-text = refl

every-file : (number line : List ℕ → List ℕ → List ℕ → ℕ) (left right : List ℕ → List ℕ → List ℕ → List ℕ)
    → ((file scratch buffer : List ℕ) → Mission file scratch buffer (Refused (number file scratch buffer) (line file scratch buffer)) (left file scratch buffer) (right file scratch buffer)) → ⊥
every-file number line left right every =
    let due = (report-exactly example (length lent) (length lent_buffer) 130).0 (lent-all example (Report 130) example-report) in
    no_refusal_lem example lent lent_buffer _ _ 130 _ _ due (every example lent lent_buffer)

example-bytes : (r : Answer) (buffer' scratch' : List ℕ) → Mission example lent lent_buffer r buffer' scratch' → (r ≡ Report 130) × (buffer' ≡ example_text ++ drop 130 lent_buffer)
unfolding lent lent_buffer
example-bytes r buffer' scratch' m =
    let a = lent-all example (Report 130) example-report in
    let t : report_text example (length lent) (length lent_buffer) ≡ example_text = rw (length-replicate {A = ℕ} scratch_cells 0, length-replicate {A = ℕ} report_bytes 0) example-text in
    ((fixed m).answer_is ∙ a, (fixed m).buffer_is ∙ (report_fills example (length lent) lent_buffer 130 a).holds ∙ ap (◌++ drop 130 lent_buffer) t)

pub excluded : Excluded
excluded = record {
  no_refusal = no_refusal_lem;
  every_file = every-file;
  no_report = no_report_lem;
  heavy_report = heavy-report;
  line_exists = line_exists_lem;
  is_written = is-written;
  example_bytes = example-bytes;
}
