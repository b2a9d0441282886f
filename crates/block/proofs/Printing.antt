-- What is printed for a file, from what the check leaves and how a refusal is written.
use mathlib.Core.Path.{◌≡◌, sym, ap, ap₂, subst, ◌∙◌}
use mathlib.Core.List.{List, ◌++◌}
use Prim.Native.Nat.{ℕ, ◌≤◌}
use native.Mathlib.Nat.{zero-add}
use native.Mathlib.Omega.{arith}
use lib.ListN.{length, drop}
use lib.Seq.{sets}
use Rattle.scope.specs.declared.Answer.{Answer}
use Rattle.scope.specs.declared.Answer.TheVariants.{Report, Refused}
use Rattle.scope.specs.Lists.{Text, bytes}
use Rattle.scope.specs.Text.{decimal}
use Rattle.scope.specs.Answer.{Outcome, outcome, answer, report_text, buffer_after, printed_for, printed}
use Rattle.scope.proofs.Tests.{clash}
use Rattle.scope.proofs.Refusals.{Kept, fits, refuses, kept, refused-keeps}
use Rattle.writing.specs.Writing.{Wrote}
use Rattle.block.specs.Check.{Checked}
use Rattle.block.specs.Print.{Prints}
use Rattle.fitting.proofs.Saying.{written}

-- the line of a refusal
abbrev pub refusal_line : ℕ → ℕ → Text
refusal_line n k = bytes "refused " ++ decimal n ++ bytes " line " ++ decimal k ++ bytes "\n"

-- a report is what is printed, and it fits
record Whole (o : Outcome) (n : ℕ) (out : List ℕ) : Type 0 where
  long : n ≡ length (printed_for o)
  fit : n ≤ length out
  holds : o.text ++ drop (length o.text) out ≡ sets out 0 (printed_for o)

whole : (o : Outcome) (n : ℕ) (out : List ℕ) → Kept (length out) o → o.answer ≡ Report n → Whole o n out
whole o n out (fits t l) e = let i : length t ≡ n = cc in record { long = sym i; fit = omega (arith, i); holds = sym (written out t l) }
whole o n out (refuses m j) e = clash (cc)

line_of : (o : Outcome) (room n k : ℕ) → Kept room o → o.answer ≡ Refused n k → printed_for o ≡ refusal_line n k
line_of o room n k (fits t l) e = clash (cc)
line_of o room n k (refuses m j) e = let a : m ≡ n = cc in let b : j ≡ k = cc in rw (a, b)

-- the same of an answer that is known
pub checked_as : {file scratch out out' scratch' : List ℕ} {r s : Answer} → r ≡ s → Checked file scratch out r out' scratch' → Checked file scratch out s out' scratch'
checked_as {file} {scratch} {out} {out'} {scratch'} e c = subst (λ (a : Answer). Checked file scratch out a out' scratch') e c

module _ (file scratch out : List ℕ) (out' scratch' : List ℕ) where
  outcome-whole : (n : ℕ) → Checked file scratch out (Report n) out' scratch' → Whole (outcome file (length scratch) (length out)) n out
  unfolding answer
  outcome-whole n c = whole (outcome file (length scratch) (length out)) n out (kept file (length scratch) (length out)) (sym c.answer_is)

  pub report-prints : (n : ℕ) → Checked file scratch out (Report n) out' scratch' → Prints file scratch out n out' scratch'
  unfolding buffer_after report_text
  report-prints n c = let w = outcome-whole n c in record { long = w.long; holds = c.report_is ∙ w.holds; scratch_is = c.scratch_is }

  pub report-fits : (n : ℕ) → Checked file scratch out (Report n) out' scratch' → n ≤ length out
  report-fits n c = (outcome-whole n c).fit

  pub refusal-prints : (n k r : ℕ) (last : List ℕ) → Checked file scratch out (Refused n k) out' scratch' → Wrote out' last 0 r (refusal_line n k) → Prints file scratch out r last scratch'
  unfolding answer
  refusal-prints n k r last c w =
      let i : printed file (length scratch) (length out) ≡ refusal_line n k = line_of (outcome file (length scratch) (length out)) (length out) n k (kept file (length scratch) (length out)) (sym c.answer_is) in
      let j : out' ≡ out = c.report_is ∙ refused-keeps file (length scratch) out n k (sym c.answer_is) in
      record {
        long = w.ends ∙ zero-add (length (refusal_line n k)) ∙ ap length (sym i);
        holds = w.holds ∙ ap₂ (λ (d : List ℕ) (t : Text). sets d 0 t) j (sym i);
        scratch_is = c.scratch_is;
      }
