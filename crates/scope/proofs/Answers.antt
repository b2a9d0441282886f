-- The branches of the answer, one law each: what a code's branch cites.
use mathlib.Core.Path.{◌≡◌, ap}
use mathlib.Core.List.{List, ◌++◌}
use mathlib.Core.Bool.{true, false}
use Prim.Native.Nat.{ℕ, ◌≤◌, ◌<◌}
use lib.ListN.{length, drop, get_or, length-replicate, get_or-replicate}
use borrow.Author.Tests.{lt-ltb, le-ltb, le-leb, lt-leb}
use Rattle.scope.specs.Lists.{Text}
use Rattle.scope.specs.Lines.{lines}
use Rattle.scope.specs.Blocks.{Block, Parsed, parsed, faulty, block_of}
use Rattle.scope.specs.Driver.{findings, too_much}
use Rattle.scope.specs.Report.{report}
use Rattle.scope.specs.declared.Answer.TheVariants.{Report, Refused}
use Rattle.scope.specs.Answer.{said, Outcome, refused, fitted, walked, outcome_of, outcome, answer, report_text, buffer_after, scratch_after}

-- 11: whether the report fits its buffer
pub fitted_in : (room : ℕ) (t : Text) → length t ≤ room → fitted room t ≡ record { answer = Report (length t); text = t }
unfolding fitted
fitted_in room t h = rw (le-leb (length t) room h)

pub fitted-over : (room : ℕ) (t : Text) → room < length t → fitted room t ≡ refused 11 0
unfolding fitted
fitted-over room t h = rw (lt-leb (length t) room h)

-- Order: 1, 2, then line by line
pub outcome_1 : (file : List ℕ) (cells room : ℕ) → cells < 16384 → outcome file cells room ≡ refused 1 0
unfolding outcome
outcome_1 file cells room h = rw (lt-ltb cells 16384 h)

pub outcome_2 : (file : List ℕ) (cells room : ℕ) → 16384 ≤ cells → 49152 < length file → outcome file cells room ≡ refused 2 0
unfolding outcome
outcome_2 file cells room h l = rw (le-ltb cells 16384 h, lt-ltb 49152 (length file) l)

pub outcome-lines : (file : List ℕ) (cells room : ℕ) → 16384 ≤ cells → length file ≤ 49152 → outcome file cells room ≡ outcome_of room (block_of (lines file))
unfolding outcome
outcome-lines file cells room h l = rw (le-ltb cells 16384 h, le-ltb 49152 (length file) l)

-- the first faulty line decides; after the last line: 10, 11
pub judged-faulty : (room n k : ℕ) (p : Parsed) → p ≡ faulty n k → outcome_of room p ≡ refused n k
unfolding outcome_of
judged-faulty room n k p e = rw e

pub judged_10 : (room : ℕ) (b : Block) (p : Parsed) → p ≡ parsed b → too_much (findings b) ≡ true → outcome_of room p ≡ refused 10 0
unfolding outcome_of walked
judged_10 room b p e h = rw (e, h)

pub judged-parsed : (room : ℕ) (b : Block) (p : Parsed) → p ≡ parsed b → too_much (findings b) ≡ false → outcome_of room p ≡ fitted room (report b.table (findings b))
unfolding outcome_of walked
judged-parsed room b p e h = rw (e, h)

-- what the outcome says is what is answered and written
pub answer_of : (file : List ℕ) (cells room : ℕ) {o : Outcome} → outcome file cells room ≡ o → answer file cells room ≡ o.answer
unfolding answer
answer_of file cells room e = ap (λ (o : Outcome). o.answer) e

pub text_of : (file : List ℕ) (cells room : ℕ) {o : Outcome} → outcome file cells room ≡ o → report_text file cells room ≡ o.text
unfolding report_text
text_of file cells room e = ap (λ (o : Outcome). o.text) e

pub buffer_of : (file : List ℕ) (cells : ℕ) (buffer : List ℕ) {o : Outcome} → outcome file cells (length buffer) ≡ o → buffer_after file cells buffer ≡ o.text ++ drop (length o.text) buffer
unfolding buffer_after report_text
buffer_of file cells buffer e = ap (λ (o : Outcome). o.text ++ drop (length o.text) buffer) e

-- Lent scratch is all zero on return, and as long as it was
pub scratch-zero : (s : List ℕ) (i : ℕ) → i < length s → get_or (scratch_after s) i 1 ≡ 0
unfolding scratch_after
scratch-zero s i h = get_or-replicate (length s) i 0 1 h

pub scratch-length : (s : List ℕ) → length (scratch_after s) ≡ length s
unfolding scratch_after
scratch-length s = length-replicate (length s) 0

-- Number 0 is a report and its length
pub said-report : (file : List ℕ) (cells room n : ℕ) → answer file cells room ≡ Report n → said (answer file cells room) ≡ record { number = 0; line = 0; long = n }
unfolding said
said-report file cells room n e = ap said e

pub said-refused : (file : List ℕ) (cells room n k : ℕ) → answer file cells room ≡ Refused n k → said (answer file cells room) ≡ record { number = n; line = k; long = 0 }
unfolding said
said-refused file cells room n k e = ap said e
