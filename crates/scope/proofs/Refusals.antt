-- What every outcome keeps to, branch by branch: a refusal has no text and changes no byte of the buffer; a report fits it.
use mathlib.Core.Path.{◌≡◌, refl, ap, sym}
use mathlib.Core.List.{List, ◌++◌}
use mathlib.Core.Bool.{Bool, true, false, cond}
use Prim.Native.Nat.{ℕ, ◌≤◌}
use native.Mathlib.Omega.{arith}
use lib.Dec.{leb, ltb}
use lib.ListN.{length, drop}
use borrow.Author.Tests.{leb-true}
use Rattle.scope.specs.declared.Answer.TheVariants.{Report, Refused}
use Rattle.scope.specs.Lists.{Text}
use Rattle.scope.specs.Lines.{lines}
use Rattle.scope.specs.Blocks.{Parsed, parsed, faulty, block_of}
use Rattle.scope.specs.Driver.{findings, too_much}
use Rattle.scope.specs.Report.{report}
use Rattle.scope.specs.Answer.{Outcome, refused, fitted, walked, outcome_of, outcome, answer, report_text, buffer_after}
use Rattle.scope.proofs.Tests.{clash}

-- a report fits, a refusal has no text
pub data Kept (room : ℕ) : Outcome → Type 0 where
  fits : (t : Text) → length t ≤ room → Kept room (record { answer = Report (length t); text = t })
  refuses : (n k : ℕ) → Kept room (refused n k)

fitted-kept : (room : ℕ) (t : Text) → Kept room (fitted room t)
unfolding fitted
fitted-kept room t = go (leb (length t) room) refl
  where
    go : (b : Bool) → leb (length t) room ≡ b → Kept room (cond b (record { answer = Report (length t); text = t }) (refused 11 0))
    go true e = fits t (leb-true (length t) room e)
    go false e = refuses 11 0

judged-kept : (room : ℕ) (p : Parsed) → Kept room (outcome_of room p)
unfolding outcome_of walked
judged-kept room (parsed b) = go (too_much (findings b))
  where
    go : (x : Bool) → Kept room (cond x (refused 10 0) (fitted room (report b.table (findings b))))
    go true = refuses 10 0
    go false = fitted-kept room (report b.table (findings b))
judged-kept room (faulty n k) = refuses n k

pub kept : (file : List ℕ) (cells room : ℕ) → Kept room (outcome file cells room)
unfolding outcome
kept file cells room = at-scratch (ltb cells 16384)
  where
    read : Outcome
    read = outcome_of room (block_of (lines file))

    at_size : (b : Bool) → Kept room (cond b (refused 2 0) read)
    at_size true = refuses 2 0
    at_size false = judged-kept room (block_of (lines file))

    at-scratch : (b : Bool) → Kept room (cond b (refused 1 0) (cond (ltb 49152 (length file)) (refused 2 0) read))
    at-scratch true = refuses 1 0
    at-scratch false = at_size (ltb 49152 (length file))

-- A refusal changes no byte of the report buffer
pub refused-keeps : (file : List ℕ) (cells : ℕ) (buffer : List ℕ) (n k : ℕ) → answer file cells (length buffer) ≡ Refused n k
    → buffer_after file cells buffer ≡ buffer
unfolding answer buffer_after report_text
refused-keeps file cells buffer n k e = go (outcome file cells (length buffer)) (kept file cells (length buffer)) e
  where
    go : (o : Outcome) → Kept (length buffer) o → o.answer ≡ Refused n k → o.text ++ drop (length o.text) buffer ≡ buffer
    go o (fits t h) i = clash (cc)
    go o (refuses m j) i = refl

-- the first L bytes of the report buffer hold the report and the rest are unchanged
pub record Filled (file : List ℕ) (cells : ℕ) (buffer : List ℕ) (n : ℕ) : Type 0 where
  pub long : n ≡ length (report_text file cells (length buffer))
  pub fit : n ≤ length buffer
  pub holds : buffer_after file cells buffer ≡ report_text file cells (length buffer) ++ drop n buffer

pub report_fills : (file : List ℕ) (cells : ℕ) (buffer : List ℕ) (n : ℕ) → answer file cells (length buffer) ≡ Report n → Filled file cells buffer n
unfolding answer buffer_after report_text
report_fills file cells buffer n e =
    let p = go (outcome file cells (length buffer)) (kept file cells (length buffer)) e in
    record { long = p.0; fit = p.1; holds = ap (λ (x : ℕ). (outcome file cells (length buffer)).text ++ drop x buffer) (sym p.0) }
  where
    go : (o : Outcome) → Kept (length buffer) o → o.answer ≡ Report n → (n ≡ length o.text) × (n ≤ length buffer)
    go o (fits t h) i = let s : length t ≡ n = cc in (sym s, omega arith)
    go o (refuses m j) i = clash (cc)
