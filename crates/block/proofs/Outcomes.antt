-- What is answered for a file, from how it is read and how its block is judged.
use mathlib.Core.Path.{◌≡◌, refl, sym, ap, subst, ◌∙◌}
use mathlib.Core.Bool.{Bool, true, false}
use mathlib.Core.List.{List}
use Prim.Native.Nat.{ℕ, ◌≤◌, ◌<◌}
use native.Mathlib.Omega.{arith}
use lib.ListN.{length}
use lib.Dec.{ltb}
use borrow.Author.Tests.{ltb-true, ltb-false}
use Rattle.scope.specs.declared.Answer.{Answer}
use Rattle.scope.specs.declared.Answer.TheVariants.{Refused}
use Rattle.scope.specs.Lines.{lines}
use Rattle.scope.specs.Blocks.{Block, parsed, faulty, block_of}
use Rattle.scope.specs.Answer.{Outcome, outcome_of, outcome}
use Rattle.scope.proofs.Tests.{clash}
use Rattle.scope.proofs.Answers.{outcome_2, outcome-lines, judged-faulty}
use Rattle.std.specs.Prelude.{Result, Ok, Err}
use Rattle.scope.specs.Numbers.{number_of}
use Rattle.reading.specs.declared.file.Parsed.{Parsed}
use Rattle.reading.specs.declared.file.Faulty.{Faulty}
use Rattle.reading.specs.Said as read
use Rattle.reading.specs.Files.{file_of, said_parsed, ReadAs, a_block, a_fault}
use Rattle.reading.proofs.Whole.{file-long, file-lines}
use Rattle.fitting.specs.Given.{Given}
use Rattle.judging.specs.Blocks.{Holds, Known}
use Rattle.block.proofs.Held.{handed, holds, known}

-- a file is too long, or it is not
by_length : {A : Type 0} (file : List ℕ) → (49152 < length file → A) → (length file ≤ 49152 → A) → A
by_length {A} file f g = go (ltb 49152 (length file)) refl
  where
    go : (b : Bool) → ltb 49152 (length file) ≡ b → A
    go true e = f (ltb-true 49152 (length file) e)
    go false e = g (ltb-false 49152 (length file) e)

-- 2, then line by line
outcome-file : (file : List ℕ) (cells room : ℕ) → 16384 ≤ cells → outcome file cells room ≡ outcome_of room (file_of file)
outcome-file file cells room h = by_length file (λ l. outcome_2 file cells room h l ∙ sym (judged-faulty room 2 0 (file_of file) (file-long file l))) (λ l. outcome-lines file cells room h l ∙ ap (outcome_of room) (sym (file-lines file l)))

says-block : (file : List ℕ) (b : Block) → file_of file ≡ parsed b → block_of (lines file) ≡ parsed b
says-block file b e = by_length file (λ l. let i : faulty 2 0 ≡ parsed b = sym (file-long file l) ∙ e in clash (cc)) (λ l. sym (file-lines file l) ∙ e)

-- the same of an answer that is known
read_as : {file : List ℕ} {h : read.Held} {p q : Result Parsed Faulty} → p ≡ q → ReadAs file h (said_parsed p) → ReadAs file h (said_parsed q)
read_as {file} {h} e r = subst (λ (x : Result Parsed Faulty). ReadAs file h (said_parsed x)) e r

module _ (file : List ℕ) (h : read.Held) (p : Result Parsed Faulty) (r : ReadAs file h (said_parsed p)) where
  module _ (q : Parsed) (e : p ≡ Ok q) where
    pub known_read : Known (handed h q.clauses)
    known_read = go (read_as e r)
      where
        go : ReadAs file h (said_parsed (Ok q)) → Known (handed h q.clauses)
        go (a_block b is x) = known file h q.subject q.clauses q.types b (says-block file b is) x

    pub few-read : q.clauses ≤ length h.rows
    few-read = go (read_as e r)
      where
        go : ReadAs file h (said_parsed (Ok q)) → q.clauses ≤ length h.rows
        go (a_block b is x) = omega (arith, x.few_clauses, x.sized.rows_long)

    -- the block judged
    pub block-given : (cells : ℕ) (report : List ℕ) (a : Answer) (report' : List ℕ) → 16384 ≤ cells → ((b : Block) → Holds (handed h q.clauses) b → Given (outcome_of (length report) (parsed b)) a report report') → Given (outcome file cells (length report)) a report report'
    block-given cells report a report' l g = go (read_as e r)
      where
        go : ReadAs file h (said_parsed (Ok q)) → Given (outcome file cells (length report)) a report report'
        go (a_block b is x) = subst (λ (o : Outcome). Given o a report report') (sym (outcome-file file cells (length report) l ∙ ap (outcome_of (length report)) is)) (g b (holds file h q.subject q.clauses q.types b (says-block file b is) x))

  -- the first faulty line refuses it, or its length
  pub fault-given : (f : Faulty) → p ≡ Err f → (cells : ℕ) (report report' : List ℕ) → 16384 ≤ cells → report' ≡ report → Given (outcome file cells (length report)) (Refused (number_of f.why) f.line) report report'
  fault-given f e cells report report' l i = go (read_as e r)
    where
      go : ReadAs file h (said_parsed (Err f)) → Given (outcome file cells (length report)) (Refused (number_of f.why) f.line) report report'
      go (a_fault is s b) = rw (outcome-file file cells (length report) l ∙ judged-faulty (length report) (number_of f.why) f.line (file_of file) is) (record { answer_is = refl; buffer_is = i })
