-- What the mission shuts out by its text alone: wrong checks, none of whose answers, buffers and scratches meet it.
use Rattle.std.specs.Prelude.{◌≡◌, List, ◌++◌, ℕ, length, get_or, drop, replicate}
use Rattle.scope.specs.declared.Answer.{Answer}
use Rattle.scope.specs.declared.Answer.TheVariants.{Report, Refused}
use Rattle.scope.specs.Lists.{Text, bytes}
use Rattle.scope.specs.Limits.{scratch_cells, report_bytes}
use Rattle.scope.specs.Lines.{lines}
use Rattle.scope.specs.SmallBlocks.{document_block}
use Rattle.refusals.specs.Refusals.{Refuses, Reports}
use Rattle.refusals.specs.Exactly.{AtLine}
use Rattle.promises.specs.Mission.{Mission}

-- what the program lends: scratch
unfoldable pub lent : List ℕ
lent = replicate scratch_cells 0

-- and a report buffer
unfoldable pub lent_buffer : List ℕ
lent_buffer = replicate report_bytes 0

-- document 01's own block
abbrev pub example : List ℕ
example = bytes document_block.file

-- and what document 01 prints for it
abbrev pub example_text : Text
example_text = bytes document_block.prints

-- a file for which 10 is due: two clauses alike, with over 16,384 cells held by open calls
abbrev pub heavy : List ℕ
heavy = bytes "0106\n020141001000000000000000000000000000000000\n0201420000\n0300\n" ++ clause ++ clause ++ bytes "05\n"
  where
    clause : List ℕ
    clause = bytes "040600040106000001000600000106000101060001010600010106000101060001010600010106000001\n"

-- wrong checks
pub record Excluded : Type 0 where
  -- a refusal where a report is due
  pub no_refusal : (file scratch buffer buffer' scratch' : List ℕ) (long n k : ℕ) → Reports file (length scratch) (length buffer) long
      → Mission file scratch buffer (Refused n k) buffer' scratch' → ⊥
  -- so a check that refuses every file, whatever the number and the line, and whatever it leaves
  pub every_file : (number line : List ℕ → List ℕ → List ℕ → ℕ) (left right : List ℕ → List ℕ → List ℕ → List ℕ)
      → ((file scratch buffer : List ℕ)
      → Mission file scratch buffer (Refused (number file scratch buffer) (line file scratch buffer)) (left file scratch buffer) (right file scratch buffer))
      → ⊥
  -- a report where a refusal is due, with whatever number
  pub no_report : (file scratch buffer buffer' scratch' : List ℕ) (long n k : ℕ) → Refuses file (length scratch) (length buffer) n k
      → Mission file scratch buffer (Report long) buffer' scratch' → ⊥
  -- so a report where 10 is due
  pub heavy_report : (long : ℕ) (buffer' scratch' : List ℕ) → Mission heavy lent lent_buffer (Report long) buffer' scratch' → ⊥
  -- a refusal at a line that does not exist: 3 to 9 stand at a line of the file, 5 also at the last + 1, the others at 0
  pub line_exists : (file scratch buffer buffer' scratch' : List ℕ) (n k : ℕ) → Mission file scratch buffer (Refused n k) buffer' scratch'
      → AtLine (length (lines file)) n k
  -- a report that leaves a buffer as it was, if the buffer does not begin with c (99), as every report does
  pub is_written : (file scratch buffer scratch' : List ℕ) (long : ℕ) → (get_or buffer 0 0 ≡ 99 → ⊥)
      → Mission file scratch buffer (Report long) buffer scratch' → ⊥
  -- any other verdict, count, gap or number of calls for document 01's own block, and any other answer than its report
  pub example_bytes : (r : Answer) (buffer' scratch' : List ℕ) → Mission example lent lent_buffer r buffer' scratch'
      → (r ≡ Report (length example_text)) × (buffer' ≡ example_text ++ drop (length example_text) lent_buffer)
