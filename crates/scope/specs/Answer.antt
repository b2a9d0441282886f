-- What a file is answered with, lent so many cells of scratch and a report buffer of so many bytes.
use Rattle.std.specs.Prelude.{List, [], ◌++◌, cond, ℕ, length, drop, replicate, leb, ltb}
use Rattle.scope.specs.declared.Answer.{Answer}
use Rattle.scope.specs.declared.Answer.TheVariants.{Report, Refused}
use Rattle.scope.specs.Limits.{scratch_cells, max_file, report_bytes}
use Rattle.scope.specs.Lists.{Text, bytes}
use Rattle.scope.specs.Lines.{lines}
use Rattle.scope.specs.Text.{decimal}
use Rattle.scope.specs.Blocks.{Block, Parsed, parsed, faulty, block_of}
use Rattle.scope.specs.Driver.{Findings, findings, too_much}
use Rattle.scope.specs.Report.{report}

-- An answer is a number and a line from 1 (0 where no line is at fault). Number 0 is a report and its length
pub record Said : Type 0 where
  pub number : ℕ
  pub line : ℕ
  pub long : ℕ

-- document 01's number, line and length for each case of the answer
unfoldable pub said : Answer → Said
said (Report n) = record { number = 0; line = 0; long = n }
said (Refused n k) = record { number = n; line = k; long = 0 }

-- an answer, and the report's text where it is a report
pub record Outcome : Type 0 where
  pub answer : Answer
  pub text : Text

-- a refusal has no text
abbrev pub refused : ℕ → ℕ → Outcome
refused n k = record { answer = Refused n k; text = [] }

-- 11: the report is longer than its buffer
unfoldable pub fitted : ℕ → Text → Outcome
fitted room t = cond (leb (length t) room) (record { answer = Report (length t); text = t }) (refused 11 0)

-- 10 before 11
unfoldable pub walked : ℕ → Block → Findings → Outcome
walked room b f = let fine = fitted room (report b.table f) in cond (too_much f) (refused 10 0) fine

-- after the last line: 10, 11
unfoldable pub outcome_of : ℕ → Parsed → Outcome
outcome_of room (parsed b) = walked room b (findings b)
outcome_of room (faulty n k) = refused n k

-- Order: 1, 2, then line by line
unfoldable pub outcome : List ℕ → ℕ → ℕ → Outcome
outcome file cells room =
    let read = outcome_of room (block_of (lines file)) in
    let sized = cond (ltb max_file (length file)) (refused 2 0) read in
    cond (ltb cells scratch_cells) (refused 1 0) sized

-- the answer for a file
unfoldable pub answer : List ℕ → ℕ → ℕ → Answer
answer file cells room = (outcome file cells room).answer

-- the report; a refusal has none
unfoldable pub report_text : List ℕ → ℕ → ℕ → Text
report_text file cells room = (outcome file cells room).text

-- the first L bytes of the report buffer hold the report and the rest are unchanged; a refusal changes no byte
unfoldable pub buffer_after : List ℕ → ℕ → List ℕ → List ℕ
buffer_after file cells buffer = let t = report_text file cells (length buffer) in t ++ drop (length t) buffer

-- Lent scratch is all zero on return, for every answer
unfoldable pub scratch_after : List ℕ → List ℕ
scratch_after scratch = replicate (length scratch) 0

-- an outcome in print: the report, or `refused N line K`
abbrev pub printed_for : Outcome → Text
printed_for o = saying o.answer
  where
    saying : Answer → Text
    saying (Report n) = o.text
    saying (Refused n k) = bytes "refused " ++ decimal n ++ bytes " line " ++ decimal k ++ bytes "\n"

-- what is printed for a file, lent so many cells of scratch and bytes of buffer
abbrev pub printed : List ℕ → ℕ → ℕ → Text
printed file cells room = printed_for (outcome file cells room)

-- what the program prints for a file: it lends 16,384 cells and 32,768 bytes
unfoldable pub program_prints : List ℕ → Text
program_prints file = printed file scratch_cells report_bytes
