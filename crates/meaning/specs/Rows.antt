-- Demand 3 over simplified rows, from which that over the file's own clauses follows; and that a report's text says the findings.
use Rattle.std.specs.Prelude.{List, [], ◌∷◌, ◌≡◌, ◌↔◌, true, false, ℕ, ◌+◌, ◌<◌, length, get_or, take}
use Rattle.scope.specs.declared.Answer.TheVariants.{Report}
use Rattle.scope.specs.Lists.{all}
use Rattle.scope.specs.Lines.{lines}
use Rattle.scope.specs.Simplify.{Row, Matrix}
use Rattle.laws.specs.Typed.{TypedRows}
use Rattle.scope.specs.Blocks.{Block, parsed, block_of}
use Rattle.scope.specs.Driver.{findings, verdicts, gaps}
use Rattle.scope.specs.Report.{yeses, noes, report}
use Rattle.scope.specs.Answer.{answer, report_text}
use Rattle.meaning.specs.Values.{Vals, HasTypes, fits, fits_any, admits, is_plain}
use Rattle.meaning.specs.Meaning.{Sound, Witness}

-- a value of the subject's type, as a row of one
abbrev pub SubjectRow : Block → Vals → Type 0
SubjectRow b vs = HasTypes b.table (b.subject ∷ []) vs

-- some value of the subject's type fits the row r and no row of m
abbrev pub Reaches : Block → Matrix → Row → Type 0
Reaches b m r = Witness b.table (b.subject ∷ []) m r

-- What the findings about the block that a file says mean
pub record Promises (file : List ℕ) : Type 0 where
  -- the file says a block, its types are sound, and its clauses are patterns of the subject's type, with literals as a file has them
  pub block : Block
  pub says : block_of (lines file) ≡ parsed block
  pub sound : Sound block.table block.subject
  pub suited : TypedRows block.table (block.subject ∷ []) block.rows
  pub admitted : all (all admits) block.rows ≡ true
  -- each clause has one verdict, in order
  pub each : length (verdicts block) ≡ length block.rows
  -- clause i is reached exactly when some value fits it and no earlier clause; else never
  pub reached : (i : ℕ) → i < length block.rows → (get_or (verdicts block) i false ≡ true) ↔ Reaches block (take i block.rows) (get_or block.rows i [])
  -- no row is missing exactly when every value fits some clause
  pub complete : (gaps block ≡ []) ↔ ((vs : Vals) → SubjectRow block vs → fits_any block.rows vs ≡ true)
  -- missing rows are patterns of the subject's type too, without literals
  pub patterned : TypedRows block.table (block.subject ∷ []) (gaps block)
  pub plain : all (all is_plain) (gaps block) ≡ true
  -- each missing row fits a value that no clause fits
  pub missed : (i : ℕ) → i < length (gaps block) → Reaches block block.rows (get_or (gaps block) i [])
  -- no value fits two missing rows
  pub once : (vs : Vals) → SubjectRow block vs → (i j : ℕ) → i < length (gaps block) → j < length (gaps block) → fits (get_or (gaps block) i []) vs ≡ true
      → fits (get_or (gaps block) j []) vs ≡ true → i ≡ j
  -- without literals no value of a missing row fits any clause
  pub apart : all (all is_plain) block.rows ≡ true → (vs : Vals) → SubjectRow block vs → (i : ℕ) → i < length (gaps block)
      → fits (get_or (gaps block) i []) vs ≡ true → fits_any block.rows vs ≡ false

-- every file that gets a report has them
abbrev pub Promised : Type 0
Promised = (file : List ℕ) (cells room n : ℕ) → answer file cells room ≡ Report n → Promises file

-- What the report says: those findings, as they are, each clause counted once
pub record Reported (file : List ℕ) (cells room n : ℕ) : Type 0 where
  pub block : Block
  pub says : block_of (lines file) ≡ parsed block
  pub text : report_text file cells room ≡ report block.table (findings block)
  pub long : length (report_text file cells room) ≡ n
  pub counted : yeses (verdicts block) + noes (verdicts block) ≡ length block.rows

-- every report says that
abbrev pub SaysFindings : Type 0
SaysFindings = (file : List ℕ) (cells room n : ℕ) → answer file cells room ≡ Report n → Reported file cells room n
