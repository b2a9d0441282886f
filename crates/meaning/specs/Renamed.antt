-- Two files that differ only in constructor, label and variable names; the same verdicts, number of gaps and calls.
use Rattle.std.specs.Prelude.{List, [], ◌∷◌, ◌≡◌, true, ℕ, length}
use Rattle.scope.specs.Lists.{Text}
use Rattle.scope.specs.Lines.{Line, lines, is_line, bytes_of}
use Rattle.scope.specs.Types.{Ref, Ctor, Ty}
use Rattle.scope.specs.Patterns.{Raw, variable, assign}
use Rattle.scope.specs.Frames.{found, Frame, type_of, constructor_of, subject_of, clause_of, end, frame}
use Rattle.scope.specs.Driver.{Findings, findings}
use Rattle.meaning.specs.Rows.{Reported}

-- two patterns that differ at most in the name of a variable or of an assign
pub data SamePattern : Raw → Raw → Type 0 where
  same_pattern : {p : Raw} → SamePattern p p
  same_variable : {n n' : Text} → SamePattern (variable n) (variable n')
  same_assign : {n n' : Text} → SamePattern (assign n) (assign n')

-- the same, pattern by pattern
pub data SamePatterns : List Raw → List Raw → Type 0 where
  no_patterns : SamePatterns [] []
  also_pattern : {p p' : Raw} {ps ps' : List Raw} → SamePattern p p' → SamePatterns ps ps' → SamePatterns (p ∷ ps) (p' ∷ ps')

-- two frames that differ only in names
pub data SameFrame : Frame → Frame → Type 0 where
  same_type : {ty : Ty} → SameFrame (type_of ty) (type_of ty)
  same_ctor : {c d : Ctor} → c.fields ≡ d.fields → length c.labels ≡ length d.labels → SameFrame (constructor_of c) (constructor_of d)
  same_subject : {t : Ref} → SameFrame (subject_of t) (subject_of t)
  same_clause : {ps ps' : List Raw} → SamePatterns ps ps' → SameFrame (clause_of ps) (clause_of ps')
  same_end : SameFrame end end

-- a line that says a frame of kind k, by itself not refused: no 3, no 4
pub record SaysFrame (l : Line) (k : ℕ) (f : Frame) : Type 0 where
  pub good : is_line l ≡ true
  pub rest : List ℕ
  pub kind_first : bytes_of l ≡ k ∷ rest
  pub whole : frame k rest ≡ found f []

-- two lines whose frames differ only in names
pub data SameLine : Line → Line → Type 0 where
  same_line : {l l' : Line} {k : ℕ} {f f' : Frame} → SaysFrame l k f → SaysFrame l' k f' → SameFrame f f' → SameLine l l'

-- the same, line by line
pub data SameLines : List Line → List Line → Type 0 where
  no_lines : SameLines [] []
  also_line : {l l' : Line} {ls ls' : List Line} → SameLine l l' → SameLines ls ls' → SameLines (l ∷ ls) (l' ∷ ls')

-- Two files that differ only in constructor, label and variable names
pub record Renamed (file file' : List ℕ) : Type 0 where
  pub same_lines : SameLines (lines file) (lines file')

-- the same verdicts, number of gaps and calls
pub record SameVerdicts (f g : Findings) : Type 0 where
  pub verdicts : f.reached.result ≡ g.reached.result
  pub gaps : length f.missing.result ≡ length g.missing.result
  pub first_calls : f.reached.calls ≡ g.reached.calls
  pub second_calls : f.missing.calls ≡ g.missing.calls

-- both answered with a report: the blocks that the reports are about have the same verdicts, number of gaps and calls
pub record SameReports (file : List ℕ) (cells room n : ℕ) (file' : List ℕ) (cells' room' n' : ℕ) : Type 0 where
  pub first : Reported file cells room n
  pub second : Reported file' cells' room' n'
  pub same : SameVerdicts (findings first.block) (findings second.block)
