-- Request 13, "Authors reorder clauses", over files and the lines of their reports: when does a review reopen?
use mathlib.Core.List.{List, [], ◌∷◌, ◌++◌, Mem, Perm}
use Rattle.std.specs.Prelude.{◌≡◌, ◌↔◌, Bool, true, false, ℕ, suc, ◌+◌, ◌<◌, length, get_or, take, drop}
use Rattle.scope.specs.Lists.{Text}
use Rattle.scope.specs.Lines.{Line}
use Rattle.scope.specs.Types.{Ref}
use Rattle.scope.specs.Patterns.{Raw}
use Rattle.scope.specs.Simplify.{Matrix}
use Rattle.scope.specs.Frames.{subject_of}
use Rattle.scope.specs.Blocks.{Block}
use Rattle.scope.specs.Answer.{buffer_after}
use Rattle.meaning.specs.Order.{SameMembers}
use Rattle.meaning.specs.NoMore.{NoMore}
use Rattle.refusals.specs.Cut.{Cuts}
use Rattle.refusals.specs.Refusals.{Says, Reports}
use Rattle.promises.specs.Words.{reached_text, never_text, gaps_text, calls_text}
use Rattle.promises.specs.Mission.{Reporting}

-- a file, and the report on it that a check has written
pub record Review : Type 0 where
  pub file : List ℕ
  pub buffer : List ℕ
  pub cells : ℕ
  pub long : ℕ
  pub buffer' : List ℕ
  pub report : Reporting file buffer cells long buffer'

-- every file that gets a report has such a one
abbrev pub EveryReport : Type 0
EveryReport =
    (file buffer : List ℕ) (cells long : ℕ) → Reports file cells (length buffer) long → Reporting file buffer cells long (buffer_after file cells buffer)

-- the block that its file says
abbrev pub the_block : Review → Block
the_block r = r.report.due.block

-- its rows: the clauses, simplified
abbrev pub the_rows : Review → Matrix
the_rows r = (the_block r).rows

-- the clauses, as the file writes them
abbrev pub the_clauses : Review → List (List Raw)
the_clauses r = r.report.clauses

-- the lines of the report
abbrev pub the_lines : Review → List Text
the_lines r = r.report.words.texts

-- "both files have the same types and subject"
pub record SameTypes (r s : Review) : Type 0 where
  pub types : (the_block r).table ≡ (the_block s).table
  pub subject : (the_block r).subject ≡ (the_block s).subject

-- both files begin with the same lines, the last of which says the subject
pub record SameHead (file file' : List ℕ) : Type 0 where
  pub head : List Line
  pub last : Line
  pub subject : Ref
  pub says : Says last (subject_of subject)
  pub rest : List Line
  pub rest' : List Line
  pub one : Cuts file (head ++ last ∷ rest)
  pub other : Cuts file' (head ++ last ∷ rest')

-- the line that lists clause k as reached, or as never reached
abbrev pub verdict_text : Bool → ℕ → Text
verdict_text true k = reached_text k
verdict_text false k = never_text k

-- clause i, counted from 0, is listed with the verdict v: line i + 1, counted from 0, has it under the number i + 1
abbrev pub Lists : Review → ℕ → Bool → Type 0
Lists r i v = get_or (the_lines r) (suc i) [] ≡ verdict_text v (suc i)

-- clause i of the one and clause j of the other are listed with the same verdict
abbrev pub SameVerdict : Review → Review → ℕ → ℕ → Type 0
SameVerdict r s i j = (v : Bool) → Lists r i v ↔ Lists s j v

-- the line after those about clauses is `gaps 0`
abbrev pub ListsNoGaps : Review → Type 0
ListsNoGaps r = get_or (the_lines r) (suc (length (the_clauses r))) [] ≡ gaps_text 0

-- the lines after those about clauses are the same, but for the first number of the last one, the calls
pub record SameBelow (r s : Review) : Type 0 where
  -- `gaps 0` stands in both, or in neither
  pub no_gaps : ListsNoGaps r ↔ ListsNoGaps s
  pub lower : List Text
  pub first : ℕ
  pub first' : ℕ
  pub second : ℕ
  pub one : drop (suc (length (the_clauses r))) (the_lines r) ≡ lower ++ calls_text first second ∷ []
  pub other : drop (suc (length (the_clauses s))) (the_lines s) ≡ lower ++ calls_text first' second ∷ []

-- What the reports on two files of the same types and subject say alike, by their rows
pub record ByRows (r s : Review) : Type 0 where
  -- "a clause's verdict depends only on which clauses stand before it, and not on their order or repeats": the same row, after the same rows
  pub verdict : (i j : ℕ) → i < length (the_clauses r) → j < length (the_clauses s) → get_or (the_rows r) i [] ≡ get_or (the_rows s) j []
      → SameMembers (take i (the_rows r)) (take j (the_rows s)) → SameVerdict r s i j
  -- "whether gaps is 0 depends only on which clauses the block has", and so do the missing rows
  pub below : SameMembers (the_rows r) (the_rows s) → SameBelow r s
  -- the same rows in the same order: the same report, byte for byte
  pub text : the_rows r ≡ the_rows s → r.report.text ≡ s.report.text

-- Verdicts, and the lines below them, by the clauses as the files write them, for the service to cite
pub record ByClauses (r s : Review) : Type 0 where
  -- a clause with the same pattern after the same clauses
  pub verdict : (i j : ℕ) → i < length (the_clauses r) → j < length (the_clauses s) → get_or (the_clauses r) i [] ≡ get_or (the_clauses s) j []
      → SameMembers (take i (the_clauses r)) (take j (the_clauses s)) → SameVerdict r s i j
  -- the same clauses in the block
  pub below : SameMembers (the_clauses r) (the_clauses s) → SameBelow r s

-- n clauses, from clause i of the one report on and from clause j of the other, counted from 0, have the same verdicts, and below stands the same
pub record Kept (r s : Review) (i j n : ℕ) : Type 0 where
  pub verdicts : (k : ℕ) → k < n → SameVerdict r s (i + k) (j + k)
  pub below : SameBelow r s

-- What follows for an author who moves clauses
pub record Moves (r s : Review) : Type 0 where
  -- whatever stands after the clauses xs, they keep their verdicts
  pub sooner : (xs ys zs : List (List Raw)) → the_clauses r ≡ xs ++ ys → the_clauses s ≡ xs ++ zs → (k : ℕ) → k < length xs → SameVerdict r s k k
  -- before the clauses zs stand the same clauses, in whatever order and however often: zs keep their verdicts
  pub earlier : (xs ys zs : List (List Raw)) → SameMembers xs ys → the_clauses r ≡ xs ++ zs → the_clauses s ≡ ys ++ zs
      → Kept r s (length xs) (length ys) (length zs)
  -- two clauses before zs are swapped
  pub swapped : (xs ys zs : List (List Raw)) (p q : List Raw) → the_clauses r ≡ xs ++ p ∷ ys ++ q ∷ zs → the_clauses s ≡ xs ++ q ∷ ys ++ p ∷ zs
      → Kept r s (length xs + length ys + 2) (length xs + length ys + 2) (length zs)
  -- a clause before zs is repeated, after itself or before
  pub repeated : (xs ys zs : List (List Raw)) (p : List Raw) → Mem p (xs ++ ys) → the_clauses r ≡ xs ++ ys ++ zs → the_clauses s ≡ xs ++ p ∷ ys ++ zs
      → Kept r s (length xs + length ys) (length xs + length ys + 1) (length zs)
  -- the whole block is permuted
  pub permuted : Perm (the_clauses r) (the_clauses s) → SameBelow r s

-- Request 13
pub record Request13 : Type 0 where
  -- "Premise: both files have the same types and subject and get a report"
  pub by_rows : (r s : Review) → SameTypes r s → ByRows r s
  pub by_clauses : (r s : Review) → SameTypes r s → ByClauses r s
  pub moves : (r s : Review) → SameTypes r s → Moves r s
  -- a clause that stands above already is never reached
  pub again : (r : Review) (xs zs : List (List Raw)) (p : List Raw) → Mem p xs → the_clauses r ≡ xs ++ p ∷ zs → Lists r (length xs) false
  -- the premise asks no more: a file that gets a report has a review, and files that begin alike have the same types and subject
  pub gets : EveryReport
  pub begins : (r s : Review) → SameHead r.file s.file → SameTypes r s
  -- "Calls, missing rows and the moved clauses' own verdicts may differ"
  pub no_more : NoMore
