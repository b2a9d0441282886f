-- The line that a file begins with, and what reading one does to the decoded bytes.
use Rattle.std.specs.Prelude.{◌≡◌, List, [], ◌∷◌, true, false, cond, ℕ, ◌+◌, ◌-◌, ◌*◌, ◌≤◌, ◌<◌, Result, Ok, Err, length, drop, eqb}
use Rattle.std.proofs.lemmas.List.Edits.{sets}
use Rattle.scope.specs.Lines as scope
use Rattle.scope.specs.Lines.{ended, lines, unhex, is_line}
use Rattle.scope.specs.Blocks.{Step, ok, refuse}
use Rattle.hexadecimal.specs.declared.Line.{Line}
use Rattle.hexadecimal.specs.declared.BadLine.{BadLine}

-- the characters before the first line feed
abbrev pub digits : List ℕ → List ℕ
digits [] = []
digits (b ∷ bs) = cond (eqb b 10) [] (b ∷ digits bs)

-- document 01's number and values for each case: the next line's place, and the place after the bytes; 3
abbrev pub said_line : Result Line BadLine → Step (ℕ × ℕ)
said_line (Ok l) = ok (l.next, l.to)
said_line (Err e) = refuse 3

-- the file's line at `from` is not 3; the next one begins at `next`; its bytes are written from `at` to `to`
pub record TakenLine (file : List ℕ) (from : ℕ) (before : List ℕ) (at next to : ℕ) (after : List ℕ) : Type 0 where
  pub digits_of : List ℕ
  pub begins : lines (drop from file) ≡ ended digits_of ∷ lines (drop next file)
  pub good : is_line (ended digits_of) ≡ true
  pub written : after ≡ sets before at (unhex digits_of)
  pub reached : to ≡ at + length (unhex digits_of)
  pub ends : next ≡ from + length digits_of + 1
  pub onward : from < next
  pub inside : next ≤ length file
  pub packed : 2 * to ≤ next
  pub short : to - at ≤ 640

-- the file's line at `from` is 3, and n is that number; nothing is written
pub record RefusedLine (file : List ℕ) (from : ℕ) (before : List ℕ) (n : ℕ) (after : List ℕ) : Type 0 where
  pub line : scope.Line
  pub others : List scope.Line
  pub begins : lines (drop from file) ≡ line ∷ others
  pub bad : is_line line ≡ false
  pub number : n ≡ 3
  pub kept : after ≡ before

-- what reading a line does, by its answer's number and values
abbrev pub Lined : List ℕ → ℕ → List ℕ → ℕ → Step (ℕ × ℕ) → List ℕ → Type 0
Lined file from before at (ok (next, to)) after = TakenLine file from before at next to after
Lined file from before at (refuse n) after = RefusedLine file from before n after
