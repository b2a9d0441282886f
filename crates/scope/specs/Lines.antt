-- A file is lines of lower-case hexadecimal, one frame a line, each ended by one line feed.
use Rattle.std.specs.Prelude.{List, [], ◌∷◌, Bool, false, cond, ◌&&◌, ◌||◌, ℕ, ◌+◌, ◌-◌, ◌*◌, ◌%◌, length, leb, ltb, eqb}
use Rattle.scope.specs.Limits.{max_digits}
use Rattle.scope.specs.Lists.{all, among}

-- a line's characters, with its line feed or without
pub data Line : Type 0 where
  ended cut : List ℕ → Line

-- one more character in front of the first line
abbrev pub into_first : ℕ → List Line → List Line
into_first b [] = cut (b ∷ []) ∷ []
into_first b (ended ds ∷ ls) = ended (b ∷ ds) ∷ ls
into_first b (cut ds ∷ ls) = cut (b ∷ ds) ∷ ls

-- one more byte in front of a file whose lines are ls
abbrev pub byte_before : ℕ → List Line → List Line
byte_before b ls = cond (eqb b 10) (ended [] ∷ ls) (into_first b ls)

-- the lines of a file; without line feed is the piece after the last one, if it is not empty
unfoldable pub lines : List ℕ → List Line
lines [] = []
lines (b ∷ bs) = byte_before b (lines bs)

-- a lower-case hexadecimal digit: 0 to 9, a to f
unfoldable pub is_hex : ℕ → Bool
is_hex d = among 48 57 d || among 97 102 d

-- the value of a digit
unfoldable pub hex : ℕ → ℕ
hex d = cond (leb d 57) (d - 48) (d - 87)

-- the bytes that the digits say, two digits each
unfoldable pub unhex : List ℕ → List ℕ
unhex [] = []
unhex (d ∷ []) = []
unhex (d ∷ e ∷ ds) = (16 * hex d + hex e) ∷ unhex ds

-- not 3: ended, not empty, even, not over the limit, all hexadecimal
unfoldable pub is_line : Line → Bool
is_line (cut ds) = false
is_line (ended ds) = ltb 0 (length ds) && eqb (length ds % 2) 0 && leb (length ds) max_digits && all is_hex ds

-- a line's bytes
abbrev pub bytes_of : Line → List ℕ
bytes_of (cut ds) = unhex ds
bytes_of (ended ds) = unhex ds
