-- Where a reader stands in a line's bytes: at the byte after what was read, or at the byte at fault.
use Rattle.std.specs.Prelude.{List, Bool, true, false, ℕ, ◌-◌, Result, Ok, Err, length, drop}
use Rattle.scope.specs.Lists.{Text}
use Rattle.scope.specs.Frames as scope
use Rattle.scope.specs.Frames.{fault, found, Reader, is_upper, is_lower, is_small, is_big, big_name, small_name, is_decimal}
use Rattle.scope.specs.Blocks.{Step, ok, refuse}
use Rattle.fields.specs.declared.Fault.{Fault}

-- document 01's number and values for each case: the place after what was read; 4, and the place of the byte at fault
abbrev pub said_read : Result ℕ Fault → Step (Unit {0}) × ℕ
said_read (Ok q) = (ok tt, q)
said_read (Err e) = (refuse 4, e.at)

-- what a reader says, of n bytes: 4 for a fault, and the place that was reached
unfoldable pub said_of : {A : Type 0} → ℕ → scope.Read A → Step (Unit {0}) × ℕ
said_of n (fault rest) = (refuse 4, n - length rest)
said_of n (found a rest) = (ok tt, n - length rest)

-- what a reader that begins at a place of the bytes says
abbrev pub said_at : {A : Type 0} → List ℕ → ℕ → Reader A → Step (Unit {0}) × ℕ
said_at bytes at r = said_of (length bytes) (r (drop at bytes))

-- the byte at a place is at fault
abbrev pub at_fault : ℕ → Result ℕ Fault
at_fault q = Err (record { at = q })

-- of n bytes so many are left: the place that was reached
unfoldable pub placed : {A : Type 0} → ℕ → scope.Read A → Result ℕ Fault
placed n (fault rest) = at_fault (n - length rest)
placed n (found a rest) = Ok (n - length rest)

-- what a reader that begins at a place of the bytes reaches
abbrev pub read_at : {A : Type 0} → List ℕ → ℕ → Reader A → Result ℕ Fault
read_at bytes at r = placed (length bytes) (r (drop at bytes))

-- the bytes that may stand in a constructor's name (`big`) or in another, first or later
abbrev pub letter_of : Bool → Bool → ℕ → Bool
letter_of true true = is_upper
letter_of true false = is_big
letter_of false true = is_lower
letter_of false false = is_small

-- a constructor's name, or another
abbrev pub name_of : Bool → Reader Text
name_of true = big_name
name_of false = small_name

-- decimal text is judged, other text is not
abbrev pub judged : Bool → Text → Bool
judged true = is_decimal
judged false = λ t. true
