-- The pieces of a type's frame and of a constructor's.
use Rattle.std.specs.Prelude.{Bool, List, ℕ}
use Rattle.scope.specs.Lists.{Text, bit}
use Rattle.scope.specs.Types.{Ref}
use Rattle.scope.specs.Frames.{Reader, ◌>>=◌, byte, within, flag, times, small_name, fields_for}

-- a tuple's count, 2 to 16, and types
abbrev pub counted_bytes : Reader (List ℕ)
counted_bytes = do n ← within 2 16; times n byte

-- a field with a label: its type, then the label
abbrev pub field : Reader Text
field = do t ← byte; small_name

-- arity 0 to 16, with labels 1 to 16, then fields
abbrev pub fields_with : Bool → Reader (List Ref × List Text)
fields_with labelled = do k ← within (bit labelled) 16; fields_for labelled k

-- labels 00 or 01, arity and fields
abbrev pub fields : Reader (List Ref × List Text)
fields = do labelled ← flag; fields_with labelled
