-- Refusal 7 at the subject's line: a reference to no type, or a type without a finite value.
use Rattle.std.specs.Prelude.{List, [], ◌∷◌, map, Bool, true, false, ◌&&◌, ℕ, zero, suc, length, get_or, ltb}
use Rattle.scope.specs.Lists.{all, any, flatten}
use Rattle.scope.specs.Types.{Ref, Ty, integer, byte_string, opaque, list, tuple, pair, dat, Table, fields_of}

-- a type's references
abbrev pub refs : Ty → List Ref
refs integer = []
refs byte_string = []
refs opaque = []
refs (list e) = e ∷ []
refs (tuple ts) = ts
refs (pair a b) = a ∷ b ∷ []
refs (dat cs) = flatten (map fields_of cs)

-- is there a type at this place
abbrev pub is_ref : Table → Ref → Bool
is_ref table t = ltb t (length table)

-- is there a type at every reference of the table
unfoldable pub refs_good : Table → Bool
refs_good table = all (λ ty. all (is_ref table) (refs ty)) table

-- has type t a finite value, as far as is known
abbrev pub is_known : List Bool → Ref → Bool
is_known known t = get_or known t false

-- A data type has a finite value when some constructor has one in every field; tuples and pairs need one in every part; integers, byte
-- strings, opaque types and lists always have one
abbrev pub has_value : List Bool → Ty → Bool
has_value known integer = true
has_value known byte_string = true
has_value known opaque = true
has_value known (list e) = true
has_value known (tuple ts) = all (is_known known) ts
has_value known (pair a b) = is_known known a && is_known known b
has_value known (dat cs) = any (λ c. all (is_known known) (fields_of c)) cs

-- what is known after n rounds, each over the whole table
unfoldable pub rounds : Table → ℕ → List Bool
rounds table zero = []
rounds table (suc n) = let known = rounds table n in map (has_value known) table

-- has every type of the table a finite value: a round for each type is enough
unfoldable pub all_finite : Table → Bool
all_finite table = all (has_value (rounds table (length table))) table
