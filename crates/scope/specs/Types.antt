-- What frames 01 and 02 say: types, and the constructors of data types.
use Rattle.std.specs.Prelude.{List, [], ◌∷◌, ◌++◌, ℕ, get_or}
use Rattle.scope.specs.Lists.{Text}

-- A type reference is the type's place among the type frames, from 0
abbrev pub Ref : Type 0
Ref = ℕ

-- a constructor: its name, its labels in field order (none where it has no labels), the types of its fields
pub record Ctor : Type 0 where
  pub name : Text
  pub labels : List Text
  pub fields : List Ref

-- a type, as its frame and the constructor frames below it say
pub data Ty : Type 0 where
  integer byte_string opaque : Ty
  list : Ref → Ty
  tuple : List Ref → Ty
  pair : Ref → Ref → Ty
  dat : List Ctor → Ty

-- The type table: the types of a file, in its order
abbrev pub Table : Type 0
Table = List Ty

-- the type at a place; opaque where there is none, which 7 keeps out
abbrev pub type_at : Table → Ref → Ty
type_at table t = get_or table t opaque

-- 01 type: 00 integer
abbrev pub integer_kind : ℕ
integer_kind = 0

-- 01 byte string
abbrev pub byte_string_kind : ℕ
byte_string_kind = 1

-- 02 opaque
abbrev pub opaque_kind : ℕ
opaque_kind = 2

-- 03 list
abbrev pub list_kind : ℕ
list_kind = 3

-- 04 tuple
abbrev pub tuple_kind : ℕ
tuple_kind = 4

-- 05 pair
abbrev pub pair_kind : ℕ
pair_kind = 5

-- 06 data
abbrev pub data_kind : ℕ
data_kind = 6

-- the kind of a type: the byte after 01 in its frame
abbrev pub kind : Ty → ℕ
kind integer = integer_kind
kind byte_string = byte_string_kind
kind opaque = opaque_kind
kind (list e) = list_kind
kind (tuple ts) = tuple_kind
kind (pair a b) = pair_kind
kind (dat cs) = data_kind

-- the field types of a constructor
abbrev pub fields_of : Ctor → List Ref
fields_of c = c.fields

-- the name of a constructor
abbrev pub name_of : Ctor → Text
name_of c = c.name

-- the constructors that frames declare for a type
abbrev pub declared : Ty → List Ctor
declared integer = []
declared byte_string = []
declared opaque = []
declared (list e) = []
declared (tuple ts) = []
declared (pair a b) = []
declared (dat cs) = cs

-- the constructors of the data type just above
abbrev pub last_declared : Table → List Ctor
last_declared [] = []
last_declared (ty ∷ []) = declared ty
last_declared (ty ∷ next ∷ table) = last_declared (next ∷ table)

-- 02: one more constructor of the data type just above
abbrev pub add_ctor : Table → Ctor → Table
add_ctor [] c = []
add_ctor (ty ∷ []) c = dat (declared ty ++ c ∷ []) ∷ []
add_ctor (ty ∷ next ∷ table) c = ty ∷ add_ctor (next ∷ table) c
