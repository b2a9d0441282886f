-- The constructors that patterns and walks know of each type: "Constructors come in declared order, for lists "::" before "[]"".
use Rattle.std.specs.Prelude.{List, [], ◌∷◌, map, ℕ, length, get_or, take}
use Rattle.scope.specs.Lists.{Text, bytes}
use Rattle.scope.specs.Types.{Ref, Ctor, Ty, integer, byte_string, opaque, list, tuple, pair, dat, Table, type_at, fields_of}

-- a constructor that no frame declares
abbrev pub built : Text → List Ref → Ctor
built name fields = record { name = name; labels = []; fields = fields }

-- the name of a list cell
abbrev pub cons_name : Text
cons_name = bytes "::"

-- the name of the empty list
abbrev pub nil_name : Text
nil_name = bytes "[]"

-- a built-in constructor: its name and its arity
pub record BuiltIn : Type 0 where
  pub built_name : Text
  pub built_arity : ℕ

-- The built-in constructors with their arities form one fixed table: "::" with 2, "[]" with 0
abbrev pub built_ins : List BuiltIn
built_ins = record { built_name = cons_name; built_arity = 2 } ∷ record { built_name = nil_name; built_arity = 0 } ∷ []

-- the number of "::" in a list type
abbrev pub cons_number : ℕ
cons_number = 0

-- the number of "[]" in a list type
abbrev pub nil_number : ℕ
nil_number = 1

-- Pair and tuple become the constructor `__Tuple`
abbrev pub tuple_name : Text
tuple_name = bytes "__Tuple"

-- its number in a pair or tuple type, where it is the only one
abbrev pub tuple_number : ℕ
tuple_number = 0

-- the constructors of a list of e, which stands at t: a cell holds an element and a list
abbrev pub list_ctors : Ref → Ref → List Ctor
list_ctors t e = map (λ b. built b.built_name (take b.built_arity (e ∷ t ∷ []))) built_ins

-- the constructors of the type ty, which stands at t, in declared order; for lists "::" before "[]"
abbrev pub ctors_at : Ref → Ty → List Ctor
ctors_at t integer = []
ctors_at t byte_string = []
ctors_at t opaque = []
ctors_at t (list e) = list_ctors t e
ctors_at t (tuple ts) = built tuple_name ts ∷ []
ctors_at t (pair a b) = built tuple_name (a ∷ b ∷ []) ∷ []
ctors_at t (dat cs) = cs

-- the constructors of type t
abbrev pub ctors : Table → Ref → List Ctor
ctors table t = ctors_at t (type_at table t)

-- constructor c of type t; one without name and fields where there is none, which 8 keeps out
abbrev pub ctor_at : Table → Ref → ℕ → Ctor
ctor_at table t c = get_or (ctors table t) c (built [] [])

-- the field types of constructor c of type t
abbrev pub fields_at : Table → Ref → ℕ → List Ref
fields_at table t c = fields_of (ctor_at table t c)

-- the arity of constructor c of type t
abbrev pub arity : Table → Ref → ℕ → ℕ
arity table t c = length (fields_at table t c)

-- the field types of each constructor of type t: what the Rust calls its alts
abbrev pub alts : Table → Ref → List (List Ref)
alts table t = map fields_of (ctors table t)
