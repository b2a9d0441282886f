-- Rows as patterns of types: what `simplify` gives, and what the walks keep.
use Rattle.std.specs.Prelude.{List, [], ◌∷◌, ◌++◌, ◌≡◌, ℕ, ◌<◌, length}
use Rattle.scope.specs.Types.{Ref, Table, type_at, integer_kind, byte_string_kind, kind}
use Rattle.scope.specs.Constructors.{ctors, fields_at}
use Rattle.scope.specs.Simplify.{Literal, int, byte_array, wild, lit, con, Row, Matrix}

-- the kind of the type that a literal is of
abbrev pub literal_kind : Literal → ℕ
literal_kind (int t) = integer_kind
literal_kind (byte_array t) = byte_string_kind

-- a row is patterns of these types, each constructor one of its type, and nothing after them
pub data Typed (table : Table) : List Ref → Row → Type 0 where
  done : Typed table [] []
  wilds : {t : Ref} {ts : List Ref} {r : Row} → Typed table ts r → Typed table (t ∷ ts) (wild ∷ r)
  lits : {t : Ref} {ts : List Ref} {l : Literal} {r : Row} → kind (type_at table t) ≡ literal_kind l → Typed table ts r
      → Typed table (t ∷ ts) (lit l ∷ r)
  cons : {t : Ref} {ts : List Ref} {c : ℕ} {r : Row} → c < length (ctors table t) → Typed table (fields_at table t c ++ ts) r
      → Typed table (t ∷ ts) (con t c ∷ r)

-- every row of a matrix is
pub data TypedRows (table : Table) (ts : List Ref) : Matrix → Type 0 where
  no_rows : TypedRows table ts []
  also : {r : Row} {m : Matrix} → Typed table ts r → TypedRows table ts m → TypedRows table ts (r ∷ m)
