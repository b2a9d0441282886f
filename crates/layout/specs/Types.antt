-- The type table in slices: constructor c of type t has the number 32 t + c.
use Rattle.std.specs.Prelude.{◌≡◌, List, [], ◌∷◌, ◌++◌, map, ℕ, suc, ◌+◌, ◌*◌, ◌≤◌, ◌<◌, length, get_or, take, drop}
use Rattle.scope.specs.Lists.{Text, flatten}
use Rattle.scope.specs.Types.{Ref, Table, type_at, kind, fields_of}
use Rattle.scope.specs.Constructors.{ctors_at, ctors, ctor_at, fields_at, arity}
use Rattle.scope.specs.Blocks.{ctor_count}

-- the name, label or text whose length stands at a place among the bytes
unfoldable pub text_at : List ℕ → ℕ → Text
text_at bytes p = take (get_or bytes p 0) (drop (suc p) bytes)

-- it stands whole among the bytes, at a place that 16 bits hold and that is not 0
pub record Whole (bytes : List ℕ) (p : ℕ) : Type 0 where
  pub some : 0 < p
  pub inside : p + 1 + get_or bytes p 0 ≤ length bytes
  pub low : p < 65536

-- the kind of each type, how many constructors it has, and how many fields each of them: all that the walks ask
pub record Shape (kinds counts arities : List ℕ) (table : Table) : Type 0 where
  pub few : length table ≤ 64
  pub kind_at : (t : ℕ) → t < length table → get_or kinds t 0 ≡ kind (type_at table t)
  pub count_at : (t : ℕ) → t < length table → get_or counts t 0 ≡ length (ctors table t)
  pub in_type : (t : ℕ) → length (ctors table t) ≤ 32
  pub arity_at : (t c : ℕ) → t < length table → c < length (ctors table t) → get_or arities (32 * t + c) 0 ≡ arity table t c
  pub narrow : (t c : ℕ) → arity table t c ≤ 16

-- the fields of all constructors, from the type at place t on, one after another
unfoldable pub all_fields : Ref → Table → List Ref
all_fields t [] = []
all_fields t (ty ∷ table) = flatten (map fields_of (ctors_at t ty)) ++ all_fields (suc t) table

-- where the fields of each constructor stand
pub record Fielded (starts fields : List ℕ) (used : ℕ) (table : Table) : Type 0 where
  pub every : take used fields ≡ all_fields 0 table
  pub fields_at' : (t c : ℕ) → t < length table → c < length (ctors table t) → take (arity table t c) (drop (get_or starts (32 * t + c) 0) fields) ≡ fields_at table t c
  pub inside : (t c : ℕ) → t < length table → c < length (ctors table t) → get_or starts (32 * t + c) 0 + arity table t c ≤ used

-- the labels of a constructor whose fields stand from a place on: none, and 0 at the place; or one at each field
pub data Labelled (bytes labels : List ℕ) (start : ℕ) : ℕ → List Text → Type 0 where
  bare : {n : ℕ} → ((i : ℕ) → i < n → get_or labels (start + i) 0 ≡ 0) → Labelled bytes labels start n []
  each : {n : ℕ} {ls : List Text} → n ≡ length ls → ((i : ℕ) → i < n → Whole bytes (get_or labels (start + i) 0) × (text_at bytes (get_or labels (start + i) 0) ≡ get_or ls i [])) → Labelled bytes labels start n ls

-- where the name and the labels of each declared constructor stand among the bytes
pub record Named (bytes starts names labels : List ℕ) (table : Table) : Type 0 where
  pub whole_at : (t c : ℕ) → kind (type_at table t) ≡ 6 → c < length (ctors table t) → Whole bytes (get_or names (32 * t + c) 0)
  pub name_at : (t c : ℕ) → kind (type_at table t) ≡ 6 → c < length (ctors table t) → text_at bytes (get_or names (32 * t + c) 0) ≡ (ctor_at table t c).name
  pub labels_at : (t c : ℕ) → kind (type_at table t) ≡ 6 → c < length (ctors table t) → Labelled bytes labels (get_or starts (32 * t + c) 0) (arity table t c) (ctor_at table t c).labels

-- the slices hold a type table: its types, constructors and fields are so many, and no label stands past the fields
pub record Holds (bytes kinds counts arities starts names fields labels : List ℕ) (types made used : ℕ) (table : Table) : Type 0 where
  pub shape : Shape kinds counts arities table
  pub fielded : Fielded starts fields used table
  pub named : Named bytes starts names labels table
  pub types_are : types ≡ length table
  pub made-are : made ≡ ctor_count table
  pub short : used ≤ 16 * types + 16 * made
  pub blank : (i : ℕ) → used ≤ i → get_or labels i 0 ≡ 0
