-- The slices of the type table after one more type, and after one more constructor of the data type just above.
use Rattle.std.specs.Prelude.{◌≡◌, Bool, cond, List, [], ◌∷◌, ◌++◌, map, ℕ, ◌+◌, ◌-◌, ◌*◌, ◌%◌, length, get_or, set, replicate, eqb}
use Rattle.std.proofs.lemmas.List.Edits.{sets}
use Rattle.scope.specs.Types.{Ctor, dat, Table}
use Rattle.scope.specs.Constructors.{built_ins}
use Rattle.layout.specs.Places.{places, labelled, reads}
use Rattle.layout.specs.declared.tables.Tables.{Tables}
use Rattle.order.specs.declared.State.{State}
use Rattle.order.specs.Phases.{Numbers}

-- a number as 16 bits hold it
abbrev pub low : ℕ → ℕ
low n = n % 65536

-- the arities of the built-in constructors
abbrev pub built_arities : List ℕ
built_arities = map (λ b. b.built_arity) built_ins

-- the arities of the constructors of a type frame's type: a list has the built-in ones, a tuple and a pair have one
unfoldable pub type_arities : List ℕ → ℕ → List ℕ
type_arities bytes at = get_or ([] ∷ [] ∷ [] ∷ built_arities ∷ (get_or bytes (at + 1) 0 ∷ []) ∷ (2 ∷ []) ∷ []) (get_or bytes at 0) []

-- their fields: a cell of the list at t holds an element and a list
unfoldable pub type_fields : List ℕ → ℕ → ℕ → List ℕ
type_fields bytes at t = get_or ([] ∷ [] ∷ [] ∷ (get_or bytes (at + 1) 0 ∷ t ∷ []) ∷ reads bytes (places (at + 2) (get_or bytes (at + 1) 0)) ∷ reads bytes (places (at + 1) 2) ∷ []) (get_or bytes at 0) []

-- type t has constructors of these arities, and their fields stand from `used` on
pub record HasCtors (t used : ℕ) (ns fs counts arities starts fields counts' arities' starts' fields' : List ℕ) : Type 0 where
  pub counts_are : counts' ≡ set counts t (length ns)
  pub arities_are : arities' ≡ sets arities (32 * t) ns
  pub starts_are : starts' ≡ sets starts (32 * t) (replicate (length ns) (low used))
  pub fields_are : fields' ≡ sets fields used fs

-- one more type, t, from the frame whose kind of type stands at a place
pub record WithType (bytes : List ℕ) (at t used : ℕ) (kinds counts arities starts fields kinds' counts' arities' starts' fields' : List ℕ) : Type 0 where
  pub kinds_are : kinds' ≡ set kinds t (get_or bytes at 0)
  pub ctors_are : HasCtors t used (type_arities bytes at) (type_fields bytes at t) counts arities starts fields counts' arities' starts' fields'

-- one more type and the numbers after it; its kind says which phase is next
pub record EntersType (bytes : List ℕ) (at : ℕ) (s : State) (kinds counts arities starts fields kinds' counts' arities' starts' fields' : List ℕ) (r : State) : Type 0 where
  pub numbers : Numbers r (cond (eqb (get_or bytes at 0) 6) 1 0) (s.types + 1) s.ctors (s.fields + length (type_fields bytes at s.types)) 0
  pub with : WithType bytes at s.types s.fields kinds counts arities starts fields kinds' counts' arities' starts' fields'

-- one more type in the table, and the numbers after it; the names and the labels stay
pub record TypeEntered (bytes : List ℕ) (at : ℕ) (s : State) (old new : Tables) (r : State) : Type 0 where
  pub entered : EntersType bytes at s old.kinds old.counts old.arities old.starts old.fields new.kinds new.counts new.arities new.starts new.fields r
  pub names_stay : new.names ≡ old.names
  pub labels_stay : new.labels ≡ old.labels

-- where the labels' flag stands after a name
abbrev pub flag_at : List ℕ → ℕ → ℕ
flag_at bytes at = at + 1 + get_or bytes at 0

-- the arity that a constructor frame says
abbrev pub arity_in : List ℕ → ℕ → ℕ
arity_in bytes at = get_or bytes (flag_at bytes at + 1) 0

-- is the labels' flag at a place 0
abbrev pub is_bare : List ℕ → ℕ → Bool
is_bare bytes flag = eqb (get_or bytes flag 0) 0

-- where n fields begin, from the labels' flag on: one byte each, or its type and its label
unfoldable pub field_places : List ℕ → ℕ → ℕ → List ℕ
field_places bytes flag n = cond (is_bare bytes flag) (places (flag + 2) n) (labelled bytes (flag + 2) n)

-- the labels' places, in field order, after those that stand already
unfoldable pub labels_with : List ℕ → ℕ → ℕ → ℕ → List ℕ → List ℕ
labels_with bytes flag n used labels = cond (is_bare bytes flag) labels (sets labels used (map (λ p. low (p + 1)) (labelled bytes (flag + 2) n)))

-- one more constructor of type t, after those that it has, from the frame whose name stands at a place
pub record WithCtor (bytes : List ℕ) (at t used : ℕ) (counts arities starts names fields labels counts' arities' starts' names' fields' labels' : List ℕ) : Type 0 where
  pub counts_are : counts' ≡ set counts t (get_or counts t 0 + 1)
  pub arities_are : arities' ≡ set arities (32 * t + get_or counts t 0) (arity_in bytes at)
  pub starts_are : starts' ≡ set starts (32 * t + get_or counts t 0) (low used)
  pub names_are : names' ≡ set names (32 * t + get_or counts t 0) (low at)
  pub fields_are : fields' ≡ sets fields used (reads bytes (field_places bytes (flag_at bytes at) (arity_in bytes at)))
  pub labels_are : labels' ≡ labels_with bytes (flag_at bytes at) (arity_in bytes at) used labels

-- one more constructor of the last type, and the numbers after it; the kinds stay
pub record CtorEntered (bytes : List ℕ) (at : ℕ) (s : State) (old new : Tables) (r : State) : Type 0 where
  pub numbers : Numbers r 1 s.types (s.ctors + 1) (s.fields + arity_in bytes at) 0
  pub with_ctor : WithCtor bytes at (s.types - 1) s.fields old.counts old.arities old.starts old.names old.fields old.labels new.counts new.arities new.starts new.names new.fields new.labels
  pub kinds_stay : new.kinds ≡ old.kinds

-- the last type is a data type, with these constructors declared so far
pub record EndsInData (table : Table) : Type 0 where
  pub front : Table
  pub made : List Ctor
  pub is : table ≡ front ++ dat made ∷ []
