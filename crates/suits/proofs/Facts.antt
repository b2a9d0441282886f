-- What a type's kind says of its constructors: of a list, a pair and a tuple.
use mathlib.Core.Path.{◌≡◌, refl}
use mathlib.Core.List.{[]}
use native.Mathlib.Omega.{arith}
use lib.ListN.{length, get_or}
use Rattle.scope.specs.Types.{Ref, Ty, integer, byte_string, opaque, list, tuple, pair, dat, kind, fields_of}
use Rattle.scope.specs.Constructors.{built, ctors_at}

-- a list has two constructors, and a cell two fields
pub list_facts : (t : Ref) (ty : Ty) → kind ty ≡ 3 → (length (ctors_at t ty) ≡ 2) × (length (fields_of (get_or (ctors_at t ty) 0 (built [] []))) ≡ 2)
list_facts t integer h = absurd (omega arith)
list_facts t byte_string h = absurd (omega arith)
list_facts t opaque h = absurd (omega arith)
list_facts t (list e) h = (refl, refl)
list_facts t (tuple ts) h = absurd (omega arith)
list_facts t (pair a b) h = absurd (omega arith)
list_facts t (dat cs) h = absurd (omega arith)

-- a pair has one constructor, of two fields
pub pair_facts : (t : Ref) (ty : Ty) → kind ty ≡ 5 → (length (ctors_at t ty) ≡ 1) × (length (fields_of (get_or (ctors_at t ty) 0 (built [] []))) ≡ 2)
pair_facts t integer h = absurd (omega arith)
pair_facts t byte_string h = absurd (omega arith)
pair_facts t opaque h = absurd (omega arith)
pair_facts t (list e) h = absurd (omega arith)
pair_facts t (tuple ts) h = absurd (omega arith)
pair_facts t (pair a b) h = (refl, refl)
pair_facts t (dat cs) h = absurd (omega arith)

-- a tuple has one constructor
pub tuple_facts : (t : Ref) (ty : Ty) → kind ty ≡ 4 → length (ctors_at t ty) ≡ 1
tuple_facts t integer h = absurd (omega arith)
tuple_facts t byte_string h = absurd (omega arith)
tuple_facts t opaque h = absurd (omega arith)
tuple_facts t (list e) h = absurd (omega arith)
tuple_facts t (tuple ts) h = refl
tuple_facts t (pair a b) h = absurd (omega arith)
tuple_facts t (dat cs) h = absurd (omega arith)
