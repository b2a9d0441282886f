-- `is_sound_in` of slices that hold a type table is document 01's `is_sound` of the table.
use mathlib.Core.Path.{◌≡◌, refl, ap, ◌∙◌}
use mathlib.Core.Bool.{Bool, true, false, ◌&&◌, ◌||◌}
use mathlib.Core.List.{List, [], ◌∷◌, ◌++◌, map, append-nil}
use Prim.Native.Nat.{ℕ, zero, suc, ◌+◌, ◌*◌, ◌<◌}
use native.Mathlib.Nat.{zero-add}
use native.Mathlib.Omega.{arith}
use lib.ListN.{length, get_or}
use lib.Dec.{leb, ltb}
use borrow.Author.Tests.{ltb-true, lt-ltb}
use Rattle.scope.specs.Lists.{all, any, flatten}
use Rattle.scope.specs.Types.{Ref, Ty, integer, byte_string, opaque, list, tuple, pair, dat, Table, type_at, kind, fields_of}
use Rattle.scope.specs.Finite.{refs, refs_good, is_known, has_value, rounds, all_finite}
use Rattle.scope.specs.Constructors.{built, ctors_at, ctors}
use Rattle.scope.specs.Blocks.{is_sound}
use Rattle.layout.specs.Types.{Shape, all_fields, Fielded, Holds}
use Rattle.layout.specs.Places.{places, reads}
use Rattle.sound.specs.Sound.{fields_known, value_in, known_in, all_finite_in, is_sound_in}
use Rattle.layout.proofs.Slices.{reads-full, all-reads, map_index, all_index, any_index}

all_append : {A : Type 0} (p : A → Bool) (xs ys : List A) → all p (xs ++ ys) ≡ (all p xs && all p ys)
all_append p [] ys = refl
all_append p (x ∷ xs) ys = go (p x) (all_append p xs ys)
  where
    go : (b : Bool) → all p (xs ++ ys) ≡ (all p xs && all p ys) → (b && all p (xs ++ ys)) ≡ (b && all p xs && all p ys)
    go true e = e
    go false e = refl

or_false : (b : Bool) → (b || false) ≡ b
or_false true = refl
or_false false = refl

and-true : (b : Bool) → (b && true) ≡ b
and-true true = refl
and-true false = refl

-- the fields of a type's constructors are its references, and for a list its own place
own-fields : (p : Ref → Bool) (t : Ref) → p t ≡ true → (ty : Ty) → all p (flatten (map fields_of (ctors_at t ty))) ≡ all p (refs ty)
own-fields p t h integer = refl
own-fields p t h byte_string = refl
own-fields p t h opaque = refl
own-fields p t h (list e) = rw h
own-fields p t h (tuple ts) = ap (all p) (append-nil ts)
own-fields p t h (pair a b) = refl
own-fields p t h (dat cs) = refl

all-fields : (p : Ref → Bool) (t : Ref) (table : Table) → ((i : ℕ) → i < t + length table → p i ≡ true) → all p (all_fields t table) ≡ all (λ ty. all p (refs ty)) table
unfolding all_fields
all-fields p t [] h = refl
all-fields p t (ty ∷ table) h =
    all_append p (flatten (map fields_of (ctors_at t ty))) (all_fields (suc t) table)
    ∙ rw (own-fields p t (h t (omega arith)) ty, all-fields p (suc t) table (λ i l. h i (omega arith)))

-- a type has a value when its kind says so or some constructor has one
by_kind : (known : List Bool) (t : Ref) (ty : Ty) → (leb (kind ty) 3 || any (λ c. all (is_known known) (fields_of c)) (ctors_at t ty)) ≡ has_value known ty
by_kind known t integer = refl
by_kind known t byte_string = refl
by_kind known t opaque = refl
by_kind known t (list e) = refl
by_kind known t (tuple ts) = or_false (all (is_known known) ts)
by_kind known t (pair a b) = or_false (is_known known a && (is_known known b && true)) ∙ ap (λ x. is_known known a && x) (and-true (is_known known b))
by_kind known t (dat cs) = refl

module _ {kinds counts arities starts fields : List ℕ} {used : ℕ} {table : Table} (s : Shape kinds counts arities table) (g : Fielded starts fields used table) where
  fields-known : (known : List Bool) (t c : ℕ) → t < length table → c < length (ctors table t) → fields_known arities starts fields known (32 * t + c) ≡ all (is_known known) (fields_of (get_or (ctors table t) c (built [] [])))
  unfolding fields_known
  fields-known known t c h k = ap (all (is_known known)) (ap (λ n. reads fields (places (get_or starts (32 * t + c) 0) n)) (s.arity_at t c h k) ∙ reads-full fields (get_or starts (32 * t + c) 0) _ _ (g.fields_at' t c h k) refl)

  value-is : (known : List Bool) (t : ℕ) → t < length table → value_in kinds counts arities starts fields known t ≡ has_value known (type_at table t)
  unfolding value_in
  value-is known t h =
      ap (λ k. leb k 3 || any (fields_known arities starts fields known) (places (32 * t) (get_or counts t 0))) (s.kind_at t h)
      ∙ ap (λ n. leb (kind (type_at table t)) 3 || any (fields_known arities starts fields known) (places (32 * t) n)) (s.count_at t h)
      ∙ ap (λ b. leb (kind (type_at table t)) 3 || b) (any_index (built [] []) (fields_known arities starts fields known) (λ c. all (is_known known) (fields_of c)) (ctors table t) (32 * t) (λ c k. fields-known known t c h k))
      ∙ by_kind known t (type_at table t)

  value-at : (known : List Bool) (i : ℕ) → i < length table → value_in kinds counts arities starts fields known (0 + i) ≡ has_value known (get_or table i opaque)
  value-at known i h = ap (value_in kinds counts arities starts fields known) (zero-add i) ∙ value-is known i h

  known_is : (n : ℕ) → known_in kinds counts arities starts fields (length table) n ≡ rounds table n
  unfolding known_in rounds
  known_is zero = refl
  known_is (suc n) = ap (λ (k : List Bool). map (value_in kinds counts arities starts fields k) (places 0 (length table))) (known_is n) ∙ map_index opaque (value_in kinds counts arities starts fields (rounds table n)) (has_value (rounds table n)) table 0 (value-at (rounds table n))

  finite_is : all_finite_in kinds counts arities starts fields (length table) ≡ all_finite table
  unfolding all_finite_in all_finite
  finite_is = ap (λ (k : List Bool). all (value_in kinds counts arities starts fields k) (places 0 (length table))) (known_is (length table)) ∙ all_index opaque (value_in kinds counts arities starts fields (rounds table (length table))) (has_value (rounds table (length table))) table 0 (value-at (rounds table (length table)))

  refs-are : 0 < length table → all (λ f. ltb f (length table)) (reads fields (places 0 used)) ≡ refs_good table
  unfolding refs_good
  refs-are h =
      all-reads (λ f. ltb f (length table)) (lt-ltb 0 (length table) h) fields used
      ∙ ap (all (λ f. ltb f (length table))) g.every
      ∙ all-fields (λ f. ltb f (length table)) 0 table (λ i l. lt-ltb i (length table) (omega arith))

  slices-sound : (subject : ℕ) → is_sound_in kinds counts arities starts fields used (length table) subject ≡ is_sound table subject
  unfolding is_sound_in is_sound
  slices-sound subject = go (ltb subject (length table)) refl
    where
      go : (b : Bool) → ltb subject (length table) ≡ b → (b && all (λ f. ltb f (length table)) (reads fields (places 0 used)) && all_finite_in kinds counts arities starts fields (length table)) ≡ (b && refs_good table && all_finite table)
      go false e = refl
      go true e = let l : subject < length table = ltb-true subject (length table) e in rw (refs-are (omega arith), finite_is)

pub sound-means : {bytes kinds counts arities starts names fields labels : List ℕ} {types made used : ℕ} {table : Table} → Holds bytes kinds counts arities starts names fields labels types made used table → (subject : Ref) → is_sound_in kinds counts arities starts fields used types subject ≡ is_sound table subject
sound-means {kinds = kinds} {counts = counts} {arities = arities} {starts = starts} {fields = fields} {used = used} h subject = ap (λ n. is_sound_in kinds counts arities starts fields used n subject) h.types_are ∙ slices-sound h.shape h.fielded subject
