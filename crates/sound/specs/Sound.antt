-- What is asked of the slices at the subject's line: all references are to types, and every type has a finite value.
use Rattle.std.specs.Prelude.{Bool, false, ◌&&◌, ◌||◌, List, [], map, ℕ, zero, suc, ◌*◌, get_or, replicate, leb, ltb}
use Rattle.std.proofs.lemmas.List.Edits.{sets}
use Rattle.scope.specs.Lists.{all, any}
use Rattle.scope.specs.Finite.{is_known}
use Rattle.layout.specs.Places.{places, reads}

-- 64 flags, of which the first are these
abbrev pub flags : List Bool → List Bool
flags known = sets (replicate 64 false) 0 known

-- has constructor number i a value in every field, by what is known of the types
unfoldable pub fields_known : List ℕ → List ℕ → List ℕ → List Bool → ℕ → Bool
fields_known arities starts fields known i = all (is_known known) (reads fields (places (get_or starts i 0) (get_or arities i 0)))

-- has type t a finite value: kinds 0 to 3 have one, the others if some constructor has
unfoldable pub value_in : List ℕ → List ℕ → List ℕ → List ℕ → List ℕ → List Bool → ℕ → Bool
value_in kinds counts arities starts fields known t = leb (get_or kinds t 0) 3 || any (fields_known arities starts fields known) (places (32 * t) (get_or counts t 0))

-- what is known of so many types after n rounds
unfoldable pub known_in : List ℕ → List ℕ → List ℕ → List ℕ → List ℕ → ℕ → ℕ → List Bool
known_in kinds counts arities starts fields types zero = []
known_in kinds counts arities starts fields types (suc n) = let known = known_in kinds counts arities starts fields types n in map (value_in kinds counts arities starts fields known) (places 0 types)

-- has every type a finite value: a round for each, and one that looks
unfoldable pub all_finite_in : List ℕ → List ℕ → List ℕ → List ℕ → List ℕ → ℕ → Bool
all_finite_in kinds counts arities starts fields types = all (value_in kinds counts arities starts fields (known_in kinds counts arities starts fields types types)) (places 0 types)

-- are the subject and the fields in use references to types, and has every type a finite value
unfoldable pub is_sound_in : List ℕ → List ℕ → List ℕ → List ℕ → List ℕ → ℕ → ℕ → ℕ → Bool
is_sound_in kinds counts arities starts fields used types subject = ltb subject types && all (λ f. ltb f types) (reads fields (places 0 used)) && all_finite_in kinds counts arities starts fields types
