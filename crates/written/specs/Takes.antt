-- Which values a clause takes, by its patterns as document 01 writes them. Nothing here knows of simplified patterns.
use Rattle.std.specs.Prelude.{List, [], ◌∷◌, ◌≡◌, Bool, true, false, ℕ, suc}
use Rattle.scope.specs.Lists.{Text}
use Rattle.scope.specs.Patterns.{Raw}
use Rattle.meaning.specs.Values.{denotes, Val, vint, vbytes, vcon, Vals, []ᵛ, ◌∷ᵛ◌, ◌++ᵛ◌, lengthᵛ}

-- A list is "::" (constructor 0) of an element and a list, or "[]" (constructor 1).
-- `Elements k tail v us`: the list v begins with k elements, and us are these and, where the pattern has a tail, the rest of v; without a tail v
-- ends there
pub data Elements : ℕ → Bool → Val → Vals → Type 0 where
  ends : Elements 0 false (vcon 1 []ᵛ) []ᵛ
  rest : {v : Val} → Elements 0 true v (v ∷ᵛ []ᵛ)
  element : {k : ℕ} {tail : Bool} {v w : Val} {us : Vals} → Elements k tail w us → Elements (suc k) tail (vcon 0 (v ∷ᵛ w ∷ᵛ []ᵛ)) (v ∷ᵛ us)

-- A pattern, without its inner ones, takes a value where its inner ones take these parts of it, in order
pub data Opens : Raw → Val → Vals → Type 0 where
  -- 00 discard, 01 variable: any value. 02 assign: what its inner one takes
  discard : {v : Val} → Opens Raw.discard v []ᵛ
  variable : {n : Text} {v : Val} → Opens (Raw.variable n) v []ᵛ
  assign : {n : Text} {v : Val} → Opens (Raw.assign n) v (v ∷ᵛ []ᵛ)
  -- 03 integer, 04 byte string: the value that is equal
  integer_of : (n : Text) → Opens (Raw.integer_of n) (vint (denotes n)) []ᵛ
  byte_string_of : (s : Text) → Opens (Raw.byte_string_of s) (vbytes s) []ᵛ
  -- 05 list: its elements in order, and its tail or the end
  list_of : {k : ℕ} {tail : Bool} {v : Val} {us : Vals} → Elements k tail v us → Opens (Raw.list_of k tail) v us
  -- 06 constructor: that number, its arguments in order; with spread the other fields are anything
  constructor : {c k : ℕ} {us : Vals} → lengthᵛ us ≡ k → Opens (Raw.constructor c k false) (vcon c us) us
  with_spread : {c k : ℕ} {fields : Vals} (us others : Vals) → fields ≡ us ++ᵛ others → lengthᵛ us ≡ k
      → Opens (Raw.constructor c k true) (vcon c fields) us
  -- 07 pair, 08 tuple: its parts in order; its constructor, 0, is the only one
  pair_of : {v w : Val} → Opens Raw.pair_of (vcon 0 (v ∷ᵛ w ∷ᵛ []ᵛ)) (v ∷ᵛ w ∷ᵛ []ᵛ)
  tuple_of : {k : ℕ} {us : Vals} → lengthᵛ us ≡ k → Opens (Raw.tuple_of k) (vcon 0 us) us

-- patterns, each followed by its inner ones, take values one after another
pub data TakesEach : List Raw → Vals → Type 0 where
  none : TakesEach [] []ᵛ
  also : {p : Raw} {ps : List Raw} {v : Val} {us vs : Vals} → Opens p v us → TakesEach ps (us ++ᵛ vs) → TakesEach (p ∷ ps) (v ∷ᵛ vs)

-- a clause takes a value
abbrev pub Takes : List Raw → Val → Type 0
Takes ps v = TakesEach ps (v ∷ᵛ []ᵛ)
