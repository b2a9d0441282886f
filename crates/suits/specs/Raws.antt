-- A pattern as its bytes have it: which it is, and how many bytes it has without its inner ones.
use Rattle.std.specs.Prelude.{List, [], ◌∷◌, ℕ, suc, ◌+◌, get_or, eqb}
use Rattle.scope.specs.Patterns.{Raw, discard, variable, assign, pair_of, integer_of, byte_string_of, list_of, constructor, tuple_of}
use Rattle.layout.specs.Types.{text_at}

-- 00 discard, 01 variable, 02 assign, 03 integer, 04 byte string, 05 list, 06 constructor, 07 pair; 08 tuple
unfoldable pub raw_at : List ℕ → ℕ → Raw
raw_at bytes at =
    get_or
    (discard ∷ variable (text_at bytes (suc at)) ∷ assign (text_at bytes (suc at)) ∷ integer_of (text_at bytes (suc at)) ∷ byte_string_of (text_at bytes (suc at)) ∷ list_of (get_or bytes (at + 1) 0) (eqb (get_or bytes (at + 2) 0) 1) ∷ constructor (get_or bytes (at + 1) 0) (get_or bytes (at + 2) 0) (eqb (get_or bytes (at + 3) 0) 1) ∷ pair_of ∷ [])
    (get_or bytes at 0)
    (tuple_of (get_or bytes (at + 1) 0))

-- how many bytes a kind of pattern has, with a name or a text of l bytes: its kind, and a name, a text, counts and flags
abbrev pub size_of : ℕ → ℕ → ℕ
size_of what l = get_or (1 ∷ (2 + l) ∷ (2 + l) ∷ (2 + l) ∷ (2 + l) ∷ 3 ∷ 4 ∷ 1 ∷ []) what 2

-- how many bytes the pattern at a place has
unfoldable pub size_at : List ℕ → ℕ → ℕ
size_at bytes at = size_of (get_or bytes at 0) (get_or bytes (at + 1) 0)

-- the place of a pattern that is a literal
abbrev pub own_place : ℕ → Raw → List ℕ
own_place at discard = []
own_place at (variable n) = []
own_place at (assign n) = []
own_place at pair_of = []
own_place at (integer_of t) = at ∷ []
own_place at (byte_string_of t) = at ∷ []
own_place at (list_of k tail) = []
own_place at (constructor c k spread) = []
own_place at (tuple_of k) = []
