-- The kind of the type that each pattern asks for.
use Rattle.std.specs.Prelude.{Bool, true, [], ◌∷◌, ℕ, get_or, eqb}

-- 00 discard, 01 variable and 02 assign suit any type, 03 an integer, 04 a byte string, 05 a list, 06 a data type, 07 a pair; 08 a tuple
unfoldable pub suits_kind : ℕ → ℕ → Bool
suits_kind what kind = get_or (true ∷ true ∷ true ∷ eqb kind 0 ∷ eqb kind 1 ∷ eqb kind 3 ∷ eqb kind 6 ∷ eqb kind 5 ∷ []) what (eqb kind 4)
