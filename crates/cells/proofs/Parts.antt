-- A list from a place on: its first element there, and the part that a slice of it is.
use mathlib.Core.Path.{◌≡◌, sym, ap, ◌∙◌}
use mathlib.Core.List.{List, ◌∷◌}
use Prim.Native.Nat.{ℕ, ◌+◌, ◌-◌, ◌<◌}
use native.Mathlib.Numerals.{add-one}
use native.Mathlib.Omega.{arith}
use lib.ListN.{length, get_or, take, drop, length-drop}
use lib.Seq.{drop-cons, take_all}

-- what is left at a place is the element there and what is left after it
pub left : (t : List ℕ) (i : ℕ) → i < length t → drop i t ≡ get_or t i 0 ∷ drop (i + 1) t
left t i h = drop-cons t i 0 h ∙ ap (λ (k : ℕ). get_or t i 0 ∷ drop k t) (sym (add-one i))

-- the part of a list from a place on is what is left there
pub part : (t : List ℕ) (i : ℕ) → take (length t - i) (drop i t) ≡ drop i t
part t i = take_all (length t - i) (drop i t) (omega (arith, length-drop i t))
