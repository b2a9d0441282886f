-- A name among the bytes is past their end, cut by it, or whole; from the place after it.
use mathlib.Core.Path.{◌≡◌, sym, ap, ◌∙◌}
use mathlib.Core.List.{List, []}
use Prim.Native.Nat.{ℕ, suc, ◌+◌, ◌-◌, ◌≤◌, ◌<◌}
use native.Mathlib.Omega.{arith}
use native.Mathlib.Numerals.{add-one}
use lib.ListN.{length, get_or, take, drop, length-take, length-drop, drop_of_length-le}
use lib.Seq.{take_all, take-nil}
use Rattle.layout.specs.Types.{text_at}

-- a name past the end
pub text-none : (bytes : List ℕ) (at : ℕ) → length bytes ≤ at → [] ≡ text_at bytes at
unfolding text_at
text-none bytes at h = let l : length bytes ≤ suc at = omega arith in sym (ap (take (get_or bytes at 0)) (drop_of_length-le bytes l) ∙ take-nil (get_or bytes at 0))

module _ (bytes : List ℕ) (at to : ℕ) (e : to ≡ at + 1 + get_or bytes at 0) (h : to ≤ at + 256) where
  from_next : take (get_or bytes at 0) (drop (at + 1) bytes) ≡ text_at bytes at
  unfolding text_at
  from_next = ap (λ k. take (get_or bytes at 0) (drop k bytes)) (add-one at)

  short : length (text_at bytes at) ≤ 255
  short = rw (← from_next) (omega (arith, length-take (get_or bytes at 0) (drop (at + 1) bytes)))

  narrow : {r : List ℕ} → r ≡ text_at bytes at → (r ≡ text_at bytes at) × (length r ≤ 255)
  narrow f = (f, omega (arith, ap length f, short))

  -- a name that is cut by the end
  pub text-cut : length bytes < to → (take (length bytes - (at + 1)) (drop (at + 1) bytes) ≡ text_at bytes at) × (length (take (length bytes - (at + 1)) (drop (at + 1) bytes)) ≤ 255)
  text-cut l =
      let n : length (drop (at + 1) bytes) ≡ length bytes - (at + 1) = length-drop (at + 1) bytes in
      let left : length (drop (at + 1) bytes) ≤ get_or bytes at 0 = omega arith in
      narrow (take_all (length bytes - (at + 1)) (drop (at + 1) bytes) (omega arith) ∙ sym (take_all (get_or bytes at 0) (drop (at + 1) bytes) left) ∙ from_next)

  -- a name that is whole
  pub text-whole : (take (to - (at + 1)) (drop (at + 1) bytes) ≡ text_at bytes at) × (length (take (to - (at + 1)) (drop (at + 1) bytes)) ≤ 255)
  text-whole = let n : to - (at + 1) ≡ get_or bytes at 0 = omega arith in narrow (ap (λ k. take k (drop (at + 1) bytes)) n ∙ from_next)
