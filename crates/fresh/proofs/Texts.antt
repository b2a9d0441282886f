-- Labels among the bytes, read one by one.
use mathlib.Core.Path.{◌≡◌, ap}
use mathlib.Core.Bool.{true, false}
use mathlib.Core.List.{List, [], ◌∷◌, map}
use Prim.Native.Nat.{ℕ, suc, ◌+◌, ◌≤◌}
use lib.ListN.{get_or}
use Rattle.scope.specs.Lists.{Text, any, same, twice}
use Rattle.layout.specs.Types.{text_at}
use Rattle.fresh.specs.Fresh.{label_texts}
use Rattle.layout.proofs.Loops.{labelled_step, labelled-end}

module _ (bytes : List ℕ) (q n : ℕ) where
  pub labels-step : (m next : ℕ) → n ≡ suc m → next ≡ q + 1 + 1 + get_or bytes (q + 1) 0 → label_texts bytes q n ≡ text_at bytes (q + 1) ∷ label_texts bytes next m
  unfolding label_texts
  labels-step m next h e = ap (map (λ p. text_at bytes (p + 1))) (labelled_step bytes q next n m h e)

  pub labels-end : n ≤ 0 → label_texts bytes q n ≡ []
  unfolding label_texts
  labels-end h = ap (map (λ p. text_at bytes (p + 1))) (labelled-end bytes q n h)

module _ (xs : List Text) where
  -- a search for a text that is there twice goes on, stops, and ends
  pub twice-on : (x : Text) (ys : List Text) → xs ≡ x ∷ ys → any (same x) ys ≡ false → twice xs ≡ twice ys
  unfolding twice
  twice-on x ys e h = rw (e, h)

  pub twice_off : (x : Text) (ys : List Text) → xs ≡ x ∷ ys → any (same x) ys ≡ true → twice xs ≡ true
  unfolding twice
  twice_off x ys e h = rw (e, h)

  pub twice-end : xs ≡ [] → twice xs ≡ false
  unfolding twice
  twice-end e = rw e
