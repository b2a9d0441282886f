-- Places in a slice, and what stands there.
use Rattle.std.specs.Prelude.{List, [], ◌∷◌, map, ℕ, zero, suc, ◌+◌, get_or}

-- n places, one after another
unfoldable pub places : ℕ → ℕ → List ℕ
places at zero = []
places at (suc n) = at ∷ places (suc at) n

-- where n fields with labels begin: each is its type, its label's length and its label
unfoldable pub labelled : List ℕ → ℕ → ℕ → List ℕ
labelled bytes p zero = []
labelled bytes p (suc n) = p ∷ labelled bytes (p + 2 + get_or bytes (p + 1) 0) n

-- what stands at places, 0 past the end
abbrev pub reads : List ℕ → List ℕ → List ℕ
reads l ps = map (λ p. get_or l p 0) ps
