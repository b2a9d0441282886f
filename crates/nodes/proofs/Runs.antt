-- Runs of nodes that are stored one after another: what stands there, the items that they are, and the literals among them.
use mathlib.Core.Path.{◌≡◌, refl, sym, ap, ap₂, ◌∙◌}
use mathlib.Core.Bool.{cond}
use mathlib.Core.List.{List, [], ◌∷◌, ◌++◌, map, append_assoc}
use Prim.Native.Nat.{ℕ, zero, suc, ◌+◌, ◌-◌, ◌<◌}
use native.Mathlib.Omega.{arith}
use lib.ListN.{length, replicate}
use lib.Seq.{sets}
use lib.Dec.{ltb}
use borrow.Author.Tests.{lt-ltb}
use Rattle.cells.proofs.Laws.{sets-sets}
use Rattle.scope.specs.Simplify.{Item, put}
use Rattle.layout.specs.Nodes.{node_of, row_of, Literals, done, also, places_in}

-- stores after stores
pub stores : (d d₁ d₂ xs ys : List ℕ) (from at : ℕ) → d₁ ≡ sets d from xs → at ≡ from + length xs → d₂ ≡ sets d₁ at ys → d₂ ≡ sets d from (xs ++ ys)
stores d d₁ d₂ xs ys from at e a f = f ∙ ap (λ (l : List ℕ). sets l at ys) e ∙ ap (λ (k : ℕ). sets (sets d from xs) k ys) a ∙ sets-sets xs ys d from

-- the items of one run of nodes after another
pub puts_append : (bytes xs ys : List ℕ) (is : List Item) → map put (row_of bytes xs) ++ (map put (row_of bytes ys) ++ is) ≡ map put (row_of bytes (xs ++ ys)) ++ is
puts_append bytes [] ys is = refl
puts_append bytes (x ∷ xs) ys is = ap (λ (l : List Item). put (node_of bytes x) ∷ l) (puts_append bytes xs ys is)

-- literals of one run and of another
pub literals_append : {bytes xs : List ℕ} (ys : List ℕ) → Literals bytes xs → Literals bytes ys → Literals bytes (xs ++ ys)
literals_append ys done q = q
literals_append ys (also h p) q = also h (literals_append ys p q)

-- wildcards hold no literal
pub no_literals : (bytes : List ℕ) (k : ℕ) → Literals bytes (replicate k 0)
no_literals bytes zero = done
no_literals bytes (suc k) = also {n = 0} (λ h. absurd (omega arith)) (no_literals bytes k)

-- the places of the literals of both
pub places_append : (xs ys : List ℕ) → places_in (xs ++ ys) ≡ places_in xs ++ places_in ys
unfolding places_in
places_append [] ys = refl
places_append (x ∷ xs) ys = ap (λ (l : List ℕ). cond (ltb x 32768) [] ((x - 32768) ∷ []) ++ l) (places_append xs ys) ∙ sym (append_assoc (cond (ltb x 32768) [] ((x - 32768) ∷ [])) (places_in xs) (places_in ys))

-- a node that is no literal
pub plain-one : (n : ℕ) → n < 32768 → places_in (n ∷ []) ≡ []
unfolding places_in
plain-one n l = rw (lt-ltb n 32768 l)

pub plain-wilds : (k : ℕ) → places_in (replicate k 0) ≡ []
unfolding places_in
plain-wilds zero = refl
plain-wilds (suc k) = plain-wilds k

pub no_places : places_in [] ≡ []
unfolding places_in
no_places = refl

-- no literal among either
pub both-plain : (xs ys : List ℕ) → places_in xs ≡ [] → places_in ys ≡ [] → places_in (xs ++ ys) ≡ []
both-plain xs ys e f = places_append xs ys ∙ ap₂ ◌++◌ e f
