-- Small tools on lists and texts that the other files share.
use Rattle.std.specs.Prelude.{List, [], ◌∷◌, ◌++◌, Bool, true, false, ◌&&◌, ◌||◌, ℕ, ◌+◌, leb, eqb}
use Prim.Native.Char.{code}
use Prim.Native.String.{String}

-- A text is a list of bytes
abbrev pub Text : Type 0
Text = List ℕ

-- a quoted text's bytes
abbrev pub bytes : String → Text
bytes String.[] = []
bytes (String.◌∷◌ c s) = code c ∷ bytes s

-- does every element pass the test
abbrev pub all : {A : Type 0} → (A → Bool) → List A → Bool
all p [] = true
all p (x ∷ xs) = p x && all p xs

-- does some element pass the test
abbrev pub any : {A : Type 0} → (A → Bool) → List A → Bool
any p [] = false
any p (x ∷ xs) = p x || any p xs

-- the sum of the numbers
abbrev pub sum : List ℕ → ℕ
sum [] = 0
sum (n ∷ ns) = n + sum ns

-- the lists, one after another
abbrev pub flatten : {A : Type 0} → List (List A) → List A
flatten [] = []
flatten (l ∷ ls) = l ++ flatten ls

-- 0 for no, 1 for yes
abbrev pub bit : Bool → ℕ
bit false = 0
bit true = 1

-- is b one of lo to hi
abbrev pub among : ℕ → ℕ → ℕ → Bool
among lo hi b = leb lo b && leb b hi

-- two texts compared byte by byte
unfoldable pub same : Text → Text → Bool
same [] [] = true
same [] (b ∷ bs) = false
same (a ∷ s) [] = false
same (a ∷ s) (b ∷ bs) = eqb a b && same s bs

-- is some text there twice
unfoldable pub twice : List Text → Bool
twice [] = false
twice (t ∷ ts) = any (same t) ts || twice ts
