-- What is asked of the slices at a constructor's line: its name is new in its type, and no label is there twice.
use Rattle.std.specs.Prelude.{Bool, true, not, cond, ◌&&◌, List, map, ℕ, ◌+◌, ◌*◌, get_or}
use Rattle.scope.specs.Lists.{Text, any, same, twice}
use Rattle.layout.specs.Types.{text_at}
use Rattle.layout.specs.Places.{places, labelled, reads}
use Rattle.table.specs.Build.{flag_at, is_bare}

-- is the name at a place one of n names
unfoldable pub name_there : List ℕ → ℕ → List ℕ → ℕ → ℕ → Bool
name_there bytes at names from n = any (λ p. same (text_at bytes at) (text_at bytes p)) (reads names (places from n))

-- the labels of n fields that begin at a place
unfoldable pub label_texts : List ℕ → ℕ → ℕ → List Text
label_texts bytes p n = map (λ q. text_at bytes (q + 1)) (labelled bytes p n)

-- is no label there twice, from the labels' flag on
unfoldable pub labels_new : List ℕ → ℕ → Bool
labels_new bytes flag = cond (is_bare bytes flag) true (not (twice (label_texts bytes (flag + 2) (get_or bytes (flag + 1) 0))))

-- is a frame's constructor new in type t, and is no label there twice
unfoldable pub is_fresh_in : List ℕ → ℕ → List ℕ → List ℕ → ℕ → Bool
is_fresh_in bytes at names counts t = not (name_there bytes at names (32 * t) (get_or counts t 0)) && labels_new bytes (flag_at bytes at)
