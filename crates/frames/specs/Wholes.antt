-- A frame that takes all of its line's bytes.
use Rattle.std.specs.Prelude.{[], ◌∷◌}
use Rattle.scope.specs.Frames as scope
use Rattle.scope.specs.Frames.{fault, found}

-- bytes over are a fault, at the first of them
unfoldable pub whole : {A : Type 0} → scope.Read A → scope.Read A
whole (fault rest) = fault rest
whole (found a []) = found a []
whole (found a (b ∷ rest)) = fault (b ∷ rest)
