-- The limits of a walk.
use Rattle.std.specs.Prelude.{Bool, ◌&&◌, ℕ, ◌+◌, leb}
use Rattle.scope.specs.Limits.{max_calls}
use Rattle.scope.specs.Walks.{Walk}

-- after so many calls, with room for so many cells: is a walk within both limits
abbrev pub within : {A : Type 0} → ℕ → ℕ → Walk A → Bool
within calls room w = leb (calls + w.calls) max_calls && leb w.peak room
