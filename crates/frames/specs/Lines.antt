-- The frame that a line holds.
use Rattle.std.specs.Prelude.{List, ℕ, get_or}
use Rattle.scope.specs.Frames as scope
use Rattle.scope.specs.Blocks.{Step}
use Rattle.fields.specs.Places.{said_read, said_at}
use Rattle.frames.specs.Wholes.{whole}
use Rattle.frames.specs.declared.Framed.{Framed}

-- a frame's kind, and document 01's number and values for the end that was reached
abbrev pub said_framed : Framed → ℕ × (Step (Unit {0}) × ℕ)
said_framed f = (f.kind, said_read f.end)

-- the frame that a line holds: its kind, and what a reader that begins after the kind says
unfoldable pub frame_of : List ℕ → ℕ × (Step (Unit {0}) × ℕ)
frame_of line = let k = get_or line 0 0 in (k, said_at line 1 (λ bs. whole (scope.frame k bs)))
