-- The tests of a line's frame, in document 01's order, by the numbers of the code; and the kind of a frame that passed them.
use Rattle.std.specs.Prelude.{List, [], ◌∷◌, ℕ, Result, Ok, Err}
use Rattle.scope.specs.Frames.{Frame, is_kind, frame}
use Rattle.scope.specs.declared.kinds.FrameKind.{FrameKind}
use Rattle.scope.specs.declared.refusal.Refusal.{Refusal}
use Rattle.scope.specs.Numbers.{number_of, frame_byte}
use Rattle.scope.specs.Blocks.{Step, ok, refuse, need, wholly, ◌>>=◌}
use Rattle.order.specs.declared.State.{State}
use Rattle.order.specs.Phases.{stands_in, room_in}

-- document 01's number and values for each case: the frame's kind; the refusal's number
abbrev pub said_kind : Result FrameKind Refusal → Step ℕ
said_kind (Ok k) = ok (frame_byte k)
said_kind (Err r) = refuse (number_of r)

-- a line's frame: unknown kind (4), 5, 6, the rest of 4
unfoldable pub checked : State → ℕ → List ℕ → Step Frame
checked s last [] = refuse 4
checked s last (k ∷ bs) = do
  _ ← need 4 (is_kind k)
  _ ← need 5 (stands_in s.phase k)
  _ ← need 6 (room_in s last k)
  wholly (frame k bs)

-- the kind k of the frame that passed, or the refusal
abbrev pub kind_of : Step Frame → ℕ → Step ℕ
kind_of (ok f) k = ok k
kind_of (refuse n) k = refuse n
