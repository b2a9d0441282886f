-- The numbers that the document gives to refusals and kinds, for the code's own words.
use Rattle.std.specs.Prelude.{◌≡◌, ℕ, ◌<◌, ◌⊎◌, Result, MatchResult}
use Rattle.scope.specs.Types.{integer_kind, byte_string_kind, opaque_kind, list_kind, tuple_kind, pair_kind, data_kind}
use Rattle.scope.specs.Frames.{type_frames, constructor_frames, subject_frames, clause_frames, end_frames}
use Rattle.scope.specs.declared.refusal.Refusal.{Refusal}
use Rattle.scope.specs.declared.refusal.Refusal.TheVariants.{Scratch, File, Line, Frame, Order, Many, Table, Suit, Nodes, Work, Buffer}
use Rattle.scope.specs.declared.kinds.Unknown.{Unknown}
use Rattle.scope.specs.declared.kinds.FrameKind.{FrameKind}
use Rattle.scope.specs.declared.kinds.FrameKind.TheVariants.{TypeFrame, ConstructorFrame, SubjectFrame, ClauseFrame, EndFrame}
use Rattle.scope.specs.declared.kinds.TypeKind.{TypeKind}
use Rattle.scope.specs.declared.kinds.TypeKind.TheVariants as ty
use Rattle.scope.specs.declared.kinds.PatternKind.{PatternKind}
use Rattle.scope.specs.declared.kinds.PatternKind.TheVariants as pattern

-- the number of a refusal
abbrev pub number_of : Refusal → ℕ
number_of Scratch = 1
number_of File = 2
number_of Line = 3
number_of Frame = 4
number_of Order = 5
number_of Many = 6
number_of Table = 7
number_of Suit = 8
number_of Nodes = 9
number_of Work = 10
number_of Buffer = 11

-- the byte that a frame of this kind begins with
abbrev pub frame_byte : FrameKind → ℕ
frame_byte TypeFrame = type_frames
frame_byte ConstructorFrame = constructor_frames
frame_byte SubjectFrame = subject_frames
frame_byte ClauseFrame = clause_frames
frame_byte EndFrame = end_frames

-- the byte after 01 in the frame of a type of this kind
abbrev pub type_byte : TypeKind → ℕ
type_byte ty.Integer = integer_kind
type_byte ty.ByteString = byte_string_kind
type_byte ty.Opaque = opaque_kind
type_byte ty.List = list_kind
type_byte ty.Tuple = tuple_kind
type_byte ty.Pair = pair_kind
type_byte ty.Data = data_kind

-- the byte that a pattern of this kind begins with
abbrev pub pattern_byte : PatternKind → ℕ
pattern_byte pattern.Discard = 0
pattern_byte pattern.Variable = 1
pattern_byte pattern.Assign = 2
pattern_byte pattern.Integer = 3
pattern_byte pattern.ByteString = 4
pattern_byte pattern.List = 5
pattern_byte pattern.Constructor = 6
pattern_byte pattern.Pair = 7
pattern_byte pattern.Tuple = 8

-- the kind of frame that a byte says; 0 and all from 6 on say none
abbrev pub SaysFrame : ℕ → Result FrameKind Unknown → Type 0
SaysFrame n r = MatchResult r (λ k. n ≡ frame_byte k) (λ e. (n ≡ 0) ⊎ (5 < n))

-- the kind of type; all from 7 on say none
abbrev pub SaysType : ℕ → Result TypeKind Unknown → Type 0
SaysType n r = MatchResult r (λ k. n ≡ type_byte k) (λ e. 6 < n)

-- the kind of pattern; all from 9 on say none
abbrev pub SaysPattern : ℕ → Result PatternKind Unknown → Type 0
SaysPattern n r = MatchResult r (λ k. n ≡ pattern_byte k) (λ e. 8 < n)
