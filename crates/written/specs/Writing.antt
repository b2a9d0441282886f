-- Document 01's frames written back, in the order of its frame table: as bytes, as a line, as a file.
use Rattle.std.specs.Prelude.{List, [], ◌∷◌, ◌++◌, map, ℕ, ◌/◌, ◌%◌, length, get_or}
use Rattle.scope.specs.Lists.{Text, bytes, bit}
use Rattle.scope.specs.Lines.{Line, ended, cut}
use Rattle.scope.specs.Types.{Ref, Ctor, Ty, integer, byte_string, opaque, list, tuple, pair, dat}
use Rattle.scope.specs.Types.{integer_kind, byte_string_kind, opaque_kind, list_kind, tuple_kind, pair_kind, data_kind}
use Rattle.scope.specs.Patterns.{Raw, discard, variable, assign, integer_of, byte_string_of, list_of, constructor, pair_of, tuple_of}
use Rattle.scope.specs.Frames.{Frame, type_of, constructor_of, subject_of, clause_of, end}
use Rattle.scope.specs.Frames.{type_frames, constructor_frames, subject_frames, clause_frames, end_frames}

-- A name is a length byte, then that many bytes; so is a literal's text
abbrev pub counted : Text → List ℕ
counted t = length t ∷ t

-- 01 type: the byte that says which, then its types; the constructors of a data type have frames of their own
abbrev pub type_bytes : Ty → List ℕ
type_bytes integer = integer_kind ∷ []
type_bytes byte_string = byte_string_kind ∷ []
type_bytes opaque = opaque_kind ∷ []
type_bytes (list e) = list_kind ∷ e ∷ []
type_bytes (tuple ts) = tuple_kind ∷ length ts ∷ ts
type_bytes (pair a b) = pair_kind ∷ a ∷ b ∷ []
type_bytes (dat cs) = data_kind ∷ []

-- per field its type and, with labels, a name
abbrev pub field_bytes : List Ref → List Text → List ℕ
field_bytes [] ls = []
field_bytes (t ∷ ts) [] = t ∷ field_bytes ts []
field_bytes (t ∷ ts) (l ∷ ls) = t ∷ counted l ++ field_bytes ts ls

-- labels: 00 where there is none, else 01
abbrev pub labels_byte : List Text → ℕ
labels_byte [] = 0
labels_byte (l ∷ ls) = 1

-- 02 constructor: name, labels, arity, fields
abbrev pub ctor_bytes : Ctor → List ℕ
ctor_bytes c = counted c.name ++ labels_byte c.labels ∷ length c.fields ∷ field_bytes c.fields c.labels

-- a pattern without its inner ones: the byte that says which, then a name or a text, or counts and a flag (00 no, 01 yes)
abbrev pub pattern_bytes : Raw → List ℕ
pattern_bytes discard = 0 ∷ []
pattern_bytes (variable n) = 1 ∷ counted n
pattern_bytes (assign n) = 2 ∷ counted n
pattern_bytes (integer_of t) = 3 ∷ counted t
pattern_bytes (byte_string_of s) = 4 ∷ counted s
pattern_bytes (list_of k tail) = 5 ∷ k ∷ bit tail ∷ []
pattern_bytes (constructor c k spread) = 6 ∷ c ∷ k ∷ bit spread ∷ []
pattern_bytes pair_of = 7 ∷ []
pattern_bytes (tuple_of k) = 8 ∷ k ∷ []

-- patterns as written, one after another
abbrev pub patterns_bytes : List Raw → List ℕ
patterns_bytes [] = []
patterns_bytes (p ∷ ps) = pattern_bytes p ++ patterns_bytes ps

-- a frame's bytes: the kind, then what the frame holds
unfoldable pub encode : Frame → List ℕ
encode (type_of ty) = type_frames ∷ type_bytes ty
encode (constructor_of c) = constructor_frames ∷ ctor_bytes c
encode (subject_of t) = subject_frames ∷ t ∷ []
encode (clause_of ps) = clause_frames ∷ patterns_bytes ps
encode end = end_frames ∷ []

-- the lower-case hexadecimal digit of a value from 0 to 15
unfoldable pub digit_of : ℕ → ℕ
digit_of n = get_or (bytes "0123456789abcdef") n 0

-- two digits a byte
unfoldable pub hex_of : List ℕ → List ℕ
hex_of [] = []
hex_of (b ∷ bs) = digit_of (b / 16) ∷ digit_of (b % 16) ∷ hex_of bs

-- a frame as a line, ended
unfoldable pub line_of : Frame → Line
line_of f = ended (hex_of (encode f))

-- a file's bytes from its lines; a line that is ended has a line feed (10)
unfoldable pub unlines : List Line → List ℕ
unlines [] = []
unlines (ended ds ∷ ls) = ds ++ 10 ∷ unlines ls
unlines (cut ds ∷ ls) = ds ++ unlines ls

-- frames as a file, one a line
unfoldable pub file_of : List Frame → List ℕ
file_of fs = unlines (map line_of fs)
