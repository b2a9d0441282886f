-- Document 01's frames as bytes: which bytes after the kind write which frame. The other half of 4 is that no frame of the kind is written so.
use Rattle.std.specs.Prelude.{List, [], ◌∷◌, ◌++◌, Bool, ℕ, suc, ◌+◌, ◌≤◌, length}
use Rattle.scope.specs.Lists.{Text, bit}
use Rattle.scope.specs.Types.{Ref, Ctor, Ty, integer_kind, byte_string_kind, opaque_kind, list_kind, tuple_kind, pair_kind, data_kind}
use Rattle.scope.specs.Patterns.{Raw, inner}
use Rattle.scope.specs.Frames.{Frame, type_frames, constructor_frames, subject_frames, clause_frames, end_frames}

-- A to Z
pub record Upper (b : ℕ) : Type 0 where
  pub low : 65 ≤ b
  pub high : b ≤ 90

-- a to z, digits or underscore
pub data Small : ℕ → Type 0 where
  lower : {b : ℕ} → 97 ≤ b → b ≤ 122 → Small b
  digit : {b : ℕ} → 48 ≤ b → b ≤ 57 → Small b
  underscore : Small 95

-- letters, digits or underscore
pub data Big (b : ℕ) : Type 0 where
  upper : Upper b → Big b
  small : Small b → Big b

-- 0 to 9
pub record Digit (b : ℕ) : Type 0 where
  pub low : 48 ≤ b
  pub high : b ≤ 57

-- each byte of a text is so
pub data Each (P : ℕ → Type 0) : Text → Type 0 where
  none : Each P []
  also : {b : ℕ} {t : Text} → P b → Each P t → Each P (b ∷ t)

-- Names have 1 to 32 bytes. A constructor's begins with A to Z, then letters, digits or underscore
pub data BigName : Text → Type 0 where
  named : {b : ℕ} {t : Text} → Upper b → Each Big t → suc (length t) ≤ 32 → BigName (b ∷ t)

-- a label's or variable's begins with a to z, then a to z, digits or underscore
pub data SmallName : Text → Type 0 where
  named : {b : ℕ} {t : Text} → 97 ≤ b → b ≤ 122 → Each Small t → suc (length t) ≤ 32 → SmallName (b ∷ t)

-- Decimal text has an optional minus (45) and no needless zero: 0 and -7 stand, -0 and 007 do not
pub data Decimal : Text → Type 0 where
  nought : Decimal (48 ∷ [])
  positive : {d : ℕ} {t : Text} → 49 ≤ d → d ≤ 57 → Each Digit t → Decimal (d ∷ t)
  negative : {d : ℕ} {t : Text} → 49 ≤ d → d ≤ 57 → Each Digit t → Decimal (45 ∷ d ∷ t)

-- 01 type: 00 integer; 01 byte string; 02 opaque; 03 list, element type; 04 tuple, count 2 to 16, types; 05 pair, two types; 06 data
pub data TypeBytes : Ty → List ℕ → Type 0 where
  integer : TypeBytes Ty.integer (integer_kind ∷ [])
  byte_string : TypeBytes Ty.byte_string (byte_string_kind ∷ [])
  opaque : TypeBytes Ty.opaque (opaque_kind ∷ [])
  list : {e : Ref} → TypeBytes (Ty.list e) (list_kind ∷ e ∷ [])
  tuple : {ts : List Ref} → 2 ≤ length ts → length ts ≤ 16 → TypeBytes (Ty.tuple ts) (tuple_kind ∷ length ts ∷ ts)
  pair : {a b : Ref} → TypeBytes (Ty.pair a b) (pair_kind ∷ a ∷ b ∷ [])
  dat : TypeBytes (Ty.dat []) (data_kind ∷ [])

-- per field its type and a name: a length byte, then that many bytes
pub data FieldBytes : List Ref → List Text → List ℕ → Type 0 where
  none : FieldBytes [] [] []
  also : {t : Ref} {l : Text} {ts : List Ref} {ls : List Text} {bs : List ℕ} → SmallName l → FieldBytes ts ls bs
      → FieldBytes (t ∷ ts) (l ∷ ls) (t ∷ length l ∷ (l ++ bs))

-- 02 constructor: name, labels 00 or 01, arity 0 to 16, then per field its type and, with labels, a name. Labels with arity 0 are 4
pub data CtorBytes : Ctor → List ℕ → Type 0 where
  plain : {n : Text} {ts : List Ref} → BigName n → length ts ≤ 16
      → CtorBytes (record { name = n; labels = []; fields = ts }) (length n ∷ (n ++ 0 ∷ length ts ∷ ts))
  labelled : {n : Text} {ts : List Ref} {ls : List Text} {bs : List ℕ} → BigName n → 1 ≤ length ts → length ts ≤ 16 → FieldBytes ts ls bs
      → CtorBytes (record { name = n; labels = ls; fields = ts }) (length n ∷ (n ++ 1 ∷ length ts ∷ bs))

-- Patterns: 00 discard. 01 variable, name. 02 assign, name, pattern. 03 integer, length 1 to 64, decimal text. 04 byte string, length 0 to 64, bytes.
-- 05 list, element count, tail 00 or 01, elements, then the tail. 06 constructor, its number, argument count, spread 00 or 01, arguments. 07 pair,
-- two patterns. 08 tuple, count, patterns
pub data PatternBytes : Raw → List ℕ → Type 0 where
  discard : PatternBytes Raw.discard (0 ∷ [])
  variable : {n : Text} → SmallName n → PatternBytes (Raw.variable n) (1 ∷ length n ∷ n)
  assign : {n : Text} → SmallName n → PatternBytes (Raw.assign n) (2 ∷ length n ∷ n)
  integer_of : {t : Text} → 1 ≤ length t → length t ≤ 64 → Decimal t → PatternBytes (Raw.integer_of t) (3 ∷ length t ∷ t)
  byte_string_of : {s : Text} → length s ≤ 64 → PatternBytes (Raw.byte_string_of s) (4 ∷ length s ∷ s)
  list_of : {k : ℕ} {tail : Bool} → PatternBytes (Raw.list_of k tail) (5 ∷ k ∷ bit tail ∷ [])
  constructor : {c k : ℕ} {spread : Bool} → PatternBytes (Raw.constructor c k spread) (6 ∷ c ∷ k ∷ bit spread ∷ [])
  pair_of : PatternBytes Raw.pair_of (7 ∷ [])
  tuple_of : {k : ℕ} → PatternBytes (Raw.tuple_of k) (8 ∷ k ∷ [])

-- n patterns, each followed by its inner ones
pub data PatternsBytes : ℕ → List Raw → List ℕ → Type 0 where
  none : PatternsBytes 0 [] []
  also : {n : ℕ} {p : Raw} {ps : List Raw} (a bs : List ℕ) → PatternBytes p a → PatternsBytes (inner p + n) ps bs
      → PatternsBytes (suc n) (p ∷ ps) (a ++ bs)

-- the bytes after the kind
pub data FrameBytes : ℕ → Frame → List ℕ → Type 0 where
  type_of : {ty : Ty} {bs : List ℕ} → TypeBytes ty bs → FrameBytes type_frames (Frame.type_of ty) bs
  constructor_of : {c : Ctor} {bs : List ℕ} → CtorBytes c bs → FrameBytes constructor_frames (Frame.constructor_of c) bs
  subject_of : {t : Ref} → FrameBytes subject_frames (Frame.subject_of t) (t ∷ [])
  clause_of : {ps : List Raw} {bs : List ℕ} → PatternsBytes 1 ps bs → FrameBytes clause_frames (Frame.clause_of ps) bs
  end : FrameBytes end_frames Frame.end []
