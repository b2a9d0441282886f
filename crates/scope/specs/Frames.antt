-- A line's bytes: the kind of its frame, then what the frame holds.
use Rattle.std.specs.Prelude.{List, [], ◌∷◌, Bool, true, false, cond, ◌&&◌, ◌||◌, ℕ, zero, suc, ◌+◌, ◌-◌, length, get_or, eqb}
use Rattle.scope.specs.Lists.{Text, bit, all, among}
use Rattle.scope.specs.Limits.{max_name, max_text, max_arity, min_tuple, max_tuple}
use Rattle.scope.specs.Types.{Ref, Ctor, Ty, integer, byte_string, opaque, list, tuple, pair, dat}
use Rattle.scope.specs.Patterns.{Raw, discard, variable, assign, integer_of, byte_string_of, list_of, constructor, pair_of, tuple_of, inner}

-- What reading gives: a value and the bytes after it; or a fault, refusal 4, with the bytes from the one at fault on
pub data Read (A : Type 0) : Type 0 where
  fault : List ℕ → Read A
  found : A → List ℕ → Read A

-- a reader takes the bytes that are left
abbrev pub Reader : Type 0 → Type 0
Reader A = List ℕ → Read A

-- go on with what was read
abbrev pub and_then : {A B : Type 0} → Read A → (A → Reader B) → Read B
and_then (fault bs) f = fault bs
and_then (found a bs) f = f a bs

-- one reader, then another
infixl 20 ◌>>=◌
abbrev pub ◌>>=◌ : {A B : Type 0} → Reader A → (A → Reader B) → Reader B
◌>>=◌ r f = λ bs. and_then (r bs) f

-- nothing is read
abbrev pub give : {A : Type 0} → A → Reader A
give a = λ bs. found a bs

-- one byte; bytes short is a fault at the end
abbrev pub byte : Reader ℕ
byte [] = fault []
byte (b ∷ bs) = found b bs

-- one byte that passes the test
abbrev pub passing : (ℕ → Bool) → Reader ℕ
passing good [] = fault []
passing good (b ∷ bs) = cond (good b) (found b bs) (fault (b ∷ bs))

-- a byte from lo to hi
abbrev pub within : ℕ → ℕ → Reader ℕ
within lo hi = passing (among lo hi)

-- 00 or 01
abbrev pub flag : Reader Bool
flag = do b ← within 0 1; give (eqb b 1)

-- the same reader n times
abbrev pub times : {A : Type 0} → ℕ → Reader A → Reader (List A)
times zero r = give []
times (suc n) r = do a ← r; l ← times n r; give (a ∷ l)

-- the reader whose place in the list is the next byte; past the list is a fault at that byte
abbrev pub choosing : {A : Type 0} → List (Reader A) → Reader A
choosing rs [] = fault []
choosing rs (b ∷ bs) = get_or rs b (λ rest. fault (b ∷ bs)) bs

-- what was read, if it passes the test; else a fault at its first byte
abbrev pub only_if : {A : Type 0} → (A → Bool) → Reader A → Reader A
only_if good r = λ bs. and_then (r bs) λ a rest. cond (good a) (found a rest) (fault bs)

-- A to Z
abbrev pub is_upper : ℕ → Bool
is_upper b = among 65 90 b

-- a to z
abbrev pub is_lower : ℕ → Bool
is_lower b = among 97 122 b

-- 0 to 9
abbrev pub is_digit : ℕ → Bool
is_digit b = among 48 57 b

-- a to z, digits or underscore
unfoldable pub is_small : ℕ → Bool
is_small b = is_lower b || is_digit b || eqb b 95

-- letters, digits or underscore
unfoldable pub is_big : ℕ → Bool
is_big b = is_upper b || is_small b

-- A name is a length byte, then that many bytes, 1 to 32, the first of one sort and the others of another
abbrev pub name_by : (ℕ → Bool) → (ℕ → Bool) → Reader Text
name_by first other = do n ← within 1 max_name; b ← passing first; bs ← times (n - 1) (passing other); give (b ∷ bs)

-- a constructor's begins with A to Z
unfoldable pub big_name : Reader Text
big_name = name_by is_upper is_big

-- a label's or a variable's begins with a to z
unfoldable pub small_name : Reader Text
small_name = name_by is_lower is_small

-- digits of which the first is not 0
abbrev pub is_positive : Text → Bool
is_positive [] = false
is_positive (d ∷ ds) = among 49 57 d && all is_digit ds

-- Decimal text has an optional minus and no needless zero: 0 and -7 stand, -0 and 007 do not
unfoldable pub is_decimal : Text → Bool
is_decimal [] = false
is_decimal (d ∷ ds) = cond (eqb d 45) (is_positive ds) ((eqb d 48 && eqb (length ds) 0) || is_positive (d ∷ ds))

-- a length byte, lo to 64, then that many bytes
abbrev pub text_from : ℕ → (Text → Bool) → Reader Text
text_from lo good = do n ← within lo max_text; only_if good (times n byte)

-- 01 type: what comes after the byte that says which
abbrev pub type_kinds : List (Reader Ty)
type_kinds =
    give integer ∷  -- 00 integer
    give byte_string ∷  -- 01 byte string
    give opaque ∷  -- 02 opaque
    list_bytes ∷  -- 03 list, element type
    tuple_bytes ∷  -- 04 tuple, count 2 to 16, types
    pair_bytes ∷  -- 05 pair, two types
    give (dat []) ∷  -- 06 data
    []
  where
    list_bytes : Reader Ty
    list_bytes = do e ← byte; give (list e)

    tuple_bytes : Reader Ty
    tuple_bytes = do n ← within min_tuple max_tuple; ts ← times n byte; give (tuple ts)

    pair_bytes : Reader Ty
    pair_bytes = do a ← byte; b ← byte; give (pair a b)

-- 01 type
unfoldable pub type_frame : Reader Ty
type_frame = choosing type_kinds

-- n fields, each its type and, with labels, a name
abbrev pub fields_for : Bool → ℕ → Reader (List Ref × List Text)
fields_for false n = do ts ← times n byte; give (ts, [])
fields_for true zero = give ([], [])
fields_for true (suc n) = do t ← byte; l ← small_name; r ← fields_for true n; give (t ∷ r.0, l ∷ r.1)

-- 02 constructor: name, labels 00 or 01, arity 0 to 16 (labels with arity 0 are a fault), fields
unfoldable pub constructor_frame : Reader Ctor
constructor_frame = do
  n ← big_name
  labelled ← flag
  k ← within (bit labelled) max_arity
  r ← fields_for labelled k
  give (record { name = n; labels = r.1; fields = r.0 })

-- what comes after the byte that says which pattern
abbrev pub pattern_kinds : List (Reader Raw)
pattern_kinds =
    give discard ∷  -- 00 discard
    named variable ∷  -- 01 variable, name
    named assign ∷  -- 02 assign, name, pattern
    an_integer ∷  -- 03 integer, length 1 to 64, decimal text
    a_byte_string ∷  -- 04 byte string, length 0 to 64, bytes
    a_list ∷  -- 05 list, element count, tail 00 or 01, elements, then the tail
    a_constructor ∷  -- 06 constructor, its number within the type from 0, argument count, spread 00 or 01, arguments
    give pair_of ∷  -- 07 pair, two patterns
    a_tuple ∷  -- 08 tuple, count, patterns
    []
  where
    named : (Text → Raw) → Reader Raw
    named p = do n ← small_name; give (p n)

    an_integer : Reader Raw
    an_integer = do t ← text_from 1 is_decimal; give (integer_of t)

    a_byte_string : Reader Raw
    a_byte_string = do t ← text_from 0 (λ t. true); give (byte_string_of t)

    a_list : Reader Raw
    a_list = do k ← byte; tail ← flag; give (list_of k tail)

    a_constructor : Reader Raw
    a_constructor = do c ← byte; k ← byte; spread ← flag; give (constructor c k spread)

    a_tuple : Reader Raw
    a_tuple = do k ← byte; give (tuple_of k)

-- one pattern as written, without its inner ones
unfoldable pub pattern : Reader Raw
pattern = choosing pattern_kinds

-- n patterns as written, each followed by its inner ones, as far as the fuel goes
unfoldable pub patterns_in : ℕ → ℕ → Reader (List Raw)
patterns_in zero n = λ bs. fault bs
patterns_in (suc fuel) zero = give []
patterns_in (suc fuel) (suc n) = do p ← pattern; ps ← patterns_in fuel (inner p + n); give (p ∷ ps)

-- n patterns; each takes a byte or more, so the bytes are fuel enough
unfoldable pub patterns : ℕ → Reader (List Raw)
patterns n = λ bs. patterns_in (suc (length bs)) n bs

-- what a frame holds
pub data Frame : Type 0 where
  type_of : Ty → Frame
  constructor_of : Ctor → Frame
  subject_of : Ref → Frame
  clause_of : List Raw → Frame
  end : Frame

-- The first byte is the kind: 01 type
abbrev pub type_frames : ℕ
type_frames = 1

-- 02 constructor of the data type just above
abbrev pub constructor_frames : ℕ
constructor_frames = 2

-- 03 subject
abbrev pub subject_frames : ℕ
subject_frames = 3

-- 04 clause
abbrev pub clause_frames : ℕ
clause_frames = 4

-- 05 end
abbrev pub end_frames : ℕ
end_frames = 5

-- is this a known kind
abbrev pub is_kind : ℕ → Bool
is_kind k = among type_frames end_frames k

-- no frame has this kind
abbrev pub no_frame : Reader Frame
no_frame bs = fault bs

-- what comes after the kind
abbrev pub frame_kinds : List (Reader Frame)
frame_kinds =
    no_frame ∷  -- 00 no frame
    a_type ∷  -- 01 type
    a_ctor ∷  -- 02 constructor
    a_subject ∷  -- 03 subject, its type
    a_clause ∷  -- 04 clause, one pattern
    give end ∷  -- 05 end, nothing
    []
  where
    a_type : Reader Frame
    a_type = do ty ← type_frame; give (type_of ty)

    a_ctor : Reader Frame
    a_ctor = do c ← constructor_frame; give (constructor_of c)

    a_subject : Reader Frame
    a_subject = do t ← byte; give (subject_of t)

    a_clause : Reader Frame
    a_clause = do ps ← patterns 1; give (clause_of ps)

-- a frame of kind k: what comes after the kind
unfoldable pub frame : ℕ → Reader Frame
frame k = get_or frame_kinds k no_frame
