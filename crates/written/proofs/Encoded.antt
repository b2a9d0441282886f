-- The bytes that the frame table gives a frame are those that `encode` gives it: by cases on the table.
use mathlib.Core.Path.{◌≡◌, refl, ap}
use mathlib.Core.List.{List, [], ◌∷◌, ◌++◌}
use Prim.Native.Nat.{ℕ, ◌≤◌}
use native.Mathlib.Nat.{not-suc-le-zero}
use lib.ListN.{length}
use Rattle.scope.specs.Lists.{Text}
use Rattle.scope.specs.Types.{Ref, Ctor, Ty}
use Rattle.scope.specs.Patterns.{Raw}
use Rattle.scope.specs.Frames.{Frame}
use Rattle.refusals.specs.Bytes.{TypeBytes, FieldBytes, CtorBytes, PatternBytes, PatternsBytes, FrameBytes}
use Rattle.written.specs.Writing.{counted, type_bytes, field_bytes, labels_byte, ctor_bytes, pattern_bytes, patterns_bytes, encode}

type-written : {ty : Ty} {bs : List ℕ} → TypeBytes ty bs → type_bytes ty ≡ bs
type-written TypeBytes.integer = refl
type-written TypeBytes.byte_string = refl
type-written TypeBytes.opaque = refl
type-written TypeBytes.list = refl
type-written (TypeBytes.tuple l h) = refl
type-written TypeBytes.pair = refl
type-written TypeBytes.dat = refl

-- fields without labels, and with
plain-written : (ts : List Ref) → field_bytes ts [] ≡ ts
plain-written [] = refl
plain-written (t ∷ ts) = ap (t ∷◌) (plain-written ts)

fields-written : {ts : List Ref} {ls : List Text} {bs : List ℕ} → FieldBytes ts ls bs → field_bytes ts ls ≡ bs
fields-written FieldBytes.none = refl
fields-written (FieldBytes.also {t = t} {l = l} m w) = ap (λ (r : List ℕ). t ∷ counted l ++ r) (fields-written w)

-- labels with arity 1 or more are not none
some-labels : {ts : List Ref} {ls : List Text} {bs : List ℕ} → FieldBytes ts ls bs → 1 ≤ length ts → labels_byte ls ≡ 1
some-labels FieldBytes.none h = absurd (not-suc-le-zero h)
some-labels (FieldBytes.also m w) h = refl

ctor-written : {c : Ctor} {bs : List ℕ} → CtorBytes c bs → ctor_bytes c ≡ bs
ctor-written (CtorBytes.plain {n = n} {ts = ts} m h) = rw (plain-written ts)
ctor-written (CtorBytes.labelled {n = n} {ts = ts} {ls = ls} m l h w) = rw (some-labels w l, fields-written w)

pattern-written : {p : Raw} {bs : List ℕ} → PatternBytes p bs → pattern_bytes p ≡ bs
pattern-written PatternBytes.discard = refl
pattern-written (PatternBytes.variable m) = refl
pattern-written (PatternBytes.assign m) = refl
pattern-written (PatternBytes.integer_of l h d) = refl
pattern-written (PatternBytes.byte_string_of h) = refl
pattern-written PatternBytes.list_of = refl
pattern-written PatternBytes.constructor = refl
pattern-written PatternBytes.pair_of = refl
pattern-written PatternBytes.tuple_of = refl

patterns-written : {n : ℕ} {ps : List Raw} {bs : List ℕ} → PatternsBytes n ps bs → patterns_bytes ps ≡ bs
patterns-written PatternsBytes.none = refl
patterns-written (PatternsBytes.also a bs m w) = rw (pattern-written m, patterns-written w)

pub frame-written : {k : ℕ} {f : Frame} {bs : List ℕ} → FrameBytes k f bs → encode f ≡ k ∷ bs
unfolding encode
frame-written (FrameBytes.type_of w) = ap (1 ∷◌) (type-written w)
frame-written (FrameBytes.constructor_of w) = ap (2 ∷◌) (ctor-written w)
frame-written FrameBytes.subject_of = refl
frame-written (FrameBytes.clause_of w) = ap (4 ∷◌) (patterns-written w)
frame-written FrameBytes.end = refl
