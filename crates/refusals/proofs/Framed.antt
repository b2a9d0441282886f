-- The reader of a frame finds a frame exactly where the bytes write it: reader by reader, from the byte up.
use mathlib.Core.Path.{◌≡◌, refl, ap, ap₂, sym, subst, ◌∙◌}
use mathlib.Core.List.{List, [], ◌∷◌, ◌++◌, append_assoc, append-nil}
use mathlib.Core.Bool.{Bool, true, false, cond, ◌&&◌, ◌||◌}
use mathlib.Core.Logic.{◌⊎◌, inl, inr}
use Prim.Native.Nat.{ℕ, zero, suc, ◌+◌, ◌-◌, ◌≤◌, ◌<◌}
use native.Mathlib.Nat.{not-suc-le-zero}
use native.Mathlib.Omega.{arith}
use lib.ListN.{length, length-append}
use lib.Dec.{eqb}
use borrow.Author.Tests.{eqb-true, ne_eqb}
use Rattle.scope.specs.Lists.{Text, bit, all, among}
use Rattle.scope.specs.Types.{Ref, Ctor, Ty, integer, byte_string, opaque, list, tuple, pair, dat}
use Rattle.scope.specs.Patterns.{Raw, inner}
use Rattle.scope.specs.Frames.{Read, fault, found, Reader, and_then, give, byte, passing, within, flag, times, is_upper, is_lower, is_digit, is_small, is_big, name_by, big_name, small_name, is_positive, is_decimal, text_from, type_frame, fields_for, constructor_frame, pattern, patterns_in, patterns, Frame, type_of, constructor_of, subject_of, clause_of, end, frame}
use Rattle.refusals.specs.Bytes.{Upper, Small, lower, digit, underscore, Big, upper, small, Digit, Each, BigName, SmallName, Decimal, TypeBytes, FieldBytes, CtorBytes, PatternBytes, PatternsBytes, FrameBytes}
use Rattle.scope.proofs.Tests.{clash, both, and-true, either, or_left, or_right, among-is, is_among}

-- what a reader finds, and where
record Finds {A : Type 0} (W : A → List ℕ → Type 0) (bs : List ℕ) (a : A) (rest : List ℕ) : Type 0 where
  used : List ℕ
  so : W a used
  cut : bs ≡ used ++ rest

as_found : {A : Type 0} {rest : List ℕ} {a b : A} (W : A → List ℕ → Type 0) (bs used : List ℕ) → a ≡ b → W a used → bs ≡ used ++ rest
    → Finds W bs b rest
as_found {rest = rest} W bs used e w c = subst (λ x. Finds W bs x rest) e (record { used = used; so = w; cut = c })

-- the bytes of a reader and of the one after it, one after another
then-cut : (bs front mid used last rest : List ℕ) → bs ≡ front ++ mid → mid ≡ used ++ last → last ≡ rest → bs ≡ (front ++ used) ++ rest
then-cut bs front mid used last rest e f o = e ∙ ap (front ++◌) (f ∙ ap (used ++◌) o) ∙ sym (append_assoc front used rest)

then_found : {A B : Type 0} {b : B} {rest : List ℕ} (x : Read A) (f : A → Reader B) → and_then x f ≡ found b rest
    → (a : A) × (mid : List ℕ) × (x ≡ found a mid) × (f a mid ≡ found b rest)
then_found (fault bs) f e = clash (cc)
then_found (found a bs) f e = (a, bs, refl, e)

byte-found : (bs : List ℕ) (b : ℕ) (rest : List ℕ) → byte bs ≡ found b rest → bs ≡ b ∷ rest
byte-found [] b rest e = clash (cc)
byte-found (c ∷ bs) b rest e = cc

passing-found : (good : ℕ → Bool) (bs : List ℕ) (b : ℕ) (rest : List ℕ) → passing good bs ≡ found b rest → (bs ≡ b ∷ rest) × (good b ≡ true)
passing-found good [] b rest e = clash (cc)
passing-found good (c ∷ bs) b rest e = go (good c) refl e
  where
    go : (x : Bool) → good c ≡ x → cond x (found c bs) (fault (c ∷ bs)) ≡ found b rest → (c ∷ bs ≡ b ∷ rest) × (good b ≡ true)
    go true g i = let j : c ≡ b = cc in (cc, rw (← j) g)
    go false g i = clash (cc)

passing_finds : (good : ℕ → Bool) (b : ℕ) (rest : List ℕ) → good b ≡ true → passing good (b ∷ rest) ≡ found b rest
passing_finds good b rest h = rw h

-- 00 or 01
flag-found : (bs : List ℕ) (x : Bool) (rest : List ℕ) → flag bs ≡ found x rest → bs ≡ bit x ∷ rest
flag-found bs x rest e =
    let w = then_found (within 0 1 bs) _ e in
    let p = passing-found (among 0 1) bs w.0 w.1 w.2 in
    go w.0 (among-is 0 1 w.0 p.1).1 p.0 w.3
  where
    go : {mid : List ℕ} (b : ℕ) → b ≤ 1 → bs ≡ b ∷ mid → found (eqb b 1) mid ≡ found x rest → bs ≡ bit x ∷ rest
    go {mid} zero l i j = let k : false ≡ x = cc in let m : mid ≡ rest = cc in i ∙ ap₂ (λ (y : Bool) (r : List ℕ). bit y ∷ r) k m
    go {mid} (suc zero) l i j = let k : true ≡ x = cc in let m : mid ≡ rest = cc in i ∙ ap₂ (λ (y : Bool) (r : List ℕ). bit y ∷ r) k m
    go (suc (suc b)) l i j = absurd (omega arith)

flag_finds : (x : Bool) (rest : List ℕ) → flag (bit x ∷ rest) ≡ found x rest
flag_finds true rest = refl
flag_finds false rest = refl

-- so many bytes
bytes-found : (n : ℕ) (bs : List ℕ) (t rest : List ℕ) → times n byte bs ≡ found t rest → (length t ≡ n) × (bs ≡ t ++ rest)
bytes-found zero bs t rest e = let i : [] ≡ t = cc in let j : bs ≡ rest = cc in (rw (← i), rw (← i, j))
bytes-found (suc n) bs t rest e =
    let w = then_found (byte bs) _ e in
    let v = then_found (times n byte w.1) _ w.3 in
    let r = bytes-found n w.1 v.0 v.1 v.2 in
    let q = v.3 in
    let i : w.0 ∷ v.0 ≡ t = cc in
    let j : v.1 ≡ rest = cc in
    (rw (← i) (ap suc r.0), byte-found bs w.0 w.1 w.2 ∙ ap (w.0 ∷◌) r.1 ∙ ap₂ ◌++◌ i j)

bytes_find : (t rest : List ℕ) → times (length t) byte (t ++ rest) ≡ found t rest
bytes_find [] rest = refl
bytes_find (b ∷ t) rest = rw (bytes_find t rest)

passes-found : (good : ℕ → Bool) (n : ℕ) (bs : List ℕ) (t rest : List ℕ) → times n (passing good) bs ≡ found t rest
    → (length t ≡ n) × (bs ≡ t ++ rest) × (all good t ≡ true)
passes-found good zero bs t rest e = let i : [] ≡ t = cc in let j : bs ≡ rest = cc in (rw (← i), rw (← i, j), rw (← i))
passes-found good (suc n) bs t rest e =
    let w = then_found (passing good bs) _ e in
    let v = then_found (times n (passing good) w.1) _ w.3 in
    let r = passes-found good n w.1 v.0 v.1 v.2 in
    let p = passing-found good bs w.0 w.1 w.2 in
    let q = v.3 in
    let i : w.0 ∷ v.0 ≡ t = cc in
    let j : v.1 ≡ rest = cc in
    (rw (← i) (ap suc r.0), p.0 ∙ ap (w.0 ∷◌) r.1 ∙ ap₂ ◌++◌ i j, rw (← i) (and-true p.1 r.2))

passes_find : (good : ℕ → Bool) (t rest : List ℕ) → all good t ≡ true → times (length t) (passing good) (t ++ rest) ≡ found t rest
passes_find good [] rest h = refl
passes_find good (b ∷ t) rest h = let w = both (good b) (all good t) h in rw (w.0, passes_find good t rest w.1)

-- letters
each-is : (P : ℕ → Type 0) (good : ℕ → Bool) → ((b : ℕ) → good b ≡ true → P b) → (t : Text) → all good t ≡ true → Each P t
each-is P good f [] h = Each.none
each-is P good f (b ∷ t) h = let w = both (good b) (all good t) h in Each.also (f b w.0) (each-is P good f t w.1)

is-each : (P : ℕ → Type 0) (good : ℕ → Bool) → ((b : ℕ) → P b → good b ≡ true) → {t : Text} → Each P t → all good t ≡ true
is-each P good f Each.none = refl
is-each P good f (Each.also {b = b} p e) = and-true (f b p) (is-each P good f e)

upper_is : (b : ℕ) → is_upper b ≡ true → Upper b
upper_is b h = let w = among-is 65 90 b h in record { low = w.0; high = w.1 }

is-upper : (b : ℕ) → Upper b → is_upper b ≡ true
is-upper b u = is_among 65 90 b u.low u.high

small_is : (b : ℕ) → is_small b ≡ true → Small b
unfolding is_small
small_is b h = go (either (is_lower b || is_digit b) (eqb b 95) h)
  where
    two : (is_lower b ≡ true) ⊎ (is_digit b ≡ true) → Small b
    two (inl x) = let w = among-is 97 122 b x in lower w.0 w.1
    two (inr x) = let w = among-is 48 57 b x in digit w.0 w.1

    go : ((is_lower b || is_digit b) ≡ true) ⊎ (eqb b 95 ≡ true) → Small b
    go (inl x) = two (either (is_lower b) (is_digit b) x)
    go (inr x) = rw (eqb-true b 95 x) underscore

is-small : (b : ℕ) → Small b → is_small b ≡ true
unfolding is_small
is-small b (lower l h) = or_left (eqb b 95) (or_left (is_digit b) (is_among 97 122 b l h))
is-small b (digit l h) = or_left (eqb b 95) (or_right (is_lower b) (is_among 48 57 b l h))
is-small b underscore = refl

big_is : (b : ℕ) → is_big b ≡ true → Big b
unfolding is_big
big_is b h = go (either (is_upper b) (is_small b) h)
  where
    go : (is_upper b ≡ true) ⊎ (is_small b ≡ true) → Big b
    go (inl x) = upper (upper_is b x)
    go (inr x) = small (small_is b x)

is_big_lem : (b : ℕ) → Big b → is_big b ≡ true
unfolding is_big
is_big_lem b (upper u) = or_left (is_small b) (is-upper b u)
is_big_lem b (small s) = or_right (is_upper b) (is-small b s)

-- names
record Named (first other : ℕ → Bool) (bs : List ℕ) (t : Text) (rest : List ℕ) : Type 0 where
  head : ℕ
  tail : Text
  is : t ≡ head ∷ tail
  good : first head ≡ true
  others : all other tail ≡ true
  short : suc (length tail) ≤ 32
  cut : bs ≡ length t ∷ (t ++ rest)

name-found : (first other : ℕ → Bool) (bs : List ℕ) (t rest : List ℕ) → name_by first other bs ≡ found t rest → Named first other bs t rest
name-found first other bs t rest e =
    let a = then_found (within 1 32 bs) _ e in
    let b = then_found (passing first a.1) _ a.3 in
    let c = then_found (times (a.0 - 1) (passing other) b.1) _ b.3 in
    let p = passing-found (among 1 32) bs a.0 a.1 a.2 in
    let q = passing-found first a.1 b.0 b.1 b.2 in
    let r = passes-found other (a.0 - 1) b.1 c.0 c.1 c.2 in
    let n = among-is 1 32 a.0 p.1 in
    let m : suc (length c.0) ≡ a.0 = omega (arith, n.0, r.0) in
    let z = c.3 in
    let i : b.0 ∷ c.0 ≡ t = cc in
    let j : c.1 ≡ rest = cc in
    record {
      head = b.0;
      tail = c.0;
      is = sym i;
      good = q.1;
      others = r.2;
      short = omega (arith, m, n.1);
      cut = p.0 ∙ ap₂ ◌∷◌ (sym m ∙ ap length i) (q.0 ∙ ap (b.0 ∷◌) r.1 ∙ ap₂ ◌++◌ i j);
    }

name_finds : (first other : ℕ → Bool) (b : ℕ) (t rest : List ℕ) → first b ≡ true → all other t ≡ true → suc (length t) ≤ 32
    → name_by first other (suc (length t) ∷ b ∷ (t ++ rest)) ≡ found (b ∷ t) rest
name_finds first other b t rest h k l =
    let n : among 1 32 (suc (length t)) ≡ true = is_among 1 32 (suc (length t)) (omega arith) l in
    let m : suc (length t) - 1 ≡ length t = omega arith in
    rw (n, h, m, passes_find other t rest k)

big_found : (bs : List ℕ) (t rest : List ℕ) → big_name bs ≡ found t rest → BigName t × (bs ≡ length t ∷ (t ++ rest))
unfolding big_name
big_found bs t rest e =
    let n = name-found is_upper is_big bs t rest e in
    (rw n.is (BigName.named (upper_is n.head n.good) (each-is Big is_big big_is n.tail n.others) n.short), n.cut)

big_finds : (t rest : List ℕ) → BigName t → big_name (length t ∷ (t ++ rest)) ≡ found t rest
unfolding big_name
big_finds t rest (BigName.named {b = b} {t = u} f o l) = name_finds is_upper is_big b u rest (is-upper b f) (is-each Big is_big is_big_lem o) l

small-found : (bs : List ℕ) (t rest : List ℕ) → small_name bs ≡ found t rest → SmallName t × (bs ≡ length t ∷ (t ++ rest))
unfolding small_name
small-found bs t rest e =
    let n = name-found is_lower is_small bs t rest e in
    let w = among-is 97 122 n.head n.good in
    (rw n.is (SmallName.named w.0 w.1 (each-is Small is_small small_is n.tail n.others) n.short), n.cut)

small_finds : (t rest : List ℕ) → SmallName t → small_name (length t ∷ (t ++ rest)) ≡ found t rest
unfolding small_name
small_finds t rest (SmallName.named {b = b} {t = u} f g o l) = name_finds is_lower is_small b u rest (is_among 97 122 b f g) (is-each Small is_small is-small o) l

-- decimal text
digits_are : (t : Text) → all is_digit t ≡ true → Each Digit t
digits_are t h = each-is Digit is_digit (λ b e. let w = among-is 48 57 b e in record { low = w.0; high = w.1 }) t h

are-digits : {t : Text} → Each Digit t → all is_digit t ≡ true
are-digits e = is-each Digit is_digit (λ b d. is_among 48 57 b d.low d.high) e

decimal-is : (t : Text) → is_decimal t ≡ true → Decimal t
unfolding is_decimal
decimal-is [] h = clash (cc)
decimal-is (d ∷ ds) h = go (eqb d 45) refl h
  where
    minus : (es : Text) → is_positive es ≡ true → Decimal (45 ∷ es)
    minus [] x = clash (cc)
    minus (e ∷ es) x =
        let w = both (among 49 57 e) (all is_digit es) x in
        let v = among-is 49 57 e w.0 in
        Decimal.negative v.0 v.1 (digits_are es w.1)

    none : (es : Text) → (eqb d 48 && eqb (length es) 0) ≡ true → Decimal (d ∷ es)
    none [] x = rw (eqb-true d 48 (both (eqb d 48) (eqb 0 0) x).0) Decimal.nought
    none (e ∷ es) x = absurd (omega (arith, eqb-true (suc (length es)) 0 (both (eqb d 48) (eqb (suc (length es)) 0) x).1))

    plus : ((eqb d 48 && eqb (length ds) 0) ≡ true) ⊎ (is_positive (d ∷ ds) ≡ true) → Decimal (d ∷ ds)
    plus (inl x) = none ds x
    plus (inr x) = let w = both (among 49 57 d) (all is_digit ds) x in let v = among-is 49 57 d w.0 in Decimal.positive v.0 v.1 (digits_are ds w.1)

    go : (b : Bool) → eqb d 45 ≡ b → cond b (is_positive ds) ((eqb d 48 && eqb (length ds) 0) || is_positive (d ∷ ds)) ≡ true → Decimal (d ∷ ds)
    go true e x = rw (eqb-true d 45 e) (minus ds x)
    go false e x = plus (either (eqb d 48 && eqb (length ds) 0) (is_positive (d ∷ ds)) x)

is-decimal : (t : Text) → Decimal t → is_decimal t ≡ true
unfolding is_decimal
is-decimal t Decimal.nought = refl
is-decimal t (Decimal.positive {d = d} {t = ds} l h e) =
    rw (ne_eqb d 45 (λ i. omega arith)) (or_right (eqb d 48 && eqb (length ds) 0) (and-true (is_among 49 57 d l h) (are-digits e)))
is-decimal t (Decimal.negative {d = d} l h e) = and-true (is_among 49 57 d l h) (are-digits e)

-- n bytes, n from lo to 64
text-found : (lo : ℕ) (good : Text → Bool) (bs : List ℕ) (t rest : List ℕ) → text_from lo good bs ≡ found t rest
    → (lo ≤ length t) × (length t ≤ 64) × (good t ≡ true) × (bs ≡ length t ∷ (t ++ rest))
text-found lo good bs t rest e =
    let a = then_found (within lo 64 bs) _ e in
    let p = passing-found (among lo 64) bs a.0 a.1 a.2 in
    let n = among-is lo 64 a.0 p.1 in
    let c = then_found (times a.0 byte a.1) _ a.3 in
    let r = bytes-found a.0 a.1 c.0 c.1 c.2 in
    let q = tested a.1 c.0 c.1 (good c.0) refl c.3 in
    let m : a.0 ≡ length t = sym r.0 ∙ ap length q.0 in
    (omega (arith, n.0, m), omega (arith, n.1, m), q.2, p.0 ∙ ap₂ ◌∷◌ m (r.1 ∙ ap₂ ◌++◌ q.0 q.1))
  where
    tested : (at u mid : List ℕ) (x : Bool) → good u ≡ x → cond x (found u mid) (fault at) ≡ found t rest → (u ≡ t) × (mid ≡ rest) × (good t ≡ true)
    tested at u mid true g i = let k : u ≡ t = cc in (k, cc, rw (← k) g)
    tested at u mid false g i = clash (cc)

text_finds : (lo : ℕ) (good : Text → Bool) (t rest : List ℕ) → lo ≤ length t → length t ≤ 64 → good t ≡ true
    → text_from lo good (length t ∷ (t ++ rest)) ≡ found t rest
text_finds lo good t rest l h g = rw (is_among lo 64 (length t) l h, bytes_find t rest, g)

-- 01 type
type-found : (bs : List ℕ) (ty : Ty) (rest : List ℕ) → type_frame bs ≡ found ty rest → Finds TypeBytes bs ty rest
unfolding type_frame
type-found [] ty rest e = clash (cc)
type-found (zero ∷ bs) ty rest e = let i : integer ≡ ty = cc in as_found TypeBytes (0 ∷ bs) (0 ∷ []) i TypeBytes.integer (ap (0 ∷◌) (cc))
type-found (suc zero ∷ bs) ty rest e = let i : byte_string ≡ ty = cc in as_found TypeBytes (1 ∷ bs) (1 ∷ []) i TypeBytes.byte_string (ap (1 ∷◌) (cc))
type-found (suc (suc zero) ∷ bs) ty rest e = let i : opaque ≡ ty = cc in as_found TypeBytes (2 ∷ bs) (2 ∷ []) i TypeBytes.opaque (ap (2 ∷◌) (cc))
type-found (suc (suc (suc zero)) ∷ bs) ty rest e =
    let a = then_found (byte bs) _ e in
    let q = a.3 in
    let i : list a.0 ≡ ty = cc in
    let j : a.1 ≡ rest = cc in
    as_found TypeBytes (3 ∷ bs) (3 ∷ a.0 ∷ []) i TypeBytes.list (ap (3 ∷◌) (byte-found bs a.0 a.1 a.2 ∙ ap (a.0 ∷◌) j))
type-found (suc (suc (suc (suc zero))) ∷ bs) ty rest e =
    let a = then_found (within 2 16 bs) _ e in
    let p = passing-found (among 2 16) bs a.0 a.1 a.2 in
    let n = among-is 2 16 a.0 p.1 in
    let b = then_found (times a.0 byte a.1) _ a.3 in
    let r = bytes-found a.0 a.1 b.0 b.1 b.2 in
    let q = b.3 in
    let i : tuple b.0 ≡ ty = cc in
    let j : b.1 ≡ rest = cc in
    as_found TypeBytes (4 ∷ bs) (4 ∷ length b.0 ∷ b.0) i (TypeBytes.tuple (omega (arith, n.0, r.0)) (omega (arith, n.1, r.0)))
    (ap (4 ∷◌) (p.0 ∙ ap₂ ◌∷◌ (sym r.0) (r.1 ∙ ap (b.0 ++◌) j)))
type-found (suc (suc (suc (suc (suc zero)))) ∷ bs) ty rest e =
    let a = then_found (byte bs) _ e in
    let b = then_found (byte a.1) _ a.3 in
    let q = b.3 in
    let i : pair a.0 b.0 ≡ ty = cc in
    let j : b.1 ≡ rest = cc in
    as_found TypeBytes (5 ∷ bs) (5 ∷ a.0 ∷ b.0 ∷ []) i TypeBytes.pair
    (ap (5 ∷◌) (byte-found bs a.0 a.1 a.2 ∙ ap (a.0 ∷◌) (byte-found a.1 b.0 b.1 b.2 ∙ ap (b.0 ∷◌) j)))
type-found (suc (suc (suc (suc (suc (suc zero))))) ∷ bs) ty rest e =
    let i : dat [] ≡ ty = cc in
    as_found TypeBytes (6 ∷ bs) (6 ∷ []) i TypeBytes.dat (ap (6 ∷◌) (cc))
type-found (suc (suc (suc (suc (suc (suc (suc k)))))) ∷ bs) ty rest e = clash (cc)

type_finds : (ty : Ty) (used rest : List ℕ) → TypeBytes ty used → type_frame (used ++ rest) ≡ found ty rest
unfolding type_frame
type_finds ty used rest TypeBytes.integer = refl
type_finds ty used rest TypeBytes.byte_string = refl
type_finds ty used rest TypeBytes.opaque = refl
type_finds ty used rest TypeBytes.list = refl
type_finds ty used rest (TypeBytes.tuple {ts = ts} l h) = rw (is_among 2 16 (length ts) l h, bytes_find ts rest)
type_finds ty used rest TypeBytes.pair = refl
type_finds ty used rest TypeBytes.dat = refl

-- 02 constructor
record FieldsFound (bs : List ℕ) (n : ℕ) (ts : List Ref) (ls : List Text) (rest : List ℕ) : Type 0 where
  used : List ℕ
  so : FieldBytes ts ls used
  many : length ts ≡ n
  cut : bs ≡ used ++ rest

field_cut : (bs mid more used last rest : List ℕ) (t : Ref) (l : Text) → bs ≡ t ∷ mid → mid ≡ length l ∷ (l ++ more) → more ≡ used ++ last → last ≡ rest
    → bs ≡ t ∷ length l ∷ ((l ++ used) ++ rest)
field_cut bs mid more used last rest t l e m f o = e ∙ ap (t ∷◌) (m ∙ ap (length l ∷◌) (then-cut (l ++ more) l more used last rest refl f o))

fields-found : (n : ℕ) (bs : List ℕ) (r : List Ref × List Text) (rest : List ℕ) → fields_for true n bs ≡ found r rest → FieldsFound bs n r.0 r.1 rest
fields-found zero bs r rest e =
    let i : ([], []) ≡ r = cc in
    subst (λ (x : List Ref × List Text). FieldsFound bs 0 x.0 x.1 rest) i (record { used = []; so = FieldBytes.none; many = refl; cut = cc })
fields-found (suc n) bs r rest e =
    let a = then_found (byte bs) _ e in
    let b = then_found (small_name a.1) _ a.3 in
    let c = then_found (fields_for true n b.1) _ b.3 in
    let q = c.3 in
    let i : (a.0 ∷ c.0.0, b.0 ∷ c.0.1) ≡ r = cc in
    let j : c.1 ≡ rest = cc in
    let m = small-found a.1 b.0 b.1 b.2 in
    let f = fields-found n b.1 c.0 c.1 c.2 in
    subst (λ (x : List Ref × List Text). FieldsFound bs (suc n) x.0 x.1 rest) {x = (a.0 ∷ c.0.0, b.0 ∷ c.0.1)} i (record {
      used = a.0 ∷ length b.0 ∷ (b.0 ++ f.used);
      so = FieldBytes.also {bs = f.used} m.0 f.so;
      many = ap suc f.many;
      cut = field_cut bs a.1 b.1 f.used c.1 rest a.0 b.0 (byte-found bs a.0 a.1 a.2) m.1 f.cut j;
    })

fields_find : {ts : List Ref} {ls : List Text} {used : List ℕ} (rest : List ℕ) → FieldBytes ts ls used
    → fields_for true (length ts) (used ++ rest) ≡ found (ts, ls) rest
fields_find rest FieldBytes.none = refl
fields_find rest (FieldBytes.also {l = l} {bs = bs} n f) = rw (append_assoc l bs rest, small_finds l (bs ++ rest) n, fields_find rest f)

ctor-found : (bs : List ℕ) (c : Ctor) (rest : List ℕ) → constructor_frame bs ≡ found c rest → Finds CtorBytes bs c rest
unfolding constructor_frame
ctor-found bs c rest e =
    let a = then_found (big_name bs) _ e in
    let b = then_found (flag a.1) _ a.3 in
    let d = then_found (within (bit b.0) 16 b.1) _ b.3 in
    let n = big_found bs a.0 a.1 a.2 in
    let p = passing-found (among (bit b.0) 16) b.1 d.0 d.1 d.2 in
    let w = among-is (bit b.0) 16 d.0 p.1 in
    let cut = head-cut a.1 b.1 d.1 a.0 (bit b.0) d.0 n.1 (flag-found a.1 b.0 b.1 b.2) p.0 in
    go b.0 a.0 d.0 d.1 n.0 w.0 w.1 cut d.3
  where
    head-cut : (mid more last : List ℕ) (n : Text) (x k : ℕ) → bs ≡ length n ∷ (n ++ mid) → mid ≡ x ∷ more → more ≡ k ∷ last
        → bs ≡ length n ∷ (n ++ x ∷ k ∷ last)
    head-cut mid more last n x k e f g = e ∙ ap (λ (y : List ℕ). length n ∷ (n ++ y)) (f ∙ ap (x ∷◌) g)

    -- the fields' bytes after the head
    fields-cut : (mid used : List ℕ) (n : Text) (x k m : ℕ) → bs ≡ length n ∷ (n ++ x ∷ k ∷ mid) → m ≡ k → mid ≡ used ++ rest
        → bs ≡ length n ∷ ((n ++ x ∷ m ∷ used) ++ rest)
    fields-cut mid used n x k m e i f =
        let j : x ∷ k ∷ mid ≡ x ∷ m ∷ (used ++ rest) = ap₂ (λ (y : ℕ) (z : List ℕ). x ∷ y ∷ z) (sym i) f in
        e ∙ ap (length n ∷◌) (ap (n ++◌) j ∙ sym (append_assoc n (x ∷ m ∷ used) rest))

    go : (x : Bool) (n : Text) (k : ℕ) (mid : List ℕ) → BigName n → bit x ≤ k → k ≤ 16 → bs ≡ length n ∷ (n ++ bit x ∷ k ∷ mid)
        → and_then (fields_for x k mid) (λ r. give (record { name = n; labels = r.1; fields = r.0 })) ≡ found c rest → Finds CtorBytes bs c rest
    go false n k mid m l h cut i =
        let u = then_found (fields_for false k mid) _ i in
        let v = then_found (times k byte mid) _ u.2 in
        let r = bytes-found k mid v.0 v.1 v.2 in
        let y = u.3 in
        let z = v.3 in
        let s : (v.0, []) ≡ u.0 = cc in
        let built : List Ref × List Text → Ctor = λ x. record { name = n; labels = x.1; fields = x.0 } in
        let j : record { name = n; labels = []; fields = v.0 } ≡ c = ap built s ∙ cc in
        let o : v.1 ≡ rest = cc in
        as_found CtorBytes bs (length n ∷ (n ++ 0 ∷ length v.0 ∷ v.0)) j (CtorBytes.plain m (omega (arith, r.0)))
        (fields-cut mid v.0 n 0 k (length v.0) cut r.0 (r.1 ∙ ap (v.0 ++◌) o))
    go true n k mid m l h cut i =
        let u = then_found (fields_for true k mid) _ i in
        let f = fields-found k mid u.0 u.1 u.2 in
        let y = u.3 in
        let j : record { name = n; labels = u.0.1; fields = u.0.0 } ≡ c = cc in
        let o : u.1 ≡ rest = cc in
        as_found CtorBytes bs (length n ∷ (n ++ 1 ∷ length u.0.0 ∷ f.used)) j
        (CtorBytes.labelled m (omega (arith, f.many)) (omega (arith, f.many)) f.so)
        (fields-cut mid f.used n 1 k (length u.0.0) cut f.many (f.cut ∙ ap (f.used ++◌) o))

ctor_finds : (c : Ctor) (used rest : List ℕ) → CtorBytes c used → constructor_frame (used ++ rest) ≡ found c rest
unfolding constructor_frame
ctor_finds c used rest (CtorBytes.plain {n = n} {ts = ts} m h) =
    rw (append_assoc n (0 ∷ length ts ∷ ts) rest, big_finds n (0 ∷ length ts ∷ (ts ++ rest)) m, is_among 0 16 (length ts) (omega arith) h, bytes_find ts rest)
ctor_finds c used rest (CtorBytes.labelled {n = n} {ts = ts} {bs = bs} m l h f) =
    rw (append_assoc n (1 ∷ length ts ∷ bs) rest, big_finds n (1 ∷ length ts ∷ (bs ++ rest)) m, is_among 1 16 (length ts) l h, fields_find rest f)

-- one pattern
named-found : (p : Text → Raw) (k : ℕ) (bs : List ℕ) (q : Raw) (rest : List ℕ) → ((n : Text) → SmallName n → PatternBytes (p n) (k ∷ length n ∷ n))
    → and_then (small_name bs) (λ n. give (p n)) ≡ found q rest → Finds PatternBytes (k ∷ bs) q rest
named-found p k bs q rest so e =
    let a = then_found (small_name bs) _ e in
    let n = small-found bs a.0 a.1 a.2 in
    let y = a.3 in
    let i : p a.0 ≡ q = cc in
    let o : a.1 ≡ rest = cc in
    as_found PatternBytes (k ∷ bs) (k ∷ length a.0 ∷ a.0) i (so a.0 n.0) (ap (k ∷◌) (n.1 ∙ ap (λ (x : List ℕ). length a.0 ∷ (a.0 ++ x)) o))

pattern-found : (bs : List ℕ) (p : Raw) (rest : List ℕ) → pattern bs ≡ found p rest → Finds PatternBytes bs p rest
unfolding pattern
pattern-found [] p rest e = clash (cc)
pattern-found (zero ∷ bs) p rest e = let i : Raw.discard ≡ p = cc in as_found PatternBytes (0 ∷ bs) (0 ∷ []) i PatternBytes.discard (ap (0 ∷◌) (cc))
pattern-found (suc zero ∷ bs) p rest e = named-found Raw.variable 1 bs p rest (λ n m. PatternBytes.variable m) e
pattern-found (suc (suc zero) ∷ bs) p rest e = named-found Raw.assign 2 bs p rest (λ n m. PatternBytes.assign m) e
pattern-found (suc (suc (suc zero)) ∷ bs) p rest e =
    let a = then_found (text_from 1 is_decimal bs) _ e in
    let t = text-found 1 is_decimal bs a.0 a.1 a.2 in
    let y = a.3 in
    let i : Raw.integer_of a.0 ≡ p = cc in
    let o : a.1 ≡ rest = cc in
    as_found PatternBytes (3 ∷ bs) (3 ∷ length a.0 ∷ a.0) i (PatternBytes.integer_of t.0 t.1 (decimal-is a.0 t.2))
    (ap (3 ∷◌) (t.3 ∙ ap (λ (x : List ℕ). length a.0 ∷ (a.0 ++ x)) o))
pattern-found (suc (suc (suc (suc zero))) ∷ bs) p rest e =
    let a = then_found (text_from 0 (λ t. true) bs) _ e in
    let t = text-found 0 (λ t. true) bs a.0 a.1 a.2 in
    let y = a.3 in
    let i : Raw.byte_string_of a.0 ≡ p = cc in
    let o : a.1 ≡ rest = cc in
    as_found PatternBytes (4 ∷ bs) (4 ∷ length a.0 ∷ a.0) i (PatternBytes.byte_string_of t.1)
    (ap (4 ∷◌) (t.3 ∙ ap (λ (x : List ℕ). length a.0 ∷ (a.0 ++ x)) o))
pattern-found (suc (suc (suc (suc (suc zero)))) ∷ bs) p rest e =
    let a = then_found (byte bs) _ e in
    let b = then_found (flag a.1) _ a.3 in
    let y = b.3 in
    let i : Raw.list_of a.0 b.0 ≡ p = cc in
    let o : b.1 ≡ rest = cc in
    as_found PatternBytes (5 ∷ bs) (5 ∷ a.0 ∷ bit b.0 ∷ []) i PatternBytes.list_of
    (ap (5 ∷◌) (byte-found bs a.0 a.1 a.2 ∙ ap (a.0 ∷◌) (flag-found a.1 b.0 b.1 b.2 ∙ ap (bit b.0 ∷◌) o)))
pattern-found (suc (suc (suc (suc (suc (suc zero))))) ∷ bs) p rest e =
    let a = then_found (byte bs) _ e in
    let b = then_found (byte a.1) _ a.3 in
    let c = then_found (flag b.1) _ b.3 in
    let y = c.3 in
    let i : Raw.constructor a.0 b.0 c.0 ≡ p = cc in
    let o : c.1 ≡ rest = cc in
    as_found PatternBytes (6 ∷ bs) (6 ∷ a.0 ∷ b.0 ∷ bit c.0 ∷ []) i PatternBytes.constructor
    (ap (6 ∷◌) (byte-found bs a.0 a.1 a.2 ∙ ap (a.0 ∷◌) (byte-found a.1 b.0 b.1 b.2
    ∙ ap (b.0 ∷◌) (flag-found b.1 c.0 c.1 c.2 ∙ ap (bit c.0 ∷◌) o))))
pattern-found (suc (suc (suc (suc (suc (suc (suc zero)))))) ∷ bs) p rest e =
    let i : Raw.pair_of ≡ p = cc in
    as_found PatternBytes (7 ∷ bs) (7 ∷ []) i PatternBytes.pair_of (ap (7 ∷◌) (cc))
pattern-found (suc (suc (suc (suc (suc (suc (suc (suc zero))))))) ∷ bs) p rest e =
    let a = then_found (byte bs) _ e in
    let y = a.3 in
    let i : Raw.tuple_of a.0 ≡ p = cc in
    let o : a.1 ≡ rest = cc in
    as_found PatternBytes (8 ∷ bs) (8 ∷ a.0 ∷ []) i PatternBytes.tuple_of (ap (8 ∷◌) (byte-found bs a.0 a.1 a.2 ∙ ap (a.0 ∷◌) o))
pattern-found (suc (suc (suc (suc (suc (suc (suc (suc (suc k)))))))) ∷ bs) p rest e = clash (cc)

pattern_finds : (p : Raw) (used rest : List ℕ) → PatternBytes p used → pattern (used ++ rest) ≡ found p rest
unfolding pattern
pattern_finds p used rest PatternBytes.discard = refl
pattern_finds p used rest (PatternBytes.variable {n = n} m) = rw (small_finds n rest m)
pattern_finds p used rest (PatternBytes.assign {n = n} m) = rw (small_finds n rest m)
pattern_finds p used rest (PatternBytes.integer_of {t = t} l h d) = rw (text_finds 1 is_decimal t rest l h (is-decimal t d))
pattern_finds p used rest (PatternBytes.byte_string_of {s = s} h) = rw (text_finds 0 (λ t. true) s rest (omega arith) h refl)
pattern_finds p used rest (PatternBytes.list_of {tail = tail}) = rw (flag_finds tail rest)
pattern_finds p used rest (PatternBytes.constructor {spread = spread}) = rw (flag_finds spread rest)
pattern_finds p used rest PatternBytes.pair_of = refl
pattern_finds p used rest PatternBytes.tuple_of = refl

some_bytes : {p : Raw} {used : List ℕ} → PatternBytes p used → 1 ≤ length used
some_bytes PatternBytes.discard = omega arith
some_bytes (PatternBytes.variable m) = omega arith
some_bytes (PatternBytes.assign m) = omega arith
some_bytes (PatternBytes.integer_of l h d) = omega arith
some_bytes (PatternBytes.byte_string_of h) = omega arith
some_bytes PatternBytes.list_of = omega arith
some_bytes PatternBytes.constructor = omega arith
some_bytes PatternBytes.pair_of = omega arith
some_bytes PatternBytes.tuple_of = omega arith

-- n patterns
patterns-found : (fuel n : ℕ) (bs : List ℕ) (ps : List Raw) (rest : List ℕ) → patterns_in fuel n bs ≡ found ps rest → Finds (PatternsBytes n) bs ps rest
unfolding patterns_in
patterns-found zero n bs ps rest e = clash (cc)
patterns-found (suc fuel) zero bs ps rest e = let i : [] ≡ ps = cc in as_found (PatternsBytes 0) bs [] i PatternsBytes.none (cc)
patterns-found (suc fuel) (suc n) bs ps rest e =
    let a = then_found (pattern bs) _ e in
    let b = then_found (patterns_in fuel (inner a.0 + n) a.1) _ a.3 in
    let f = pattern-found bs a.0 a.1 a.2 in
    let g = patterns-found fuel (inner a.0 + n) a.1 b.0 b.1 b.2 in
    let y = b.3 in
    let i : a.0 ∷ b.0 ≡ ps = cc in
    let o : b.1 ≡ rest = cc in
    as_found (PatternsBytes (suc n)) bs (f.used ++ g.used) i (PatternsBytes.also f.used g.used f.so g.so)
    (then-cut bs f.used a.1 g.used b.1 rest f.cut g.cut o)

patterns_find : (fuel : ℕ) {n : ℕ} {ps : List Raw} {used : List ℕ} (rest : List ℕ) → PatternsBytes n ps used → length used < fuel
    → patterns_in fuel n (used ++ rest) ≡ found ps rest
unfolding patterns_in
patterns_find zero rest w l = absurd (not-suc-le-zero l)
patterns_find (suc fuel) rest PatternsBytes.none l = refl
patterns_find (suc fuel) rest (PatternsBytes.also {p = p} a bs m w) l =
    let h : length bs < fuel = omega (arith, length-append a bs, some_bytes m) in
    rw (append_assoc a bs rest, pattern_finds p a (bs ++ rest) m, patterns_find fuel rest w h)

several : (bs : List ℕ) (ps : List Raw) (rest : List ℕ) → patterns 1 bs ≡ found ps rest → Finds (PatternsBytes 1) bs ps rest
unfolding patterns
several bs ps rest h = patterns-found (suc (length bs)) 1 bs ps rest h

-- the bytes after the kind
pub frame_found : (k : ℕ) (bs : List ℕ) (f : Frame) → frame k bs ≡ found f [] → FrameBytes k f bs
unfolding frame
frame_found zero bs f e = clash (cc)
frame_found (suc zero) bs f e =
    let a = then_found (type_frame bs) _ e in
    let t = type-found bs a.0 a.1 a.2 in
    let y = a.3 in
    let i : type_of a.0 ≡ f = cc in
    let o : a.1 ≡ [] = cc in
    let c : bs ≡ t.used = t.cut ∙ ap (t.used ++◌) o ∙ append-nil t.used in
    subst (λ (x : Frame). FrameBytes 1 x bs) i (FrameBytes.type_of (subst (TypeBytes a.0) (sym c) t.so))
frame_found (suc (suc zero)) bs f e =
    let a = then_found (constructor_frame bs) _ e in
    let t = ctor-found bs a.0 a.1 a.2 in
    let y = a.3 in
    let i : constructor_of a.0 ≡ f = cc in
    let o : a.1 ≡ [] = cc in
    let c : bs ≡ t.used = t.cut ∙ ap (t.used ++◌) o ∙ append-nil t.used in
    subst (λ (x : Frame). FrameBytes 2 x bs) i (FrameBytes.constructor_of (subst (CtorBytes a.0) (sym c) t.so))
frame_found (suc (suc (suc zero))) bs f e =
    let a = then_found (byte bs) _ e in
    let y = a.3 in
    let i : subject_of a.0 ≡ f = cc in
    let o : a.1 ≡ [] = cc in
    let c : bs ≡ a.0 ∷ [] = byte-found bs a.0 a.1 a.2 ∙ ap (a.0 ∷◌) o in
    subst (λ (x : Frame). FrameBytes 3 x bs) i (subst (FrameBytes 3 (subject_of a.0)) (sym c) FrameBytes.subject_of)
frame_found (suc (suc (suc (suc zero)))) bs f e =
    let a = then_found (patterns 1 bs) _ e in
    let t = several bs a.0 a.1 a.2 in
    let y = a.3 in
    let i : clause_of a.0 ≡ f = cc in
    let o : a.1 ≡ [] = cc in
    let c : bs ≡ t.used = t.cut ∙ ap (t.used ++◌) o ∙ append-nil t.used in
    subst (λ (x : Frame). FrameBytes 4 x bs) i (FrameBytes.clause_of (subst (PatternsBytes 1 a.0) (sym c) t.so))
frame_found (suc (suc (suc (suc (suc zero))))) bs f e =
    let i : end ≡ f = cc in
    let o : bs ≡ [] = cc in
    subst (λ (x : Frame). FrameBytes 5 x bs) i (subst (FrameBytes 5 end) (sym o) FrameBytes.end)
frame_found (suc (suc (suc (suc (suc (suc k)))))) bs f e = clash (cc)

-- where the bytes end
to_the_end : {A : Type 0} {a : A} (r : Reader A) (bs : List ℕ) → r (bs ++ []) ≡ found a [] → r bs ≡ found a []
to_the_end {a = a} r bs e = subst (λ (x : List ℕ). r x ≡ found a []) (append-nil bs) e

clause_finds : (bs : List ℕ) (ps : List Raw) → PatternsBytes 1 ps bs → patterns 1 bs ≡ found ps []
unfolding patterns
clause_finds bs ps w = to_the_end (patterns_in (suc (length bs)) 1) bs (patterns_find (suc (length bs)) [] w (omega arith))

pub frame_finds : {k : ℕ} {f : Frame} {bs : List ℕ} → FrameBytes k f bs → frame k bs ≡ found f []
unfolding frame
frame_finds (FrameBytes.type_of {ty = ty} {bs = bs} w) = rw (to_the_end type_frame bs (type_finds ty bs [] w))
frame_finds (FrameBytes.constructor_of {c = c} {bs = bs} w) = rw (to_the_end constructor_frame bs (ctor_finds c bs [] w))
frame_finds FrameBytes.subject_of = refl
frame_finds (FrameBytes.clause_of {ps = ps} {bs = bs} w) = rw (clause_finds bs ps w)
frame_finds FrameBytes.end = refl
