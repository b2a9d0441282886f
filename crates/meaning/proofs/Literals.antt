-- The literals that a clause's bytes give when they are read are as a file has them: decimal text, or bytes.
use mathlib.Core.Path.{◌≡◌, refl}
use mathlib.Core.Logic.{◌⊎◌, inl, inr}
use mathlib.Core.List.{List, [], ◌∷◌}
use mathlib.Core.Bool.{Bool, true, false, cond, ◌&&◌}
use Prim.Native.Nat.{ℕ, zero, suc, ◌+◌, ◌-◌, ◌*◌, ◌%◌, ◌<◌}
use native.Mathlib.Omega.{arith}
use lib.ListN.{length, get_or}
use lib.Dec.{leb, ltb, eqb}
use borrow.Author.Tests.{leb-true, leb-false, lt-ltb}
use Rattle.scope.specs.Limits.{max_digits}
use Rattle.scope.specs.Lists.{Text, all, among}
use Rattle.scope.specs.Lines.{Line, ended, cut, is_hex, hex, unhex, is_line, bytes_of}
use Rattle.scope.specs.Patterns.{Raw, discard, variable, assign, pair_of, integer_of, byte_string_of, list_of, constructor, tuple_of, inner}
use Rattle.scope.specs.Frames.{Read, fault, found, Reader, and_then, ◌>>=◌, give, byte, passing, flag, times, choosing, only_if, text_from, small_name, is_decimal, pattern_kinds, pattern, patterns_in, patterns}
use Rattle.meaning.specs.Values.{is_byte}
use Rattle.scope.proofs.Tests.{clash, both, and-true, either}
use Rattle.laws.proofs.Reading.{Every, every-at}

-- A line's bytes are bytes
hex-small : (d : ℕ) → is_hex d ≡ true → hex d < 16
unfolding is_hex hex
hex-small d h = go (leb d 57) refl (either (among 48 57 d) (among 97 102 d) h)
  where
    go : (b : Bool) → leb d 57 ≡ b → (among 48 57 d ≡ true) ⊎ (among 97 102 d ≡ true) → cond b (d - 48) (d - 87) < 16
    go true e x = omega (arith, leb-true d 57 e)
    go false e (inl x) = omega (arith, leb-false d 57 e, leb-true d 57 (both (leb 48 d) (leb d 57) x).1)
    go false e (inr x) = omega (arith, leb-true d 102 (both (leb 97 d) (leb d 102) x).1)

unhex-bytes : (ds : List ℕ) → all is_hex ds ≡ true → all is_byte (unhex ds) ≡ true
unfolding unhex
unhex-bytes [] h = refl
unhex-bytes (d ∷ []) h = refl
unhex-bytes (d ∷ e ∷ ds) h =
    let p = both (is_hex d) (is_hex e && all is_hex ds) h in
    let q = both (is_hex e) (all is_hex ds) p.1 in
    and-true (lt-ltb (16 * hex d + hex e) 256 (omega (arith, hex-small d p.0, hex-small e q.0))) (unhex-bytes ds q.1)

pub line-bytes : (l : Line) → is_line l ≡ true → all is_byte (bytes_of l) ≡ true
unfolding is_line
line-bytes (cut ds) h = clash (cc)
line-bytes (ended ds) h = unhex-bytes ds (both (ltb 0 (length ds) && eqb (length ds % 2) 0 && leb (length ds) max_digits) (all is_hex ds) h).1

-- what was read is such, and the bytes after it are bytes
abbrev Gives : {A : Type 0} → (A → Type 0) → Read A → Type 0
Gives P (fault bs) = Unit {0}
Gives P (found a bs) = P a × (all is_byte bs ≡ true)

-- a reader gives such things when it reads bytes
record Reads {A : Type 0} (P : A → Type 0) (r : Reader A) : Type 0 where
  at : (bs : List ℕ) → all is_byte bs ≡ true → Gives P (r bs)

give-reads : {A : Type 0} {P : A → Type 0} (a : A) → P a → Reads P (give a)
give-reads a p = record { at = λ bs h. (p, h) }

passing-reads : (good : ℕ → Bool) → Reads (λ b. is_byte b ≡ true) (passing good)
passing-reads good = record { at = go }
  where
    test : (b : ℕ) (bs : List ℕ) (x : Bool) → (is_byte b ≡ true) × (all is_byte bs ≡ true) → Gives (λ b. is_byte b ≡ true) (cond x (found b bs) (fault (b ∷ bs)))
    test b bs true h = h
    test b bs false h = tt

    go : (bs : List ℕ) → all is_byte bs ≡ true → Gives (λ b. is_byte b ≡ true) (passing good bs)
    go [] h = tt
    go (b ∷ bs) h = test b bs (good b) (both (is_byte b) (all is_byte bs) h)

byte_reads : Reads (λ b. is_byte b ≡ true) byte
byte_reads = record { at = go }
  where
    go : (bs : List ℕ) → all is_byte bs ≡ true → Gives (λ b. is_byte b ≡ true) (byte bs)
    go [] h = tt
    go (b ∷ bs) h = both (is_byte b) (all is_byte bs) h

bind_reads : {A B : Type 0} {P : A → Type 0} {Q : B → Type 0} {r : Reader A} {f : A → Reader B} → Reads P r → ((a : A) → P a → Reads Q (f a)) → Reads Q (r >>= f)
bind_reads {P = P} {Q = Q} {r = r} {f = f} h k = record { at = λ bs g. go (r bs) (h.at bs g) }
  where
    go : (x : Read _) → Gives P x → Gives Q (and_then x f)
    go (fault bs) u = tt
    go (found a bs) u = (k a u.0).at bs u.1

times-reads : {A : Type 0} {p : A → Bool} {r : Reader A} (n : ℕ) → Reads (λ a. p a ≡ true) r → Reads (λ l. all p l ≡ true) (times n r)
times-reads zero h = give-reads [] refl
times-reads (suc n) h = bind_reads h (λ a x. bind_reads (times-reads n h) (λ l y. give-reads (a ∷ l) (and-true x y)))

judging_reads : {A : Type 0} {P : A → Type 0} {r : Reader A} (good : A → Bool) → Reads P r → Reads (λ a. P a × (good a ≡ true)) (only_if good r)
judging_reads {A} {P} {r} good h = record { at = λ bs g. go bs (r bs) (h.at bs g) }
  where
    test : (bs rest : List ℕ) (a : A) → P a → all is_byte rest ≡ true → (x : Bool) → good a ≡ x → Gives (λ a. P a × (good a ≡ true)) (cond x (found a rest) (fault bs))
    test bs rest a p g true e = ((p, e), g)
    test bs rest a p g false e = tt

    go : (bs : List ℕ) (x : Read A) → Gives P x → Gives (λ a. P a × (good a ≡ true)) (and_then x (λ a rest. cond (good a) (found a rest) (fault bs)))
    go bs (fault rest) u = tt
    go bs (found a rest) u = test bs rest a u.0 u.1 (good a) refl

flag-reads : Reads (λ b. Unit {0}) flag
flag-reads = bind_reads (passing-reads (among 0 1)) (λ b x. give-reads _ tt)

text-reads : (lo : ℕ) (good : Text → Bool) → Reads (λ t. (all is_byte t ≡ true) × (good t ≡ true)) (text_from lo good)
text-reads lo good = bind_reads (passing-reads (among lo 64)) (λ n x. judging_reads good (times-reads n byte_reads))

small-reads : Reads (λ t. Unit {0}) small_name
unfolding small_name
small-reads = bind_reads (passing-reads (among 1 32)) (λ n x. bind_reads (passing-reads _) (λ b y. bind_reads (times-reads (n - 1) (passing-reads _)) (λ bs z. give-reads (b ∷ bs) tt)))

-- a literal as written is as a file has it
abbrev pub good_raw : Raw → Bool
good_raw discard = true
good_raw (variable n) = true
good_raw (assign n) = true
good_raw pair_of = true
good_raw (integer_of t) = is_decimal t
good_raw (byte_string_of t) = all is_byte t
good_raw (list_of k tail) = true
good_raw (constructor c k spread) = true
good_raw (tuple_of k) = true

abbrev GoodReader : Reader Raw → Type 0
GoodReader r = Reads (λ p. good_raw p ≡ true) r

choosing-reads : (rs : List (Reader Raw)) → Every GoodReader rs → GoodReader (choosing rs)
choosing-reads rs e = record { at = go }
  where
    go : (bs : List ℕ) → all is_byte bs ≡ true → Gives (λ p. good_raw p ≡ true) (choosing rs bs)
    go [] h = tt
    go (b ∷ bs) h = (every-at GoodReader rs (λ rest. fault (b ∷ bs)) e (record { at = λ _ _. tt }) b).at bs (both (is_byte b) (all is_byte bs) h).1

kinds-read : Every GoodReader pattern_kinds
kinds-read = (
  give-reads discard refl,
  (
    named variable (λ n. refl),
    (
      named assign (λ n. refl),
      (
        bind_reads (text-reads 1 is_decimal) (λ t x. give-reads (integer_of t) x.1),
        (
          bind_reads (text-reads 0 (λ t. true)) (λ t x. give-reads (byte_string_of t) x.0),
          (a_list, (a_ctor, (give-reads pair_of refl, (bind_reads byte_reads (λ k x. give-reads (tuple_of k) refl), tt)))),
        ),
      ),
    ),
  ),
)
  where
    named : (p : Text → Raw) → ((n : Text) → good_raw (p n) ≡ true) → GoodReader (small_name >>= λ n. give (p n))
    named p h = bind_reads small-reads (λ n x. give-reads (p n) (h n))

    a_list : GoodReader (get_or pattern_kinds 5 (λ bs. fault bs))
    a_list = bind_reads byte_reads (λ k x. bind_reads flag-reads (λ tail y. give-reads (list_of k tail) refl))

    a_ctor : GoodReader (get_or pattern_kinds 6 (λ bs. fault bs))
    a_ctor = bind_reads byte_reads (λ c x. bind_reads byte_reads (λ k y. bind_reads flag-reads (λ spread z. give-reads (constructor c k spread) refl)))

pattern-reads : GoodReader pattern
unfolding pattern
pattern-reads = choosing-reads pattern_kinds kinds-read

patterns_in_lem : (fuel n : ℕ) → Reads (λ ps. all good_raw ps ≡ true) (patterns_in fuel n)
unfolding patterns_in
patterns_in_lem zero n = record { at = λ bs h. tt }
patterns_in_lem (suc fuel) zero = give-reads [] refl
patterns_in_lem (suc fuel) (suc n) = bind_reads pattern-reads (λ p x. bind_reads (patterns_in_lem fuel (inner p + n)) (λ ps y. give-reads (p ∷ ps) (and-true x y)))

-- the patterns that are read from bytes have such literals
pub patterns-good : (n : ℕ) (bs : List ℕ) (ps : List Raw) (rest : List ℕ) → all is_byte bs ≡ true → patterns n bs ≡ found ps rest → all good_raw ps ≡ true
unfolding patterns
patterns-good n bs ps rest h e = go (patterns_in (suc (length bs)) n bs) ((patterns_in_lem (suc (length bs)) n).at bs h) e
  where
    go : (x : Read (List Raw)) → Gives (λ ps. all good_raw ps ≡ true) x → x ≡ found ps rest → all good_raw ps ≡ true
    go (fault at) u i = clash (cc)
    go (found qs at) u i = let j : qs ≡ ps = cc in rw (← j) u.0
