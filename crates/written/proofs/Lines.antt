-- Lines of hexadecimal and files of lines, written and read: from the definitions of `digits`, `unhex`, `unlines` and `lines`.
use mathlib.Core.Path.{◌≡◌, refl, ap, ap₂, sym, subst, ◌∙◌}
use mathlib.Core.List.{List, [], ◌∷◌, ◌++◌, append-nil}
use mathlib.Core.Bool.{Bool, true, false, not, ◌&&◌, ◌||◌}
use mathlib.Core.Logic.{◌⊎◌, inl, inr}
use Prim.Native.Nat.{ℕ, zero, suc, ◌+◌, ◌*◌, ◌/◌, ◌%◌, ◌≤◌, ◌<◌}
use native.Mathlib.Nat.{not-suc-le-zero}
use native.Mathlib.Omega.{arith}
use lib.ListN.{length}
use lib.Dec.{eqb, leb, ltb}
use borrow.Author.Tests.{leb-true, le-leb, lt-ltb, ltb-true, eqb-true, eq-eqb, eqb-false}
use Rattle.scope.specs.Lists.{all, among}
use Rattle.scope.specs.Lines.{Line, ended, cut, lines, is_hex, hex, unhex, is_line, bytes_of}
use Rattle.refusals.specs.Cut.{NoFeed, Cuts}
use Rattle.refusals.specs.Bytes.{Each}
use Rattle.written.specs.Writing.{digit_of, hex_of, unlines}
use Rattle.scope.proofs.Tests.{clash, both, and-true, either}
use Rattle.refusals.proofs.Cutting.{cuts-exactly}

-- do all numbers below n pass
abbrev below : (ℕ → Bool) → ℕ → Bool
below p zero = true
below p (suc n) = p n && below p n

below_at : (p : ℕ → Bool) (n : ℕ) → below p n ≡ true → (i : ℕ) → i < n → p i ≡ true
below_at p zero h i l = absurd (not-suc-le-zero l)
below_at p (suc n) h i l = go (eqb i n) refl (both (p n) (below p n) h) (λ k m. below_at p n k i m)
  where
    go : (x : Bool) → eqb i n ≡ x → (p n ≡ true) × (below p n ≡ true) → (below p n ≡ true → i < n → p i ≡ true) → p i ≡ true
    go true e w more = rw (eqb-true i n e) w.0
    go false e w more = let d = eqb-false i n e in more w.1 (omega arith)

-- a value from 0 to 15 and its digit
digit-test : ℕ → Bool
digit-test n = eqb (hex (digit_of n)) n && is_hex (digit_of n)

digit_of_lem : (n : ℕ) → n < 16 → (hex (digit_of n) ≡ n) × (is_hex (digit_of n) ≡ true)
unfolding hex digit_of is_hex digit-test
digit_of_lem n l =
    let w = both (eqb (hex (digit_of n)) n) (is_hex (digit_of n)) (below_at digit-test 16 refl n l) in
    (eqb-true (hex (digit_of n)) n w.0, w.1)

-- a digit and its value
hex-test : ℕ → Bool
hex-test d = not (is_hex d) || (eqb (digit_of (hex d)) d && ltb (hex d) 16)

hex-low : (d : ℕ) → is_hex d ≡ true → (48 ≤ d) × (d < 103)
unfolding is_hex
hex-low d h = go (either (among 48 57 d) (among 97 102 d) h)
  where
    go : (among 48 57 d ≡ true) ⊎ (among 97 102 d ≡ true) → (48 ≤ d) × (d < 103)
    go (inl e) = let w = both (leb 48 d) (leb d 57) e in (leb-true 48 d w.0, omega (arith, leb-true d 57 w.1))
    go (inr e) = let w = both (leb 97 d) (leb d 102) e in (omega (arith, leb-true 97 d w.0), omega (arith, leb-true d 102 w.1))

hex_of_lem : (d : ℕ) → is_hex d ≡ true → (digit_of (hex d) ≡ d) × (hex d < 16)
unfolding hex digit_of is_hex hex-test
hex_of_lem d h = go (either (not (is_hex d)) (eqb (digit_of (hex d)) d && ltb (hex d) 16) (below_at hex-test 103 refl d (hex-low d h).1))
  where
    go : (not (is_hex d) ≡ true) ⊎ ((eqb (digit_of (hex d)) d && ltb (hex d) 16) ≡ true) → (digit_of (hex d) ≡ d) × (hex d < 16)
    go (inl e) = let i : not true ≡ true = subst (λ (x : Bool). not x ≡ true) h e in clash (cc)
    go (inr e) = let w = both (eqb (digit_of (hex d)) d) (ltb (hex d) 16) e in (eqb-true (digit_of (hex d)) d w.0, ltb-true (hex d) 16 w.1)

-- bytes and their digits
pub unhex-digits : {bs : List ℕ} → Each (λ b. b < 256) bs → unhex (hex_of bs) ≡ bs
unfolding unhex hex_of
unhex-digits Each.none = refl
unhex-digits (Each.also {b = b} l e) =
    let z : 16 * hex (digit_of (b / 16)) + hex (digit_of (b % 16)) ≡ b = rw ((digit_of_lem (b / 16) (omega arith)).0, (digit_of_lem (b % 16) (omega arith)).0) (omega arith) in
    ap₂ ◌∷◌ z (unhex-digits e)

digits-hex : {bs : List ℕ} → Each (λ b. b < 256) bs → all is_hex (hex_of bs) ≡ true
unfolding hex_of
digits-hex Each.none = refl
digits-hex (Each.also {b = b} l e) = and-true (digit_of_lem (b / 16) (omega arith)).1 (and-true (digit_of_lem (b % 16) (omega arith)).1 (digits-hex e))

digits-length : (bs : List ℕ) → length (hex_of bs) ≡ 2 * length bs
unfolding hex_of
digits-length [] = refl
digits-length (b ∷ bs) = omega (arith, digits-length bs)

digits-unhex : (ds : List ℕ) → all is_hex ds ≡ true → length ds % 2 ≡ 0 → hex_of (unhex ds) ≡ ds
unfolding unhex hex_of
digits-unhex [] h k = refl
digits-unhex (d ∷ []) h k = absurd (omega arith)
digits-unhex (d ∷ e ∷ ds) h k =
    let w = both (is_hex d) (is_hex e && all is_hex ds) h in
    let v = both (is_hex e) (all is_hex ds) w.1 in
    let x = hex_of_lem d w.0 in
    let y = hex_of_lem e v.0 in
    let q : (16 * hex d + hex e) / 16 ≡ hex d = omega (arith, x.1, y.1) in
    let r : (16 * hex d + hex e) % 16 ≡ hex e = omega (arith, x.1, y.1) in
    ap₂ ◌∷◌ (ap digit_of q ∙ x.0) (ap₂ ◌∷◌ (ap digit_of r ∙ y.0) (digits-unhex ds v.1 (omega arith)))

unhex-bytes : (ds : List ℕ) → all is_hex ds ≡ true → Each (λ b. b < 256) (unhex ds)
unfolding unhex
unhex-bytes [] h = Each.none
unhex-bytes (d ∷ []) h = Each.none
unhex-bytes (d ∷ e ∷ ds) h =
    let w = both (is_hex d) (is_hex e && all is_hex ds) h in
    let v = both (is_hex e) (all is_hex ds) w.1 in
    let l : 16 * hex d + hex e < 256 = omega (arith, (hex_of_lem d w.0).1, (hex_of_lem e v.0).1) in
    Each.also l (unhex-bytes ds v.1)

-- a line that is not 3: it is written by its bytes, and what they are
pub record Good (l : Line) : Type 0 where
  pub written : l ≡ ended (hex_of (bytes_of l))
  pub bytes : Each (λ b. b < 256) (bytes_of l)
  pub short : 2 * length (bytes_of l) ≤ 1280

pub good-line : (l : Line) → is_line l ≡ true → Good l
unfolding is_line
good-line (cut ds) h = clash (cc)
good-line (ended ds) h =
    let w = both (ltb 0 (length ds) && eqb (length ds % 2) 0 && leb (length ds) 1280) (all is_hex ds) h in
    let v = both (ltb 0 (length ds) && eqb (length ds % 2) 0) (leb (length ds) 1280) w.0 in
    let u = both (ltb 0 (length ds)) (eqb (length ds % 2) 0) v.0 in
    let e : hex_of (unhex ds) ≡ ds = digits-unhex ds w.1 (eqb-true (length ds % 2) 0 u.1) in
    let n : length ds ≡ 2 * length (unhex ds) = ap length (sym e) ∙ digits-length (unhex ds) in
    record { written = ap ended (sym e); bytes = unhex-bytes ds w.1; short = omega (arith, leb-true (length ds) 1280 v.1) }

-- and back: bytes, one or more and not too many, make such a line
pub bytes-line : {bs : List ℕ} → 1 ≤ length bs → Each (λ b. b < 256) bs → 2 * length bs ≤ 1280 → is_line (ended (hex_of bs)) ≡ true
unfolding is_line
bytes-line {bs} l e h =
    let n = digits-length bs in
    let some = lt-ltb 0 (length (hex_of bs)) (omega (arith, n)) in
    let even = eq-eqb (length (hex_of bs) % 2) 0 (omega (arith, n)) in
    and-true (and-true (and-true some even) (le-leb (length (hex_of bs)) 1280 (omega (arith, n)))) (digits-hex e)

-- digits have no line feed in them
digits_feed : {bs : List ℕ} → Each (λ b. b < 256) bs → NoFeed (hex_of bs)
digits_feed {bs} e = go (hex_of bs) (digits-hex e)
  where
    other : (d : ℕ) → 48 ≤ d → d ≡ 10 → ⊥
    other d l e = omega arith

    go : (ds : List ℕ) → all is_hex ds ≡ true → NoFeed ds
    go [] h = NoFeed.none
    go (d ∷ ds) h = let w = both (is_hex d) (all is_hex ds) h in NoFeed.also (other d (hex-low d w.0).0) (go ds w.1)

-- so a line of digits is the first of its file
pub line_first : {bs : List ℕ} (rest : List ℕ) → Each (λ b. b < 256) bs → lines (hex_of bs ++ 10 ∷ rest) ≡ ended (hex_of bs) ∷ lines rest
line_first {bs} rest e = (cuts-exactly _ _).1 (Cuts.a_line (hex_of bs) (digits_feed e) ((cuts-exactly rest (lines rest)).0 refl))

-- the lines of a file, one after another, are the file
cut-unlines : {file : List ℕ} {ls : List Line} → Cuts file ls → unlines ls ≡ file
unfolding unlines
cut-unlines Cuts.done = refl
cut-unlines (Cuts.a_line ds f k) = ap (λ (r : List ℕ). ds ++ 10 ∷ r) (cut-unlines k)
cut-unlines (Cuts.a_piece {d = d} {ds = ds} f) = append-nil (d ∷ ds)

pub unlines-lines : (file : List ℕ) → unlines (lines file) ≡ file
unlines-lines file = cut-unlines ((cuts-exactly file (lines file)).0 refl)
