-- Each test of a line passes exactly where the table's row for it does not apply, 3 to 7: from the tests' definitions and what 7's test means.
use mathlib.Core.Path.{◌≡◌, refl, sym, subst, ◌∙◌}
use mathlib.Core.List.{List, [], ◌∷◌, map}
use mathlib.Core.Bool.{Bool, true, false, ◌&&◌}
use mathlib.Core.Logic.{◌⊎◌, inl, inr}
use Prim.Native.Nat.{ℕ, zero, suc, ◌+◌, ◌*◌, ◌/◌, ◌%◌, ◌≤◌, ◌<◌}
use native.Mathlib.Nat.{le_of_suc-le-suc, not-suc-le-zero}
use native.Mathlib.Omega.{arith}
use lib.ListN.{length, get_or}
use lib.Dec.{ltb, leb, eqb}
use borrow.Author.Tests.{ltb-true, ltb-false, leb-true, leb-false, eqb-true, eqb-false, not-true, not-false}
use Rattle.scope.specs.Lists.{Text, all, any, among, same, twice}
use Rattle.scope.specs.Lines.{Line, ended, cut, is_hex, is_line, bytes_of, unhex, hex}
use Rattle.scope.specs.Types.{Ref, Ctor, opaque, type_at, name_of, last_declared}
use Rattle.scope.specs.Finite.{refs, is_ref, refs_good, has_value, rounds, all_finite}
use Rattle.scope.specs.Constructors.{built}
use Rattle.scope.specs.Frames.{is_kind, constructor_of, subject_of}
use Rattle.scope.specs.Blocks.{Block, Phase, types, constructors, clauses, closed, standing, State, stands, has_room, ctor_count, is_fresh, is_sound}
use Rattle.meaning.specs.Meaning.{Sound}
use Rattle.refusals.specs.Refusals.{HexDigit, digit, letter, BadLine, empty, odd, not_hex, long, no_feed, Unknown, none, over, Stands, a_type, the_subject, another_type, its_constructor, the_subject_then, a_clause, the_end, Over, types64, constructors256, in_type32, clauses64, Clashes, name_twice, label_twice, no_subject, no_type, no_value}
use Rattle.scope.proofs.Tests.{clash, both, not-both, either, neither, or_left, or_right, among-is, is_among, all-at, not-all, some_at, none-at, any-map, same_true, same_self}
use Rattle.meaning.proofs.Finite.{type-found, sound-right}

-- 3
hex-is : (d : ℕ) → is_hex d ≡ true → HexDigit d
unfolding is_hex
hex-is d h = go (either (among 48 57 d) (among 97 102 d) h)
  where
    go : (among 48 57 d ≡ true) ⊎ (among 97 102 d ≡ true) → HexDigit d
    go (inl e) = let w = among-is 48 57 d e in digit w.0 w.1
    go (inr e) = let w = among-is 97 102 d e in letter w.0 w.1

is-hex : (d : ℕ) → HexDigit d → is_hex d ≡ true
unfolding is_hex
is-hex d (digit l h) = or_left (among 97 102 d) (is_among 48 57 d l h)
is-hex d (letter l h) = or_right (among 48 57 d) (is_among 97 102 d l h)

not-hex : (d : ℕ) → is_hex d ≡ false → HexDigit d → ⊥
not-hex d e h = let i = is-hex d h in clash (cc)

pub bad-line : (l : Line) → is_line l ≡ false → BadLine l
unfolding is_line
bad-line (cut ds) h = no_feed
bad-line (ended ds) h = four (not-both (some && even && short) (all is_hex ds) h)
  where
    some : Bool
    some = ltb 0 (length ds)

    even : Bool
    even = eqb (length ds % 2) 0

    short : Bool
    short = leb (length ds) 1280

    one : (es : List ℕ) → ltb 0 (length es) ≡ false → BadLine (ended es)
    one [] e = empty
    one (d ∷ es) e = absurd (omega (arith, ltb-false 0 (suc (length es)) e))

    two : (some ≡ false) ⊎ (even ≡ false) → BadLine (ended ds)
    two (inl e) = one ds e
    two (inr e) = let z = eqb-false (length ds % 2) 0 e in odd {ds = ds} (length ds / 2) (omega arith)

    three : ((some && even) ≡ false) ⊎ (short ≡ false) → BadLine (ended ds)
    three (inl e) = two (not-both some even e)
    three (inr e) = long (leb-false (length ds) 1280 e)

    four : ((some && even && short) ≡ false) ⊎ (all is_hex ds ≡ false) → BadLine (ended ds)
    four (inl e) = three (not-both (some && even) short e)
    four (inr e) = let w = not-all is_hex ds 0 e in not_hex {ds = ds} w.at w.within (not-hex (get_or ds w.at 0) w.is)

-- what an ended line is that is not 3
record Good (ds : List ℕ) : Type 0 where
  even : length ds % 2 ≡ 0
  short : length ds ≤ 1280
  hexed : all is_hex ds ≡ true

good-line : (ds : List ℕ) → is_line (ended ds) ≡ true → Good ds
unfolding is_line
good-line ds h =
    let some = ltb 0 (length ds) in
    let even = eqb (length ds % 2) 0 in
    let a = both (some && even && leb (length ds) 1280) (all is_hex ds) h in
    let b = both (some && even) (leb (length ds) 1280) a.0 in
    record { even = eqb-true (length ds % 2) 0 (both some even b.0).1; short = leb-true (length ds) 1280 b.1; hexed = a.1 }

pub line-good : (l : Line) → is_line l ≡ true → BadLine l → ⊥
unfolding is_line
line-good l h no_feed = clash (cc)
line-good l h empty = clash (cc)
line-good l h (odd {ds = ds} n e) = omega (arith, (good-line ds h).even)
line-good l h (not_hex {ds = ds} i k n) = n (hex-is (get_or ds i 0) (all-at is_hex ds 0 (good-line ds h).hexed i k))
line-good l h (long {ds = ds} k) = omega (arith, (good-line ds h).short)

-- a line that is not 3 has a first byte
pub first_byte : (l : Line) → is_line l ≡ true → (k : ℕ) × (bs : List ℕ) × (bytes_of l ≡ k ∷ bs)
unfolding is_line unhex
first_byte (cut ds) h = clash (cc)
first_byte (ended []) h = clash (cc)
first_byte (ended (d ∷ [])) h = clash (cc)
first_byte (ended (d ∷ e ∷ ds)) h = (16 * hex d + hex e, unhex ds, refl)

-- 4
pub not-kind : (k : ℕ) → is_kind k ≡ false → Unknown k
not-kind k h = go (not-both (leb 1 k) (leb k 5) h)
  where
    go : (leb 1 k ≡ false) ⊎ (leb k 5 ≡ false) → Unknown k
    go (inl e) = let z : 0 ≡ k = omega (arith, leb-false 1 k e) in subst Unknown z none
    go (inr e) = over (leb-false k 5 e)

pub is-kind : (k : ℕ) → is_kind k ≡ true → Unknown k → ⊥
is-kind k h none = clash (cc)
is-kind k h (over l) = omega (arith, among-is 1 5 k h)

-- 5
pick : (P : ℕ → Type 0) (k a : ℕ) (l : List ℕ) → P a → (any (eqb k) l ≡ true → P k) → any (eqb k) (a ∷ l) ≡ true → P k
pick P k a l p more h = go (either (eqb k a) (any (eqb k) l) h)
  where
    go : (eqb k a ≡ true) ⊎ (any (eqb k) l ≡ true) → P k
    go (inl e) = subst P (sym (eqb-true k a e)) p
    go (inr e) = more e

pub stands-is : (s : State) (k : ℕ) → stands s k ≡ true → Stands s.phase k
unfolding stands
stands-is s k h = go s.phase h
  where
    go : (p : Phase) → any (eqb k) (standing p) ≡ true → Stands p k
    go types e = pick (Stands types) k 1 (3 ∷ []) a_type (pick (Stands types) k 3 [] the_subject (λ i. clash (cc))) e
    go constructors e =
        let subject = pick (Stands constructors) k 3 [] the_subject_then (λ i. clash (cc)) in
        pick (Stands constructors) k 1 (2 ∷ 3 ∷ []) another_type (pick (Stands constructors) k 2 (3 ∷ []) its_constructor subject) e
    go clauses e = pick (Stands clauses) k 4 (5 ∷ []) a_clause (pick (Stands clauses) k 5 [] the_end (λ i. clash (cc))) e
    go closed e = clash (cc)

pub is-standing : (s : State) (k : ℕ) → Stands s.phase k → stands s k ≡ true
unfolding stands
is-standing s k h = go h
  where
    go : {p : Phase} {k : ℕ} → Stands p k → any (eqb k) (standing p) ≡ true
    go a_type = refl
    go the_subject = refl
    go another_type = refl
    go its_constructor = refl
    go the_subject_then = refl
    go a_clause = refl
    go the_end = refl

-- 6
pub over-is : (b : Block) (k : ℕ) → has_room b k ≡ false → Over b k
unfolding has_room
over-is b zero h = clash (cc)
over-is b (suc zero) h = types64 (omega (arith, ltb-false (length b.table) 64 h))
over-is b (suc (suc zero)) h = go (not-both (ltb (ctor_count b.table) 256) (ltb (length (last_declared b.table)) 32) h)
  where
    go : (ltb (ctor_count b.table) 256 ≡ false) ⊎ (ltb (length (last_declared b.table)) 32 ≡ false) → Over b 2
    go (inl e) = constructors256 (omega (arith, ltb-false (ctor_count b.table) 256 e))
    go (inr e) = in_type32 (omega (arith, ltb-false (length (last_declared b.table)) 32 e))
over-is b (suc (suc (suc zero))) h = clash (cc)
over-is b (suc (suc (suc (suc zero)))) h = clauses64 (omega (arith, ltb-false (length b.rows) 64 h))
over-is b (suc (suc (suc (suc (suc k))))) h = clash (cc)

pub has_room_lem : (b : Block) (k : ℕ) → has_room b k ≡ true → Over b k → ⊥
unfolding has_room
has_room_lem b k h (types64 o) = omega (arith, ltb-true (length b.table) 64 h)
has_room_lem b k h (constructors256 o) =
    let w = both (ltb (ctor_count b.table) 256) (ltb (length (last_declared b.table)) 32) h in
    omega (arith, ltb-true (ctor_count b.table) 256 w.0)
has_room_lem b k h (in_type32 o) =
    let w = both (ltb (ctor_count b.table) 256) (ltb (length (last_declared b.table)) 32) h in
    omega (arith, ltb-true (length (last_declared b.table)) 32 w.1)
has_room_lem b k h (clauses64 o) = omega (arith, ltb-true (length b.rows) 64 h)

-- 7: names and labels
record Twice (ls : List Text) : Type 0 where
  i : ℕ
  j : ℕ
  before : i < j
  within : j < length ls
  equal : get_or ls i [] ≡ get_or ls j []

twice-is : (ls : List Text) → twice ls ≡ true → Twice ls
unfolding twice
twice-is [] h = clash (cc)
twice-is (t ∷ ts) h = go (either (any (same t) ts) (twice ts) h) (twice-is ts)
  where
    go : (any (same t) ts ≡ true) ⊎ (twice ts ≡ true) → (twice ts ≡ true → Twice ts) → Twice (t ∷ ts)
    go (inl e) more =
        let w = some_at (same t) ts [] e in
        let l = w.within in
        record { i = 0; j = suc w.at; before = omega arith; within = omega arith; equal = same_true t (get_or ts w.at []) w.is }
    go (inr e) more =
        let w = more e in
        let a = w.before in
        let b = w.within in
        record { i = suc w.i; j = suc w.j; before = omega arith; within = omega arith; equal = w.equal }

once-only : (ls : List Text) → twice ls ≡ false → (i j : ℕ) → i < j → j < length ls → get_or ls i [] ≡ get_or ls j [] → ⊥
unfolding twice
once-only [] h i j b l e = absurd (not-suc-le-zero l)
once-only (t ∷ ts) h i zero b l e = absurd (not-suc-le-zero b)
once-only (t ∷ ts) h zero (suc j) b l e =
    let w = none-at (same t) ts [] (neither (any (same t) ts) (twice ts) h).0 j (le_of_suc-le-suc l) in
    clash (cc (same_self t))
once-only (t ∷ ts) h (suc i) (suc j) b l e =
    once-only ts (neither (any (same t) ts) (twice ts) h).1 i j (le_of_suc-le-suc b) (le_of_suc-le-suc l) e

module _ (b : Block) (c : Ctor) where
  above : List Ctor
  above = last_declared b.table

  named : Ctor → Bool
  named a = same c.name (name_of a)

  by_name : any (same c.name) (map name_of above) ≡ any named above
  unfolding named
  by_name = any-map (same c.name) name_of above

  pub fresh-false : is_fresh b.table c ≡ false → Clashes b (constructor_of c)
  unfolding is_fresh above named
  fresh-false h = go (either (any (same c.name) (map name_of above)) (twice c.labels) (not-false _ h))
    where
      go : (any (same c.name) (map name_of above) ≡ true) ⊎ (twice c.labels ≡ true) → Clashes b (constructor_of c)
      go (inl e) = let w = some_at named above (built [] []) (sym by_name ∙ e) in name_twice w.at w.within (sym (same_true c.name _ w.is))
      go (inr e) = let w = twice-is c.labels e in label_twice w.i w.j w.before w.within w.equal

  pub fresh-true : is_fresh b.table c ≡ true → Clashes b (constructor_of c) → ⊥
  unfolding is_fresh above named
  fresh-true h x = go (neither (any (same c.name) (map name_of above)) (twice c.labels) (not-true _ h)) x
    where
      go : (any (same c.name) (map name_of above) ≡ false) × (twice c.labels ≡ false) → Clashes b (constructor_of c) → ⊥
      go w (name_twice i l e) =
          let z = none-at named above (built [] []) (sym by_name ∙ w.0) i l in
          clash (cc (same_self c.name))
      go w (label_twice i j k l e) = once-only c.labels w.1 i j k l e

-- 7 at the subject's line
pub sound-false : (b : Block) (t : Ref) → is_sound b.table t ≡ false → Clashes b (subject_of t)
unfolding is_sound refs_good all_finite
sound-false b t h = go (refs_good b.table) refl (not-both (is_ref b.table t && refs_good b.table) (all_finite b.table) h)
  where
    refs-bad : refs_good b.table ≡ false → Clashes b (subject_of t)
    refs-bad e =
        let w = not-all (λ ty. all (is_ref b.table) (refs ty)) b.table opaque e in
        let v = not-all (is_ref b.table) (refs (type_at b.table w.at)) 0 w.is in
        no_type w.at v.at w.within v.within (ltb-false _ (length b.table) v.is)

    subject-bad : (is_ref b.table t ≡ false) ⊎ (refs_good b.table ≡ false) → Clashes b (subject_of t)
    subject-bad (inl e) = no_subject (ltb-false t (length b.table) e)
    subject-bad (inr e) = refs-bad e

    go : (x : Bool) → refs_good b.table ≡ x → ((is_ref b.table t && refs_good b.table) ≡ false) ⊎ (all_finite b.table ≡ false)
        → Clashes b (subject_of t)
    go false g w = refs-bad g
    go true g (inl e) = subject-bad (not-both (is_ref b.table t) (refs_good b.table) e)
    go true g (inr e) =
        let w = not-all (has_value (rounds b.table (length b.table))) b.table opaque e in
        let i = w.is in
        no_value w.at w.within (λ v. clash (cc (type-found b.table g w.at w.within v)))

pub sound-true : (b : Block) (t : Ref) → is_sound b.table t ≡ true → Clashes b (subject_of t) → ⊥
sound-true b t h x = go ((sound-right b.table t).0 h) x
  where
    go : Sound b.table t → Clashes b (subject_of t) → ⊥
    go s (no_subject l) = omega (arith, s.subject)
    go s (no_type u i a c l) = omega (arith, s.references u i a c)
    go s (no_value u l n) = n (s.valued u l)
