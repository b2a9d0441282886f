-- What is seen in a column of numbers is what is seen in the column that they say.
use mathlib.Core.Path.{◌≡◌, refl, sym, ap, ap₂, subst₂, ◌∙◌}
use mathlib.Core.Bool.{Bool, true, false, cond, ◌&&◌, ◌||◌}
use mathlib.Core.List.{List, [], ◌∷◌, map}
use mathlib.Core.Option.{Option, none, some}
use Prim.Native.Nat.{ℕ, zero, suc, ◌+◌, ◌*◌, ◌-◌, ◌/◌, ◌≤◌, ◌<◌}
use native.Mathlib.Nat.{add-zero}
use native.Mathlib.Omega.{arith}
use lib.ListN.{length, get_or, length-map}
use lib.Dec.{eqb}
use borrow.Author.Tests.{eq-eqb, ne_eqb, lt-ltb, le-ltb, eqb-true, eqb-false}
use Rattle.scope.specs.Types.{Ref, Table, fields_of}
use Rattle.scope.specs.Constructors.{ctors, alts}
use Rattle.scope.specs.Simplify.{Row, Matrix}
use Rattle.scope.specs.Walks.{begins_with, seen, all_seen, column_type, Column, bare, part, full, column_at, column}
use Rattle.layout.specs.Types.{Shape}
use Rattle.matrix.specs.Numbers as numbers
use Rattle.matrix.specs.Numbers.{Rows, head_of, is_ctor, first_of, mem, all_in, base_of, count_of, Seen, seen_by, seen_of}
use Rattle.walks.specs.Bridge.{Says, wilds, lits, cons, SayRows, no_rows, also}
use Rattle.matrix.proofs.Orders.{test}
use Rattle.walks.proofs.BridgeRows.{in_table, key-small}

-- all of them, from the first on
and_assoc : (a b c : Bool) → (a && b && c) ≡ (a && (b && c))
and_assoc true b c = refl
and_assoc false b c = refl

in_first : (b k : ℕ) (hs : List ℕ) → all_in b (suc k) hs ≡ (mem b hs && all_in (suc b) k hs)
unfolding all_in
in_first b zero hs = ap (λ (x : ℕ). mem x hs) (add-zero b) ∙ sym (and-true (mem b hs))
  where
    and-true : (x : Bool) → (x && true) ≡ x
    and-true true = refl
    and-true false = refl
in_first b (suc k) hs = ap (◌&& mem (b + suc k) hs) (in_first b k hs) ∙ and_assoc (mem b hs) (all_in (suc b) k hs) (mem (b + suc k) hs) ∙ ap (λ (x : ℕ). mem b hs && (all_in (suc b) k hs && mem x hs)) shift
  where
    shift : b + suc k ≡ suc b + k
    shift = omega arith

module _ (bytes kinds counts ars : List ℕ) (table : Table) (sh : Shape kinds counts ars table) where
  -- a head that is the constructor c
  head-says : {t : Ref} {ts : List Ref} (c : ℕ) {ns : List ℕ} {r : Row} → suc (32 * t + c) < 32768 → Says bytes table (t ∷ ts) ns r → eqb (head_of ns) (suc (32 * t + c)) ≡ begins_with c r
  head-says {t = t} c l (wilds h) = ne_eqb 0 (suc (32 * t + c)) (λ e. omega arith)
  head-says {t = t} c l (lits {h = x} xl xs xe h) = ne_eqb x (suc (32 * t + c)) (λ e. omega arith)
  head-says {t = t} c l (cons {h = x} {c = d} xe xl h) = test (eqb d c)
      (λ e. let de = eqb-true d c e in eq-eqb x (suc (32 * t + c)) (omega arith) ∙ sym e)
      (λ e. let ne = eqb-false d c e in ne_eqb x (suc (32 * t + c)) (λ q. ne (omega arith)) ∙ sym e)

  pub seen-says : {t : Ref} {ts : List Ref} (c : ℕ) {m : Rows} {p : Matrix} → suc (32 * t + c) < 32768 → SayRows bytes table (t ∷ ts) m p → mem (suc (32 * t + c)) (map head_of m) ≡ seen p c
  unfolding mem
  seen-says c l no_rows = refl
  seen-says c l (also h k) = ap₂ ◌||◌ (head-says c l h) (seen-says c l k)

  all-says : {t : Ref} {ts : List Ref} {m : Rows} {p : Matrix} → SayRows bytes table (t ∷ ts) m p → (ks : List (List Ref)) (c : ℕ) → suc (32 * t + c + length ks) ≤ 32768 → all_in (suc (32 * t + c)) (length ks) (map head_of m) ≡ all_seen p c ks
  unfolding all_in
  all-says k [] c l = refl
  all-says {t = t} {m = m} {p = p} k (fields ∷ ks) c l =
      let next : suc (suc (32 * t + c)) ≡ suc (32 * t + suc c) = omega arith in
      in_first (suc (32 * t + c)) (length ks) (map head_of m)
      ∙ ap₂ ◌&&◌ (seen-says c (omega arith) k) (ap (λ (b : ℕ). all_in b (length ks) (map head_of m)) next ∙ all-says k ks (suc c) (omega arith))

  -- the first constructor of the column
  pub data First (t : Ref) (hs : List ℕ) (o : Option Ref) : Type 0 where
    nothing : first_of hs ≡ 0 → o ≡ none → First t hs o
    found : (d : ℕ) → d < length (ctors table t) → first_of hs ≡ suc (32 * t + d) → o ≡ some t → First t hs o

  first-skip : (h : ℕ) (hs : List ℕ) → is_ctor h ≡ false → first_of (h ∷ hs) ≡ first_of hs
  unfolding first_of
  first-skip h hs e = rw e

  first-this : (h : ℕ) (hs : List ℕ) → is_ctor h ≡ true → first_of (h ∷ hs) ≡ h
  unfolding first_of
  first-this h hs e = rw e

  skip : (t : Ref) (h : ℕ) (hs : List ℕ) (o : Option Ref) → is_ctor h ≡ false → First t hs o → First t (h ∷ hs) o
  skip t h hs o e (nothing f i) = nothing (first-skip h hs e ∙ f) i
  skip t h hs o e (found d l f i) = found d l (first-skip h hs e ∙ f) i

  pub first_says : {t : Ref} {ts : List Ref} {m : Rows} {p : Matrix} → SayRows bytes table (t ∷ ts) m p → First t (map head_of m) (column_type p)
  unfolding first_of
  first_says no_rows = nothing refl refl
  first_says {t = t} (also {m = m} {p = p} (wilds h) k) = skip t 0 (map head_of m) (column_type p) refl (first_says k)
  first_says {t = t} (also {m = m} {p = p} (lits {h = x} xl xs xe h) k) = skip t x (map head_of m) (column_type p) (simp (lt-ltb 0 x (omega arith), le-ltb x 32768 xl)) (first_says k)
  first_says {t = t} (also {m = m} {p = p} (cons {h = x} {c = d} xe xl h) k) =
      let s = key-small kinds counts ars table sh t d xl in
      found d xl (first-this x (map head_of m) (simp (lt-ltb 0 x (omega arith), lt-ltb x 32768 (omega arith))) ∙ xe) refl

  -- the type's first constructor, and how many it has
  pub base-is : (t d : ℕ) → d < length (ctors table t) → base_of (suc (32 * t + d)) ≡ suc (32 * t)
  base-is t d l = omega (arith, sh.in_type t)

  pub count-is : (t d : ℕ) → d < length (ctors table t) → count_of counts (suc (32 * t)) ≡ length (ctors table t)
  count-is t d l =
      let same : (suc (32 * t) - 1) / 32 ≡ t = omega arith in
      ap (λ (i : ℕ). get_or counts i 0) same ∙ sh.count_at t (in_table table t d l)

  -- by what is seen: no constructor, some of the type's, all of them
  pub column-says : {t : Ref} {ts : List Ref} {m : Rows} {p : Matrix} → SayRows bytes table (t ∷ ts) m p → (P : Seen → Column → Type 0)
      → P numbers.bare bare
      → P (numbers.part (suc (32 * t))) (part t)
      → (all_in (suc (32 * t)) (count_of counts (suc (32 * t))) (map head_of m) ≡ true → count_of counts (suc (32 * t)) ≡ length (ctors table t) → P (numbers.full (suc (32 * t))) (full t))
      → P (seen_of counts (map head_of m)) (column table p)
  unfolding seen_of column
  column-says {t = t} {m = m} {p = p} k P none_seen some-seen all_seen_lem = go (first_says k)
    where
      hs : List ℕ
      hs = map head_of m

      whole : (d : ℕ) → d < length (ctors table t) → all_in (suc (32 * t)) (count_of counts (suc (32 * t))) (map head_of m) ≡ all_seen p 0 (alts table t)
      whole d l =
          let n : length (alts table t) ≡ length (ctors table t) = length-map (ctors table t) fields_of in
          let zero-on : 32 * t + 0 ≡ 32 * t = omega arith in
          ap (λ (j : ℕ). all_in (suc (32 * t)) j (map head_of m)) (count-is t d l ∙ sym n) ∙ ap (λ (j : ℕ). all_in (suc j) (length (alts table t)) (map head_of m)) (sym zero-on)
          ∙ all-says k (alts table t) 0 (omega (arith, in_table table t d l, sh.few, sh.in_type t))

      pick : (d : ℕ) → d < length (ctors table t) → (b : Bool) → all_in (suc (32 * t)) (count_of counts (suc (32 * t))) (map head_of m) ≡ b
          → P (cond b (numbers.full (suc (32 * t))) (numbers.part (suc (32 * t)))) (cond b (full t) (part t))
      pick d l true e = all_seen_lem e (count-is t d l)
      pick d l false e = some-seen

      both : (d : ℕ) → d < length (ctors table t) → P (seen_by counts (map head_of m) (suc (32 * t + d))) (column_at table p (some t))
      both d l =
          let a = all_in (suc (32 * t)) (count_of counts (suc (32 * t))) (map head_of m) in
          subst₂ (λ (x : ℕ) (b : Bool). P (cond (all_in x (count_of counts x) (map head_of m)) (numbers.full x) (numbers.part x)) (cond b (full t) (part t))) (sym (base-is t d l)) (whole d l) (pick d l a refl)

      go : First t (map head_of m) (column_type p) → P (seen_by counts (map head_of m) (first_of (map head_of m))) (column_at table p (column_type p))
      go (nothing f i) = subst₂ (λ (x : ℕ) (o : Option Ref). P (seen_by counts (map head_of m) x) (column_at table p o)) (sym f) (sym i) none_seen
      go (found d l f i) = subst₂ (λ (x : ℕ) (o : Option Ref). P (seen_by counts (map head_of m) x) (column_at table p o)) (sym f) (sym i) (both d l)
