-- `is_complete` by its two counts: as many different names are seen as the type has constructors exactly where each constructor is seen.
use mathlib.Core.Path.{◌≡◌, refl, ap, sym, subst, ◌∙◌, fun_ext}
use mathlib.Core.List.{List, [], ◌∷◌}
use mathlib.Core.Bool.{Bool, true, false, not, cond, ◌&&◌, ◌||◌}
use mathlib.Core.Option.{Option, none, some}
use Prim.Native.Nat.{ℕ, suc, ◌+◌, ◌≤◌, ◌<◌}
use native.Mathlib.Omega.{arith}
use lib.ListN.{length, length-map}
use lib.Dec.{eqb}
use borrow.Author.Tests.{eqb-true, eqb-false, eq-eqb, ne_eqb}
use Rattle.scope.specs.Lists.{Text, bit, same}
use Rattle.scope.specs.Types.{Ref, Table, fields_of}
use Rattle.scope.specs.Constructors.{ctors, ctor_at, alts}
use Rattle.scope.specs.Simplify.{Matrix}
use Rattle.scope.specs.Walks.{seen, all_seen, column_type, Column, bare, part, full, column_at, column}
use Rattle.source.specs.Source as rust
use Rattle.source.specs.Source.{ValueConstructor, Panic, Entry, contains_key, before, place, replace, insert, collect_into, collect_ctors, constructors_for}
use Rattle.source.specs.Shows.{wilds, lits, cons, ShowsRows, no_rows, also}
use Rattle.scope.proofs.Tests.{clash, both, same_true}
use Rattle.source.proofs.Rows.{Named, eqb-sym, name-number}

-- how many of the constructors, from number c on, pass the test
abbrev counted : (ℕ → Bool) → ℕ → List (List Ref) → ℕ
counted f c [] = 0
counted f c (fields ∷ ks) = bit (f c) + counted f (suc c) ks

bit_le : (b : Bool) → bit b ≤ 1
bit_le true = omega arith
bit_le false = omega arith

counted_le : (f : ℕ → Bool) (c : ℕ) (ks : List (List Ref)) → counted f c ks ≤ length ks
counted_le f c [] = omega arith
counted_le f c (fields ∷ ks) = omega (arith, bit_le (f c), counted_le f (suc c) ks)

counted_none : (c : ℕ) (ks : List (List Ref)) → counted (λ x. false) c ks ≡ 0
counted_none c [] = refl
counted_none c (fields ∷ ks) = omega (arith, counted_none (suc c) ks)

counted_pos : (f : ℕ → Bool) (d c : ℕ) (ks : List (List Ref)) → f d ≡ true → c ≤ d → d < c + length ks → 0 < counted f c ks
counted_pos f d c [] e l u = absurd (omega arith)
counted_pos f d c (fields ∷ ks) e l u = go (eqb c d) refl (λ i. counted_pos f d (suc c) ks e i (omega arith))
  where
    go : (b : Bool) → eqb c d ≡ b → (suc c ≤ d → 0 < counted f (suc c) ks) → 0 < bit (f c) + counted f (suc c) ks
    go true h deeper = let k : f c ≡ true = ap f (eqb-true c d h) ∙ e in rw k (omega arith)
    go false h deeper = omega (arith, deeper (omega (arith, eqb-false c d h)))

-- one more constructor passes: the count grows by one if it did not pass before
module _ (f : ℕ → Bool) (d : ℕ) where
  abbrev more : ℕ → Bool
  more c = eqb d c || f c

  counted-past : (c : ℕ) (ks : List (List Ref)) → d < c → counted more c ks ≡ counted f c ks
  counted-past c [] l = refl
  counted-past c (fields ∷ ks) l = rw (ne_eqb d c (λ e. omega arith), counted-past (suc c) ks (omega arith))

  counted-more : (c : ℕ) (ks : List (List Ref)) → c ≤ d → d < c + length ks → counted more c ks ≡ bit (not (f d)) + counted f c ks
  counted-more c [] l u = absurd (omega arith)
  counted-more c (fields ∷ ks) l u = go (eqb d c) refl (λ i. counted-more (suc c) ks i (omega arith))
    where
      bits : (b : Bool) → 1 ≡ bit (not b) + bit b
      bits true = refl
      bits false = refl

      go : (b : Bool) → eqb d c ≡ b → (suc c ≤ d → counted more (suc c) ks ≡ bit (not (f d)) + counted f (suc c) ks) → bit (b || f c) + counted more (suc c) ks ≡ bit (not (f d)) + (bit (f c) + counted f (suc c) ks)
      go true h deeper = omega (arith, bits (f d), ap (λ x. bit (f x)) (eqb-true d c h), counted-past (suc c) ks (omega (arith, eqb-true d c h)))
      go false h deeper = omega (arith, deeper (omega (arith, eqb-false d c h)))

-- all are seen exactly where the count is full
full-count : (m : Matrix) (c : ℕ) (ks : List (List Ref)) → all_seen m c ks ≡ true → counted (seen m) c ks ≡ length ks
full-count m c [] h = refl
full-count m c (fields ∷ ks) h =
    let p = both (seen m c) (all_seen m (suc c) ks) h in
    rw p.0 (omega (arith, full-count m (suc c) ks p.1))

part_count : (m : Matrix) (c : ℕ) (ks : List (List Ref)) → all_seen m c ks ≡ false → counted (seen m) c ks < length ks
part_count m c [] h = clash (cc)
part_count m c (fields ∷ ks) h = go (seen m c) h (λ e. part_count m (suc c) ks e)
  where
    go : (b : Bool) → (b && all_seen m (suc c) ks) ≡ false → (all_seen m (suc c) ks ≡ false → counted (seen m) (suc c) ks < length ks) → bit b + counted (seen m) (suc c) ks < suc (length ks)
    go true e deeper = omega (arith, deeper e)
    go false e deeper = omega (arith, counted_le (seen m) (suc c) ks)

-- The map's keys
any_or : (a b c : Bool) → (a || (b || c)) ≡ (b || (a || c))
any_or true true c = refl
any_or true false c = refl
any_or false b c = refl

place-keys : (k : Text) (new : Entry) (es : List Entry) → contains_key k (place new es) ≡ (same k new.key || contains_key k es)
unfolding contains_key
place-keys k new [] = refl
place-keys k new (e ∷ es) = go (before new.key e.key) (place-keys k new es)
  where
    go : (b : Bool) → contains_key k (place new es) ≡ (same k new.key || contains_key k es) → contains_key k (cond b (new ∷ e ∷ es) (e ∷ place new es)) ≡ (same k new.key || contains_key k (e ∷ es))
    go true h = refl
    go false h = rw h (any_or (same k e.key) (same k new.key) (contains_key k es))

place-length : (new : Entry) (es : List Entry) → length (place new es) ≡ suc (length es)
place-length new [] = refl
place-length new (e ∷ es) = go (before new.key e.key) (place-length new es)
  where
    go : (b : Bool) → length (place new es) ≡ suc (length es) → length (cond b (new ∷ e ∷ es) (e ∷ place new es)) ≡ suc (suc (length es))
    go true h = refl
    go false h = ap suc h

replace-keys : (k : Text) (new : Entry) (es : List Entry) → contains_key k (replace new es) ≡ contains_key k es
unfolding contains_key
replace-keys k new [] = refl
replace-keys k new (e ∷ es) = rw (replace-keys k new es) (go (same new.key e.key) refl)
  where
    go : (b : Bool) → same new.key e.key ≡ b → (same k (cond b new e).key || contains_key k es) ≡ (same k e.key || contains_key k es)
    go true h = rw (same_true new.key e.key h)
    go false h = refl

-- every value of the map is these constructors
data Valued (vs : List ValueConstructor) : List Entry → Type 0 where
  unvalued : Valued vs []
  valued : {e : Entry} {es : List Entry} → e.value ≡ vs → Valued vs es → Valued vs (e ∷ es)

place-valued : {vs : List ValueConstructor} (new : Entry) {es : List Entry} → new.value ≡ vs → Valued vs es → Valued vs (place new es)
place-valued new h unvalued = valued h unvalued
place-valued {vs} new h (valued {e = e} {es = es} k l) = go (before new.key e.key) (place-valued new h l)
  where
    go : (b : Bool) → Valued vs (place new es) → Valued vs (cond b (new ∷ e ∷ es) (e ∷ place new es))
    go true i = valued h (valued k l)
    go false i = valued k i

replace-valued : {vs : List ValueConstructor} (new : Entry) {es : List Entry} → new.value ≡ vs → Valued vs es → Valued vs (replace new es)
replace-valued new h unvalued = unvalued
replace-valued {vs} new h (valued {e = e} {es = es} k l) = valued (go (same new.key e.key)) (replace-valued new h l)
  where
    go : (b : Bool) → (cond b new e).value ≡ vs
    go true = h
    go false = k

-- a constructor's name is in the map exactly where the constructor is seen
pub record Keyed (table : Table) (t : Ref) (m : Matrix) (es : List Entry) : Type 0 where
  pub at : (c : ℕ) → c < length (ctors table t) → contains_key (ctor_at table t c).name es ≡ seen m c

module _ (panic : Panic) (table : Table) (named : Named table) (t : Ref) where
  -- the map holds a constructor's name exactly where the test says so, once
  record Holds (f : ℕ → Bool) (es : List Entry) : Type 0 where
    keys : (c : ℕ) → c < length (ctors table t) → contains_key (ctor_at table t c).name es ≡ f c
    size : length es ≡ counted f 0 (alts table t)
    values : Valued (constructors_for table t) es

  holds-alike : {f g : ℕ → Bool} {es : List Entry} → ((c : ℕ) → f c ≡ g c) → Holds f es → Holds g es
  holds-alike {es = es} h k = subst (λ (x : ℕ → Bool). Holds x es) (fun_ext h) k

  insert-holds : {f : ℕ → Bool} {es : List Entry} (d : ℕ) (new : Entry) → d < length (ctors table t) → new.key ≡ (ctor_at table t d).name → new.value ≡ constructors_for table t
      → Holds f es → Holds (λ c. eqb d c || f c) (insert new es)
  unfolding insert
  insert-holds {f} {es} d new l i v h = go (contains_key new.key es) refl
    where
      grown : counted (λ c. eqb d c || f c) 0 (alts table t) ≡ bit (not (f d)) + counted f 0 (alts table t)
      grown = counted-more f d 0 (alts table t) (omega arith) (omega (arith, length-map (ctors table t) fields_of))

      there : contains_key new.key es ≡ f d
      there = rw i (h.keys d l)

      again : (b : Bool) → f d ≡ true → (c : ℕ) → eqb d c ≡ b → f c ≡ (b || f c)
      again true e c k = ap f (sym (eqb-true d c k)) ∙ e
      again false e c k = refl

      key-same : (c : ℕ) → c < length (ctors table t) → same (ctor_at table t c).name new.key ≡ eqb d c
      key-same c k = rw i (name-number table named t c d k l ∙ eqb-sym c d)

      go : (b : Bool) → contains_key new.key es ≡ b → Holds (λ c. eqb d c || f c) (cond b (replace new es) (place new es))
      go true e =
          let k : f d ≡ true = sym there ∙ e in
          record {
            keys = λ c j. replace-keys (ctor_at table t c).name new es ∙ h.keys c j ∙ again (eqb d c) k c refl;
            size = length-map es _ ∙ h.size ∙ sym (grown ∙ rw k (omega arith));
            values = replace-valued new v h.values;
          }
      go false e =
          let k : f d ≡ false = sym there ∙ e in
          record {
            keys = λ c j. place-keys (ctor_at table t c).name new es ∙ rw (key-same c j, h.keys c j);
            size = place-length new es ∙ ap suc h.size ∙ sym (grown ∙ rw k (omega arith));
            values = place-valued new v h.values;
          }

  or_none : (b : Bool) → b ≡ (b || false)
  or_none true = refl
  or_none false = refl

  or_shift : (a b c : Bool) → ((a || b) || c) ≡ (b || (a || c))
  or_shift true true c = refl
  or_shift true false c = refl
  or_shift false b c = refl

  collect_holds : {ts : List Ref} {f : ℕ → Bool} {es : List Entry} {m : Matrix} {ps : rust.Matrix} → ShowsRows table (t ∷ ts) m ps → Holds f es → Holds (λ c. f c || seen m c) (collect_into panic es ps)
  collect_holds {f = f} no_rows h = holds-alike (λ c. or_none (f c)) h
  collect_holds {f = f} (also (wilds k) l) h = collect_holds {f = f} l h
  collect_holds {f = f} (also (lits e k) l) h = collect_holds {f = f} l h
  collect_holds {f = f} (also {m = m} (cons {c = d} made k) l) h = holds-alike (λ c. or_shift (eqb d c) (f c) (seen m c)) (collect_holds {f = λ c. eqb d c || f c} l (insert-holds d _ made.known made.named made.listed h))

  -- what the first column says on both sides
  pub data ColumnAgrees : Column → List Entry → Type 0 where
    bares : ColumnAgrees bare []
    parts : {e : Entry} {es : List Entry} → e.value ≡ constructors_for table t → suc (length es) < length (constructors_for table t) → ColumnAgrees (part t) (e ∷ es)
    fulls : {e : Entry} {es : List Entry} → e.value ≡ constructors_for table t → suc (length es) ≡ length (constructors_for table t) → ColumnAgrees (full t) (e ∷ es)

  collected : {ts : List Ref} {m : Matrix} {ps : rust.Matrix} → ShowsRows table (t ∷ ts) m ps → Holds (seen m) (collect_ctors panic ps)
  unfolding collect_ctors contains_key
  collected h = collect_holds {f = λ c. false} h nothing
    where
      nothing : Holds (λ c. false) []
      nothing = record { keys = λ c l. refl; size = sym (counted_none 0 (alts table t)); values = unvalued }

  pub key-seen : {ts : List Ref} {m : Matrix} {ps : rust.Matrix} → ShowsRows table (t ∷ ts) m ps → Keyed table t m (collect_ctors panic ps)
  key-seen h = record { at = (collected h).keys }

  -- a column without constructors leaves the map as it is
  bare_collects : {ts : List Ref} {m : Matrix} {ps : rust.Matrix} → ShowsRows table (t ∷ ts) m ps → column_type m ≡ none → collect_into panic [] ps ≡ []
  bare_collects no_rows e = refl
  bare_collects (also (wilds k) l) e = bare_collects l e
  bare_collects (also (lits i k) l) e = bare_collects l e
  bare_collects (also (cons made k) l) e = clash (cc)

  -- the first constructor of a column is one of type t, and it is seen
  typed-seen : {ts : List Ref} {m : Matrix} {ps : rust.Matrix} {u : Ref} → ShowsRows table (t ∷ ts) m ps → column_type m ≡ some u → (d : ℕ) × (d < length (ctors table t)) × (seen m d ≡ true) × (u ≡ t)
  typed-seen no_rows e = clash (cc)
  typed-seen (also (wilds k) l) e = typed-seen l e
  typed-seen (also (lits i k) l) e = typed-seen l e
  typed-seen (also {m = m} (cons {c = d} made k) l) e = (d, made.known, rw (eq-eqb d d refl), cc)

  pub column-agrees : {ts : List Ref} {m : Matrix} {ps : rust.Matrix} → ShowsRows table (t ∷ ts) m ps → ColumnAgrees (column table m) (collect_ctors panic ps)
  unfolding column collect_ctors
  column-agrees {m = m} {ps = ps} h = go (column_type m) refl
    where
      wide : length (constructors_for table t) ≡ length (alts table t)
      wide = length-map (ctors table t) _ ∙ sym (length-map (ctors table t) _)

      counts : (b : Bool) → all_seen m 0 (alts table t) ≡ b → (es : List Entry) → Valued (constructors_for table t) es → length es ≡ counted (seen m) 0 (alts table t) → 0 < length es → ColumnAgrees (cond b (full t) (part t)) es
      counts b e [] v i p = absurd (omega arith)
      counts true e (x ∷ es) (valued q v) i p = fulls q (i ∙ full-count m 0 (alts table t) e ∙ sym wide)
      counts false e (x ∷ es) (valued q v) i p = parts {es = es} q (omega (arith, wide, i, part_count m 0 (alts table t) e))

      go : (o : Option Ref) → column_type m ≡ o → ColumnAgrees (column_at table m o) (collect_into panic [] ps)
      go none e = subst (λ (x : List Entry). ColumnAgrees bare x) (sym (bare_collects h e)) bares
      go (some u) e =
          let s = typed-seen h e in
          let c = collected h in
          let p = counted_pos (seen m) s.0 0 (alts table t) s.2 (omega arith) (omega (arith, length-map (ctors table t) fields_of, s.1)) in
          subst (λ (x : Ref). ColumnAgrees (column_at table m (some x)) (collect_into panic [] ps)) (sym s.3)
          (counts (all_seen m 0 (alts table t)) refl (collect_into panic [] ps) c.values c.size (omega (arith, c.size)))
