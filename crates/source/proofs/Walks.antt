-- Both walks, whole: with the same depth of calls the flat walk and the source's give the same verdict, show the same rows, make as many calls and hold as many cells.
use mathlib.Core.Path.{◌≡◌, refl, ap, ap₂, sym, subst, ◌∙◌}
use mathlib.Core.List.{List, [], ◌∷◌, ◌++◌, map, filter_map, filter_map-cons-none, filter_map-cons-some, flat_map}
use mathlib.Core.Bool.{Bool, true, false, cond}
use Prim.Native.Nat.{ℕ, zero, suc, ◌+◌, ◌*◌, ◌≤◌, ◌<◌, max}
use native.Mathlib.Nat.{zero-add, add-zero}
use native.Mathlib.Omega.{arith}
use lib.ListN.{length, get_or, replicate, length-append}
use lib.Dec.{eqb}
use borrow.Author.Tests.{eq-eqb, ne_eqb, lt-ltb, le-ltb}
use Rattle.scope.specs.Types.{Ref, Ctor, Table, fields_of}
use Rattle.scope.specs.Constructors.{built, ctors, ctor_at, fields_at, arity, alts}
use Rattle.scope.specs.Simplify.{wild, con, Row, Matrix}
use Rattle.scope.specs.Walks.{Walk, plain, holding, turned, joined, seen, Column, try_each, unseen, gather}
use Rattle.scope.specs.Walks as flat
use Rattle.source.specs.Source as rust
use Rattle.source.specs.Source.{ValueConstructor, complete, incomplete, constructor, Patterns, []ᵖ, ◌∷ᵖ◌, ◌++ᵖ◌, len, wildcards, Panic, first_of, rest_of, Entry, contains_key, complete_by, any_alt, is_missing, concat_alts, value_constructor, constructors_for}
use Rattle.source.specs.Shows.{Made, Shows, done, wilds, lits, cons, ShowsRows, no_rows, also, ShowsWalk}
use Rattle.laws.proofs.Steps.{useful_fuel, missing_fuel}
use Rattle.source.proofs.Rows.{Named, len_append, len-wildcards, shows_len, rows-length, rows_append, shows-wilds, wildcard-shows, literal-shows, ctor-shows}
use Rattle.source.proofs.Columns.{ColumnAgrees, bares, parts, fulls, Keyed, key-seen, column-agrees}

module _ (table : Table) (t : Ref) where
  -- the constructors of type t from number c on
  pub data From : ℕ → List Ctor → Type 0 where
    over : {c : ℕ} → From c []
    next : {c : ℕ} {x : Ctor} {cs : List Ctor} → x ≡ ctor_at table t c → c < length (ctors table t) → From (suc c) cs → From c (x ∷ cs)

  from : (cs : List Ctor) (c : ℕ) → ((i : ℕ) → get_or cs i (built [] []) ≡ ctor_at table t (c + i)) → c + length cs ≡ length (ctors table t) → From c cs
  from [] c h e = over
  from (x ∷ cs) c h e = next (rw add-zero at (h 0)) (omega arith) (from cs (suc c) (λ i. let k : c + suc i ≡ suc c + i = omega arith in rw k at (h (suc i))) (omega arith))

  pub from_all : From 0 (ctors table t)
  from_all = from (ctors table t) 0 (λ i. rw zero-add) (omega arith)

  -- the alternatives, tried in order
  try_shows : (f : ℕ → ℕ → Walk Bool) (g : ValueConstructor → Walk Bool) → ((c : ℕ) → c < length (ctors table t) → f c (arity table t c) ≡ g (value_constructor (ctor_at table t c)))
      → {c : ℕ} {cs : List Ctor} → From c cs → try_each f c (map fields_of cs) ≡ any_alt g (map value_constructor cs)
  try_shows f g h over = refl
  try_shows f g h (next {c = c} e l k) = rw (e, h c l, try_shows f g h k)

-- a column is complete when as many constructors are seen as there are
complete_when : (e : Entry) (es : List Entry) (b : Bool) → eqb (suc (length es)) (length e.value) ≡ b → complete_by (e ∷ es) ≡ cond b (complete e.value) incomplete
complete_when e es b h = ap (λ (x : Bool). cond x (complete e.value) incomplete) h

-- two ways to go on that give the same on what shows the same
record UsefulAgree (table : Table) (again : ℕ → Matrix → Row → Walk Bool) (again' : rust.Matrix → Patterns → Walk Bool) : Type 0 where
  at : {ts : List Ref} {m : Matrix} {ps : rust.Matrix} {q : Row} {p : Patterns} (n : ℕ) → n ≡ length ts → ShowsRows table ts m ps → Shows table ts q p → again n m q ≡ again' ps p

module _ (panic : Panic) (table : Table) (named : Named table) (again : ℕ → Matrix → Row → Walk Bool) (again' : rust.Matrix → Patterns → Walk Bool) (deeper : UsefulAgree table again again') where
  module _ (n : ℕ) (t : Ref) (ts : List Ref) (e : n ≡ length ts) (m : Matrix) (ps : rust.Matrix) (h : ShowsRows table (t ∷ ts) m ps) where
    ctor_useful : {q : Row} {p : Patterns} (c : ℕ) → c < length (ctors table t) → Shows table (fields_at table t c ++ ts) q p
        → again (arity table t c + n) (flat.specialize_by_ctor c (arity table t c) m) q ≡ again' (rust.specialize_rows_by_ctor panic (ctor_at table t c).name (arity table t c) ps) p
    ctor_useful c l k = deeper.at (arity table t c + n) (omega (arith, length-append (fields_at table t c) ts)) (ctor-shows table named panic c l h) k

    wild_useful : {q : Row} {p : Patterns} → Shows table ts q p → {x : Column} {es : List Entry} → ColumnAgrees panic table named t x es
        → flat.useful_wild table again x n m q ≡ rust.useful_wildcard panic again' (complete_by es) ps p
    wild_useful k bares = deeper.at n e (wildcard-shows table h) k
    wild_useful {q} {p} k (parts {e = x} {es = es} i l) = rw (complete_when x es false (ne_eqb (suc (length es)) (length x.value) (λ j. omega (arith, ap length i)))) (deeper.at n e (wildcard-shows table h) k)
    wild_useful {q} {p} k (fulls {e = x} {es = es} i l) =
        rw (complete_when x es true (eq-eqb (suc (length es)) (length x.value) (l ∙ sym (ap length i))), i)
        (try_shows table t (λ c a. again (a + n) (flat.specialize_by_ctor c a m) (replicate a wild ++ q)) (λ alt. again' (rust.specialize_rows_by_ctor panic alt.name alt.arity ps) (wildcards alt.arity ++ᵖ p)) (λ c j. ctor_useful c j (shows-wilds table (fields_at table t c) ts k)) (from_all table t))

  useful_step : {ts : List Ref} {m : Matrix} {ps : rust.Matrix} {q : Row} {p : Patterns} (n : ℕ) → n ≡ length ts → ShowsRows table ts m ps → Shows table ts q p
      → flat.is_useful_step table again n m q ≡ rust.is_useful_step panic again' ps p
  unfolding flat.is_useful_step rust.is_useful_step
  useful_step n e no_rows i = ap (λ (x : ℕ). holding (1 * x) (plain true)) (e ∙ sym (shows_len table i))
  useful_step zero e (also h k) done = ap (λ (x : ℕ). holding (suc (suc x) * 0) (plain false)) (rows-length table k)
  useful_step (suc n) e (also h k) done = absurd (omega arith)
  useful_step zero e (also h k) (wilds i) = absurd (omega arith)
  useful_step zero e (also h k) (lits j i) = absurd (omega arith)
  useful_step zero e (also h k) (cons made i) = absurd (omega arith)
  useful_step (suc n) e (also h k) (wilds {t = t} {ts = ts} i) =
      let rows = also h k in
      let l : n ≡ length ts = omega arith in
      ap₂ holding (ap₂ ◌*◌ (ap suc (rows-length table rows)) (ap suc (l ∙ sym (shows_len table i)))) (wild_useful n t ts l _ _ rows i (column-agrees panic table named t rows))
  useful_step (suc n) e (also h k) (lits {t = t} {ts = ts} {l = x} j i) =
      let rows = also h k in
      let l : n ≡ length ts = omega arith in
      ap₂ holding (ap₂ ◌*◌ (ap suc (rows-length table rows)) (ap suc (l ∙ sym (shows_len table i)))) (deeper.at n l (literal-shows table panic x j rows) i)
  useful_step (suc n) e (also {p = p} {ps = ps} h k) (cons {t = t} {ts = ts} {c = c} {args = args} {ps = ps'} made i) =
      let rows = also h k in
      let l : n ≡ length ts = omega arith in
      let wide : n ≡ len ps' = omega (arith, shows_len table i, len_append args ps', length-append (fields_at table t c) ts, made.filled) in
      ap₂ holding (ap₂ ◌*◌ (ap suc (rows-length table rows)) (ap suc wide)) (rw (made.named, made.filled) (ctor_useful n t ts l _ _ rows c made.known i))

useful_shows : (panic : Panic) (table : Table) → Named table → (k : ℕ) → UsefulAgree table (flat.is_useful_in table k) (rust.is_useful panic k)
unfolding flat.is_useful_in rust.is_useful
useful_shows panic table named zero = record { at = λ n e h i. refl }
useful_shows panic table named (suc k) = record { at = λ n e h i. useful_step panic table named (flat.is_useful_in table k) (rust.is_useful panic k) (useful_shows panic table named k) n e h i }

-- The missing walk, in the same steps
split-whole : (panic : Panic) (n : ℕ) (ps : Patterns) → n ≤ len ps → first_of panic n ps ++ᵖ rest_of panic n ps ≡ ps
split-whole panic zero ps l = refl
split-whole panic (suc n) []ᵖ l = absurd (omega arith)
split-whole panic (suc n) (p ∷ᵖ ps) l = ap (p ∷ᵖ◌) (split-whole panic n ps (omega arith))

split-len : (panic : Panic) (n : ℕ) (ps : Patterns) → n ≤ len ps → len (first_of panic n ps) ≡ n
split-len panic zero ps l = refl
split-len panic (suc n) []ᵖ l = absurd (omega arith)
split-len panic (suc n) (p ∷ᵖ ps) l = ap suc (split-len panic n ps (omega arith))

-- a walk shows a walk after the same is done to the rows of both
turned-shows : {table : Table} {ts us : List Ref} {w : Walk Matrix} {v : Walk rust.Matrix} (f : Matrix → Matrix) (g : rust.Matrix → rust.Matrix)
    → ((m : Matrix) (ps : rust.Matrix) → ShowsRows table ts m ps → ShowsRows table us (f m) (g ps)) → ShowsWalk table ts w v → ShowsWalk table us (turned f w) (turned g v)
turned-shows {w = w} {v = v} f g h k = record { rows = h w.result v.result k.rows; calls = k.calls; peak = k.peak }

held-shows : {table : Table} {ts : List Ref} {w : Walk Matrix} {v : Walk rust.Matrix} (a b : ℕ) → a ≡ b → ShowsWalk table ts w v → ShowsWalk table ts (holding a w) (holding b v)
held-shows a b e k = record { rows = k.rows; calls = ap suc k.calls; peak = ap₂ ◌+◌ e k.peak }

joined-shows : {table : Table} {ts : List Ref} {w w' : Walk Matrix} {v v' : Walk rust.Matrix} → ShowsWalk table ts w v → ShowsWalk table ts w' v' → ShowsWalk table ts (joined ◌++◌ w w') (joined ◌++◌ v v')
joined-shows {table} h k = record { rows = rows_append table h.rows k.rows; calls = ap₂ ◌+◌ h.calls k.calls; peak = ap₂ max h.peak k.peak }

module _ (table : Table) (t : Ref) where
  map-shows : {ts us : List Ref} (f : Row → Row) (g : Patterns → Patterns) → ((r : Row) (p : Patterns) → Shows table ts r p → Shows table us (f r) (g p)) → {m : Matrix} {ps : rust.Matrix} → ShowsRows table ts m ps → ShowsRows table us (map f m) (map g ps)
  map-shows f g h no_rows = no_rows
  map-shows f g h (also {r = r} {p = p} k l) = also (h r p k) (map-shows f g h l)

  made : (c : ℕ) → c < length (ctors table t) → (args : Patterns) → len args ≡ arity table t c → Made table t c (ctor_at table t c).name (constructors_for table t) args
  made c l args e = record { known = l; named = refl; listed = refl; filled = e }

  recover-shows : (panic : Panic) {ts : List Ref} (c : ℕ) → c < length (ctors table t) → {m : Matrix} {ps : rust.Matrix} → ShowsRows table (fields_at table t c ++ ts) m ps
      → ShowsRows table (t ∷ ts) (flat.recover_ctor t c m) (map (rust.recover_ctor panic (constructors_for table t) (ctor_at table t c).name (arity table t c)) ps)
  recover-shows panic {ts} c l h = map-shows _ _ row h
    where
      row : (r : Row) (p : Patterns) → Shows table (fields_at table t c ++ ts) r p → Shows table (t ∷ ts) (con t c ∷ r) (rust.recover_ctor panic (constructors_for table t) (ctor_at table t c).name (arity table t c) p)
      row r p k =
          let a = arity table t c in
          let wide : a ≤ len p = omega (arith, shows_len table k, length-append (fields_at table t c) ts) in
          cons (made c l (first_of panic a p) (split-len panic a p wide)) (subst (λ (x : Patterns). Shows table (fields_at table t c ++ ts) r x) (sym (split-whole panic a p wide)) k)

  -- the unseen alternatives in front of a row
  module _ (m : Matrix) (es : List Entry) (ts : List Ref) (keys : Keyed table t m es) {r : Row} {p : Patterns} (h : Shows table ts r p) where
    unseen-shows : {c : ℕ} {cs : List Ctor} → From table t c cs
        → ShowsRows table (t ∷ ts) (unseen m t c (map fields_of cs) r) (map (◌∷ᵖ p) (filter_map (is_missing (constructors_for table t) es) (map value_constructor cs)))
    unfolding filter_map
    unseen-shows over = no_rows
    unseen-shows (next {c = c} {x = x} {cs = cs} e l k) = go (seen m c) (rw e (keys.at c l)) (unseen-shows k)
      where
        rest : List ValueConstructor
        rest = map value_constructor cs

        go : (b : Bool) → contains_key x.name es ≡ b → ShowsRows table (t ∷ ts) (unseen m t (suc c) (map fields_of cs) r) (map (◌∷ᵖ p) (filter_map (is_missing (constructors_for table t) es) rest))
            → ShowsRows table (t ∷ ts) (cond b [] ((con t c ∷ replicate (length (fields_of x)) wild ++ r) ∷ []) ++ unseen m t (suc c) (map fields_of cs) r) (map (◌∷ᵖ p) (filter_map (is_missing (constructors_for table t) es) (value_constructor x ∷ rest)))
        go true i deeper = rw (filter_map-cons-none (is_missing (constructors_for table t) es) (value_constructor x) rest (rw i)) deeper
        go false i deeper = rw (filter_map-cons-some (is_missing (constructors_for table t) es) (value_constructor x) rest {b = constructor x.name (constructors_for table t) (wildcards (length (fields_of x)))} (rw i), e) (also (cons (made c l (wildcards (arity table t c)) (len-wildcards (arity table t c))) (shows-wilds table (fields_at table t c) ts h)) deeper)

  -- in front of every row
  each-unseen : {m : Matrix} {es : List Entry} {ts : List Ref} → Keyed table t m es → {rows : Matrix} {ps : rust.Matrix} → ShowsRows table ts rows ps
      → ShowsRows table (t ∷ ts) (flat.each_row (unseen m t 0 (alts table t)) rows) (flat_map (λ row. map (◌∷ᵖ row) (filter_map (is_missing (constructors_for table t) es) (constructors_for table t))) ps)
  unfolding flat_map
  each-unseen keys no_rows = no_rows
  each-unseen {m} {es} {ts} keys (also h k) = rows_append table (unseen-shows m es ts keys h (from_all table t)) (each-unseen keys k)

  gather-shows : {ts : List Ref} (f : ℕ → ℕ → Walk Matrix) (g : ValueConstructor → Walk rust.Matrix)
      → ((c : ℕ) → c < length (ctors table t) → ShowsWalk table ts (turned (flat.recover_ctor t c) (f c (arity table t c))) (g (value_constructor (ctor_at table t c))))
      → {c : ℕ} {cs : List Ctor} → From table t c cs → ShowsWalk table ts (gather f t c (map fields_of cs)) (concat_alts g (map value_constructor cs))
  gather-shows f g h over = record { rows = no_rows; calls = refl; peak = refl }
  gather-shows f g h (next {c = c} e l k) = rw e (joined-shows (h c l) (gather-shows f g h k))

record MissingAgree (table : Table) (again : ℕ → Matrix → Walk Matrix) (again' : ℕ → rust.Matrix → Walk rust.Matrix) : Type 0 where
  at : {ts : List Ref} {m : Matrix} {ps : rust.Matrix} (n : ℕ) → n ≡ length ts → ShowsRows table ts m ps → ShowsWalk table ts (again n m) (again' n ps)

module _ (panic : Panic) (table : Table) (named : Named table) (again : ℕ → Matrix → Walk Matrix) (again' : ℕ → rust.Matrix → Walk rust.Matrix) (deeper : MissingAgree table again again') where
  column-missing : (n : ℕ) (t : Ref) (ts : List Ref) → n ≡ length ts → {m : Matrix} {ps : rust.Matrix} → ShowsRows table (t ∷ ts) m ps
      → {x : Column} {es : List Entry} → Keyed table t m es → ColumnAgrees panic table named t x es
      → ShowsWalk table (t ∷ ts) (flat.missing_column table again x n m) (rust.missing_by panic again' es n ps)
  unfolding contains_key
  column-missing n t ts e h keys bares = turned-shows _ _ (λ m ps k. map-shows table t _ _ (λ r p i. wilds i) k) (deeper.at n e (wildcard-shows table h))
  column-missing n t ts e {m} h keys (parts {e = x} {es = es} i l) =
      let at : Keyed table t m (record { key = x.key; value = constructors_for table t } ∷ es) = record { at = keys.at } in
      rw (i, lt-ltb (suc (length es)) (length (constructors_for table t)) l)
      (turned-shows _ _ (λ m ps k. each-unseen table t at k) (deeper.at n e (wildcard-shows table h)))
  column-missing n t ts e {m} {ps} h keys (fulls {e = x} {es = es} i l) =
      rw (i, le-ltb (suc (length es)) (length (constructors_for table t)) (omega arith))
      (gather-shows table t (λ c a. again (a + n) (flat.specialize_by_ctor c a m)) (λ alt. turned (map (rust.recover_ctor panic (constructors_for table t) alt.name alt.arity)) (again' (alt.arity + n) (rust.specialize_rows_by_ctor panic alt.name alt.arity ps))) (λ c j. turned-shows _ _ (λ m ps k. recover-shows table t panic c j k) (deeper.at (arity table t c + n) (omega (arith, length-append (fields_at table t c) ts)) (ctor-shows table named panic c j h))) (from_all table t))

  missing-step : {ts : List Ref} {m : Matrix} {ps : rust.Matrix} (n : ℕ) → n ≡ length ts → ShowsRows table ts m ps → ShowsWalk table ts (flat.collect_missing_step table again n m) (rust.collect_missing_step panic again' n ps)
  unfolding flat.collect_missing_step rust.collect_missing_step
  missing-step {ts} n e no_rows = record { rows = also (all-wild n ts e) no_rows; calls = refl; peak = refl }
    where
      all-wild : (k : ℕ) (us : List Ref) → k ≡ length us → Shows table us (replicate k wild) (wildcards k)
      all-wild zero [] i = done
      all-wild zero (u ∷ us) i = absurd (omega arith)
      all-wild (suc k) [] i = absurd (omega arith)
      all-wild (suc k) (u ∷ us) i = wilds (all-wild k us (omega arith))
  missing-step zero e (also h k) = held-shows _ _ (ap (◌* 0) (rows-length table (also h k))) (record { rows = no_rows; calls = refl; peak = refl })
  missing-step {ts = []} (suc n) e (also h k) = absurd (omega arith)
  missing-step {ts = t ∷ ts} (suc n) e (also h k) =
      let rows = also h k in
      held-shows _ _ (ap (◌* suc n) (rows-length table rows)) (column-missing n t ts (omega arith) rows (key-seen panic table named t rows) (column-agrees panic table named t rows))

missing-shows : (panic : Panic) (table : Table) → Named table → (k : ℕ) → MissingAgree table (flat.collect_missing_in table k) (rust.collect_missing_patterns panic k)
unfolding flat.collect_missing_in rust.collect_missing_patterns
missing-shows panic table named zero = record { at = λ n e h. record { rows = no_rows; calls = refl; peak = refl } }
missing-shows panic table named (suc k) = record { at = λ n e h. missing-step panic table named (flat.collect_missing_in table k) (rust.collect_missing_patterns panic k) (missing-shows panic table named k) n e h }

-- `is_useful`: from some depth of calls on, the source's walk is the flat one
pub useful_agrees : (panic : Panic) (table : Table) → Named table → (fuel : ℕ) {ts : List Ref} {m : Matrix} {ps : rust.Matrix} {q : Row} {p : Patterns} → ShowsRows table ts m ps → Shows table ts q p → flat.cost table (length ts) (q ∷ m) < fuel
    → flat.is_useful table (length ts) m q ≡ rust.is_useful panic fuel ps p
unfolding flat.is_useful
useful_agrees panic table named fuel {ts} {m} {ps} {q} h i l = useful_fuel table (suc (flat.cost table (length ts) (q ∷ m))) fuel (length ts) m q (omega arith) l ∙ (useful_shows panic table named fuel).at (length ts) refl h i

-- `collect_missing_patterns`: likewise
pub missing-agrees : (panic : Panic) (table : Table) → Named table → (fuel : ℕ) {ts : List Ref} {m : Matrix} {ps : rust.Matrix} → ShowsRows table ts m ps → flat.cost table (length ts) m < fuel
    → ShowsWalk table ts (flat.collect_missing_patterns table (length ts) m) (rust.collect_missing_patterns panic fuel (length ts) ps)
unfolding flat.collect_missing_patterns
missing-agrees panic table named fuel {ts} {m} h l = rw (missing_fuel table (suc (flat.cost table (length ts) m)) fuel (length ts) m (omega arith) l) ((missing-shows panic table named fuel).at (length ts) refl h)
