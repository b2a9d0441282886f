-- After each frame the slices and the numbers say what the definitions' next state is.
use mathlib.Core.Path.{◌≡◌, refl, sym, ap, subst, ◌∙◌}
use mathlib.Core.Bool.{Bool, true, false, cond, ◌&&◌}
use mathlib.Core.List.{List, [], ◌∷◌, ◌++◌, map}
use mathlib.Core.Option.{Option, none, some}
use Prim.Native.Nat.{ℕ, ◌+◌, ◌*◌, ◌%◌, ◌≤◌, ◌<◌}
use native.Mathlib.Omega.{arith}
use borrow.Author.Count.{below_more}
use borrow.Author.Tests.{ltb-true, leb-true}
use lib.ListN.{length, get_or, take, drop, set, replicate, length-append, length-set, get_or-append}
use lib.Seq.{sets, length-sets, get_or-set_same, get_or-set_other}
use lib.Dec.{leb, eqb}
use Rattle.scope.proofs.Tests.{clash, both}
use Rattle.scope.specs.Types.{Ty, integer, byte_string, opaque, list, tuple, pair, dat, Ctor, Table, kind, last_declared, add_ctor}
use Rattle.scope.specs.Finite.{is_ref, refs_good, all_finite}
use Rattle.scope.specs.Patterns.{Raw}
use Rattle.scope.specs.Simplify.{Row, Matrix, simplify}
use Rattle.scope.specs.Frames.{found, type_frame, constructor_frame, patterns, type_of, constructor_of, subject_of, clause_of, end}
use Rattle.scope.specs.Blocks as scope
use Rattle.scope.specs.Blocks.{Block, types, constructors, clauses, closed, ok, refuse, ◌>>=◌, need, suited, nodes_in, is_fresh, is_sound, after_type, with_table, with_row, enter}
use Rattle.table.proofs.FrameBytes.{type-read}
use Rattle.layout.specs.Places.{labelled, reads}
use Rattle.table.specs.Build.{EndsInData, low, type_arities, type_fields, WithType, EntersType, flag_at, arity_in, is_bare, field_places, labels_with, WithCtor}
use Rattle.table.proofs.Tables.{data_ends, added-ends}
use Rattle.table.proofs.TypeMeans.{Room, type-holds}
use Rattle.table.proofs.CtorMeans.{ctor-holds}
use Rattle.fresh.proofs.FreshMeans.{fresh-means}
use Rattle.sound.proofs.SoundMeans.{sound-means}
use Rattle.sound.specs.Sound.{is_sound_in}
use Rattle.patterns.specs.Rows.{RowAt, Given, Answers, Simplifies}
use Rattle.std.specs.Prelude.{Result, Ok, Err}
use Rattle.scope.specs.declared.refusal.Refusal.{Refusal}
use Rattle.suits.specs.declared.Unsuited.{Unsuited}
use Rattle.patterns.proofs.Rows.{nodes-closed, left-closed, row-stands, row_kept}
use Rattle.order.specs.declared.State.{State}
use Rattle.order.specs.Phases.{phase_of}
use Rattle.reading.specs.Said.{Held, held, Sized, InPhase, Rows, Says, said_step, Stepped, goes, stops}
use Rattle.reading.specs.Enters.{EntersCtor, stale, fresh, EntersSubject, unsound, sound, EntersClause, unsuited, over, row, Ended}

-- no clause yet
pub no_rows : (bytes nodes left rows : List ℕ) (count used : ℕ) (table : Table) → count ≡ 0 → used ≡ 0 → Rows bytes nodes left rows count used table []
no_rows bytes nodes left rows count used table a b =
    record { counted = a; packed = omega arith; few = omega arith; short = omega arith; each = λ i l. absurd (omega arith); before = λ i l. absurd (omega arith) }

-- the number of the phase after a type frame whose kind of type this is
abbrev phase_for : ℕ → ℕ
phase_for k = cond (eqb k 6) 1 0

type-phase : (ty : Ty) (n : ℕ) → n ≡ phase_for (kind ty) → (table : Table) → (phase_of n ≡ some (after_type ty)) × InPhase (after_type ty) (with_table (after_type ty) (table ++ ty ∷ [])).block
type-phase integer n e table = (ap phase_of e, tt)
type-phase byte_string n e table = (ap phase_of e, tt)
type-phase opaque n e table = (ap phase_of e, tt)
type-phase (list t) n e table = (ap phase_of e, tt)
type-phase (tuple ts) n e table = (ap phase_of e, tt)
type-phase (pair a b) n e table = (ap phase_of e, tt)
type-phase (dat cs) n e table = (ap phase_of e, data_ends table cs)

nodes-snoc : (m : Matrix) (r : Row) → nodes_in (m ++ r ∷ []) ≡ nodes_in m + length r
nodes-snoc [] r = omega arith
nodes-snoc (q ∷ m) r = omega (arith, nodes-snoc m r)

last_row : (m : Matrix) (r : Row) → get_or (m ++ r ∷ []) (length m) [] ≡ r
last_row [] r = refl
last_row (q ∷ m) r = last_row m r

-- 8 and 9, by what `simplify` gives
unsuited-steps : {h : Held} {e : Unsuited} (bytes new : List ℕ) (f : Row → scope.Step scope.State) (o : Option Row) → Answers bytes new o (Err e) → Stepped h (refuse 8) (suited o >>= f)
unsuited-steps bytes new f none a = stops 8
unsuited-steps bytes new f (some r) a = let e : refuse 8 ≡ ok (length r) = a.0 in clash (cc)

over-steps : {h : Held} (bytes new : List ℕ) (n : ℕ) (b : Block) (o : Option Row) → Answers bytes new o (Ok n) → leb (nodes_in b.rows + n) 4096 ≡ false → Stepped h (refuse 9) (suited o >>= (λ r. need 9 (leb (nodes_in b.rows + length r) 4096) >>= (λ _. ok (with_row b r))))
over-steps bytes new n b none a l = let e : ok n ≡ refuse 8 = a in clash (cc)
over-steps bytes new n b (some r) a l =
    let e : ok n ≡ ok (length r) = a.0 in
    let i : n ≡ length r = cc in
    let f : leb (nodes_in b.rows + length r) 4096 ≡ false = ap (λ (k : ℕ). leb (nodes_in b.rows + k) 4096) (sym i) ∙ l in
    rw f (stops 9)

row-steps : {h : Held} (bytes new : List ℕ) (n : ℕ) (b : Block) (o : Option Row) (s : State) → Answers bytes new o (Ok n) → leb (nodes_in b.rows + n) 4096 ≡ true → ((r : Row) → o ≡ some r → n ≡ length r → Says h s (with_row b r))
    → Stepped h (ok s) (suited o >>= (λ r. need 9 (leb (nodes_in b.rows + length r) 4096) >>= (λ _. ok (with_row b r))))
row-steps bytes new n b none s a l k = let e : ok n ≡ refuse 8 = a in clash (cc)
row-steps bytes new n b (some r) s a l k =
    let e : ok n ≡ ok (length r) = a.0 in
    let i : n ≡ length r = cc in
    let f : leb (nodes_in b.rows + length r) 4096 ≡ true = ap (λ (k : ℕ). leb (nodes_in b.rows + k) 4096) (sym i) ∙ l in
    rw f (goes (k r refl i))

-- by what was answered
pub simplified_as : {bytes : List ℕ} {at : ℕ} {kinds counts arities starts fields : List ℕ} {subject used : ℕ} {nodes left nodes₁ left₁ : List ℕ} {r v : Result ℕ Unsuited} → r ≡ v → Simplifies bytes at kinds counts arities starts fields subject used nodes left nodes₁ left₁ r → Simplifies bytes at kinds counts arities starts fields subject used nodes left nodes₁ left₁ v
simplified_as {bytes} {at} {kinds} {counts} {arities} {starts} {fields} {subject} {used} {nodes} {left} {nodes₁} {left₁} e q = subst (λ (x : Result ℕ Unsuited). Simplifies bytes at kinds counts arities starts fields subject used nodes left nodes₁ left₁ x) e q

-- a sound table and its subject
pub sound-parts : (table : Table) (t : ℕ) → is_sound table t ≡ true → (t < length table) × (refs_good table ≡ true)
unfolding is_sound
sound-parts table t e =
    let a = both (is_ref table t && refs_good table) (all_finite table) e in
    let b = both (is_ref table t) (refs_good table) a.0 in
    (ltb-true t (length table) b.0, b.1)

-- a list is as long as before where a cell of it is set, or cells one after another
set_long : {d' : List ℕ} {n : ℕ} (d : List ℕ) (i x : ℕ) → d' ≡ set d i x → length d ≡ n → length d' ≡ n
set_long d i x e l = ap length e ∙ length-set d i x ∙ l

sets-long : {d' : List ℕ} {n : ℕ} (d : List ℕ) (i : ℕ) (xs : List ℕ) → d' ≡ sets d i xs → length d ≡ n → length d' ≡ n
sets-long d i xs e l = ap length e ∙ length-sets d i xs ∙ l

labels-long : {labels' : List ℕ} {m : ℕ} (bytes : List ℕ) (flag n used : ℕ) (labels : List ℕ) → labels' ≡ labels_with bytes flag n used labels → length labels ≡ m → length labels' ≡ m
unfolding labels_with
labels-long {labels'} {m} bytes flag n used labels e l = ap length e ∙ go (map (λ p. low (p + 1)) (labelled bytes (flag + 2) n)) (is_bare bytes flag)
  where
    go : (new : List ℕ) (b : Bool) → length (cond b labels (sets labels used new)) ≡ m
    go new true = l
    go new false = length-sets labels used new ∙ l

type-sized : {h : Held} {at t used : ℕ} {kinds' counts' arities' starts' fields' : List ℕ} → Sized h → WithType h.bytes at t used h.kinds h.counts h.arities h.starts h.fields kinds' counts' arities' starts' fields'
    → Sized (held h.bytes kinds' counts' arities' starts' h.names fields' h.labels h.nodes h.left h.rows)
type-sized {h} {at} {t} {used} z e =
    let c = e.ctors_are in
    record {
      kinds_long = set_long h.kinds t (get_or h.bytes at 0) e.kinds_are z.kinds_long;
      counts_long = set_long h.counts t (length (type_arities h.bytes at)) c.counts_are z.counts_long;
      arities_long = sets-long h.arities (32 * t) (type_arities h.bytes at) c.arities_are z.arities_long;
      starts_long = sets-long h.starts (32 * t) (replicate (length (type_arities h.bytes at)) (low used)) c.starts_are z.starts_long;
      names_long = z.names_long;
      fields_long = sets-long h.fields used (type_fields h.bytes at t) c.fields_are z.fields_long;
      labels_long = z.labels_long;
      nodes_long = z.nodes_long;
      left_long = z.left_long;
      rows_long = z.rows_long;
    }

ctor-sized : {h : Held} {at t used : ℕ} {counts' arities' starts' names' fields' labels' : List ℕ} → Sized h → WithCtor h.bytes at t used h.counts h.arities h.starts h.names h.fields h.labels counts' arities' starts' names' fields' labels'
    → Sized (held h.bytes h.kinds counts' arities' starts' names' fields' labels' h.nodes h.left h.rows)
ctor-sized {h} {at} {t} {used} z e =
    record {
      kinds_long = z.kinds_long;
      counts_long = set_long h.counts t (get_or h.counts t 0 + 1) e.counts_are z.counts_long;
      arities_long = set_long h.arities (32 * t + get_or h.counts t 0) (arity_in h.bytes at) e.arities_are z.arities_long;
      starts_long = set_long h.starts (32 * t + get_or h.counts t 0) (low used) e.starts_are z.starts_long;
      names_long = set_long h.names (32 * t + get_or h.counts t 0) (low at) e.names_are z.names_long;
      fields_long = sets-long h.fields used (reads h.bytes (field_places h.bytes (flag_at h.bytes at) (arity_in h.bytes at))) e.fields_are z.fields_long;
      labels_long = labels-long h.bytes (flag_at h.bytes at) (arity_in h.bytes at) used h.labels e.labels_are z.labels_long;
      nodes_long = z.nodes_long;
      left_long = z.left_long;
      rows_long = z.rows_long;
    }

clause-sized : {h : Held} {nodes' left' rows' : List ℕ} → Sized h → length nodes' ≡ 4160 → length left' ≡ 4160 → length rows' ≡ 64 → Sized (held h.bytes h.kinds h.counts h.arities h.starts h.names h.fields h.labels nodes' left' rows')
clause-sized z a b c =
    record {
      kinds_long = z.kinds_long;
      counts_long = z.counts_long;
      arities_long = z.arities_long;
      starts_long = z.starts_long;
      names_long = z.names_long;
      fields_long = z.fields_long;
      labels_long = z.labels_long;
      nodes_long = a;
      left_long = b;
      rows_long = c;
    }

module _ {h : Held} {s : State} {σ : scope.State} (w : Says h s σ) where
  abbrev z : Sized h
  z = w.sized

  room : Room h.kinds h.counts h.arities h.starts h.names h.fields h.labels
  room =
      record {
        kinds_long = omega (arith, z.kinds_long);
        counts_long = omega (arith, z.counts_long);
        arities_long = omega (arith, z.arities_long);
        starts_long = omega (arith, z.starts_long);
        names_long = omega (arith, z.names_long);
        fields_long = omega (arith, z.fields_long);
        labels_long = omega (arith, z.labels_long);
      }

  -- 01 type
  pub type-steps : (at : ℕ) (r : State) {kinds' counts' arities' starts' names' fields' labels' : List ℕ} → EntersType h.bytes at s h.kinds h.counts h.arities h.starts h.fields kinds' counts' arities' starts' fields' r → names' ≡ h.names → labels' ≡ h.labels → s.types < 64 → (ty : Ty) → type_frame (drop at h.bytes) ≡ found ty []
      → Stepped (held h.bytes kinds' counts' arities' starts' names' fields' labels' h.nodes h.left h.rows) (ok r) (enter σ.block (type_of ty))
  unfolding enter
  type-steps at r {kinds'} {counts'} {arities'} {starts'} {names'} {fields'} {labels'} e same_names same_labels free ty frame =
      let n = e.numbers in
      let q : r.phase ≡ phase_for (kind ty) = n.phase_is ∙ ap phase_for (type-read h.bytes at s.types ty [] frame).kind_is in
      let p = type-phase ty r.phase q σ.block.table in
      let says : Says (held h.bytes kinds' counts' arities' starts' h.names fields' h.labels h.nodes h.left h.rows) r (with_table (after_type ty) (σ.block.table ++ ty ∷ [])) =
      record {
        phase_is = p.0;
        holds = rw (n.types_are, n.ctors_are, n.fields_are) (type-holds room w.holds free w.few at ty [] frame e.with);
        few = omega (arith, w.few, n.ctors_are);
        subject_is = n.subject_is;
        clauses_are = n.clauses_are;
        rows_are = no_rows _ _ _ _ _ _ _ n.count_is n.used_is;
        in_phase = p.1;
        sized = type-sized z e.with;
      } in
      rw (same_names, same_labels) (goes says)

  -- 02 constructor
  pub ctor-steps : (at : ℕ) (r : Result State Refusal) {kinds' counts' arities' starts' names' fields' labels' : List ℕ} → EntersCtor h.bytes at s h.counts h.arities h.starts h.names h.fields h.labels counts' arities' starts' names' fields' labels' r → kinds' ≡ h.kinds → EndsInData σ.block.table → s.ctors < 256 → length (last_declared σ.block.table) < 32 → 0 < at → length h.bytes ≤ 65536
      → (c : Ctor) → constructor_frame (drop at h.bytes) ≡ found c [] → Stepped (held h.bytes kinds' counts' arities' starts' names' fields' labels' h.nodes h.left h.rows) (said_step r) (enter σ.block (constructor_of c))
  unfolding enter
  ctor-steps at r (stale f) same_kinds d more free past short c frame =
      let u : is_fresh σ.block.table c ≡ false = sym (fresh-means w.holds d at c [] frame) ∙ f in
      rw u (stops 7)
  ctor-steps at r {kinds'} {counts'} {arities'} {starts'} {names'} {fields'} {labels'} (fresh {r = r'} f n k) same_kinds d more free past short c frame =
      let u : is_fresh σ.block.table c ≡ true = sym (fresh-means w.holds d at c [] frame) ∙ f in
      let says : Says (held h.bytes h.kinds counts' arities' starts' names' fields' labels' h.nodes h.left h.rows) r' (with_table constructors (add_ctor σ.block.table c)) =
      record {
        phase_is = ap phase_of n.phase_is;
        holds = rw (n.types_are, n.ctors_are, n.fields_are) (ctor-holds w.holds d room more free at past short c [] frame k);
        few = omega (arith, n.ctors_are);
        subject_is = n.subject_is;
        clauses_are = n.clauses_are;
        rows_are = no_rows _ _ _ _ _ _ _ n.count_is n.used_is;
        in_phase = added-ends d c;
        sized = ctor-sized z k;
      } in
      rw (u, same_kinds) (goes says)

  -- 03 subject
  pub subject-steps : (at : ℕ) (r : Result State Refusal) → EntersSubject h.bytes at s h.kinds h.counts h.arities h.starts h.fields r → (t : ℕ) → t ≡ get_or h.bytes at 0 → Stepped h (said_step r) (enter σ.block (subject_of t))
  unfolding enter
  subject-steps at r (unsound f) t e =
      let u : is_sound σ.block.table t ≡ false = sym (sound-means w.holds t) ∙ ap (is_sound_in h.kinds h.counts h.arities h.starts h.fields s.fields s.types) e ∙ f in
      rw u (stops 7)
  subject-steps at r (sound {r = r'} f n) t e =
      let u : is_sound σ.block.table t ≡ true = sym (sound-means w.holds t) ∙ ap (is_sound_in h.kinds h.counts h.arities h.starts h.fields s.fields s.types) e ∙ f in
      let says : Says h r' (record { phase = clauses; block = record { table = σ.block.table; subject = t; rows = [] } }) =
      record {
        phase_is = ap phase_of n.phase_is;
        holds = rw (n.types_are, n.ctors_are, n.fields_are) w.holds;
        few = omega (arith, n.ctors_are, w.few);
        subject_is = n.subject_is ∙ sym e;
        clauses_are = n.clauses_are;
        rows_are = no_rows _ _ _ _ _ _ _ n.count_is n.used_is;
        in_phase = u;
        sized = z;
      } in
      rw u (goes says)

  -- 04 clause
  module _ (a : is_sound σ.block.table σ.block.subject ≡ true) where
    pub given : Given h.kinds h.counts h.arities h.starts h.fields σ.block.subject σ.block.table
    given = let p = sound-parts σ.block.table σ.block.subject a in record { used = s.fields; shape = w.holds.shape; fielded = w.holds.fielded; in_table = p.0; good = p.1 }

    module _ (at : ℕ) (ps : List Raw) (read : patterns 1 (drop at h.bytes) ≡ found ps []) where
      abbrev b : Block
      b = σ.block

      -- one more row
      more_rows : {nodes₁ left₁ nodes' left' rows' : List ℕ} {n : ℕ} {r : Row} → Simplifies h.bytes at h.kinds h.counts h.arities h.starts h.fields b.subject s.used h.nodes h.left nodes₁ left₁ (Ok n) → s.count + n ≤ 4096
          → nodes' ≡ set nodes₁ (s.used + n) 0 → left' ≡ set left₁ (s.used + n) 0 → rows' ≡ set h.rows s.clauses (s.used % 65536) → s.clauses < 64 → simplify b.table b.subject ps ≡ some r → n ≡ length r
          → (count used : ℕ) → count ≡ s.count + n → used ≡ s.used + n + 1 → Rows h.bytes nodes' left' rows' count used b.table (b.rows ++ r ∷ [])
      more_rows {nodes₁} {left₁} {nodes'} {left'} {rows'} {n} {r} q fits nodes_are left_are rows_are free is size count used count_is used_is =
          let o = w.rows_are in
          let long : length (b.rows ++ r ∷ []) ≡ length b.rows + 1 = length-append b.rows (r ∷ []) in
          let at-end : s.clauses ≡ length b.rows = w.clauses_are in
          let low : s.used % 65536 ≡ s.used = omega (arith, o.packed, o.short, o.few) in
          let nodes_kept : take s.used nodes' ≡ take s.used h.nodes = ap (take s.used) nodes_are ∙ nodes-closed q n in
          let left_kept : take s.used left' ≡ take s.used h.left = ap (take s.used) left_are ∙ left-closed q n in
          let nodes_long : length nodes' ≡ length h.nodes = ap length nodes_are ∙ length-set nodes₁ (s.used + n) 0 ∙ ap length q.nodes_are ∙ length-sets h.nodes s.used q.new in
          let old : (i : ℕ) → i < length b.rows → RowAt h.bytes nodes' left' b.table (get_or rows' i 0) (get_or (b.rows ++ r ∷ []) i []) × (get_or rows' i 0 + length (get_or (b.rows ++ r ∷ []) i []) < used) = λ i l.
          let start : get_or rows' i 0 ≡ get_or h.rows i 0 = ap (λ (d : List ℕ). get_or d i 0) rows_are ∙ get_or-set_other h.rows s.clauses i (s.used % 65536) 0 (λ e. omega arith) in
          let same : get_or (b.rows ++ r ∷ []) i [] ≡ get_or b.rows i [] = get_or-append b.rows (r ∷ []) [] i l in
          rw (start, same) (row_kept nodes' left' s.used (o.each i l) (o.before i l) nodes_kept left_kept nodes_long, omega (arith, o.before i l)) in
          let new : RowAt h.bytes nodes' left' b.table (get_or rows' (length b.rows) 0) (get_or (b.rows ++ r ∷ []) (length b.rows) []) × (get_or rows' (length b.rows) 0 + length (get_or (b.rows ++ r ∷ []) (length b.rows) []) < used) =
          let start : get_or rows' (length b.rows) 0 ≡ s.used = ap (λ (i : ℕ). get_or rows' i 0) (sym at-end) ∙ ap (λ (d : List ℕ). get_or d s.clauses 0) rows_are ∙ get_or-set_same h.rows s.clauses (s.used % 65536) 0 (omega (arith, z.rows_long)) ∙ low in
          rw (start, last_row b.rows r)
          (row-stands q ps read b.table given r is (omega (arith, z.nodes_long, z.left_long)) (omega (arith, z.nodes_long, o.packed, o.few)) nodes' left' (nodes_are ∙ ap (λ (i : ℕ). set nodes₁ (s.used + i) 0) size) (left_are ∙ ap (λ (i : ℕ). set left₁ (s.used + i) 0) size), omega arith) in
          let every = below_more (λ i. RowAt h.bytes nodes' left' b.table (get_or rows' i 0) (get_or (b.rows ++ r ∷ []) i []) × (get_or rows' i 0 + length (get_or (b.rows ++ r ∷ []) i []) < used)) (length b.rows) old new in
          record {
            counted = omega (arith, o.counted, nodes-snoc b.rows r);
            packed = omega (arith, o.packed);
            few = omega arith;
            short = omega arith;
            each = λ i l. (every i (omega arith)).0;
            before = λ i l. (every i (omega arith)).1;
          }

      pub clause-steps : (r : Result State Refusal) {nodes' left' rows' : List ℕ} → EntersClause h.bytes at s h.kinds h.counts h.arities h.starts h.fields h.nodes h.left h.rows nodes' left' rows' r → s.clauses < 64
          → Stepped (held h.bytes h.kinds h.counts h.arities h.starts h.names h.fields h.labels nodes' left' rows') (said_step r) (enter σ.block (clause_of ps))
      unfolding enter
      clause-steps r (unsuited {nodes₁ = nodes₁} {left₁ = left₁} {e = e} q) free =
          let g : Simplifies h.bytes at h.kinds h.counts h.arities h.starts h.fields b.subject s.used h.nodes h.left nodes₁ left₁ (Err e) = subst (λ (t : ℕ). Simplifies h.bytes at h.kinds h.counts h.arities h.starts h.fields t s.used h.nodes h.left nodes₁ left₁ (Err e)) w.subject_is q in
          unsuited-steps h.bytes g.new _ (simplify b.table b.subject ps) (g.means ps read b.table given).0
      clause-steps r (over {nodes₁ = nodes₁} {left₁ = left₁} {n = n} q l) free =
          let g : Simplifies h.bytes at h.kinds h.counts h.arities h.starts h.fields b.subject s.used h.nodes h.left nodes₁ left₁ (Ok n) = subst (λ (t : ℕ). Simplifies h.bytes at h.kinds h.counts h.arities h.starts h.fields t s.used h.nodes h.left nodes₁ left₁ (Ok n)) w.subject_is q in
          over-steps h.bytes g.new n b (simplify b.table b.subject ps) (g.means ps read b.table given).0 (ap (λ (k : ℕ). leb (k + n) 4096) (sym w.rows_are.counted) ∙ l)
      clause-steps r (row {nodes₁ = nodes₁} {left₁ = left₁} {n = n} {r = r'} q l nodes_are left_are rows_are m) free =
          let g : Simplifies h.bytes at h.kinds h.counts h.arities h.starts h.fields b.subject s.used h.nodes h.left nodes₁ left₁ (Ok n) = subst (λ (t : ℕ). Simplifies h.bytes at h.kinds h.counts h.arities h.starts h.fields t s.used h.nodes h.left nodes₁ left₁ (Ok n)) w.subject_is q in
          row-steps h.bytes g.new n b (simplify b.table b.subject ps) r' (g.means ps read b.table given).0 (ap (λ (k : ℕ). leb (k + n) 4096) (sym w.rows_are.counted) ∙ l)
          (λ v is size. record {
            phase_is = ap phase_of m.phase_is;
            holds = rw (m.types_are, m.ctors_are, m.fields_are) w.holds;
            few = omega (arith, m.ctors_are, w.few);
            subject_is = m.subject_is ∙ w.subject_is;
            clauses_are = omega (arith, m.clauses_are, w.clauses_are, length-append b.rows (v ∷ []));
            rows_are = more_rows g (leb-true (s.count + n) 4096 l) nodes_are left_are rows_are free is size r'.count r'.used m.count_is m.used_is;
            in_phase = a;
            sized = clause-sized z (set_long nodes₁ (s.used + n) 0 nodes_are (sets-long h.nodes s.used q.new q.nodes_are z.nodes_long)) (set_long left₁ (s.used + n) 0 left_are (sets-long h.left s.used q.lefts q.left_are z.left_long)) (set_long h.rows s.clauses (s.used % 65536) rows_are z.rows_long);
          })

    -- 05 end
    pub end-steps : (r : State) → Ended s r → Stepped h (ok r) (enter σ.block end)
    unfolding enter
    end-steps r m =
        let says : Says h r (record { phase = closed; block = σ.block }) =
        record {
          phase_is = ap phase_of m.phase_is;
          holds = rw (m.types_are, m.ctors_are, m.fields_are) w.holds;
          few = omega (arith, m.ctors_are, w.few);
          subject_is = m.subject_is ∙ w.subject_is;
          clauses_are = m.clauses_are ∙ w.clauses_are;
          rows_are = rw (m.count_is, m.used_is) w.rows_are;
          in_phase = a;
          sized = z;
        } in
        goes says
