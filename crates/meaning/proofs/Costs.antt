-- What the rows of a file cost: the bounds from those of any rows and from the types of a file's rows, and where they are met from the one-step laws.
use mathlib.Core.Path.{◌≡◌, refl, ap, sym, subst, ◌∙◌}
use mathlib.Core.List.{List, [], ◌∷◌, ◌++◌, map, Mem, not-mem-nil, eq-or-mem_of_mem-cons}
use mathlib.Core.Logic.Or
use mathlib.Core.Bool.{Bool, true, false, ◌||◌, Bool-set}
use Prim.Native.Nat.{ℕ, zero, suc, ◌+◌, ◌≤◌, ◌<◌}
use native.Mathlib.Omega.{arith}
use lib.ListN.{length, get_or, take, replicate, length-append}
use lib.Seq.{take-suc, take-length}
use lib.Dec.{eqb}
use borrow.Author.Tests.{eq-eqb}
use Rattle.scope.specs.Types.{Ref, Ctor, Table, type_at, data_kind, kind, fields_of}
use Rattle.scope.specs.Constructors.{ctors, fields_at, alts, arity}
use Rattle.scope.specs.Simplify.{wild, lit, con, int, byte_array, Row, Matrix}
use Rattle.laws.specs.Typed.{Typed, done, wilds, lits, cons, TypedRows}
use Rattle.scope.specs.Walks.{Walk, row_if, begins_with, seen, specialize_by_ctor, specialize_by_literal, Column, full, column, try_each, gather, useful_wild, missing_column, is_useful_step, collect_missing_step, is_useful, collect_missing_patterns}
use Rattle.scope.specs.Blocks.{Block}
use Rattle.scope.specs.Driver.{judged, findings}
use Rattle.scope.specs.Calls.{Counts, nothing, a_literal, a_constructor, Flat, Begins, with_wildcard, with_constructor, AllBegin}
use Rattle.meaning.specs.Values.{Vals, HasTypes, integers, byte_strings, opaques, made}
use Rattle.meaning.specs.Meaning.{AllValued}
use Rattle.meaning.specs.Rows.{Promises}
use Rattle.meaning.specs.Costs.{calls_to, Costs, CostsOfRows}
use Rattle.scope.proofs.Tests.{clash, or_left, or_right}
use Rattle.scope.proofs.Calls.{AllBare, next-bare, all-bare, few-calls}
use Rattle.scope.proofs.Driver.{judged-snoc}
use Rattle.laws.proofs.Steps.{useful_law, missing_law}
use Rattle.meaning.proofs.Fitting.{AllSuit, all-suit, valued-at}
use Rattle.meaning.proofs.Columns.{Finds, is_bare, is_part, is_full, column_finds}
use Rattle.meaning.proofs.Parsing.{same_block}
use Rattle.meaning.proofs.Promised.{judged-at, take-typed, at_typed, take-admitted, said-promises}

-- The sum over rows
calls_add : (b : Block) (i : ℕ) → i ≤ length b.rows → calls_to b i ≡ (judged b.table [] (take i b.rows)).calls
unfolding judged
calls_add b zero l = refl
calls_add b (suc i) l = rw (take-suc b.rows i [] l, judged-snoc b.table (take i b.rows) [] (get_or b.rows i [])) (omega (arith, calls_add b i (omega arith)))

-- Rows of a data type begin as such
begins : {table : Table} {t : Ref} {r : Row} → kind (type_at table t) ≡ data_kind → Typed table (t ∷ []) r → Begins t r
begins d (wilds h) = with_wildcard
begins d (lits {l = int n} e h) = clash (cc)
begins d (lits {l = byte_array s} e h) = clash (cc)
begins d (cons l h) = with_constructor

-- and a data type with a value has a constructor
has-ctor : {table : Table} (t : Ref) → AllValued table → kind (type_at table t) ≡ data_kind → 0 < length (ctors table t)
has-ctor {table} t all d = go (valued-at all t).typed
  where
    go : {vs : Vals} → HasTypes table (t ∷ []) vs → 0 < length (ctors table t)
    go (integers i h) = let e = ap kind i in clash (cc)
    go (byte_strings i b h) = let e = ap kind i in clash (cc)
    go (opaques i h) = let e = ap kind i in clash (cc)
    go (made l a h) = omega arith

-- A row without wildcards that is not useful is walked to its end: while rows are left each call takes one node off it
no_rows : (table : Table) (n : ℕ) (q : Row) → (is_useful table n [] q).result ≡ false → ⊥
unfolding is_useful_step
no_rows table n q e = let w = ap (λ (w : Walk Bool). w.result) (useful_law table n [] q) in clash (cc)

solid_exact : (table : Table) (ts : List Ref) (N : ℕ) (q : Row) → Typed table ts q → Counts 0 N q → (m : Matrix)
    → (is_useful table (length ts) m q).result ≡ false → (is_useful table (length ts) m q).calls ≡ N + 1
unfolding is_useful_step
solid_exact table _ _ _ done nothing [] e = absurd (no_rows table 0 [] e)
solid_exact table _ _ _ done nothing (r ∷ m) e = ap (λ (w : Walk Bool). w.calls) (useful_law table 0 (r ∷ m) [])
solid_exact table _ _ _ (wilds y) h m e = elim h [ ]
solid_exact table _ _ _ (lits {ts = ts} {l = l} {r = q} k y) (a_literal {n = N} h) [] e = absurd (no_rows table (suc (length ts)) (lit l ∷ q) e)
solid_exact table _ _ _ (lits {ts = ts} {l = l} {r = q} k y) (a_literal {n = N} h) (r ∷ m) e =
    let law = useful_law table (suc (length ts)) (r ∷ m) (lit l ∷ q) in
    omega (arith, ap (λ (w : Walk Bool). w.calls) law, solid_exact table ts N q y h (specialize_by_literal l (r ∷ m)) (sym (ap (λ (w : Walk Bool). w.result) law) ∙ e))
solid_exact table _ _ _ (cons {t = t} {ts = ts} {c = c} {r = q} k y) (a_constructor {n = N} h) [] e = absurd (no_rows table (suc (length ts)) (con t c ∷ q) e)
solid_exact table _ _ _ (cons {t = t} {ts = ts} {c = c} {r = q} k y) (a_constructor {n = N} h) (r ∷ m) e =
    let law = useful_law table (suc (length ts)) (r ∷ m) (con t c ∷ q) in
    let more = rw (length-append (fields_at table t c) ts) at (solid_exact table (fields_at table t c ++ ts) N q y h (specialize_by_ctor c (arity table t c) (r ∷ m))) in
    omega (arith, ap (λ (w : Walk Bool). w.calls) law, more (sym (ap (λ (w : Walk Bool). w.result) law) ∙ e))

-- Where all constructors of a type without fields are named, each is tried
seen-named : (m : Matrix) (t : Ref) (c : ℕ) → Mem (con t c ∷ []) m → seen m c ≡ true
seen-named [] t c h = absurd (not-mem-nil h)
seen-named (r ∷ m) t c h =
    Or.elim (Bool-set (seen (r ∷ m) c) true) (eq-or-mem_of_mem-cons h) (λ e. or_left (seen m c) (ap (begins_with c) (sym e) ∙ eq-eqb c c refl))
    (λ k. or_right (begins_with c r) (seen-named m t c k))

-- a constructor that is seen keeps a row
keeps : (c a : ℕ) (m : Matrix) → seen m c ≡ true → specialize_by_ctor c a m ≡ [] → ⊥
keeps c a [] h e = clash (cc)
keeps c a ([] ∷ m) h e = keeps c a m h e
keeps c a ((wild ∷ r) ∷ m) h e = clash (cc)
keeps c a ((lit l ∷ r) ∷ m) h e = keeps c a m h e
keeps c a ((con t d ∷ r) ∷ m) h e = go (eqb d c) h e (keeps c a m)
  where
    go : (b : Bool) → (b || seen m c) ≡ true → row_if b r ++ specialize_by_ctor c a m ≡ [] → (seen m c ≡ true → specialize_by_ctor c a m ≡ [] → ⊥) → ⊥
    go true h e more = clash (cc)
    go false h e more = more h e

-- a row of no pattern: one call, and a no where there are rows
none-calls : (table : Table) (m : Matrix) (q : Row) → (is_useful table 0 m q).calls ≡ 1
unfolding is_useful_step
none-calls table [] q = ap (λ (w : Walk Bool). w.calls) (useful_law table 0 [] q)
none-calls table (r ∷ m) q = ap (λ (w : Walk Bool). w.calls) (useful_law table 0 (r ∷ m) q)

none_no : (table : Table) (m : Matrix) (q : Row) → (m ≡ [] → ⊥) → (is_useful table 0 m q).result ≡ false
unfolding is_useful_step
none_no table [] q h = absurd (h refl)
none_no table (r ∷ m) q h = ap (λ (w : Walk Bool). w.result) (useful_law table 0 (r ∷ m) q)

none-missing : (table : Table) (m : Matrix) → (collect_missing_patterns table 0 m).calls ≡ 1
unfolding collect_missing_step
none-missing table [] = ap (λ (w : Walk Matrix). w.calls) (missing_law table 0 [])
none-missing table (r ∷ m) = ap (λ (w : Walk Matrix). w.calls) (missing_law table 0 (r ∷ m))

try_exact : (f : ℕ → ℕ → Walk Bool) (c : ℕ) (cs : List Ctor) → AllBare cs → ((d : ℕ) → c ≤ d → d < c + length cs → ((f d 0).calls ≡ 1) × ((f d 0).result ≡ false))
    → (try_each f c (map fields_of cs)).calls ≡ length cs
try_exact f c [] b h = refl
try_exact f c (x ∷ cs) b h =
    let w = h c (omega arith) (omega arith) in
    rw (b 0 (omega arith), w.1) (omega (arith, w.0, try_exact f (suc c) cs (next-bare x cs b) (λ d l u. h d (omega arith) (omega arith))))

gather_exact : (f : ℕ → ℕ → Walk Matrix) → ((c : ℕ) → (f c 0).calls ≡ 1) → (t : Ref) (c : ℕ) (cs : List Ctor) → AllBare cs → (gather f t c (map fields_of cs)).calls ≡ length cs
gather_exact f h t c [] b = refl
gather_exact f h t c (x ∷ cs) b = rw (b 0 (omega arith)) (omega (arith, h c, gather_exact f h t (suc c) cs (next-bare x cs b)))

module _ (table : Table) (t : Ref) (k : ℕ) (flat : Flat table t k) (some-ctor : 0 < k) (m : Matrix) (all : (c : ℕ) → c < k → seen m c ≡ true) where
  full-column : {o : Column} → Finds table m t o → o ≡ full t
  full-column (is_bare h) = let a = all 0 some-ctor in let e = h 0 in clash (cc)
  full-column (is_part c l h) = let a = all c (omega (arith, flat.many)) in clash (cc)
  full-column (is_full z s) = refl

  tried : (try_each (λ c a. is_useful table (a + 0) (specialize_by_ctor c a m) (replicate a wild ++ [])) 0 (alts table t)).calls ≡ k
  tried =
      try_exact (λ c a. is_useful table (a + 0) (specialize_by_ctor c a m) (replicate a wild ++ [])) 0 (ctors table t) (all-bare flat)
      (λ c l u. (none-calls table (specialize_by_ctor c 0 m) [], none_no table (specialize_by_ctor c 0 m) [] (keeps c 0 m (all c (omega (arith, flat.many))))))
      ∙ flat.many

  gathered : (gather (λ c a. collect_missing_patterns table (a + 0) (specialize_by_ctor c a m)) t 0 (alts table t)).calls ≡ k
  gathered = gather_exact (λ c a. collect_missing_patterns table (a + 0) (specialize_by_ctor c a m)) (λ c. none-missing table (specialize_by_ctor c 0 m)) t 0 (ctors table t) (all-bare flat) ∙ flat.many

  some-rows : m ≡ [] → ⊥
  some-rows e = let a : seen [] 0 ≡ true = rw e at (all 0 some-ctor) in clash (cc)

-- the calls of a wildcard, and of the missing walk, where there are rows
wildcard-calls : (table : Table) (m : Matrix) → (m ≡ [] → ⊥) → (is_useful table 1 m (wild ∷ [])).calls ≡ suc (useful_wild table (is_useful table) (column table m) 0 m []).calls
unfolding is_useful_step
wildcard-calls table [] h = absurd (h refl)
wildcard-calls table (r ∷ m) h = ap (λ (w : Walk Bool). w.calls) (useful_law table 1 (r ∷ m) (wild ∷ []))

missing-calls : (table : Table) (m : Matrix) → (m ≡ [] → ⊥) → (collect_missing_patterns table 1 m).calls ≡ suc (missing_column table (collect_missing_patterns table) (column table m) 0 m).calls
unfolding collect_missing_step
missing-calls table [] h = absurd (h refl)
missing-calls table (r ∷ m) h = ap (λ (w : Walk Matrix). w.calls) (missing_law table 1 (r ∷ m))

module _ (table : Table) (t : Ref) (k : ℕ) (flat : Flat table t k) (some-ctor : 0 < k) (m : Matrix) (suit : AllSuit table (t ∷ []) m) (all : (c : ℕ) → c < k → Mem (con t c ∷ []) m) where
  sees : (c : ℕ) → c < k → seen m c ≡ true
  sees c l = seen-named m t c (all c l)

  named-row : (is_useful table 1 m (wild ∷ [])).calls ≡ k + 1
  named-row = rw (wildcard-calls table m (some-rows table t k flat some-ctor m sees), full-column table t k flat some-ctor m sees (column_finds suit)) (omega (arith, tried table t k flat some-ctor m sees))

  named-missing : (collect_missing_patterns table 1 m).calls ≡ k + 1
  named-missing = rw (missing-calls table m (some-rows table t k flat some-ctor m sees), full-column table t k flat some-ctor m sees (column_finds suit)) (omega (arith, gathered table t k flat some-ctor m sees))

-- what the rows of a file cost
rows-cost : (file : List ℕ) (p : Promises file) → Costs p.block
unfolding findings
rows-cost file p = record {
  judges = λ i l. sym (judged-at table [] rows i l);
  misses = refl;
  sooner = calls_add p.block;
  first = calls_add p.block (length rows) (omega arith) ∙ ap (λ (m : Matrix). (judged table [] m).calls) (take-length rows);
  second = refl;
  solid = λ i N l h. few-calls.solid table 1 N (take i rows) (get_or rows i []) h;
  flat_row = λ k f i l. few-calls.flat_row table t k f (some-ctor k f) (take i rows) (get_or rows i []) (all-begin f (take-typed p.suited i)) (begins f.is_data (at_typed p.suited i l));
  flat_missing = λ k f. few-calls.flat_missing table t k f (some-ctor k f) rows (all-begin f p.suited);
  never = λ i N l h e. solid_exact table (t ∷ []) N (get_or rows i []) (at_typed p.suited i l) h (take i rows) (sym (judged-at table [] rows i l) ∙ e);
  named = λ k f i l a e. rw e (named-row table t k f (some-ctor k f) (take i rows) (take-suits i) a);
  named_missing = λ k f a. named-missing table t k f (some-ctor k f) rows suit a;
}
  where
    table : Table
    table = p.block.table

    t : Ref
    t = p.block.subject

    rows : Matrix
    rows = p.block.rows

    some-ctor : (k : ℕ) → Flat table t k → 0 < k
    some-ctor k f = omega (arith, f.many, has-ctor t p.sound.valued f.is_data)

    suit : AllSuit table (t ∷ []) rows
    suit = all-suit p.suited p.admitted

    take-suits : (i : ℕ) → AllSuit table (t ∷ []) (take i rows)
    take-suits i = all-suit (take-typed p.suited i) (take-admitted rows i p.admitted)

    all-begin : {k : ℕ} {m : Matrix} → Flat table t k → TypedRows table (t ∷ []) m → AllBegin t m
    all-begin f a i l = begins f.is_data (at_typed a i l)

pub costs_of_rows : CostsOfRows
costs_of_rows file b e = let p = said-promises file b e in subst Costs (same_block p.says e) (rows-cost file p)
