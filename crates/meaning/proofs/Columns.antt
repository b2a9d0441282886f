-- Rows stay of their types when they are specialised, and what the first column is found to be.
use mathlib.Core.Path.{◌≡◌, refl, subst}
use mathlib.Core.List.{List, [], ◌∷◌, ◌++◌, map}
use mathlib.Core.Bool.{Bool, true, false, cond, ◌&&◌}
use mathlib.Core.Option.{Option, none, some}
use Prim.Native.Nat.{ℕ, zero, suc, ◌+◌, ◌<◌}
use native.Mathlib.Nat.{add-zero, add-suc, suc-add, zero-add, le_of_suc-le-suc, not-suc-le-zero}
use native.Mathlib.Omega.{arith}
use lib.ListN.{length, replicate}
use lib.Dec.{eqb}
use borrow.Author.Tests.{eqb-true}
use Rattle.scope.specs.Types.{Ref, Ctor, Table, fields_of}
use Rattle.scope.specs.Constructors.{fields_at, ctors, alts, arity}
use Rattle.scope.specs.Simplify.{Literal, same_literal, wild, lit, Row, Matrix}
use Rattle.scope.specs.Walks.{row_if, specialize_row_by_ctor, specialize_row_by_literal, specialize_row_by_wildcard, specialize_by_ctor, specialize_by_literal, specialize_by_wildcard, seen, all_seen, column_type, Column, bare, part, full, column_at, column}
use Rattle.scope.proofs.Tests.{clash, both}
use Rattle.meaning.proofs.Fitting.{Suits, wilds, lits, cons, AllSuit, no_rows, also}

module _ {table : Table} where
  suit_append : {ts : List Ref} {a b : Matrix} → AllSuit table ts a → AllSuit table ts b → AllSuit table ts (a ++ b)
  suit_append no_rows k = k
  suit_append (also h a) k = also h (suit_append a k)

  suit_if : {ts : List Ref} {r : Row} (b : Bool) → (b ≡ true → Suits table ts r) → AllSuit table ts (row_if b r)
  suit_if true h = also (h refl) no_rows
  suit_if false h = no_rows

  pub wilds-suit : (fs : List Ref) {ts : List Ref} {r : Row} → Suits table ts r → Suits table (fs ++ ts) (replicate (length fs) wild ++ r)
  wilds-suit [] h = h
  wilds-suit (f ∷ fs) h = wilds (wilds-suit fs h)

  ctor-row-suits : {t : Ref} {ts : List Ref} {r : Row} (c : ℕ) → Suits table (t ∷ ts) r → AllSuit table (fields_at table t c ++ ts) (specialize_row_by_ctor c (arity table t c) r)
  ctor-row-suits {t} c (wilds h) = also (wilds-suit (fields_at table t c) h) no_rows
  ctor-row-suits c (lits e a h) = no_rows
  ctor-row-suits {t} {ts} c (cons {c = d} {r = r} l h) = suit_if (eqb d c) (λ e. subst (λ (x : ℕ). Suits table (fields_at table t x ++ ts) r) (eqb-true d c e) h)

  pub ctor-suits : {t : Ref} {ts : List Ref} {m : Matrix} (c : ℕ) → AllSuit table (t ∷ ts) m → AllSuit table (fields_at table t c ++ ts) (specialize_by_ctor c (arity table t c) m)
  ctor-suits c no_rows = no_rows
  ctor-suits c (also h a) = suit_append (ctor-row-suits c h) (ctor-suits c a)

  wild-row-suits : {t : Ref} {ts : List Ref} {r : Row} → Suits table (t ∷ ts) r → AllSuit table ts (specialize_row_by_wildcard r)
  wild-row-suits (wilds h) = also h no_rows
  wild-row-suits (lits e a h) = no_rows
  wild-row-suits (cons l h) = no_rows

  pub wild-suits : {t : Ref} {ts : List Ref} {m : Matrix} → AllSuit table (t ∷ ts) m → AllSuit table ts (specialize_by_wildcard m)
  wild-suits no_rows = no_rows
  wild-suits (also h a) = suit_append (wild-row-suits h) (wild-suits a)

  literal-row-suits : {t : Ref} {ts : List Ref} {r : Row} (l : Literal) → Suits table (t ∷ ts) r → AllSuit table ts (specialize_row_by_literal l r)
  literal-row-suits l (wilds h) = also h no_rows
  literal-row-suits l (lits {l = k} e a h) = suit_if (same_literal k l) (λ _. h)
  literal-row-suits l (cons c h) = no_rows

  pub literal-suits : {t : Ref} {ts : List Ref} {m : Matrix} (l : Literal) → AllSuit table (t ∷ ts) m → AllSuit table ts (specialize_by_literal l m)
  literal-suits l no_rows = no_rows
  literal-suits l (also h a) = suit_append (literal-row-suits l h) (literal-suits l a)

-- constructor numbers from k on
all_seen_lem : (m : Matrix) (k : ℕ) (cs : List Ctor) → all_seen m k (map fields_of cs) ≡ true → (i : ℕ) → i < length cs → seen m (k + i) ≡ true
all_seen_lem m k [] h i l = absurd (not-suc-le-zero l)
all_seen_lem m k (c ∷ cs) h zero l = rw add-zero (both (seen m k) (all_seen m (suc k) (map fields_of cs)) h).0
all_seen_lem m k (c ∷ cs) h (suc i) l = rw (add-suc, ← suc-add) (all_seen_lem m (suc k) cs (both (seen m k) (all_seen m (suc k) (map fields_of cs)) h).1 i (le_of_suc-le-suc l))

some-unseen : (m : Matrix) (k : ℕ) (cs : List Ctor) → all_seen m k (map fields_of cs) ≡ false → (i : ℕ) × (i < length cs) × (seen m (k + i) ≡ false)
some-unseen m k [] h = clash (cc)
some-unseen m k (c ∷ cs) h = go (seen m k) refl h (some-unseen m (suc k) cs)
  where
    go : (b : Bool) → seen m k ≡ b → (b && all_seen m (suc k) (map fields_of cs)) ≡ false → (all_seen m (suc k) (map fields_of cs) ≡ false → (i : ℕ) × (i < length cs) × (seen m (suc k + i) ≡ false)) → (i : ℕ) × (i < suc (length cs)) × (seen m (k + i) ≡ false)
    go true e h more = let r = more h in (suc r.0, omega (arith, r.1), rw (add-suc, ← suc-add) r.2)
    go false e h more = (0, omega arith, rw (add-zero, e))

-- what the first column, of type t, is found to be: no constructor is seen; one is not; all are, and there is one
pub data Finds (table : Table) (m : Matrix) (t : Ref) : Column → Type 0 where
  is_bare : ((c : ℕ) → seen m c ≡ false) → Finds table m t bare
  is_part : (c : ℕ) → c < length (ctors table t) → seen m c ≡ false → Finds table m t (part t)
  is_full : 0 < length (ctors table t) → ((c : ℕ) → c < length (ctors table t) → seen m c ≡ true) → Finds table m t (full t)

-- the type of a column, by its rows
data Kinds (table : Table) (m : Matrix) (t : Ref) : Option Ref → Type 0 where
  no_ctor : ((c : ℕ) → seen m c ≡ false) → Kinds table m t none
  a_ctor : 0 < length (ctors table t) → Kinds table m t (some t)

column-kind : {table : Table} {t : Ref} {ts : List Ref} {m : Matrix} → AllSuit table (t ∷ ts) m → Kinds table m t (column_type m)
column-kind no_rows = no_ctor (λ c. refl)
column-kind {table} {t} (also (wilds h) a) = go (column-kind a)
  where
    go : {m : Matrix} {o : Option Ref} {r : Row} → Kinds table m t o → Kinds table ((wild ∷ r) ∷ m) t o
    go (no_ctor f) = no_ctor f
    go (a_ctor l) = a_ctor l
column-kind {table} {t} (also (lits {l = l} e k h) a) = go (column-kind a)
  where
    go : {m : Matrix} {o : Option Ref} {r : Row} → Kinds table m t o → Kinds table ((lit l ∷ r) ∷ m) t o
    go (no_ctor f) = no_ctor f
    go (a_ctor l) = a_ctor l
column-kind (also (cons l h) a) = a_ctor (omega arith)

pub column_finds : {table : Table} {t : Ref} {ts : List Ref} {m : Matrix} → AllSuit table (t ∷ ts) m → Finds table m t (column table m)
unfolding column
column_finds {table} {t} {ts} {m} a = go (column-kind a)
  where
    test : (b : Bool) → all_seen m 0 (alts table t) ≡ b → 0 < length (ctors table t) → Finds table m t (cond b (full t) (part t))
    test true e l = is_full l (λ c h. rw zero-add at (all_seen_lem m 0 (ctors table t) e c h))
    test false e l = let u = some-unseen m 0 (ctors table t) e in is_part u.0 u.1 (rw zero-add at u.2)

    go : {o : Option Ref} → Kinds table m t o → Finds table m t (column_at table m o)
    go (no_ctor f) = is_bare f
    go (a_ctor l) = test (all_seen m 0 (alts table t)) refl l
