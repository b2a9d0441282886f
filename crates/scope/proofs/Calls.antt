-- The bounds on calls, from the two walks as they stand: by induction on the fuel, since a walk that runs out of it makes no more calls.
use mathlib.Core.List.{List, [], ◌∷◌, ◌++◌, map}
use mathlib.Core.Path.{◌≡◌, refl}
use mathlib.Core.Bool.{Bool, true, false, cond}
use mathlib.Core.Option.{Option, none, some}
use Prim.Native.Nat.{ℕ, zero, suc, ◌+◌, ◌≤◌, ◌<◌}
use native.Mathlib.Omega.{arith}
use lib.ListN.{length, get_or, replicate}
use Rattle.scope.specs.Types.{Ref, Ctor, Table, fields_of}
use Rattle.scope.specs.Constructors.{built, ctors, alts, arity}
use Rattle.scope.specs.Simplify.{wild, Row, Matrix}
use Rattle.scope.specs.Walks.{specialize_by_ctor, specialize_by_literal, specialize_by_wildcard, all_seen, column_type, full, part, column_at, column}
use Rattle.scope.specs.Walks.{Walk, try_each, gather, useful_wild, useful_head, missing_column, is_useful_step, collect_missing_step, is_useful_in, collect_missing_in, cost, is_useful, collect_missing_patterns}
use Rattle.scope.specs.Calls.{Counts, nothing, a_literal, a_constructor, Flat, Begins, with_wildcard, with_constructor, AllBegin, FewCalls}

-- each call takes one constructor or literal off a row without wildcards, and makes one call
solid_in : (table : Table) (fuel n N : ℕ) (m : Matrix) (q : Row) → Counts 0 N q → (is_useful_in table fuel n m q).calls ≤ N + 1
unfolding is_useful_in is_useful_step
solid_in table zero n N m q h = omega arith
solid_in table (suc fuel) zero N [] q h = omega arith
solid_in table (suc fuel) zero N (r ∷ m) q h = omega arith
solid_in table (suc fuel) (suc n) N [] q h = omega arith
solid_in table (suc fuel) (suc n) _ (r ∷ m) _ nothing = omega arith
solid_in table (suc fuel) (suc n) _ (r ∷ m) _ (a_literal {n = N} {l = l} {r = q} h) = omega (arith, solid_in table fuel n N (specialize_by_literal l (r ∷ m)) q h)
solid_in table (suc fuel) (suc n) _ (r ∷ m) _ (a_constructor {n = N} {t = t} {c = c} {r = q} h) = omega (arith, solid_in table fuel (arity table t c + n) N (specialize_by_ctor c (arity table t c) (r ∷ m)) q h)

-- a row of no pattern: one call
none_useful : (table : Table) (fuel : ℕ) (m : Matrix) (q : Row) → (is_useful_in table fuel 0 m q).calls ≤ 1
unfolding is_useful_in is_useful_step
none_useful table zero m q = omega arith
none_useful table (suc fuel) [] q = omega arith
none_useful table (suc fuel) (r ∷ m) q = omega arith

none-missing : (table : Table) (fuel : ℕ) (m : Matrix) → (collect_missing_in table fuel 0 m).calls ≤ 1
unfolding collect_missing_in collect_missing_step
none-missing table zero m = omega arith
none-missing table (suc fuel) [] = omega arith
none-missing table (suc fuel) (r ∷ m) = omega arith

-- constructors without fields
abbrev pub AllBare : List Ctor → Type 0
AllBare cs = (c : ℕ) → c < length cs → length (fields_of (get_or cs c (built [] []))) ≡ 0

pub next-bare : (x : Ctor) (cs : List Ctor) → AllBare (x ∷ cs) → AllBare cs
next-bare x cs h c l = h (suc c) (omega arith)

-- past the last constructor there are no fields either
bare-at : (cs : List Ctor) → AllBare cs → (c : ℕ) → length (fields_of (get_or cs c (built [] []))) ≡ 0
bare-at [] h c = refl
bare-at (x ∷ cs) h zero = h 0 (omega arith)
bare-at (x ∷ cs) h (suc c) = bare-at cs (next-bare x cs h) c

-- one call for each of them
try_calls : (f : ℕ → ℕ → Walk Bool) → ((c : ℕ) → (f c 0).calls ≤ 1) → (c : ℕ) (cs : List Ctor) → AllBare cs → (try_each f c (map fields_of cs)).calls ≤ length cs
try_calls f h c [] b = omega arith
try_calls f h c (x ∷ cs) b = rw (b 0 (omega arith)) (go (f c 0).result refl (try_calls f h (suc c) cs (next-bare x cs b)))
  where
    go : (y : Bool) → (f c 0).result ≡ y → (try_each f (suc c) (map fields_of cs)).calls ≤ length cs → (try_each f c ([] ∷ map fields_of cs)).calls ≤ suc (length cs)
    go true e more = rw e (omega (arith, h c))
    go false e more = rw e (omega (arith, h c))

gather-calls : (f : ℕ → ℕ → Walk Matrix) → ((c : ℕ) → (f c 0).calls ≤ 1) → (t : Ref) (c : ℕ) (cs : List Ctor) → AllBare cs → (gather f t c (map fields_of cs)).calls ≤ length cs
gather-calls f h t c [] b = omega arith
gather-calls f h t c (x ∷ cs) b = rw (b 0 (omega arith)) (omega (arith, h c, gather-calls f h t (suc c) cs (next-bare x cs b)))

-- the type of a column of such rows is t, if it has one
data OneType (t : Ref) : Option Ref → Type 0 where
  no_type : OneType t none
  that_type : OneType t (some t)

column-type : {t : Ref} (m : Matrix) → AllBegin t m → OneType t (column_type m)
column-type [] h = no_type
column-type {t} (r ∷ m) h = go (h 0 (omega arith)) (column-type m (λ i l. h (suc i) (omega arith)))
  where
    go : {r : Row} → Begins t r → OneType t (column_type m) → OneType t (column_type (r ∷ m))
    go with_wildcard o = o
    go with_constructor o = that_type

-- the constructors of such a type
pub all-bare : {table : Table} {t : Ref} {k : ℕ} → Flat table t k → AllBare (ctors table t)
all-bare flat c l = flat.bare c (omega (arith, flat.many))

module _ (table : Table) (t : Ref) (k : ℕ) (flat : Flat table t k) (some-ctor : 0 < k) (fuel : ℕ) where
  wild-calls : (m : Matrix) (q : Row) {o : Option Ref} → OneType t o → (useful_wild table (is_useful_in table fuel) (column_at table m o) 0 m q).calls ≤ k
  wild-calls m q no_type = omega (arith, none_useful table fuel (specialize_by_wildcard m) q)
  wild-calls m q that_type = go (all_seen m 0 (alts table t))
    where
      one : (is_useful_in table fuel 0 (specialize_by_wildcard m) q).calls ≤ 1
      one = none_useful table fuel (specialize_by_wildcard m) q

      each : (try_each (λ c a. is_useful_in table fuel (a + 0) (specialize_by_ctor c a m) (replicate a wild ++ q)) 0 (alts table t)).calls ≤ length (ctors table t)
      each = try_calls (λ c a. is_useful_in table fuel (a + 0) (specialize_by_ctor c a m) (replicate a wild ++ q)) (λ c. none_useful table fuel (specialize_by_ctor c 0 m) q) 0 (ctors table t) (all-bare flat)

      go : (b : Bool) → (useful_wild table (is_useful_in table fuel) (cond b (full t) (part t)) 0 m q).calls ≤ k
      go true = omega (arith, flat.many, one, each)
      go false = omega (arith, flat.many, one, each)

  head-calls : (m : Matrix) {q : Row} → AllBegin t m → Begins t q → (useful_head table (is_useful_in table fuel) 0 m q).calls ≤ k
  unfolding column
  head-calls m a (with_wildcard {r = q}) = wild-calls m q (column-type m a)
  head-calls m a (with_constructor {c = c} {r = q}) = rw (bare-at (ctors table t) (all-bare flat) c) (omega (arith, none_useful table fuel (specialize_by_ctor c 0 m) q))

  column-calls : (m : Matrix) {o : Option Ref} → OneType t o → (missing_column table (collect_missing_in table fuel) (column_at table m o) 0 m).calls ≤ k
  column-calls m no_type = omega (arith, none-missing table fuel (specialize_by_wildcard m))
  column-calls m that_type = go (all_seen m 0 (alts table t))
    where
      one : (collect_missing_in table fuel 0 (specialize_by_wildcard m)).calls ≤ 1
      one = none-missing table fuel (specialize_by_wildcard m)

      each : (gather (λ c a. collect_missing_in table fuel (a + 0) (specialize_by_ctor c a m)) t 0 (alts table t)).calls ≤ length (ctors table t)
      each = gather-calls (λ c a. collect_missing_in table fuel (a + 0) (specialize_by_ctor c a m)) (λ c. none-missing table fuel (specialize_by_ctor c 0 m)) t 0 (ctors table t) (all-bare flat)

      go : (b : Bool) → (missing_column table (collect_missing_in table fuel) (cond b (full t) (part t)) 0 m).calls ≤ k
      go true = omega (arith, flat.many, one, each)
      go false = omega (arith, flat.many, one, each)

  flat_useful : (m : Matrix) (q : Row) → AllBegin t m → Begins t q → (is_useful_in table (suc fuel) 1 m q).calls ≤ k + 1
  unfolding is_useful_in is_useful_step
  flat_useful [] q a b = omega arith
  flat_useful (r ∷ m) q a b = omega (arith, head-calls (r ∷ m) a b)

  flat_missing_lem : (m : Matrix) → AllBegin t m → (collect_missing_in table (suc fuel) 1 m).calls ≤ k + 1
  unfolding collect_missing_in collect_missing_step column
  flat_missing_lem [] a = omega arith
  flat_missing_lem (r ∷ m) a = omega (arith, column-calls (r ∷ m) (column-type (r ∷ m) a))

pub few-calls : FewCalls
unfolding is_useful collect_missing_patterns
few-calls = record {
  solid = λ table n N m q. solid_in table (suc (cost table n (q ∷ m))) n N m q;
  flat_row = λ table t k f s m q. flat_useful table t k f s (cost table 1 (q ∷ m)) m q;
  flat_missing = λ table t k f s m. flat_missing_lem table t k f s (cost table 1 m) m;
}
