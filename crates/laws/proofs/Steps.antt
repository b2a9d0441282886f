-- The one-step laws: each walk is one step whose calls are the walk itself. No law mentions fuel.
use mathlib.Core.Path.{◌≡◌, refl, ap, subst}
use mathlib.Core.List.{List, [], ◌∷◌, ◌++◌}
use mathlib.Core.Bool.{Bool, true, false, cond}
use mathlib.Core.Option.{Option, none, some}
use Prim.Native.Nat.{ℕ, zero, suc, ◌+◌, ◌*◌, ◌≤◌, ◌<◌}
use native.Mathlib.Omega.{arith}
use lib.ListN.{length, replicate}
use Rattle.scope.specs.Types.{Ref, Table}
use Rattle.scope.specs.Constructors.{alts, arity}
use Rattle.scope.specs.Simplify.{wild, lit, con, Row, Matrix}
use Rattle.scope.specs.Walks.{specialize_by_ctor, specialize_by_literal, specialize_by_wildcard, seen, all_seen, column_type, Column, bare, part, full, column_at, column}
use Rattle.scope.specs.Walks.{Walk, holding, try_each, gather, useful_wild, useful_head, is_useful_step, missing_column, collect_missing_step, is_useful_in, collect_missing_in, longest, widest, cost, is_useful, collect_missing_patterns}
use Rattle.scope.proofs.Tests.{clash, both}
use Rattle.laws.proofs.Costs.{wilds_weigh, wildcard_weigh, literal_weigh, ctor_weigh, seen_weigh, default_cost, ctor-cost, longest-at, arity-narrow}

-- what a full column says of each constructor: it is seen, and it is no wider than the widest
record Listed (table : Table) (m : Matrix) (c : ℕ) (ks : List (List Ref)) : Type 0 where
  all : all_seen m c ks ≡ true
  narrow : longest ks ≤ widest table

full-listed : (table : Table) (m : Matrix) (t : Ref) → column table m ≡ full t → Listed table m 0 (alts table t)
unfolding column
full-listed table m t h = go (column_type m) h
  where
    pick : (u : Ref) (b : Bool) → cond b (full u) (part u) ≡ full t → (b ≡ true) × (u ≡ t)
    pick u true e = (refl, cc)
    pick u false e = clash (cc)

    go : (o : Option Ref) → column_at table m o ≡ full t → Listed table m 0 (alts table t)
    go none e = clash (cc)
    go (some u) e =
        let p = pick u (all_seen m 0 (alts table u)) e in
        record { all = subst (λ (x : Ref). all_seen m 0 (alts table x) ≡ true) p.1 p.0; narrow = longest-at table t t }

-- two ways to go on that agree on what the step asks give the same
module _ (table : Table) (m : Matrix) where
  gather-agrees : (f g : ℕ → ℕ → Walk Matrix) → ((c a : ℕ) → seen m c ≡ true → a ≤ widest table → f c a ≡ g c a)
      → (t c : ℕ) (ks : List (List Ref)) → all_seen m c ks ≡ true → longest ks ≤ widest table → gather f t c ks ≡ gather g t c ks
  gather-agrees f g h t c [] s w = refl
  gather-agrees f g h t c (fields ∷ ks) s w =
      let p = both (seen m c) (all_seen m (suc c) ks) s in
      rw (h c (length fields) p.0 (omega arith), gather-agrees f g h t (suc c) ks p.1 (omega arith))

  try_agrees : (f g : ℕ → ℕ → Walk Bool) → ((c a : ℕ) → seen m c ≡ true → a ≤ widest table → f c a ≡ g c a)
      → (c : ℕ) (ks : List (List Ref)) → all_seen m c ks ≡ true → longest ks ≤ widest table → try_each f c ks ≡ try_each g c ks
  try_agrees f g h c [] s w = refl
  try_agrees f g h c (fields ∷ ks) s w =
      let p = both (seen m c) (all_seen m (suc c) ks) s in
      rw (h c (length fields) p.0 (omega arith), try_agrees f g h (suc c) ks p.1 (omega arith))

module _ (table : Table) (f g : ℕ → Matrix → Walk Matrix) where
  column-agrees : (n : ℕ) (m : Matrix) → ((n' : ℕ) (m' : Matrix) → cost table n' m' < cost table (suc n) m → f n' m' ≡ g n' m')
      → (k : Column) → column table m ≡ k → missing_column table f k n m ≡ missing_column table g k n m
  column-agrees n m h bare e = rw (h n (specialize_by_wildcard m) (default_cost table n m (specialize_by_wildcard m) (wildcard_weigh m)))
  column-agrees n m h (part t) e = rw (h n (specialize_by_wildcard m) (default_cost table n m (specialize_by_wildcard m) (wildcard_weigh m)))
  column-agrees n m h (full t) e =
      let l = full-listed table m t e in
      gather-agrees table m _ _ (λ c a s w. h (a + n) (specialize_by_ctor c a m) (ctor-cost table n a m (specialize_by_ctor c a m) w (seen_weigh c a m s))) t 0 (alts table t) l.all l.narrow

  missing-agrees : (n : ℕ) (m : Matrix) → ((n' : ℕ) (m' : Matrix) → cost table n' m' < cost table n m → f n' m' ≡ g n' m')
      → collect_missing_step table f n m ≡ collect_missing_step table g n m
  unfolding collect_missing_step
  missing-agrees n [] h = refl
  missing-agrees zero (r ∷ m) h = refl
  missing-agrees (suc n) (r ∷ m) h = ap (holding (suc (length m) * suc n)) (column-agrees n (r ∷ m) h (column table (r ∷ m)) refl)

pub missing_fuel : (table : Table) (k j n : ℕ) (m : Matrix) → cost table n m < k → cost table n m < j → collect_missing_in table k n m ≡ collect_missing_in table j n m
unfolding collect_missing_in
missing_fuel table zero j n m h i = absurd (omega arith)
missing_fuel table (suc k) zero n m h i = absurd (omega arith)
missing_fuel table (suc k) (suc j) n m h i = missing-agrees table (collect_missing_in table k) (collect_missing_in table j) n m (λ n' m' l. missing_fuel table k j n' m' (omega arith) (omega arith))

pub missing_law : (table : Table) (n : ℕ) (m : Matrix) → collect_missing_patterns table n m ≡ collect_missing_step table (collect_missing_patterns table) n m
unfolding collect_missing_patterns collect_missing_in
missing_law table n m = missing-agrees table (collect_missing_in table (cost table n m)) (collect_missing_patterns table) n m (λ n' m' l. missing_fuel table (cost table n m) (suc (cost table n' m')) n' m' l (omega arith))

-- Usefulness, in the same steps
module _ (table : Table) (f g : ℕ → Matrix → Row → Walk Bool) where
  Agree : ℕ → Matrix → Row → Type 0
  Agree n m q = (n' : ℕ) (m' : Matrix) (q' : Row) → cost table n' (q' ∷ m') < cost table n (q ∷ m) → f n' m' q' ≡ g n' m' q'

  wild-agrees : (n : ℕ) (m : Matrix) (q : Row) → Agree (suc n) m (wild ∷ q)
      → (k : Column) → column table m ≡ k → useful_wild table f k n m q ≡ useful_wild table g k n m q
  unfolding Agree
  wild-agrees n m q h bare e = h n (specialize_by_wildcard m) q (default_cost table n ((wild ∷ q) ∷ m) (q ∷ specialize_by_wildcard m) (omega (arith, wildcard_weigh m)))
  wild-agrees n m q h (part t) e = h n (specialize_by_wildcard m) q (default_cost table n ((wild ∷ q) ∷ m) (q ∷ specialize_by_wildcard m) (omega (arith, wildcard_weigh m)))
  wild-agrees n m q h (full t) e =
      let l = full-listed table m t e in
      try_agrees table m _ _ (λ c a s w. h (a + n) (specialize_by_ctor c a m) (replicate a wild ++ q) (ctor-cost table n a ((wild ∷ q) ∷ m) ((replicate a wild ++ q) ∷ specialize_by_ctor c a m) w (omega (arith, wilds_weigh a q, seen_weigh c a m s)))) 0 (alts table t) l.all l.narrow

  head-agrees : (n : ℕ) (m : Matrix) (q : Row) → Agree (suc n) m q → useful_head table f n m q ≡ useful_head table g n m q
  unfolding Agree
  head-agrees n m [] h = refl
  head-agrees n m (wild ∷ q) h = wild-agrees n m q h (column table m) refl
  head-agrees n m (lit l ∷ q) h = h n (specialize_by_literal l m) q (default_cost table n ((lit l ∷ q) ∷ m) (q ∷ specialize_by_literal l m) (omega (arith, literal_weigh l m)))
  head-agrees n m (con t c ∷ q) h =
      let a = arity table t c in
      h (a + n) (specialize_by_ctor c a m) q (ctor-cost table n a ((con t c ∷ q) ∷ m) (q ∷ specialize_by_ctor c a m) (arity-narrow table t c) (omega (arith, ctor_weigh c a m)))

  useful_agrees : (n : ℕ) (m : Matrix) (q : Row) → Agree n m q → is_useful_step table f n m q ≡ is_useful_step table g n m q
  unfolding is_useful_step
  useful_agrees n [] q h = refl
  useful_agrees zero (r ∷ m) q h = refl
  useful_agrees (suc n) (r ∷ m) q h = ap (holding (suc (suc (length m)) * suc n)) (head-agrees n (r ∷ m) q h)

pub useful_fuel : (table : Table) (k j n : ℕ) (m : Matrix) (q : Row) → cost table n (q ∷ m) < k → cost table n (q ∷ m) < j → is_useful_in table k n m q ≡ is_useful_in table j n m q
unfolding is_useful_in Agree
useful_fuel table zero j n m q h i = absurd (omega arith)
useful_fuel table (suc k) zero n m q h i = absurd (omega arith)
useful_fuel table (suc k) (suc j) n m q h i = useful_agrees table (is_useful_in table k) (is_useful_in table j) n m q (λ n' m' q' l. useful_fuel table k j n' m' q' (omega arith) (omega arith))

pub useful_law : (table : Table) (n : ℕ) (m : Matrix) (q : Row) → is_useful table n m q ≡ is_useful_step table (is_useful table) n m q
unfolding is_useful is_useful_in Agree
useful_law table n m q = useful_agrees table (is_useful_in table (cost table n (q ∷ m))) (is_useful table) n m q (λ n' m' q' l. useful_fuel table (cost table n (q ∷ m)) (suc (cost table n' (q' ∷ m'))) n' m' q' l (omega arith))
