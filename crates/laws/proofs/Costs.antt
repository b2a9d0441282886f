-- What the fuel of the walks rests on: every call that a step makes costs less than the call itself.
use mathlib.Core.Path.{◌≡◌, refl}
use mathlib.Core.List.{List, [], ◌∷◌, ◌++◌, map}
use mathlib.Core.Bool.{Bool, true, false, ◌||◌}
use Prim.Native.Nat.{ℕ, zero, suc, ◌+◌, ◌≤◌, ◌<◌}
use native.Mathlib.Nat.{suc-mul, mul-le-mul_right}
use native.Mathlib.Omega.{arith}
use lib.ListN.{length, get_or, replicate}
use lib.Dec.{eqb}
use Rattle.scope.specs.Lists.{sum, flatten}
use Rattle.scope.specs.Types.{Ref, Ctor, Ty, integer, byte_string, opaque, list, tuple, pair, dat, Table, fields_of}
use Rattle.scope.specs.Constructors.{built, ctors_at, ctors, arity}
use Rattle.scope.specs.Simplify.{Literal, same_literal, wild, lit, con, Row, Matrix}
use Rattle.scope.specs.Walks.{row_if, specialize_row_by_ctor, specialize_row_by_literal, specialize_row_by_wildcard, each_row, specialize_by_ctor, specialize_by_literal, specialize_by_wildcard, begins_with, seen, longest, widest, ctors_in, weight, cost}
use Rattle.scope.proofs.Tests.{clash}

-- Widths
same-longest : (t : Ref) (ty : Ty) → longest (map fields_of (ctors_at t ty)) ≡ longest (map fields_of (ctors_at 0 ty))
same-longest t integer = refl
same-longest t byte_string = refl
same-longest t opaque = refl
same-longest t (list e) = refl
same-longest t (tuple ts) = refl
same-longest t (pair a b) = refl
same-longest t (dat cs) = refl

longest-left : (a b : List (List Ref)) → longest a ≤ longest (a ++ b)
longest-left [] b = omega arith
longest-left (f ∷ a) b = omega (arith, longest-left a b)

longest-right : (a b : List (List Ref)) → longest b ≤ longest (a ++ b)
longest-right [] b = omega arith
longest-right (f ∷ a) b = omega (arith, longest-right a b)

pub longest-at : (table : Table) (i t : ℕ) → longest (map fields_of (ctors_at t (get_or table i opaque))) ≤ widest table
longest-at [] i t = omega arith
longest-at (ty ∷ table) zero t = rw (same-longest t ty) (longest-left (map fields_of (ctors_at 0 ty)) (flatten (map (λ u. map fields_of (ctors_at 0 u)) table)))
longest-at (ty ∷ table) (suc i) t = omega (arith, longest-at table i t, longest-right (map fields_of (ctors_at 0 ty)) (flatten (map (λ u. map fields_of (ctors_at 0 u)) table)))

-- Weights
pub sum_append : {A : Type 0} (f : A → ℕ) (a b : List A) → sum (map f (a ++ b)) ≡ sum (map f a) + sum (map f b)
sum_append f [] b = omega arith
sum_append f (x ∷ a) b = omega (arith, sum_append f a b)

pub wilds_weigh : (a : ℕ) (r : Row) → ctors_in (replicate a wild ++ r) ≡ ctors_in r
wilds_weigh zero r = refl
wilds_weigh (suc a) r = omega (arith, wilds_weigh a r)

each_weigh : (f : Row → Matrix) → ((r : Row) → weight (f r) ≤ ctors_in r) → (m : Matrix) → weight (each_row f m) ≤ weight m
each_weigh f h [] = omega arith
each_weigh f h (r ∷ m) = omega (arith, sum_append ctors_in (f r) (each_row f m), h r, each_weigh f h m)

row_if_weigh : (b : Bool) (r : Row) → weight (row_if b r) ≤ ctors_in r
row_if_weigh true r = omega arith
row_if_weigh false r = omega arith

pub wildcard_weigh : (m : Matrix) → weight (specialize_by_wildcard m) ≤ weight m
wildcard_weigh m = each_weigh specialize_row_by_wildcard row m
  where
    row : (r : Row) → weight (specialize_row_by_wildcard r) ≤ ctors_in r
    row [] = omega arith
    row (wild ∷ r) = omega arith
    row (lit l ∷ r) = omega arith
    row (con t c ∷ r) = omega arith

pub literal_weigh : (l : Literal) (m : Matrix) → weight (specialize_by_literal l m) ≤ weight m
literal_weigh l m = each_weigh (specialize_row_by_literal l) row m
  where
    row : (r : Row) → weight (specialize_row_by_literal l r) ≤ ctors_in r
    row [] = omega arith
    row (wild ∷ r) = omega arith
    row (lit k ∷ r) = omega (arith, row_if_weigh (same_literal k l) r)
    row (con t c ∷ r) = omega arith

ctor-row_weigh : (c a : ℕ) (r : Row) → weight (specialize_row_by_ctor c a r) ≤ ctors_in r
ctor-row_weigh c a [] = omega arith
ctor-row_weigh c a (wild ∷ r) = omega (arith, wilds_weigh a r)
ctor-row_weigh c a (lit l ∷ r) = omega arith
ctor-row_weigh c a (con t d ∷ r) = omega (arith, row_if_weigh (eqb d c) r)

pub ctor_weigh : (c a : ℕ) (m : Matrix) → weight (specialize_by_ctor c a m) ≤ weight m
ctor_weigh c a m = each_weigh (specialize_row_by_ctor c a) (ctor-row_weigh c a) m

-- a row that begins with a constructor loses it, or is dropped
begins_weigh : (c a : ℕ) (r : Row) → begins_with c r ≡ true → weight (specialize_row_by_ctor c a r) < ctors_in r
begins_weigh c a [] h = clash (cc)
begins_weigh c a (wild ∷ r) h = clash (cc)
begins_weigh c a (lit l ∷ r) h = clash (cc)
begins_weigh c a (con t d ∷ r) h = omega (arith, row_if_weigh (eqb d c) r)

pub seen_weigh : (c a : ℕ) (m : Matrix) → seen m c ≡ true → weight (specialize_by_ctor c a m) < weight m
seen_weigh c a [] h = clash (cc)
seen_weigh c a (r ∷ m) h = go (begins_with c r) refl h (λ e. seen_weigh c a m e)
  where
    go : (b : Bool) → begins_with c r ≡ b → (b || seen m c) ≡ true → (seen m c ≡ true → weight (specialize_by_ctor c a m) < weight m) → weight (specialize_by_ctor c a (r ∷ m)) < weight (r ∷ m)
    go true e h' deeper = omega (arith, sum_append ctors_in (specialize_row_by_ctor c a r) (specialize_by_ctor c a m), begins_weigh c a r e, ctor_weigh c a m)
    go false e h' deeper = omega (arith, sum_append ctors_in (specialize_row_by_ctor c a r) (specialize_by_ctor c a m), ctor-row_weigh c a r, deeper h')

-- Costs: every call that a step makes costs less
pub default_cost : (table : Table) (n : ℕ) (m m' : Matrix) → weight m' ≤ weight m → cost table n m' < cost table (suc n) m
unfolding cost
default_cost table n m m' h = omega (arith, mul-le-mul_right (suc (widest table)) h)

pub ctor-cost : (table : Table) (n a : ℕ) (m m' : Matrix) → a ≤ widest table → weight m' < weight m → cost table (a + n) m' < cost table (suc n) m
unfolding cost
ctor-cost table n a m m' ha h = omega (arith, mul-le-mul_right (suc (widest table)) h, suc-mul (weight m') (suc (widest table)))

field-narrow : (cs : List Ctor) (c : ℕ) → length (fields_of (get_or cs c (built [] []))) ≤ longest (map fields_of cs)
field-narrow [] c = omega arith
field-narrow (x ∷ cs) zero = omega arith
field-narrow (x ∷ cs) (suc c) = omega (arith, field-narrow cs c)

pub arity-narrow : (table : Table) (t : Ref) (c : ℕ) → arity table t c ≤ widest table
arity-narrow table t c = omega (arith, field-narrow (ctors table t) c, longest-at table t t)
