-- The two walks, with the calls that they make and the most cells that open calls hold, as the source would run them without limits.
use Rattle.std.specs.Prelude.{List, [], ◌∷◌, ◌++◌, map, Bool, true, false, cond, ◌&&◌, ◌||◌, ℕ, zero, suc, ◌+◌, ◌*◌, max, length, replicate, eqb}
use Rattle.std.proofs.Math.Option.{Option, none, some}
use Rattle.scope.specs.Lists.{sum, flatten}
use Rattle.scope.specs.Types.{Ref, Table, fields_of}
use Rattle.scope.specs.Constructors.{ctors_at, arity, alts}
use Rattle.scope.specs.Simplify.{Literal, Node, wild, lit, con, Row, Matrix, same_literal}

-- A specialised row is one row, if the test passes, or none
abbrev pub row_if : Bool → Row → Matrix
row_if true r = r ∷ []
row_if false r = []

-- `specialize_row_by_ctor`, by constructor c of arity a: its arguments, or as many wildcards
abbrev pub specialize_row_by_ctor : ℕ → ℕ → Row → Matrix
specialize_row_by_ctor c a [] = []
specialize_row_by_ctor c a (wild ∷ r) = (replicate a wild ++ r) ∷ []
specialize_row_by_ctor c a (lit l ∷ r) = []
specialize_row_by_ctor c a (con t d ∷ r) = row_if (eqb d c) r

-- `specialize_row_by_literal`
abbrev pub specialize_row_by_literal : Literal → Row → Matrix
specialize_row_by_literal l [] = []
specialize_row_by_literal l (wild ∷ r) = r ∷ []
specialize_row_by_literal l (lit k ∷ r) = row_if (same_literal k l) r
specialize_row_by_literal l (con t d ∷ r) = []

-- `specialize_row_by_wildcard`: only rows that begin with a wildcard stay
abbrev pub specialize_row_by_wildcard : Row → Matrix
specialize_row_by_wildcard [] = []
specialize_row_by_wildcard (wild ∷ r) = r ∷ []
specialize_row_by_wildcard (lit k ∷ r) = []
specialize_row_by_wildcard (con t d ∷ r) = []

-- what each row becomes, in order
abbrev pub each_row : (Row → Matrix) → Matrix → Matrix
each_row f [] = []
each_row f (r ∷ m) = f r ++ each_row f m

-- `specialize_rows_by_ctor`
abbrev pub specialize_by_ctor : ℕ → ℕ → Matrix → Matrix
specialize_by_ctor c a m = each_row (specialize_row_by_ctor c a) m

-- `specialize_rows_by_literal`
abbrev pub specialize_by_literal : Literal → Matrix → Matrix
specialize_by_literal l m = each_row (specialize_row_by_literal l) m

-- `specialize_rows_by_wildcard`
abbrev pub specialize_by_wildcard : Matrix → Matrix
specialize_by_wildcard m = each_row specialize_row_by_wildcard m

-- does a row begin with constructor c
abbrev pub begins_with : ℕ → Row → Bool
begins_with c [] = false
begins_with c (wild ∷ r) = false
begins_with c (lit l ∷ r) = false
begins_with c (con t d ∷ r) = eqb d c

-- is constructor c seen in the first column
abbrev pub seen : Matrix → ℕ → Bool
seen [] c = false
seen (r ∷ m) c = begins_with c r || seen m c

-- are all constructors seen, from number c on
abbrev pub all_seen : Matrix → ℕ → List (List Ref) → Bool
all_seen m c [] = true
all_seen m c (fields ∷ ks) = seen m c && all_seen m (suc c) ks

-- the type of the first column, by the first constructor in it; a column of literals only has seen none
abbrev pub column_type : Matrix → Option Ref
column_type [] = none
column_type ([] ∷ m) = column_type m
column_type ((wild ∷ r) ∷ m) = column_type m
column_type ((lit l ∷ r) ∷ m) = column_type m
column_type ((con t c ∷ r) ∷ m) = some t

-- what `collect_ctors` and `is_complete` find in the first column: no constructor; some but not all of type t; all of type t
pub data Column : Type 0 where
  bare : Column
  part full : Ref → Column

-- the same, by the column's type if it has one
abbrev pub column_at : Table → Matrix → Option Ref → Column
column_at table m none = bare
column_at table m (some t) = cond (all_seen m 0 (alts table t)) (full t) (part t)

-- the first column
unfoldable pub column : Table → Matrix → Column
column table m = column_at table m (column_type m)

-- What a walk gives: its result, the calls it made, and the most cells that its open calls held at one time
pub record Walk (A : Type 0) : Type 0 where
  pub result : A
  pub calls : ℕ
  pub peak : ℕ

-- no call
abbrev pub plain : {A : Type 0} → A → Walk A
plain a = record { result = a; calls = 0; peak = 0 }

-- A call is one entry; it holds its cells while w runs in it
abbrev pub holding : {A : Type 0} → ℕ → Walk A → Walk A
holding cells w = record { result = w.result; calls = suc w.calls; peak = cells + w.peak }

-- the same walk with another result
abbrev pub turned : {A B : Type 0} → (A → B) → Walk A → Walk B
turned f w = record { result = f w.result; calls = w.calls; peak = w.peak }

-- w, then v
abbrev pub joined : {A : Type 0} → (A → A → A) → Walk A → Walk A → Walk A
joined f w v = record { result = f w.result v.result; calls = w.calls + v.calls; peak = max w.peak v.peak }

-- tries each constructor in declared order, from number c on, and stops at the first yes
abbrev pub try_each : (ℕ → ℕ → Walk Bool) → ℕ → List (List Ref) → Walk Bool
try_each f c [] = plain false
try_each f c (fields ∷ ks) =
    let w = f c (length fields) in
    let more = joined ◌||◌ w (try_each f (suc c) ks) in
    cond w.result w more

-- One call of `is_useful`, of the new row q of n patterns and the rows m; `again` is the call that it makes
module _ (table : Table) (again : ℕ → Matrix → Row → Walk Bool) where
  -- A head wildcard, by what is seen in the column
  abbrev pub useful_wild : Column → ℕ → Matrix → Row → Walk Bool
  useful_wild bare n m q = again n (specialize_by_wildcard m) q
  useful_wild (part t) n m q = again n (specialize_by_wildcard m) q
  useful_wild (full t) n m q = try_each (λ c a. again (a + n) (specialize_by_ctor c a m) (replicate a wild ++ q)) 0 (alts table t)

  -- A head constructor or literal specialises by itself
  abbrev pub useful_head : ℕ → Matrix → Row → Walk Bool
  useful_head n m [] = plain false
  useful_head n m (con t c ∷ q) = again (arity table t c + n) (specialize_by_ctor c (arity table t c) m) q
  useful_head n m (lit l ∷ q) = again n (specialize_by_literal l m) q
  useful_head n m (wild ∷ q) = useful_wild (column table m) n m q

  -- A matrix without rows makes any row useful, the empty row too; else an empty row is not useful
  abbrev pub useful_body : ℕ → Matrix → Row → Walk Bool
  useful_body n [] q = plain true
  useful_body zero (r ∷ m) q = plain false
  useful_body (suc n) (r ∷ m) q = useful_head n (r ∷ m) q

  -- The cells held are (rows + 1) times the row's length
  unfoldable pub is_useful_step : ℕ → Matrix → Row → Walk Bool
  is_useful_step n m q = holding (suc (length m) * n) (useful_body n m q)

-- `recover_ctor`: constructor c of type t in front of its arguments, which begin each row
abbrev pub recover_ctor : Ref → ℕ → Matrix → Matrix
recover_ctor t c m = map (con t c ∷◌) m

-- `is_missing`: the unseen constructors from number c on, each with wildcards, in front of the row r
abbrev pub unseen : Matrix → Ref → ℕ → List (List Ref) → Row → Matrix
unseen m t c [] r = []
unseen m t c (fields ∷ ks) r = cond (seen m c) [] ((con t c ∷ replicate (length fields) wild ++ r) ∷ []) ++ unseen m t (suc c) ks r

-- the missing rows of each constructor in declared order, from number c on
abbrev pub gather : (ℕ → ℕ → Walk Matrix) → Ref → ℕ → List (List Ref) → Walk Matrix
gather f t c [] = plain []
gather f t c (fields ∷ ks) = joined ◌++◌ (turned (recover_ctor t c) (f c (length fields))) (gather f t (suc c) ks)

-- One call of `collect_missing_patterns`, of rows m of n patterns; `again` is the call that it makes
module _ (table : Table) (again : ℕ → Matrix → Walk Matrix) where
  -- No constructor seen: a wildcard. Where some constructors of a column are seen and some are not, only the unseen are named. All seen: each of them
  abbrev pub missing_column : Column → ℕ → Matrix → Walk Matrix
  missing_column bare n m = turned (map (wild ∷◌)) (again n (specialize_by_wildcard m))
  missing_column (part t) n m = turned (each_row (unseen m t 0 (alts table t))) (again n (specialize_by_wildcard m))
  missing_column (full t) n m = gather (λ c a. again (a + n) (specialize_by_ctor c a m)) t 0 (alts table t)

  -- The test for no rows comes before the test for n = 0
  abbrev pub missing_body : ℕ → Matrix → Walk Matrix
  missing_body n [] = plain (replicate n wild ∷ [])
  missing_body zero (r ∷ m) = plain []
  missing_body (suc n) (r ∷ m) = missing_column (column table (r ∷ m)) n (r ∷ m)

  -- The cells held are rows times n
  unfoldable pub collect_missing_step : ℕ → Matrix → Walk Matrix
  collect_missing_step n m = holding (length m * n) (missing_body n m)

-- `is_useful`, which calls itself as deep as the fuel goes
unfoldable pub is_useful_in : Table → ℕ → ℕ → Matrix → Row → Walk Bool
is_useful_in table zero n m q = plain false
is_useful_in table (suc fuel) n m q = is_useful_step table (λ n' m' q'. is_useful_in table fuel n' m' q') n m q

-- `collect_missing_patterns`, which calls itself as deep as the fuel goes
unfoldable pub collect_missing_in : Table → ℕ → ℕ → Matrix → Walk Matrix
collect_missing_in table zero n m = plain []
collect_missing_in table (suc fuel) n m = collect_missing_step table (λ n' m'. collect_missing_in table fuel n' m') n m

-- the most fields that one of these constructors has
abbrev pub longest : List (List Ref) → ℕ
longest [] = 0
longest (fields ∷ ks) = max (length fields) (longest ks)

-- the most fields that a constructor of the table has
abbrev pub widest : Table → ℕ
widest table = longest (flatten (map (λ ty. map fields_of (ctors_at 0 ty)) table))

-- 1 for a constructor
abbrev pub ctor_node : Node → ℕ
ctor_node wild = 0
ctor_node (lit l) = 0
ctor_node (con t c) = 1

-- the constructors in a row
abbrev pub ctors_in : Row → ℕ
ctors_in r = sum (map ctor_node r)

-- the constructors in a matrix
abbrev pub weight : Matrix → ℕ
weight m = sum (map ctors_in m)

-- Enough fuel: a call takes one pattern from the width, or takes a constructor and adds no more patterns than the widest has
unfoldable pub cost : Table → ℕ → Matrix → ℕ
cost table n m = n + weight m * suc (widest table)

-- `is_useful`: is the new row q useful to the rows m, all of n patterns
unfoldable pub is_useful : Table → ℕ → Matrix → Row → Walk Bool
is_useful table n m q = is_useful_in table (suc (cost table n (q ∷ m))) n m q

-- `collect_missing_patterns`: the rows that are missing from m, all of n patterns
unfoldable pub collect_missing_patterns : Table → ℕ → Matrix → Walk Matrix
collect_missing_patterns table n m = collect_missing_in table (suc (cost table n m)) n m
