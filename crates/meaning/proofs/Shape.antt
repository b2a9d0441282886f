-- The walks and `simplify` look at a table only through the kinds and the field types: tables that agree on these give the same.
use mathlib.Core.Path.{◌≡◌, refl, ap, sym, ◌∙◌, fun_ext}
use mathlib.Core.List.{List, [], ◌∷◌, ◌++◌}
use mathlib.Core.Bool.{Bool}
use mathlib.Core.Option.{Option, none, some, map}
use Prim.Native.Nat.{ℕ, zero, suc, ◌+◌, ◌*◌}
use native.Mathlib.Omega.{arith}
use lib.ListN.{length, get_or, replicate, length-map, get_or-map}
use Rattle.scope.specs.Types.{Ref, Table, type_at, kind, fields_of}
use Rattle.scope.specs.Constructors.{built, ctors, fields_at, arity, alts}
use Rattle.scope.specs.Patterns.{Raw, discard, variable, assign, pair_of, integer_of, byte_string_of, list_of, constructor, tuple_of}
use Rattle.scope.specs.Simplify.{wild, lit, con, Row, Matrix, Item, put, pat, opened, putting, ◌>>=◌, simplified, simplify}
use Rattle.scope.specs.Walks.{specialize_by_ctor, Column, bare, part, full, column_type, column_at, column, Walk, holding, try_each, gather, unseen, each_row, turned, specialize_by_wildcard}
use Rattle.scope.specs.Walks.{useful_wild, useful_head, is_useful_step, is_useful_in, missing_column, collect_missing_step, collect_missing_in, cost, is_useful, collect_missing_patterns}
use Rattle.scope.specs.Driver.{judged}
use Rattle.laws.proofs.Steps.{useful_fuel, missing_fuel}

-- a constructor's field types stand among its type's alternatives
fields-at : (table : Table) (t c : ℕ) → fields_at table t c ≡ get_or (alts table t) c []
fields-at table t c = sym (get_or-map fields_of (ctors table t) c (built [] []))

module _ (table table' : Table) (same-alts : (t : Ref) → alts table t ≡ alts table' t) where
  fields-same : (t c : ℕ) → fields_at table t c ≡ fields_at table' t c
  fields-same t c = fields-at table t c ∙ ap (λ (ks : List (List Ref)). get_or ks c []) (same-alts t) ∙ sym (fields-at table' t c)

  arity-same : (t c : ℕ) → arity table t c ≡ arity table' t c
  arity-same t c = ap length (fields-same t c)

  column-same : (m : Matrix) → column table m ≡ column table' m
  unfolding column
  column-same m = go (column_type m)
    where
      go : (o : Option Ref) → column_at table m o ≡ column_at table' m o
      go none = refl
      go (some t) = rw (same-alts t)

  -- one call of `is_useful`, then the whole walk
  module _ (again : ℕ → Matrix → Row → Walk Bool) where
    wild-same : (k : Column) (n : ℕ) (m : Matrix) (q : Row) → useful_wild table again k n m q ≡ useful_wild table' again k n m q
    wild-same bare n m q = refl
    wild-same (part t) n m q = refl
    wild-same (full t) n m q = ap (try_each (λ c a. again (a + n) (specialize_by_ctor c a m) (replicate a wild ++ q)) 0) (same-alts t)

    head-same : (n : ℕ) (m : Matrix) (q : Row) → useful_head table again n m q ≡ useful_head table' again n m q
    head-same n m [] = refl
    head-same n m (wild ∷ q) = wild-same (column table m) n m q ∙ ap (λ (k : Column). useful_wild table' again k n m q) (column-same m)
    head-same n m (lit l ∷ q) = refl
    head-same n m (con t c ∷ q) = ap (λ (a : ℕ). again (a + n) (specialize_by_ctor c a m) q) (arity-same t c)

    useful_step : (n : ℕ) (m : Matrix) (q : Row) → is_useful_step table again n m q ≡ is_useful_step table' again n m q
    unfolding is_useful_step
    useful_step n [] q = refl
    useful_step zero (r ∷ m) q = refl
    useful_step (suc n) (r ∷ m) q = ap (holding (suc (suc (length m)) * suc n)) (head-same n (r ∷ m) q)

  useful_in_lem : (k n : ℕ) (m : Matrix) (q : Row) → is_useful_in table k n m q ≡ is_useful_in table' k n m q
  unfolding is_useful_in
  useful_in_lem zero n m q = refl
  useful_in_lem (suc k) n m q = useful_step (is_useful_in table k) n m q ∙ ap (λ (again : ℕ → Matrix → Row → Walk Bool). is_useful_step table' again n m q) (fun_ext (λ n'. fun_ext (λ m'. fun_ext (λ q'. useful_in_lem k n' m' q'))))

  useful_same : (n : ℕ) (m : Matrix) (q : Row) → is_useful table n m q ≡ is_useful table' n m q
  unfolding is_useful
  useful_same n m q =
      let k = suc (cost table n (q ∷ m) + cost table' n (q ∷ m)) in
      useful_fuel table (suc (cost table n (q ∷ m))) k n m q (omega arith) (omega arith)
      ∙ useful_in_lem k n m q
      ∙ useful_fuel table' k (suc (cost table' n (q ∷ m))) n m q (omega arith) (omega arith)

  -- `collect_missing_patterns`, in the same steps
  module _ (again : ℕ → Matrix → Walk Matrix) where
    gaps-same : (k : Column) (n : ℕ) (m : Matrix) → missing_column table again k n m ≡ missing_column table' again k n m
    gaps-same bare n m = refl
    gaps-same (part t) n m = ap (λ (ks : List (List Ref)). turned (each_row (unseen m t 0 ks)) (again n (specialize_by_wildcard m))) (same-alts t)
    gaps-same (full t) n m = ap (gather (λ c a. again (a + n) (specialize_by_ctor c a m)) t 0) (same-alts t)

    missing-step : (n : ℕ) (m : Matrix) → collect_missing_step table again n m ≡ collect_missing_step table' again n m
    unfolding collect_missing_step
    missing-step n [] = refl
    missing-step zero (r ∷ m) = refl
    missing-step (suc n) (r ∷ m) = ap (holding (suc (length m) * suc n)) (gaps-same (column table (r ∷ m)) n (r ∷ m) ∙ ap (λ (k : Column). missing_column table' again k n (r ∷ m)) (column-same (r ∷ m)))

  missing_in_lem : (k n : ℕ) (m : Matrix) → collect_missing_in table k n m ≡ collect_missing_in table' k n m
  unfolding collect_missing_in
  missing_in_lem zero n m = refl
  missing_in_lem (suc k) n m = missing-step (collect_missing_in table k) n m ∙ ap (λ (again : ℕ → Matrix → Walk Matrix). collect_missing_step table' again n m) (fun_ext (λ n'. fun_ext (λ m'. missing_in_lem k n' m')))

  pub missing-same : (n : ℕ) (m : Matrix) → collect_missing_patterns table n m ≡ collect_missing_patterns table' n m
  unfolding collect_missing_patterns
  missing-same n m =
      let k = suc (cost table n m + cost table' n m) in
      missing_fuel table (suc (cost table n m)) k n m (omega arith) (omega arith)
      ∙ missing_in_lem k n m
      ∙ missing_fuel table' k (suc (cost table' n m)) n m (omega arith) (omega arith)

  pub judged-same : (before rs : Matrix) → judged table before rs ≡ judged table' before rs
  unfolding judged
  judged-same before [] = refl
  judged-same before (r ∷ rs) = rw (useful_same 1 before r, judged-same (before ++ r ∷ []) rs)

  -- `simplify` asks for the kinds too
  module _ (same-kinds : (t : Ref) → kind (type_at table t) ≡ kind (type_at table' t)) where
    count_same : (t : Ref) → length (ctors table t) ≡ length (ctors table' t)
    count_same t = sym (length-map (ctors table t) fields_of) ∙ ap length (same-alts t) ∙ length-map (ctors table' t) fields_of

    opened-same : (t : Ref) (p : Raw) → opened table t p ≡ opened table' t p
    opened-same t discard = refl
    opened-same t (variable n) = refl
    opened-same t (assign n) = refl
    opened-same t pair_of = rw (same-kinds t, fields-same t 0)
    opened-same t (integer_of n) = rw (same-kinds t)
    opened-same t (byte_string_of s) = rw (same-kinds t)
    opened-same t (list_of k tail) = rw (same-kinds t, fields-same t 0)
    opened-same t (constructor c k spread) = rw (same-kinds t, count_same t, fields-same t c)
    opened-same t (tuple_of k) = rw (same-kinds t, fields-same t 0)

    putting-same : (is : List Item) (go go' : Ref → List Item → Option Row) → ((t : Ref) (rest : List Item) → go t rest ≡ go' t rest) → putting is go ≡ putting is go'
    putting-same [] go go' h = refl
    putting-same (put n ∷ is) go go' h = ap (map (n ∷◌)) (putting-same is go go' h)
    putting-same (pat t ∷ is) go go' h = h t is

    simplified-same : (ps : List Raw) (is : List Item) → simplified table is ps ≡ simplified table' is ps
    unfolding simplified
    simplified-same [] is = refl
    simplified-same (p ∷ ps) is =
        putting-same is _ _ (λ t rest.
        ap (λ (o : Option (List Item)). o >>= λ new. simplified table (new ++ rest) ps) (opened-same t p)
        ∙ ap (λ (f : List Item → Option Row). opened table' t p >>= f) (fun_ext (λ new. simplified-same ps (new ++ rest))))

    pub simplify-same : (t : Ref) (ps : List Raw) → simplify table t ps ≡ simplify table' t ps
    unfolding simplify
    simplify-same t ps = simplified-same ps (pat t ∷ [])
