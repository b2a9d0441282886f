-- A row is read for n patterns and no further: what stands after them changes no walk.
use mathlib.Core.Path.{◌≡◌, refl, ap, sym, subst, ◌∙◌, fun_ext}
use mathlib.Core.List.{List, [], ◌∷◌, ◌++◌}
use mathlib.Core.Bool.{Bool, true, false, cond}
use mathlib.Core.Option.{Option, none, some}
use Prim.Native.Nat.{ℕ, zero, suc, ◌+◌, ◌*◌}
use native.Mathlib.Nat.{add-zero, add-suc, suc-add, zero-add}
use native.Mathlib.Omega.{arith}
use lib.ListN.{length, get_or, replicate, length-append, get_or-map}
use lib.Dec.{eqb}
use borrow.Author.Tests.{eqb-true}
use Rattle.scope.specs.Types.{Ref, Table, fields_of}
use Rattle.scope.specs.Constructors.{fields_at, built, ctors, alts, arity}
use Rattle.scope.specs.Simplify.{Literal, same_literal, wild, lit, con, Row, Matrix}
use Rattle.scope.specs.Walks.{row_if, specialize_row_by_ctor, specialize_row_by_literal, specialize_row_by_wildcard, each_row, specialize_by_ctor, specialize_by_literal, specialize_by_wildcard, begins_with, seen, all_seen, column_type, Column, bare, part, full, column_at, column}
use Rattle.scope.specs.Walks.{Walk, plain, holding, try_each, useful_wild, useful_head, is_useful_step, is_useful_in, cost, is_useful, unseen, gather, missing_column, collect_missing_step, collect_missing_in, collect_missing_patterns}
use Rattle.scope.proofs.Tests.{clash}
use Rattle.laws.proofs.Steps.{useful_fuel, missing_fuel}

module _ (table : Table) where
  -- two rows begin with the same patterns, of the types ts
  pub data Same : List Ref → Row → Row → Type 0 where
    done : {r s : Row} → Same [] r s
    wilds : {t : Ref} {ts : List Ref} {r s : Row} → Same ts r s → Same (t ∷ ts) (wild ∷ r) (wild ∷ s)
    lits : {t : Ref} {ts : List Ref} {r s : Row} {l : Literal} → Same ts r s → Same (t ∷ ts) (lit l ∷ r) (lit l ∷ s)
    cons : {t : Ref} {ts : List Ref} {r s : Row} {c : ℕ} → Same (fields_at table t c ++ ts) r s → Same (t ∷ ts) (con t c ∷ r) (con t c ∷ s)

  pub data Alike (ts : List Ref) : Matrix → Matrix → Type 0 where
    no_rows : Alike ts [] []
    also : {r s : Row} {m p : Matrix} → Same ts r s → Alike ts m p → Alike ts (r ∷ m) (s ∷ p)

  alike-length : {ts : List Ref} {m p : Matrix} → Alike ts m p → length m ≡ length p
  alike-length no_rows = refl
  alike-length (also h k) = ap suc (alike-length k)

  alike_append : {ts : List Ref} {m p m' p' : Matrix} → Alike ts m p → Alike ts m' p' → Alike ts (m ++ m') (p ++ p')
  alike_append no_rows k = k
  alike_append (also h l) k = also h (alike_append l k)

  same-wilds : (fs ts : List Ref) {r s : Row} → Same ts r s → Same (fs ++ ts) (replicate (length fs) wild ++ r) (replicate (length fs) wild ++ s)
  same-wilds [] ts h = h
  same-wilds (f ∷ fs) ts h = wilds (same-wilds fs ts h)

  -- the specialisations
  row_if_lem : {ts : List Ref} (b : Bool) {r s : Row} → Same ts r s → Alike ts (row_if b r) (row_if b s)
  row_if_lem true h = also h no_rows
  row_if_lem false h = no_rows

  row-wild : {t : Ref} {ts : List Ref} {r s : Row} → Same (t ∷ ts) r s → Alike ts (specialize_row_by_wildcard r) (specialize_row_by_wildcard s)
  row-wild (wilds h) = also h no_rows
  row-wild (lits h) = no_rows
  row-wild (cons h) = no_rows

  row-lit : {t : Ref} {ts : List Ref} (l : Literal) {r s : Row} → Same (t ∷ ts) r s → Alike ts (specialize_row_by_literal l r) (specialize_row_by_literal l s)
  row-lit l (wilds h) = also h no_rows
  row-lit l (lits {l = k} h) = row_if_lem (same_literal k l) h
  row-lit l (cons h) = no_rows

  row-ctor : {t : Ref} {ts : List Ref} (c : ℕ) {r s : Row} → Same (t ∷ ts) r s
      → Alike (fields_at table t c ++ ts) (specialize_row_by_ctor c (arity table t c) r) (specialize_row_by_ctor c (arity table t c) s)
  row-ctor {t} {ts} c (wilds h) = also (same-wilds (fields_at table t c) ts h) no_rows
  row-ctor {t} {ts} c (lits h) = no_rows
  row-ctor {t} {ts} c (cons {r = q} {s = p} {c = d} h) = go (eqb d c) refl
    where
      go : (b : Bool) → eqb d c ≡ b → Alike (fields_at table t c ++ ts) (row_if b q) (row_if b p)
      go true e = also (subst (λ (x : ℕ). Same (fields_at table t x ++ ts) q p) (eqb-true d c e) h) no_rows
      go false e = no_rows

  each-alike : {ts us : List Ref} (f : Row → Matrix) → ((r s : Row) → Same ts r s → Alike us (f r) (f s)) → {m p : Matrix} → Alike ts m p → Alike us (each_row f m) (each_row f p)
  each-alike f h no_rows = no_rows
  each-alike f h (also {r = r} {s = s} k l) = alike_append (h r s k) (each-alike f h l)

  -- the first column
  begins-same : {t : Ref} {ts : List Ref} (c : ℕ) {r s : Row} → Same (t ∷ ts) r s → begins_with c r ≡ begins_with c s
  begins-same c (wilds h) = refl
  begins-same c (lits h) = refl
  begins-same c (cons h) = refl

  seen_same : {t : Ref} {ts : List Ref} (c : ℕ) {m p : Matrix} → Alike (t ∷ ts) m p → seen m c ≡ seen p c
  seen_same c no_rows = refl
  seen_same c (also h k) = rw (begins-same c h, seen_same c k)

  all_seen-same : {t : Ref} {ts : List Ref} {m p : Matrix} → Alike (t ∷ ts) m p → (c : ℕ) (ks : List (List Ref)) → all_seen m c ks ≡ all_seen p c ks
  all_seen-same k c [] = refl
  all_seen-same k c (fields ∷ ks) = rw (seen_same c k, all_seen-same k (suc c) ks)

  type-same : {t : Ref} {ts : List Ref} {m p : Matrix} → Alike (t ∷ ts) m p → column_type m ≡ column_type p
  type-same no_rows = refl
  type-same (also (wilds h) k) = type-same k
  type-same (also (lits h) k) = type-same k
  type-same (also (cons h) k) = refl

  -- the column's type is the row's
  type-is : {t : Ref} {ts : List Ref} {m p : Matrix} (u : Ref) → Alike (t ∷ ts) m p → column_type m ≡ some u → t ≡ u
  type-is u no_rows e = clash (cc)
  type-is u (also (wilds h) k) e = type-is u k e
  type-is u (also (lits h) k) e = type-is u k e
  type-is u (also (cons h) k) e = cc

  column-same : {t : Ref} {ts : List Ref} {m p : Matrix} → Alike (t ∷ ts) m p → column table m ≡ column table p
  unfolding column
  column-same {m = m} {p = p} k = at (column_type m) ∙ ap (column_at table p) (type-same k)
    where
      at : (o : Option Ref) → column_at table m o ≡ column_at table p o
      at none = refl
      at (some u) = rw (all_seen-same k 0 (alts table u))

  full_is : {t : Ref} {ts : List Ref} {m p : Matrix} (u : Ref) → Alike (t ∷ ts) m p → column table m ≡ full u → t ≡ u
  unfolding column
  full_is {t} {m = m} u k e = go (column_type m) refl e
    where
      pick : (v : Ref) (b : Bool) → cond b (full v) (part v) ≡ full u → v ≡ u
      pick v true h = cc
      pick v false h = clash (cc)

      go : (o : Option Ref) → column_type m ≡ o → column_at table m o ≡ full u → t ≡ u
      go none i h = clash (cc)
      go (some v) i h = type-is v k i ∙ pick v (all_seen m 0 (alts table v)) h

  -- constructor c of the list ks, from number c on, is the one that `ctor_at` gives
  try_same : (f g : ℕ → ℕ → Walk Bool) (ks : List (List Ref)) (c : ℕ) → ((i : ℕ) → f (c + i) (length (get_or ks i [])) ≡ g (c + i) (length (get_or ks i []))) → try_each f c ks ≡ try_each g c ks
  try_same f g [] c h = refl
  try_same f g (fields ∷ ks) c h = rw (subst (λ (x : ℕ). f x (length fields) ≡ g x (length fields)) (add-zero c) (h 0), try_same f g ks (suc c) (λ i. subst (λ (x : ℕ). f x (length (get_or ks i [])) ≡ g x (length (get_or ks i []))) (add-suc c i ∙ sym (suc-add c i)) (h (suc i))))

  arity-at : (t : Ref) (i : ℕ) → arity table t i ≡ length (get_or (alts table t) i [])
  arity-at t i = ap (length) (sym (get_or-map fields_of (ctors table t) i (built [] [])))

  wide : (t : Ref) (c n : ℕ) (ts : List Ref) → n ≡ length ts → arity table t c + n ≡ length (fields_at table t c ++ ts)
  wide t c n ts e = omega (arith, length-append (fields_at table t c) ts)

  module _ (again : ℕ → Matrix → Row → Walk Bool)
      (deeper : (n : ℕ) (ts : List Ref) (m p : Matrix) (q s : Row) → n ≡ length ts → Alike ts m p → Same ts q s → again n m q ≡ again n p s)
      (n : ℕ) (t : Ref) (ts : List Ref) (e : n ≡ length ts) (m p : Matrix) (k : Alike (t ∷ ts) m p) where
    ctor-same : (c : ℕ) (q s : Row) → Same (fields_at table t c ++ ts) q s → again (arity table t c + n) (specialize_by_ctor c (arity table t c) m) q ≡ again (arity table t c + n) (specialize_by_ctor c (arity table t c) p) s
    ctor-same c q s h = deeper (arity table t c + n) (fields_at table t c ++ ts) (specialize_by_ctor c (arity table t c) m) (specialize_by_ctor c (arity table t c) p) q s (wide t c n ts e) (each-alike (specialize_row_by_ctor c (arity table t c)) (λ r r' l. row-ctor c l) k) h

    default_same : (q s : Row) → Same ts q s → again n (specialize_by_wildcard m) q ≡ again n (specialize_by_wildcard p) s
    default_same q s h = deeper n ts (specialize_by_wildcard m) (specialize_by_wildcard p) q s e (each-alike specialize_row_by_wildcard (λ r r' l. row-wild l) k) h

    wild-same : (q s : Row) → Same ts q s → (x : Column) → column table m ≡ x → useful_wild table again x n m q ≡ useful_wild table again x n p s
    wild-same q s h bare i = default_same q s h
    wild-same q s h (part u) i = default_same q s h
    wild-same q s h (full u) i = subst (λ (v : Ref). useful_wild table again (full v) n m q ≡ useful_wild table again (full v) n p s) (full_is u k i) (try_same (λ c a. again (a + n) (specialize_by_ctor c a m) (replicate a wild ++ q)) (λ c a. again (a + n) (specialize_by_ctor c a p) (replicate a wild ++ s)) (alts table t) 0 each)
      where
        each : (j : ℕ) → again (length (get_or (alts table t) j []) + n) (specialize_by_ctor (0 + j) (length (get_or (alts table t) j [])) m) (replicate (length (get_or (alts table t) j [])) wild ++ q)
            ≡ again (length (get_or (alts table t) j []) + n) (specialize_by_ctor (0 + j) (length (get_or (alts table t) j [])) p) (replicate (length (get_or (alts table t) j [])) wild ++ s)
        each j = rw (zero-add j, ← arity-at t j) (ctor-same j _ _ (same-wilds (fields_at table t j) ts h))

    head-same : {q s : Row} → Same (t ∷ ts) q s → useful_head table again n m q ≡ useful_head table again n p s
    head-same (wilds {r = q} {s = s} h) = subst (λ (x : Column). useful_wild table again (column table m) n m q ≡ useful_wild table again x n p s) (column-same k) (wild-same q s h (column table m) refl)
    head-same (lits {r = q} {s = s} {l = l} h) = deeper n ts (specialize_by_literal l m) (specialize_by_literal l p) q s e (each-alike (specialize_row_by_literal l) (λ r r' i. row-lit l i) k) h
    head-same (cons {r = q} {s = s} {c = c} h) = ctor-same c q s h

  in_same : (k n : ℕ) (ts : List Ref) (m p : Matrix) (q s : Row) → n ≡ length ts → Alike ts m p → Same ts q s → is_useful_in table k n m q ≡ is_useful_in table k n p s
  unfolding is_useful_in is_useful_step
  in_same zero n ts m p q s e a h = refl
  in_same (suc k) n ts [] [] q s e a h = refl
  in_same (suc k) n ts [] (r ∷ p) q s e a h = let l : 0 ≡ suc (length p) = alike-length a in absurd (omega arith)
  in_same (suc k) n ts (r ∷ m) [] q s e a h = let l : suc (length m) ≡ 0 = alike-length a in absurd (omega arith)
  in_same (suc k) zero ts (r ∷ m) (r' ∷ p) q s e a h = ap (λ (x : ℕ). holding (suc x * 0) (plain false)) (alike-length a)
  in_same (suc k) (suc n) [] (r ∷ m) (r' ∷ p) q s e a h = absurd (omega arith)
  in_same (suc k) (suc n) (t ∷ ts) (r ∷ m) (r' ∷ p) q s e a h =
      let i : n ≡ length ts = omega arith in
      ap (λ (x : ℕ). holding (suc x * suc n) (useful_head table (is_useful_in table k) n (r ∷ m) q)) (alike-length a)
      ∙ ap (holding (suc (suc (length p)) * suc n)) (head-same (is_useful_in table k) (λ n' ts' m' p' q' s' e' a' h'. in_same k n' ts' m' p' q' s' e' a' h') n t ts i (r ∷ m) (r' ∷ p) a h)

  pub useful_same : (ts : List Ref) (m p : Matrix) (q s : Row) → Alike ts m p → Same ts q s → is_useful table (length ts) m q ≡ is_useful table (length ts) p s
  unfolding is_useful
  useful_same ts m p q s a h =
      let n = length ts in
      let k = suc (cost table n (q ∷ m) + cost table n (s ∷ p)) in
      useful_fuel table (suc (cost table n (q ∷ m))) k n m q (omega arith) (omega arith)
      ∙ in_same k n ts m p q s refl a h
      ∙ useful_fuel table k (suc (cost table n (s ∷ p))) n p s (omega arith) (omega arith)

  -- The collect_missing_patterns walk, in the same steps
  gather-same : (f g : ℕ → ℕ → Walk Matrix) (u : Ref) (ks : List (List Ref)) (c : ℕ) → ((i : ℕ) → f (c + i) (length (get_or ks i [])) ≡ g (c + i) (length (get_or ks i []))) → gather f u c ks ≡ gather g u c ks
  gather-same f g u [] c h = refl
  gather-same f g u (fields ∷ ks) c h = rw (subst (λ (x : ℕ). f x (length fields) ≡ g x (length fields)) (add-zero c) (h 0), gather-same f g u ks (suc c) (λ i. subst (λ (x : ℕ). f x (length (get_or ks i [])) ≡ g x (length (get_or ks i []))) (add-suc c i ∙ sym (suc-add c i)) (h (suc i))))

  unseen_same : {t : Ref} {ts : List Ref} {m p : Matrix} → Alike (t ∷ ts) m p → (u c : ℕ) (ks : List (List Ref)) (r : Row) → unseen m u c ks r ≡ unseen p u c ks r
  unseen_same k u c [] r = refl
  unseen_same k u c (fields ∷ ks) r = rw (seen_same c k, unseen_same k u (suc c) ks r)

  module _ (again : ℕ → Matrix → Walk Matrix) (deeper : (n : ℕ) (ts : List Ref) (m p : Matrix) → n ≡ length ts → Alike ts m p → again n m ≡ again n p)
      (n : ℕ) (t : Ref) (ts : List Ref) (e : n ≡ length ts) (m p : Matrix) (k : Alike (t ∷ ts) m p) where
    default_gaps : again n (specialize_by_wildcard m) ≡ again n (specialize_by_wildcard p)
    default_gaps = deeper n ts (specialize_by_wildcard m) (specialize_by_wildcard p) e (each-alike specialize_row_by_wildcard (λ r r' l. row-wild l) k)

    gaps-same : (x : Column) → column table m ≡ x → missing_column table again x n m ≡ missing_column table again x n p
    gaps-same bare i = rw default_gaps
    gaps-same (part u) i = rw (default_gaps, fun_ext (unseen_same k u 0 (alts table u)))
    gaps-same (full u) i = subst (λ (v : Ref). missing_column table again (full v) n m ≡ missing_column table again (full v) n p) (full_is u k i) (gather-same (λ c a. again (a + n) (specialize_by_ctor c a m)) (λ c a. again (a + n) (specialize_by_ctor c a p)) t (alts table t) 0 each)
      where
        each : (j : ℕ) → again (length (get_or (alts table t) j []) + n) (specialize_by_ctor (0 + j) (length (get_or (alts table t) j [])) m) ≡ again (length (get_or (alts table t) j []) + n) (specialize_by_ctor (0 + j) (length (get_or (alts table t) j [])) p)
        each j = rw (zero-add j, ← arity-at t j) (deeper (arity table t j + n) (fields_at table t j ++ ts) _ _ (wide t j n ts e) (each-alike (specialize_row_by_ctor j (arity table t j)) (λ r r' l. row-ctor j l) k))

  gaps_in_same : (k n : ℕ) (ts : List Ref) (m p : Matrix) → n ≡ length ts → Alike ts m p → collect_missing_in table k n m ≡ collect_missing_in table k n p
  unfolding collect_missing_in collect_missing_step
  gaps_in_same zero n ts m p e a = refl
  gaps_in_same (suc k) n ts [] [] e a = refl
  gaps_in_same (suc k) n ts [] (r ∷ p) e a = let l : 0 ≡ suc (length p) = alike-length a in absurd (omega arith)
  gaps_in_same (suc k) n ts (r ∷ m) [] e a = let l : suc (length m) ≡ 0 = alike-length a in absurd (omega arith)
  gaps_in_same (suc k) zero ts (r ∷ m) (r' ∷ p) e a = ap (λ (x : ℕ). holding (x * 0) (plain [])) (alike-length a)
  gaps_in_same (suc k) (suc n) [] (r ∷ m) (r' ∷ p) e a = absurd (omega arith)
  gaps_in_same (suc k) (suc n) (t ∷ ts) (r ∷ m) (r' ∷ p) e a =
      let i : n ≡ length ts = omega arith in
      let again = collect_missing_in table k in
      ap (λ (x : ℕ). holding (x * suc n) (missing_column table again (column table (r ∷ m)) n (r ∷ m))) (alike-length a)
      ∙ ap (holding (suc (length p) * suc n)) (gaps-same again (λ n' ts' m' p' e' a'. gaps_in_same k n' ts' m' p' e' a') n t ts i (r ∷ m) (r' ∷ p) a (column table (r ∷ m)) refl
      ∙ ap (λ (x : Column). missing_column table again x n (r' ∷ p)) (column-same a))

  pub missing-same : (ts : List Ref) (m p : Matrix) → Alike ts m p → collect_missing_patterns table (length ts) m ≡ collect_missing_patterns table (length ts) p
  unfolding collect_missing_patterns
  missing-same ts m p a =
      let n = length ts in
      let k = suc (cost table n m + cost table n p) in
      missing_fuel table (suc (cost table n m)) k n m (omega arith) (omega arith)
      ∙ gaps_in_same k n ts m p refl a
      ∙ missing_fuel table k (suc (cost table n p)) n p (omega arith) (omega arith)
