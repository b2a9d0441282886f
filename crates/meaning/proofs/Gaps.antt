-- What the missing rows mean: each fits a value that no row fits, and there is one wherever a value is left over.
use mathlib.Core.Path.{◌≡◌, refl, sym, ◌∙◌}
use mathlib.Core.Logic.{◌↔◌}
use mathlib.Core.List.{List, [], ◌∷◌, ◌++◌, map, cons-ne-nil}
use mathlib.Core.Bool.{Bool, true, false, cond}
use Prim.Native.Nat.{ℕ, zero, suc, ◌+◌, ◌≤◌, ◌<◌}
use native.Mathlib.Nat.{add-zero, add-suc, suc-add, zero-add, le_of_suc-le-suc, not-suc-le-zero}
use native.Mathlib.Omega.{arith}
use lib.ListN.{length, get_or, replicate, length-append, replicate-append-replicate}
use lib.Dec.{eqb}
use borrow.Author.Tests.{eqb-true, eq-eqb}
use Rattle.scope.specs.Lists.{all}
use Rattle.scope.specs.Types.{Ref, Ctor, Table, fields_of}
use Rattle.scope.specs.Constructors.{built, fields_at, ctors, alts, arity}
use Rattle.scope.specs.Simplify.{wild, lit, con, Row, Matrix}
use Rattle.laws.specs.Typed.{Typed, TypedRows}
use Rattle.scope.specs.Walks.{row_if, specialize_row_by_ctor, specialize_row_by_wildcard, each_row, specialize_by_ctor, specialize_by_wildcard, seen, Column, column, Walk, unseen, gather, missing_column, collect_missing_step, collect_missing_in, cost, collect_missing_patterns}
use Rattle.meaning.specs.Values.{Number, Val, vint, vbytes, vopaque, vcon, Vals, ◌∷ᵛ◌, ◌++ᵛ◌, HasTypes, no_values, integers, byte_strings, opaques, made, fits, fits_any, is_plain}
use Rattle.meaning.specs.Meaning.{AllValued, Witness}
use Rattle.scope.proofs.Tests.{clash, both, and-true, not_failed}
use Rattle.laws.proofs.Costs.{wildcard_weigh, seen_weigh, default_cost, ctor-cost, arity-narrow}
use Rattle.meaning.proofs.Fitting.{Suits, done, wilds, AllSuit, also, named, wild-fits, types_append, opened, opened-wilds, fill, opaque_unnamed, named-seen, bare_unnamed}
use Rattle.meaning.proofs.Columns.{ctor-suits, wild-suits, Finds, is_bare, is_part, is_full, column_finds}
use Rattle.meaning.proofs.Usefulness.{con_up, wilds_down, wild_up, wild_down, fitting-row, none_left}

-- every row of a matrix is such
pub data Each (P : Row → Type 0) : Matrix → Type 0 where
  nothing : Each P []
  row : {r : Row} {m : Matrix} → P r → Each P m → Each P (r ∷ m)

each_append : {P : Row → Type 0} {a b : Matrix} → Each P a → Each P b → Each P (a ++ b)
each_append nothing k = k
each_append (row p h) k = row p (each_append h k)

each_map : {P Q : Row → Type 0} (f : Row → Row) → ((r : Row) → P r → Q (f r)) → {m : Matrix} → Each P m → Each Q (map f m)
each_map f g nothing = nothing
each_map f g (row p h) = row (g _ p) (each_map f g h)

each_row_lem : {P Q : Row → Type 0} (f : Row → Matrix) → ((r : Row) → P r → Each Q (f r)) → {m : Matrix} → Each P m → Each Q (each_row f m)
each_row_lem f g nothing = nothing
each_row_lem f g (row p h) = each_append (g _ p) (each_row_lem f g h)

pub each_at : {P : Row → Type 0} {m : Matrix} → Each P m → (i : ℕ) → i < length m → P (get_or m i [])
each_at nothing i l = absurd (not-suc-le-zero l)
each_at (row p h) zero l = p
each_at (row p h) (suc i) l = each_at h i (le_of_suc-le-suc l)

-- rows for each constructor, from number k on
abbrev pub rows_for : (ℕ → List Ref → Matrix) → ℕ → List Ctor → Matrix
rows_for g k [] = []
rows_for g k (c ∷ cs) = g k (fields_of c) ++ rows_for g (suc k) cs

-- those of an unseen constructor
abbrev pub unseen_row : Matrix → Ref → Row → ℕ → List Ref → Matrix
unseen_row m t r c fields = cond (seen m c) [] ((con t c ∷ replicate (length fields) wild ++ r) ∷ [])

-- those that a call found
abbrev pub ctor_rows : (ℕ → ℕ → Walk Matrix) → Ref → ℕ → List Ref → Matrix
ctor_rows f t c fields = map (con t c ∷◌) (f c (length fields)).result

pub unseen-rows : (m : Matrix) (t k : ℕ) (cs : List Ctor) (r : Row) → unseen m t k (map fields_of cs) r ≡ rows_for (unseen_row m t r) k cs
unseen-rows m t k [] r = refl
unseen-rows m t k (c ∷ cs) r = rw (unseen-rows m t (suc k) cs r)

pub gather-rows : (f : ℕ → ℕ → Walk Matrix) (t k : ℕ) (cs : List Ctor) → (gather f t k (map fields_of cs)).result ≡ rows_for (ctor_rows f t) k cs
gather-rows f t k [] = refl
gather-rows f t k (c ∷ cs) = rw (gather-rows f t (suc k) cs)

each_for : {P : Row → Type 0} (g : ℕ → List Ref → Matrix) (k : ℕ) (cs : List Ctor) → ((i : ℕ) → i < length cs → Each P (g (k + i) (fields_of (get_or cs i (built [] []))))) → Each P (rows_for g k cs)
each_for g k [] h = nothing
each_for g k (c ∷ cs) h = each_append (rw add-zero at (h 0 (omega arith))) (each_for g (suc k) cs (λ i l. rw (add-suc, ← suc-add) at (h (suc i) (omega arith))))

-- One induction for whatever holds of each missing row
pub record Kept (table : Table) (P : List Ref → Matrix → Row → Type 0) : Type 0 where
  pub of_none : (ts : List Ref) → P ts [] (replicate (length ts) wild)
  pub of_bare : {t : Ref} {ts : List Ref} {m : Matrix} {r : Row} → ((c : ℕ) → seen m c ≡ false) → P ts (specialize_by_wildcard m) r → P (t ∷ ts) m (wild ∷ r)
  pub of_part : {t : Ref} {ts : List Ref} {m : Matrix} {r : Row} (c : ℕ) → c < length (ctors table t) → seen m c ≡ false → P ts (specialize_by_wildcard m) r → P (t ∷ ts) m (con t c ∷ replicate (arity table t c) wild ++ r)
  pub of_full : {t : Ref} {ts : List Ref} {m : Matrix} {r : Row} (c : ℕ) → c < length (ctors table t) → P (fields_at table t c ++ ts) (specialize_by_ctor c (arity table t c) m) r → P (t ∷ ts) m (con t c ∷ r)

-- the calls that a step makes cost less
pub wild-cheaper : (table : Table) (n k : ℕ) (m : Matrix) → cost table (suc n) m ≤ k → cost table n (specialize_by_wildcard m) < k
wild-cheaper table n k m l = omega (arith, default_cost table n m (specialize_by_wildcard m) (wildcard_weigh m))

pub ctor-cheaper : (table : Table) (t : Ref) (ts : List Ref) (k : ℕ) (m : Matrix) (c : ℕ) → seen m c ≡ true → cost table (suc (length ts)) m ≤ k → cost table (length (fields_at table t c ++ ts)) (specialize_by_ctor c (arity table t c) m) < k
ctor-cheaper table t ts k m c s l = rw (length-append (fields_at table t c) ts) (omega (arith, ctor-cost table (length ts) (arity table t c) m (specialize_by_ctor c (arity table t c) m) (arity-narrow table t c) (seen_weigh c (arity table t c) m s)))

module _ {table : Table} {P : List Ref → Matrix → Row → Type 0} (kept : Kept table P) where
  module _ (again : ℕ → Matrix → Walk Matrix) (k : ℕ)
      (ok : (ts : List Ref) (m : Matrix) → AllSuit table ts m → cost table (length ts) m < k → Each (P ts m) (again (length ts) m).result) where
    kept-column : {t : Ref} {ts : List Ref} {m : Matrix} → AllSuit table (t ∷ ts) m → cost table (suc (length ts)) m ≤ k → (o : Column) → Finds table m t o → Each (P (t ∷ ts) m) (missing_column table again o (length ts) m).result
    kept-column {t} {ts} {m} a l o finds = go finds
      where
        below : Each (P ts (specialize_by_wildcard m)) (again (length ts) (specialize_by_wildcard m)).result
        below = ok ts (specialize_by_wildcard m) (wild-suits a) (wild-cheaper table (length ts) k m l)

        named-row : (q : Row) → P ts (specialize_by_wildcard m) q → (c : ℕ) → c < length (ctors table t) → Each (P (t ∷ ts) m) (unseen_row m t q c (fields_at table t c))
        named-row q w c j = test (seen m c) refl
          where
            test : (b : Bool) → seen m c ≡ b → Each (P (t ∷ ts) m) (cond b [] ((con t c ∷ replicate (arity table t c) wild ++ q) ∷ []))
            test true e = nothing
            test false e = row (kept.of_part c j e w) nothing

        call : ℕ → ℕ → Walk Matrix
        call c n = again (n + length ts) (specialize_by_ctor c n m)

        each : ((c : ℕ) → c < length (ctors table t) → seen m c ≡ true) → (c : ℕ) → c < length (ctors table t) → Each (P (t ∷ ts) m) (ctor_rows call t c (fields_at table t c))
        each sn c j =
            let o = ok (fields_at table t c ++ ts) (specialize_by_ctor c (arity table t c) m) (ctor-suits c a) (ctor-cheaper table t ts k m c (sn c j) l) in
            let p : Each (P (fields_at table t c ++ ts) (specialize_by_ctor c (arity table t c) m)) (again (arity table t c + length ts) (specialize_by_ctor c (arity table t c) m)).result = rw (← length-append (fields_at table t c) ts) o in
            each_map (con t c ∷◌) (λ q w. kept.of_full c j w) p

        go : {o : Column} → Finds table m t o → Each (P (t ∷ ts) m) (missing_column table again o (length ts) m).result
        go (is_bare h) = each_map (wild ∷◌) (λ q w. kept.of_bare h w) below
        go (is_part c j h) = each_row_lem (unseen m t 0 (alts table t)) (λ q w. rw (unseen-rows m t 0 (ctors table t) q) (each_for (unseen_row m t q) 0 (ctors table t) (λ i x. rw zero-add (named-row q w i x)))) below
        go (is_full z sn) = rw (gather-rows call t 0 (ctors table t)) (each_for (ctor_rows call t) 0 (ctors table t) (λ i x. rw zero-add (each sn i x)))

    kept_step : (ts : List Ref) (m : Matrix) → AllSuit table ts m → cost table (length ts) m ≤ k → Each (P ts m) (collect_missing_step table again (length ts) m).result
    unfolding collect_missing_step
    kept_step ts [] a l = row (kept.of_none ts) nothing
    kept_step [] (r ∷ m) a l = nothing
    kept_step (t ∷ ts) (r ∷ m) a l = kept-column a l (column table (r ∷ m)) (column_finds a)

  kept_at : (k : ℕ) (ts : List Ref) (m : Matrix) → AllSuit table ts m → cost table (length ts) m < k → Each (P ts m) (collect_missing_in table k (length ts) m).result
  unfolding collect_missing_in
  kept_at zero ts m a l = absurd (not-suc-le-zero l)
  kept_at (suc k) ts m a l = kept_step (collect_missing_in table k) k (kept_at k) ts m a (le_of_suc-le-suc l)

  pub missing-kept : (ts : List Ref) (m : Matrix) → AllSuit table ts m → Each (P ts m) (collect_missing_patterns table (length ts) m).result
  unfolding collect_missing_patterns
  missing-kept ts m a = kept_at (suc (cost table (length ts) m)) ts m a (omega arith)

-- Each missing row is patterns of the types, without a literal
wilds-typed : {table : Table} (fs : List Ref) {ts : List Ref} {r : Row} → Typed table ts r → Typed table (fs ++ ts) (replicate (length fs) wild ++ r)
wilds-typed [] h = h
wilds-typed (f ∷ fs) h = Typed.wilds (wilds-typed fs h)

all_typed : {table : Table} (ts : List Ref) → Typed table ts (replicate (length ts) wild)
all_typed [] = Typed.done
all_typed (t ∷ ts) = Typed.wilds (all_typed ts)

each_typed : {table : Table} {ts : List Ref} {m : Matrix} → Each (Typed table ts) m → TypedRows table ts m
each_typed nothing = TypedRows.no_rows
each_typed (row p h) = TypedRows.also p (each_typed h)

pub missing-typed : {table : Table} (ts : List Ref) (m : Matrix) → AllSuit table ts m → TypedRows table ts (collect_missing_patterns table (length ts) m).result
missing-typed {table} ts m a = each_typed (missing-kept {P = λ us n r. Typed table us r} (record { of_none = all_typed; of_bare = λ h w. Typed.wilds w; of_part = λ {t} c l h w. Typed.cons l (wilds-typed (fields_at table t c) w); of_full = λ c l w. Typed.cons l w }) ts m a)

plain-wilds : (a : ℕ) (r : Row) → all is_plain r ≡ true → all is_plain (replicate a wild ++ r) ≡ true
plain-wilds zero r h = h
plain-wilds (suc a) r h = plain-wilds a r h

all_plain : (n : ℕ) → all is_plain (replicate n wild) ≡ true
all_plain zero = refl
all_plain (suc n) = all_plain n

each-plain : {m : Matrix} → Each (λ r. all is_plain r ≡ true) m → all (all is_plain) m ≡ true
each-plain nothing = refl
each-plain (row p h) = and-true p (each-plain h)

pub missing-plain : {table : Table} (ts : List Ref) (m : Matrix) → AllSuit table ts m → all (all is_plain) (collect_missing_patterns table (length ts) m).result ≡ true
missing-plain {table} ts m a = each-plain (missing-kept {P = λ us n r. all is_plain r ≡ true} (record { of_none = λ us. all_plain (length us); of_bare = λ h w. w; of_part = λ {t} {ts} {m} {r} c l h w. plain-wilds (arity table t c) r w; of_full = λ c l w. w }) ts m a)

-- Each missing row fits a value that no row fits
all-wild : {table : Table} (ts : List Ref) → Suits table ts (replicate (length ts) wild)
all-wild [] = done
all-wild (t ∷ ts) = wilds (all-wild ts)

module _ {table : Table} (all : AllValued table) where
  unseen_up : {t : Ref} {ts : List Ref} {m : Matrix} {r : Row} (c : ℕ) → c < length (ctors table t) → seen m c ≡ false → Witness table ts (specialize_by_wildcard m) r → Witness table (t ∷ ts) m (con t c ∷ replicate (arity table t c) wild ++ r)
  unseen_up {t} {ts} {m} {r} c l n w =
      let b = fill all (fields_at table t c) in
      record {
        values = vcon c b.0 ∷ᵛ w.values;
        typed = made l b.1 w.typed;
        fitting = and-true (eq-eqb c c refl) (opened-wilds t c b.1 r w.values ∙ w.fitting);
        new = sym (wild-fits m (vcon c b.0) w.values (named-seen m c b.0 ∙ n)) ∙ w.new;
      }

  pub missing_witness : (ts : List Ref) (m : Matrix) → AllSuit table ts m → Each (Witness table ts m) (collect_missing_patterns table (length ts) m).result
  missing_witness ts m a = missing-kept keeps ts m a
    where
      keeps : Kept table (Witness table)
      keeps = record {
        of_none = λ ts. fitting-row all (all-wild ts);
        of_bare = λ {t} {ts} {m} h w. wild_up (bare_unnamed all m t h) w;
        of_part = unseen_up;
        of_full = λ c l w. con_up l w;
      }

-- Without literals a missing row and the matrix have no value in common
plain_append : (a b : Matrix) → all (all is_plain) a ≡ true → all (all is_plain) b ≡ true → all (all is_plain) (a ++ b) ≡ true
plain_append [] b h k = k
plain_append (r ∷ a) b h k = let p = both (all is_plain r) (all (all is_plain) a) h in and-true p.0 (plain_append a b p.1 k)

plain-each : (f : Row → Matrix) → ((r : Row) → all is_plain r ≡ true → all (all is_plain) (f r) ≡ true) → (m : Matrix) → all (all is_plain) m ≡ true → all (all is_plain) (each_row f m) ≡ true
plain-each f g [] h = refl
plain-each f g (r ∷ m) h = let p = both (all is_plain r) (all (all is_plain) m) h in plain_append (f r) (each_row f m) (g r p.0) (plain-each f g m p.1)

plain-wild : (m : Matrix) → all (all is_plain) m ≡ true → all (all is_plain) (specialize_by_wildcard m) ≡ true
plain-wild m h = plain-each specialize_row_by_wildcard by m h
  where
    by : (r : Row) → all is_plain r ≡ true → all (all is_plain) (specialize_row_by_wildcard r) ≡ true
    by [] h = refl
    by (wild ∷ r) h = and-true h refl
    by (lit l ∷ r) h = clash (cc)
    by (con t d ∷ r) h = refl

plain-ctor : (c a : ℕ) (m : Matrix) → all (all is_plain) m ≡ true → all (all is_plain) (specialize_by_ctor c a m) ≡ true
plain-ctor c a m h = plain-each (specialize_row_by_ctor c a) by m h
  where
    test : (b : Bool) (r : Row) → all is_plain r ≡ true → all (all is_plain) (row_if b r) ≡ true
    test true r h = and-true h refl
    test false r h = refl

    by : (r : Row) → all is_plain r ≡ true → all (all is_plain) (specialize_row_by_ctor c a r) ≡ true
    by [] h = refl
    by (wild ∷ r) h = and-true (plain-wilds a r h) refl
    by (lit l ∷ r) h = clash (cc)
    by (con t d ∷ r) h = test (eqb d c) r h

plain_int : (m : Matrix) (n : Number) → all (all is_plain) m ≡ true → named m (vint n) ≡ false
plain_int [] n h = refl
plain_int ([] ∷ m) n h = plain_int m n h
plain_int ((wild ∷ r) ∷ m) n h = plain_int m n (both (all is_plain r) (all (all is_plain) m) h).1
plain_int ((lit l ∷ r) ∷ m) n h = clash (cc)
plain_int ((con t d ∷ r) ∷ m) n h = plain_int m n (both (all is_plain r) (all (all is_plain) m) h).1

plain-bytes : (m : Matrix) (s : List ℕ) → all (all is_plain) m ≡ true → named m (vbytes s) ≡ false
plain-bytes [] s h = refl
plain-bytes ([] ∷ m) s h = plain-bytes m s h
plain-bytes ((wild ∷ r) ∷ m) s h = plain-bytes m s (both (all is_plain r) (all (all is_plain) m) h).1
plain-bytes ((lit l ∷ r) ∷ m) s h = clash (cc)
plain-bytes ((con t d ∷ r) ∷ m) s h = plain-bytes m s (both (all is_plain r) (all (all is_plain) m) h).1

-- no value of the row fits the matrix, where that has no literals
pub record Apart (table : Table) (ts : List Ref) (m : Matrix) (r : Row) : Type 0 where
  pub apart : all (all is_plain) m ≡ true → (vs : Vals) → HasTypes table ts vs → fits r vs ≡ true → fits_any m vs ≡ false

module _ {table : Table} where
  apart_bare : {t : Ref} {ts : List Ref} {m : Matrix} {r : Row} → ((c : ℕ) → seen m c ≡ false) → Apart table ts (specialize_by_wildcard m) r → Apart table (t ∷ ts) m (wild ∷ r)
  apart_bare {t} {ts} {m} {r} n w = record { apart = λ p vs h f. go p h f }
    where
      at : all (all is_plain) m ≡ true → (v : Val) (vs : Vals) → named m v ≡ false → HasTypes table ts vs → fits r vs ≡ true → fits_any m (v ∷ᵛ vs) ≡ false
      at p v vs x h f = sym (wild-fits m v vs x) ∙ w.apart (plain-wild m p) vs h f

      go : all (all is_plain) m ≡ true → {vs : Vals} → HasTypes table (t ∷ ts) vs → fits (wild ∷ r) vs ≡ true → fits_any m vs ≡ false
      go p (integers {n = n} e h) f = at p (vint n) _ (plain_int m n p) h f
      go p (byte_strings {s = s} e b h) f = at p (vbytes s) _ (plain-bytes m s p) h f
      go p (opaques {n = n} e h) f = at p (vopaque n) _ (opaque_unnamed m n) h f
      go p (made {c = c} {args = args} l b h) f = at p (vcon c args) _ (named-seen m c args ∙ n c) h f

  apart-part : {t : Ref} {ts : List Ref} {m : Matrix} {r : Row} (c : ℕ) → c < length (ctors table t) → seen m c ≡ false → Apart table ts (specialize_by_wildcard m) r → Apart table (t ∷ ts) m (con t c ∷ replicate (arity table t c) wild ++ r)
  apart-part {t} {ts} {m} {r} c l n w = record { apart = λ p vs h f. go p h f }
    where
      go : all (all is_plain) m ≡ true → {vs : Vals} → HasTypes table (t ∷ ts) vs → fits (con t c ∷ replicate (arity table t c) wild ++ r) vs ≡ true → fits_any m vs ≡ false
      go p (integers e h) f = clash (cc)
      go p (byte_strings e b h) f = clash (cc)
      go p (opaques e h) f = clash (cc)
      go p (made {c = d} {args = args} {vs = vs} j b h) f =
          let x = both (eqb c d) (fits (replicate (arity table t c) wild ++ r) (args ++ᵛ vs)) f in
          let e = eqb-true c d x.0 in
          let g : HasTypes table (fields_at table t c) args = rw e b in
          rw (← e) (sym (wild-fits m (vcon c args) vs (named-seen m c args ∙ n)) ∙ w.apart (plain-wild m p) vs h (sym (opened-wilds t c g r vs) ∙ x.1))

  apart-full : {t : Ref} {ts : List Ref} {m : Matrix} {r : Row} (c : ℕ) → c < length (ctors table t) → Apart table (fields_at table t c ++ ts) (specialize_by_ctor c (arity table t c) m) r → Apart table (t ∷ ts) m (con t c ∷ r)
  apart-full {t} {ts} {m} {r} c l w = record { apart = λ p vs h f. go p h f }
    where
      go : all (all is_plain) m ≡ true → {vs : Vals} → HasTypes table (t ∷ ts) vs → fits (con t c ∷ r) vs ≡ true → fits_any m vs ≡ false
      go p (integers e h) f = clash (cc)
      go p (byte_strings e b h) f = clash (cc)
      go p (opaques e h) f = clash (cc)
      go p (made {c = d} {args = args} {vs = vs} j b h) f =
          let x = both (eqb c d) (fits r (args ++ᵛ vs)) f in
          let e = eqb-true c d x.0 in
          let g : HasTypes table (fields_at table t c) args = rw e b in
          rw (← e) (sym (opened t c g m vs) ∙ w.apart (plain-ctor c (arity table t c) m p) (args ++ᵛ vs) (types_append g h) x.1)

  pub missing-apart : (ts : List Ref) (m : Matrix) → AllSuit table ts m → Each (Apart table ts m) (collect_missing_patterns table (length ts) m).result
  missing-apart ts m a = missing-kept {P = Apart table} (record { of_none = λ ts. record { apart = λ p vs h f. refl }; of_bare = apart_bare; of_part = apart-part; of_full = apart-full }) ts m a

-- A missing row for every value that no row fits
data Some : Matrix → Type 0 where
  here : {r : Row} {m : Matrix} → Some (r ∷ m)

some_left : {a : Matrix} (b : Matrix) → Some a → Some (a ++ b)
some_left b here = here

some_right : (a : Matrix) {b : Matrix} → Some b → Some (a ++ b)
some_right [] h = h
some_right (r ∷ a) h = here

some-map : (f : Row → Row) {m : Matrix} → Some m → Some (map f m)
some-map f here = here

some-each : (f : Row → Matrix) → ((r : Row) → Some (f r)) → {m : Matrix} → Some m → Some (each_row f m)
some-each f g (here {m = m}) = some_left (each_row f m) (g _)

some_for : (g : ℕ → List Ref → Matrix) (k : ℕ) (cs : List Ctor) (i : ℕ) → i < length cs → Some (g (k + i) (fields_of (get_or cs i (built [] [])))) → Some (rows_for g k cs)
some_for g k [] i l h = absurd (not-suc-le-zero l)
some_for g k (c ∷ cs) zero l h = some_left (rows_for g (suc k) cs) (rw add-zero at h)
some_for g k (c ∷ cs) (suc i) l h = some_right (g k (fields_of c)) (some_for g (suc k) cs i (le_of_suc-le-suc l) (rw (add-suc, ← suc-add) at h))

-- a value is left over
abbrev Over : Table → List Ref → Matrix → Type 0
Over table ts m = Witness table ts m (replicate (length ts) wild)

module _ {table : Table} where
  module _ (again : ℕ → Matrix → Walk Matrix) (k : ℕ)
      (ok : (ts : List Ref) (m : Matrix) → AllSuit table ts m → cost table (length ts) m < k → Over table ts m → Some (again (length ts) m).result) where
    some-column : {t : Ref} {ts : List Ref} {m : Matrix} → AllSuit table (t ∷ ts) m → cost table (suc (length ts)) m ≤ k → Over table (t ∷ ts) m → (o : Column) → Finds table m t o → Some (missing_column table again o (length ts) m).result
    some-column {t} {ts} {m} a l w o finds = go finds
      where
        below : Some (again (length ts) (specialize_by_wildcard m)).result
        below = ok ts (specialize_by_wildcard m) (wild-suits a) (wild-cheaper table (length ts) k m l) (wild_down w)

        named-row : (c : ℕ) → c < length (ctors table t) → seen m c ≡ false → (q : Row) → Some (unseen m t 0 (alts table t) q)
        named-row c j h q = rw (unseen-rows m t 0 (ctors table t) q) (some_for (unseen_row m t q) 0 (ctors table t) c j (rw (zero-add, h) here))

        call : ℕ → ℕ → Walk Matrix
        call c n = again (n + length ts) (specialize_by_ctor c n m)

        each : ((c : ℕ) → c < length (ctors table t) → seen m c ≡ true)
            → (c : ℕ) × (c < length (ctors table t)) × Witness table (fields_at table t c ++ ts) (specialize_by_ctor c (arity table t c) m) (replicate (arity table t c) wild ++ replicate (length ts) wild)
            → Some (rows_for (ctor_rows call t) 0 (ctors table t))
        each sn d =
            let c = d.0 in
            let e = length-append (fields_at table t c) ts in
            let v : Over table (fields_at table t c ++ ts) (specialize_by_ctor c (arity table t c) m) = rw (e, ← replicate-append-replicate (arity table t c) (length ts) wild) d.2 in
            let o = ok (fields_at table t c ++ ts) (specialize_by_ctor c (arity table t c) m) (ctor-suits c a) (ctor-cheaper table t ts k m c (sn c d.1) l) v in
            let p : Some (again (arity table t c + length ts) (specialize_by_ctor c (arity table t c) m)).result = rw (← e) o in
            some_for (ctor_rows call t) 0 (ctors table t) c d.1 (rw zero-add (some-map (con t c ∷◌) p))

        go : {o : Column} → Finds table m t o → Some (missing_column table again o (length ts) m).result
        go (is_bare h) = some-map (wild ∷◌) below
        go (is_part c j h) = some-each (unseen m t 0 (alts table t)) (named-row c j h) below
        go (is_full z sn) = rw (gather-rows call t 0 (ctors table t)) (each sn (wilds_down z w))

    some-step : (ts : List Ref) (m : Matrix) → AllSuit table ts m → cost table (length ts) m ≤ k → Over table ts m → Some (collect_missing_step table again (length ts) m).result
    unfolding collect_missing_step
    some-step ts [] a l w = here
    some-step [] (r ∷ m) (also h a) l w = absurd (none_left h w)
    some-step (t ∷ ts) (r ∷ m) a l w = some-column a l w (column table (r ∷ m)) (column_finds a)

  some_at : (k : ℕ) (ts : List Ref) (m : Matrix) → AllSuit table ts m → cost table (length ts) m < k → Over table ts m → Some (collect_missing_in table k (length ts) m).result
  unfolding collect_missing_in
  some_at zero ts m a l w = absurd (not-suc-le-zero l)
  some_at (suc k) ts m a l w = some-step (collect_missing_in table k) k (some_at k) ts m a (le_of_suc-le-suc l) w

  fits_all : {ts : List Ref} {vs : Vals} → HasTypes table ts vs → fits (replicate (length ts) wild) vs ≡ true
  fits_all no_values = refl
  fits_all (integers e h) = fits_all h
  fits_all (byte_strings e b h) = fits_all h
  fits_all (opaques e h) = fits_all h
  fits_all (made l a h) = fits_all h

  missing-some : (ts : List Ref) (m : Matrix) → AllSuit table ts m → (vs : Vals) → HasTypes table ts vs → fits_any m vs ≡ false → Some (collect_missing_patterns table (length ts) m).result
  unfolding collect_missing_patterns
  missing-some ts m a vs h f = some_at (suc (cost table (length ts) m)) ts m a (omega arith) (record { values = vs; typed = h; fitting = fits_all h; new = f })

some-not : {m : Matrix} → Some m → m ≡ [] → ⊥
some-not (here {r = r} {m = m}) e = cons-ne-nil r m e

-- there is no missing row exactly when every value fits some row
pub missing-none : {table : Table} → AllValued table → (ts : List Ref) (m : Matrix) → AllSuit table ts m → ((collect_missing_patterns table (length ts) m).result ≡ []) ↔ ((vs : Vals) → HasTypes table ts vs → fits_any m vs ≡ true)
missing-none {table} valued ts m a = (λ e vs h. not_failed (fits_any m vs) (λ f. some-not (missing-some ts m a vs h f) e), back (missing_witness valued ts m a))
  where
    back : {g : Matrix} → Each (Witness table ts m) g → ((vs : Vals) → HasTypes table ts vs → fits_any m vs ≡ true) → g ≡ []
    back nothing h = refl
    back (row w e) h = let f = h w.values w.typed in let n = w.new in clash (cc)
