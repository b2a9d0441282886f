-- Rows that no test tells apart are missed alike: the missing walk finds the same rows in as many calls, from its one-step law.
use mathlib.Core.Path.{◌≡◌, refl, ap, ap₂, sym, ◌∙◌}
use mathlib.Core.List.{List, [], ◌∷◌, ◌++◌, map}
use mathlib.Core.Bool.{Bool, true, false, cond, ◌&&◌, ◌||◌, or_assoc}
use mathlib.Core.Option.{Option, none, some}
use Prim.Native.Nat.{ℕ, zero, suc, ◌+◌, ◌≤◌, ◌<◌}
use native.Mathlib.Nat.{add-zero, add-suc, suc-add, zero-add, le_of_suc-le-suc, not-suc-le-zero}
use native.Mathlib.Omega.{arith}
use lib.ListN.{length, get_or, length-append}
use Rattle.scope.specs.Lists.{any}
use Rattle.scope.specs.Types.{Ref, Ctor, Table, fields_of}
use Rattle.scope.specs.Constructors.{built, fields_at, ctors, alts, arity}
use Rattle.scope.specs.Simplify.{wild, lit, con, Row, Matrix}
use Rattle.scope.specs.Walks.{specialize_row_by_ctor, specialize_row_by_wildcard, specialize_by_ctor, specialize_by_wildcard, each_row, begins_with, seen, all_seen, column_type, Column, part, full, column_at, column, Walk, unseen, gather, missing_column, collect_missing_step, cost, collect_missing_patterns}
use Rattle.scope.proofs.Tests.{clash}
use Rattle.laws.proofs.Steps.{missing_law}
use Rattle.meaning.proofs.Fitting.{wilds, lits, cons, AllSuit, no_rows, also}
use Rattle.meaning.proofs.Columns.{ctor-suits, wild-suits, Finds, is_bare, is_part, is_full, column_finds}
use Rattle.meaning.proofs.Gaps.{wild-cheaper, ctor-cheaper}

-- no test tells the rows of the one from those of the other
pub record Untold (m n : Matrix) : Type 0 where
  pub tests : (p : Row → Bool) → any p m ≡ any p n

-- rows one after another, and what each row becomes
any_append : (p : Row → Bool) (m n : Matrix) → any p (m ++ n) ≡ (any p m || any p n)
any_append p [] n = refl
any_append p (r ∷ m) n = ap (λ (x : Bool). p r || x) (any_append p m n) ∙ sym (or_assoc (p r) (any p m) (any p n))

any-each : (p : Row → Bool) (f : Row → Matrix) (m : Matrix) → any p (each_row f m) ≡ any (λ r. any p (f r)) m
any-each p f [] = refl
any-each p f (r ∷ m) = any_append p (f r) (each_row f m) ∙ ap (λ (x : Bool). any p (f r) || x) (any-each p f m)

each_untold : {m n : Matrix} (f : Row → Matrix) → Untold m n → Untold (each_row f m) (each_row f n)
each_untold {m} {n} f u = record { tests = λ p. any-each p f m ∙ u.tests (λ r. any p (f r)) ∙ sym (any-each p f n) }

-- The first column is found the same
seen-any : (m : Matrix) (c : ℕ) → seen m c ≡ any (begins_with c) m
seen-any [] c = refl
seen-any (r ∷ m) c = ap (λ (x : Bool). begins_with c r || x) (seen-any m c)

same_seen : {m n : Matrix} → Untold m n → (c : ℕ) → seen m c ≡ seen n c
same_seen {m} {n} u c = seen-any m c ∙ u.tests (begins_with c) ∙ sym (seen-any n c)

all-seen-same : {m n : Matrix} → Untold m n → (c : ℕ) (ks : List (List Ref)) → all_seen m c ks ≡ all_seen n c ks
all-seen-same u c [] = refl
all-seen-same u c (fields ∷ ks) = ap₂ ◌&&◌ (same_seen u c) (all-seen-same u (suc c) ks)

-- does a row begin with a constructor
abbrev is_named : Row → Bool
is_named [] = false
is_named (wild ∷ r) = false
is_named (lit l ∷ r) = false
is_named (con t c ∷ r) = true

module _ {table : Table} where
  type_of : {t : Ref} {ts : List Ref} {m : Matrix} → AllSuit table (t ∷ ts) m → column_type m ≡ cond (any is_named m) (some t) none
  type_of no_rows = refl
  type_of (also (wilds h) a) = type_of a
  type_of (also (lits e k h) a) = type_of a
  type_of (also (cons l h) a) = refl

  column-same : {t : Ref} {ts : List Ref} {m n : Matrix} → AllSuit table (t ∷ ts) m → AllSuit table (t ∷ ts) n → Untold m n → column table m ≡ column table n
  unfolding column
  column-same {t} {m = m} {n = n} a b u = at (column_type m) ∙ ap (column_at table n) (type_of a ∙ ap (λ (x : Bool). cond x (some t) none) (u.tests is_named) ∙ sym (type_of b))
    where
      at : (o : Option Ref) → column_at table m o ≡ column_at table n o
      at none = refl
      at (some v) = ap (λ (x : Bool). cond x (full v) (part v)) (all-seen-same u 0 (alts table v))

-- the unseen constructors are the same
unseen_same : {m n : Matrix} → Untold m n → (t c : ℕ) (ks : List (List Ref)) (r : Row) → unseen m t c ks r ≡ unseen n t c ks r
unseen_same u t c [] r = refl
unseen_same u t c (fields ∷ ks) r = rw (same_seen u c, unseen_same u t (suc c) ks r)

each_same : {f g : Row → Matrix} → ((r : Row) → f r ≡ g r) → (m : Matrix) → each_row f m ≡ each_row g m
each_same h [] = refl
each_same h (r ∷ m) = ap₂ ◌++◌ (h r) (each_same h m)

-- two walks with the same result in as many calls
pub record Alike {A : Type 0} (w v : Walk A) : Type 0 where
  pub result : w.result ≡ v.result
  pub calls : w.calls ≡ v.calls

gather-alike : (f g : ℕ → ℕ → Walk Matrix) (t k : ℕ) (cs : List Ctor)
    → ((i : ℕ) → i < length cs → let fields = fields_of (get_or cs i (built [] [])) in Alike (f (k + i) (length fields)) (g (k + i) (length fields)))
    → Alike (gather f t k (map fields_of cs)) (gather g t k (map fields_of cs))
gather-alike f g t k [] h = record { result = refl; calls = refl }
gather-alike f g t k (c ∷ cs) h =
    let here = rw add-zero at (h 0 (omega arith)) in
    let more = gather-alike f g t (suc k) cs (λ i l. rw (add-suc, ← suc-add) at (h (suc i) (omega arith))) in
    record { result = rw (here.result, more.result); calls = rw (here.calls, more.calls) }

-- one call more, where the calls that it makes are alike
module _ {table : Table} (k : ℕ)
    (ok : (ts : List Ref) (m n : Matrix) → AllSuit table ts m → AllSuit table ts n → Untold m n → cost table (length ts) m < k
    → Alike (collect_missing_patterns table (length ts) m) (collect_missing_patterns table (length ts) n)) where
  column-alike : {t : Ref} {ts : List Ref} {m n : Matrix} → AllSuit table (t ∷ ts) m → AllSuit table (t ∷ ts) n → Untold m n → cost table (suc (length ts)) m ≤ k → {o : Column} → Finds table m t o
      → Alike (missing_column table (collect_missing_patterns table) o (length ts) m) (missing_column table (collect_missing_patterns table) o (length ts) n)
  column-alike {t} {ts} {m} {n} a b u l finds = go finds
    where
      again : ℕ → Matrix → Walk Matrix
      again = collect_missing_patterns table

      below : Alike (again (length ts) (specialize_by_wildcard m)) (again (length ts) (specialize_by_wildcard n))
      below = ok ts (specialize_by_wildcard m) (specialize_by_wildcard n) (wild-suits a) (wild-suits b) (each_untold specialize_row_by_wildcard u) (wild-cheaper table (length ts) k m l)

      each : ((c : ℕ) → c < length (ctors table t) → seen m c ≡ true) → (c : ℕ) → c < length (ctors table t)
          → Alike (again (arity table t c + length ts) (specialize_by_ctor c (arity table t c) m)) (again (arity table t c + length ts) (specialize_by_ctor c (arity table t c) n))
      each sn c j =
          let w = ok (fields_at table t c ++ ts) (specialize_by_ctor c (arity table t c) m) (specialize_by_ctor c (arity table t c) n) (ctor-suits c a) (ctor-suits c b) (each_untold (specialize_row_by_ctor c (arity table t c)) u) (ctor-cheaper table t ts k m c (sn c j) l) in
          rw (← length-append (fields_at table t c) ts) w

      go : {o : Column} → Finds table m t o → Alike (missing_column table again o (length ts) m) (missing_column table again o (length ts) n)
      go (is_bare h) = record { result = ap (map (wild ∷◌)) below.result; calls = below.calls }
      go (is_part c j h) = record { result = each_same (unseen_same u t 0 (alts table t)) (again (length ts) (specialize_by_wildcard m)).result ∙ ap (each_row (unseen n t 0 (alts table t))) below.result; calls = below.calls }
      go (is_full z sn) = gather-alike (λ c x. again (x + length ts) (specialize_by_ctor c x m)) (λ c x. again (x + length ts) (specialize_by_ctor c x n)) t 0 (ctors table t) (λ i x. rw zero-add (each sn i x))

  found_alike : {t : Ref} {ts : List Ref} {m n : Matrix} → AllSuit table (t ∷ ts) m → AllSuit table (t ∷ ts) n → Untold m n → cost table (suc (length ts)) m ≤ k
      → Alike (missing_column table (collect_missing_patterns table) (column table m) (length ts) m) (missing_column table (collect_missing_patterns table) (column table n) (length ts) n)
  found_alike a b u l = rw (← column-same a b u) (column-alike a b u l (column_finds a))

  step-alike : (ts : List Ref) (m n : Matrix) → AllSuit table ts m → AllSuit table ts n → Untold m n → cost table (length ts) m ≤ k
      → Alike (collect_missing_step table (collect_missing_patterns table) (length ts) m) (collect_missing_step table (collect_missing_patterns table) (length ts) n)
  unfolding collect_missing_step
  step-alike ts [] [] a b u l = record { result = refl; calls = refl }
  step-alike ts [] (s ∷ n) a b u l = let e = u.tests (λ r. true) in clash (cc)
  step-alike ts (r ∷ m) [] a b u l = let e = u.tests (λ r. true) in clash (cc)
  step-alike [] (r ∷ m) (s ∷ n) a b u l = record { result = refl; calls = refl }
  step-alike (t ∷ ts) (r ∷ m) (s ∷ n) a b u l =
      let w = found_alike a b u l in
      record { result = w.result; calls = ap suc w.calls }

missing-within : {table : Table} (k : ℕ) (ts : List Ref) (m n : Matrix) → AllSuit table ts m → AllSuit table ts n → Untold m n → cost table (length ts) m < k
    → Alike (collect_missing_patterns table (length ts) m) (collect_missing_patterns table (length ts) n)
missing-within zero ts m n a b u l = absurd (not-suc-le-zero l)
missing-within {table} (suc k) ts m n a b u l =
    let w = step-alike k (missing-within k) ts m n a b u (le_of_suc-le-suc l) in
    let i = missing_law table (length ts) m in
    let j = missing_law table (length ts) n in
    record {
      result = ap (λ (x : Walk Matrix). x.result) i ∙ w.result ∙ sym (ap (λ (x : Walk Matrix). x.result) j);
      calls = ap (λ (x : Walk Matrix). x.calls) i ∙ w.calls ∙ sym (ap (λ (x : Walk Matrix). x.calls) j);
    }

pub missing-alike : {table : Table} (ts : List Ref) (m n : Matrix) → AllSuit table ts m → AllSuit table ts n → Untold m n
    → Alike (collect_missing_patterns table (length ts) m) (collect_missing_patterns table (length ts) n)
missing-alike {table} ts m n a b u = missing-within (suc (cost table (length ts) m)) ts m n a b u (omega arith)
