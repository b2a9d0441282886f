-- No value fits two missing rows, by counting the missing rows that fit it.
use mathlib.Core.Path.{◌≡◌, refl, ap}
use mathlib.Core.List.{List, [], ◌∷◌, ◌++◌, map}
use mathlib.Core.Bool.{Bool, true, false, cond, ◌&&◌}
use Prim.Native.Nat.{ℕ, zero, suc, ◌+◌, ◌≤◌, ◌<◌}
use native.Mathlib.Nat.{le_of_suc-le-suc, not-suc-le-zero}
use native.Mathlib.Omega.{arith}
use lib.ListN.{length, get_or, replicate, length-append}
use lib.Dec.{eqb}
use borrow.Author.Tests.{eqb-true, ne_eqb, eq-eqb}
use Rattle.scope.specs.Lists.{bit}
use Rattle.scope.specs.Types.{Ref, Ctor, Table, fields_of}
use Rattle.scope.specs.Constructors.{built, fields_at, ctors, alts, arity}
use Rattle.scope.specs.Simplify.{wild, con, Row, Matrix}
use Rattle.scope.specs.Walks.{each_row, specialize_by_ctor, specialize_by_wildcard, seen, Column, column, Walk, unseen, missing_column, collect_missing_step, collect_missing_in, cost, collect_missing_patterns}
use Rattle.meaning.specs.Values.{Val, vcon, Vals, []ᵛ, ◌∷ᵛ◌, ◌++ᵛ◌, HasTypes, no_values, integers, byte_strings, opaques, made, fits}
use Rattle.scope.proofs.Tests.{clash}
use Rattle.meaning.proofs.Fitting.{AllSuit, types_append, tail-typed, opened-wilds}
use Rattle.meaning.proofs.Columns.{ctor-suits, wild-suits, Finds, is_bare, is_part, is_full, column_finds}
use Rattle.meaning.proofs.Usefulness.{no_ctors}
use Rattle.meaning.proofs.Gaps.{rows_for, unseen_row, ctor_rows, unseen-rows, gather-rows, wild-cheaper, ctor-cheaper}

-- how many rows fit
abbrev count : Matrix → Vals → ℕ
count [] vs = 0
count (r ∷ m) vs = bit (fits r vs) + count m vs

bit_le : (b : Bool) → bit b ≤ 1
bit_le true = omega arith
bit_le false = omega arith

count_append : (a b : Matrix) (vs : Vals) → count (a ++ b) vs ≡ count a vs + count b vs
count_append [] b vs = omega arith
count_append (r ∷ a) b vs = omega (arith, count_append a b vs)

count-wild : (m : Matrix) (v : Val) (vs : Vals) → count (map (wild ∷◌) m) (v ∷ᵛ vs) ≡ count m vs
count-wild [] v vs = refl
count-wild (r ∷ m) v vs = rw (count-wild m v vs)

count-other : (t c d : ℕ) (m : Matrix) (args vs : Vals) → eqb c d ≡ false → count (map (con t c ∷◌) m) (vcon d args ∷ᵛ vs) ≡ 0
count-other t c d [] args vs h = refl
count-other t c d (r ∷ m) args vs h = rw h (omega (arith, count-other t c d m args vs h))

count_same : (t c : ℕ) (m : Matrix) (args vs : Vals) → count (map (con t c ∷◌) m) (vcon c args ∷ᵛ vs) ≡ count m (args ++ᵛ vs)
count_same t c [] args vs = refl
count_same t c (r ∷ m) args vs = rw (count_same t c m args vs, eq-eqb c c refl)

count-each : (f : Row → Matrix) (vs ws : Vals) → ((r : Row) → count (f r) ws ≤ bit (fits r vs)) → (m : Matrix) → count (each_row f m) ws ≤ count m vs
count-each f vs ws h [] = omega arith
count-each f vs ws h (r ∷ m) = omega (arith, count_append (f r) (each_row f m) ws, h r, count-each f vs ws h m)

-- of the rows for each constructor, only those of constructor d fit
module _ (g : ℕ → List Ref → Matrix) (vs : Vals) (d : ℕ) (others : (c : ℕ) (fs : List Ref) → eqb c d ≡ false → count (g c fs) vs ≡ 0) where
  past : (k : ℕ) (cs : List Ctor) → d < k → count (rows_for g k cs) vs ≡ 0
  past k [] l = refl
  past k (c ∷ cs) l = omega (arith, count_append (g k (fields_of c)) (rows_for g (suc k) cs) vs, others k (fields_of c) (ne_eqb k d (λ e. omega arith)), past (suc k) cs (omega arith))

  count_for : (n k : ℕ) (cs : List Ctor) → ((i : ℕ) → k + i ≡ d → i < length cs → count (g d (fields_of (get_or cs i (built [] [])))) vs ≤ n) → count (rows_for g k cs) vs ≤ n
  count_for n k [] mine = omega arith
  count_for n k (c ∷ cs) mine = go (eqb k d) refl (count_for n (suc k) cs (λ i e l. mine (suc i) (omega arith) (omega arith)))
    where
      go : (x : Bool) → eqb k d ≡ x → count (rows_for g (suc k) cs) vs ≤ n → count (g k (fields_of c) ++ rows_for g (suc k) cs) vs ≤ n
      go true q more =
          let e = eqb-true k d q in
          let h : count (g k (fields_of c)) vs ≤ n = rw e (mine 0 (omega arith) (omega arith)) in
          omega (arith, count_append (g k (fields_of c)) (rows_for g (suc k) cs) vs, past (suc k) cs (omega arith))
      go false q more = omega (arith, count_append (g k (fields_of c)) (rows_for g (suc k) cs) vs, others k (fields_of c) q)

-- a value of a type with constructors, taken apart
record Made (table : Table) (t : Ref) (ts : List Ref) (ws : Vals) : Type 0 where
  tag : ℕ
  args : Vals
  rest : Vals
  is : ws ≡ vcon tag args ∷ᵛ rest
  below : tag < length (ctors table t)
  typed : HasTypes table (fields_at table t tag) args
  left : HasTypes table ts rest

apart-made : {table : Table} {t : Ref} {ts : List Ref} {ws : Vals} → HasTypes table (t ∷ ts) ws → 0 < length (ctors table t) → Made table t ts ws
apart-made {t = t} (integers e h) z = absurd (not-suc-le-zero (no_ctors t e z))
apart-made {t = t} (byte_strings e b h) z = absurd (not-suc-le-zero (no_ctors t e z))
apart-made {t = t} (opaques e h) z = absurd (not-suc-le-zero (no_ctors t e z))
apart-made (made l a h) z = record { tag = _; args = _; rest = _; is = refl; below = l; typed = a; left = h }

count-cond : (b : Bool) (q : Row) (vs : Vals) → count (cond b [] (q ∷ [])) vs ≤ bit (fits q vs)
count-cond true q vs = omega arith
count-cond false q vs = omega arith

and_none : {b : Bool} (x : Bool) → b ≡ false → bit (b && x) ≡ 0
and_none x h = rw h

and_le : (b x : Bool) → bit (b && x) ≤ bit x
and_le true x = omega arith
and_le false x = omega arith

module _ {table : Table} where
  -- of the unseen constructors at most one fits
  unseen-once : (t : Ref) (m : Matrix) (d : ℕ) (args vs : Vals) → HasTypes table (fields_at table t d) args → (r : Row) → count (unseen m t 0 (alts table t) r) (vcon d args ∷ᵛ vs) ≤ bit (fits r vs)
  unseen-once t m d args vs h r = rw (unseen-rows m t 0 (ctors table t) r) (count_for (unseen_row m t r) (vcon d args ∷ᵛ vs) d other (bit (fits r vs)) 0 (ctors table t) mine)
    where
      other : (c : ℕ) (fs : List Ref) → eqb c d ≡ false → count (unseen_row m t r c fs) (vcon d args ∷ᵛ vs) ≡ 0
      other c fs n = omega (arith, count-cond (seen m c) (con t c ∷ replicate (length fs) wild ++ r) (vcon d args ∷ᵛ vs), and_none (fits (replicate (length fs) wild ++ r) (args ++ᵛ vs)) n)

      same : count (unseen_row m t r d (fields_at table t d)) (vcon d args ∷ᵛ vs) ≤ bit (fits r vs)
      same = omega (arith, count-cond (seen m d) (con t d ∷ replicate (arity table t d) wild ++ r) (vcon d args ∷ᵛ vs), and_le (eqb d d) (fits (replicate (arity table t d) wild ++ r) (args ++ᵛ vs)), ap bit (opened-wilds t d h r vs))

      mine : (i : ℕ) → 0 + i ≡ d → i < length (ctors table t) → count (unseen_row m t r d (fields_at table t i)) (vcon d args ∷ᵛ vs) ≤ bit (fits r vs)
      mine i e l = let j : i ≡ d = omega arith in rw j same

  module _ (again : ℕ → Matrix → Walk Matrix) (k : ℕ)
      (ok : (ts : List Ref) (m : Matrix) (vs : Vals) → HasTypes table ts vs → AllSuit table ts m → cost table (length ts) m < k → count (again (length ts) m).result vs ≤ 1) where
    once-column : {t : Ref} {ts : List Ref} {m : Matrix} {v : Val} {vs : Vals} → HasTypes table (t ∷ ts) (v ∷ᵛ vs) → AllSuit table (t ∷ ts) m → cost table (suc (length ts)) m ≤ k → (o : Column) → Finds table m t o → count (missing_column table again o (length ts) m).result (v ∷ᵛ vs) ≤ 1
    once-column {t} {ts} {m} {v} {vs} h a l o finds = go finds
      where
        rest : Matrix
        rest = (again (length ts) (specialize_by_wildcard m)).result

        below : (ws : Vals) → HasTypes table ts ws → count rest ws ≤ 1
        below ws x = ok ts (specialize_by_wildcard m) ws x (wild-suits a) (wild-cheaper table (length ts) k m l)

        call : ℕ → ℕ → Walk Matrix
        call c n = again (n + length ts) (specialize_by_ctor c n m)

        some : Made table t ts (v ∷ᵛ vs) → count (each_row (unseen m t 0 (alts table t)) rest) (v ∷ᵛ vs) ≤ 1
        some b = rw b.is (omega (arith, count-each (unseen m t 0 (alts table t)) b.rest (vcon b.tag b.args ∷ᵛ b.rest) (unseen-once t m b.tag b.args b.rest b.typed) rest, below b.rest b.left))

        every : ((c : ℕ) → c < length (ctors table t) → seen m c ≡ true) → Made table t ts (v ∷ᵛ vs) → count (rows_for (ctor_rows call t) 0 (ctors table t)) (v ∷ᵛ vs) ≤ 1
        every sn b = rw b.is (count_for (ctor_rows call t) (vcon d b.args ∷ᵛ b.rest) d (λ c fs n. count-other t c d (call c (length fs)).result b.args b.rest n) 1 0 (ctors table t) mine)
          where
            d : ℕ
            d = b.tag

            mine : (i : ℕ) → 0 + i ≡ d → i < length (ctors table t) → count (ctor_rows call t d (fields_at table t i)) (vcon d b.args ∷ᵛ b.rest) ≤ 1
            mine i e x =
                let j : i ≡ d = omega arith in
                let o = ok (fields_at table t d ++ ts) (specialize_by_ctor d (arity table t d) m) (b.args ++ᵛ b.rest) (types_append b.typed b.left) (ctor-suits d a) (ctor-cheaper table t ts k m d (sn d b.below) l) in
                let p : count (again (arity table t d + length ts) (specialize_by_ctor d (arity table t d) m)).result (b.args ++ᵛ b.rest) ≤ 1 = rw (← length-append (fields_at table t d) ts) o in
                rw (j, count_same t d (call d (arity table t d)).result b.args b.rest) p

        go : {o : Column} → Finds table m t o → count (missing_column table again o (length ts) m).result (v ∷ᵛ vs) ≤ 1
        go (is_bare n) = omega (arith, count-wild rest v vs, below vs (tail-typed h))
        go (is_part c j n) = some (apart-made h (omega arith))
        go (is_full z sn) = rw (gather-rows call t 0 (ctors table t)) (every sn (apart-made h z))

    once-step : (ts : List Ref) (m : Matrix) (vs : Vals) → HasTypes table ts vs → AllSuit table ts m → cost table (length ts) m ≤ k → count (collect_missing_step table again (length ts) m).result vs ≤ 1
    unfolding collect_missing_step
    once-step ts [] vs h a l = omega (arith, bit_le (fits (replicate (length ts) wild) vs))
    once-step [] (r ∷ m) vs h a l = omega arith
    once-step (t ∷ ts) (r ∷ m) []ᵛ h a l = absurd (none h refl)
      where
        none : {us : List Ref} → HasTypes table us []ᵛ → us ≡ t ∷ ts → ⊥
        none no_values e = clash (cc)
    once-step (t ∷ ts) (r ∷ m) (v ∷ᵛ vs) h a l = once-column h a l (column table (r ∷ m)) (column_finds a)

  once-at : (k : ℕ) (ts : List Ref) (m : Matrix) (vs : Vals) → HasTypes table ts vs → AllSuit table ts m → cost table (length ts) m < k → count (collect_missing_in table k (length ts) m).result vs ≤ 1
  unfolding collect_missing_in
  once-at zero ts m vs h a l = absurd (not-suc-le-zero l)
  once-at (suc k) ts m vs h a l = once-step (collect_missing_in table k) k (once-at k) ts m vs h a (le_of_suc-le-suc l)

-- two rows that fit the same values are counted twice
fitting-counts : (m : Matrix) (vs : Vals) (i : ℕ) → i < length m → fits (get_or m i []) vs ≡ true → 1 ≤ count m vs
fitting-counts [] vs i l h = absurd (not-suc-le-zero l)
fitting-counts (r ∷ m) vs zero l h = rw h (omega arith)
fitting-counts (r ∷ m) vs (suc i) l h = omega (arith, fitting-counts m vs i (le_of_suc-le-suc l) h)

counted-once : (m : Matrix) (vs : Vals) (i j : ℕ) → count m vs ≤ 1 → i < length m → j < length m → fits (get_or m i []) vs ≡ true → fits (get_or m j []) vs ≡ true → i ≡ j
counted-once [] vs i j c l k h g = absurd (not-suc-le-zero l)
counted-once (r ∷ m) vs zero zero c l k h g = refl
counted-once (r ∷ m) vs zero (suc j) c l k h g = absurd (omega (arith, ap bit h, fitting-counts m vs j (le_of_suc-le-suc k) g))
counted-once (r ∷ m) vs (suc i) zero c l k h g = absurd (omega (arith, ap bit g, fitting-counts m vs i (le_of_suc-le-suc l) h))
counted-once (r ∷ m) vs (suc i) (suc j) c l k h g = ap suc (counted-once m vs i j (omega arith) (le_of_suc-le-suc l) (le_of_suc-le-suc k) h g)

-- no row of values fits two missing rows
pub missing-once : {table : Table} (ts : List Ref) (m : Matrix) → AllSuit table ts m → (vs : Vals) → HasTypes table ts vs → (i j : ℕ)
    → i < length (collect_missing_patterns table (length ts) m).result → j < length (collect_missing_patterns table (length ts) m).result
    → fits (get_or (collect_missing_patterns table (length ts) m).result i []) vs ≡ true → fits (get_or (collect_missing_patterns table (length ts) m).result j []) vs ≡ true → i ≡ j
unfolding collect_missing_patterns
missing-once {table} ts m a vs h i j l k f g = counted-once (collect_missing_patterns table (length ts) m).result vs i j (once-at (suc (cost table (length ts) m)) ts m vs h a (omega arith)) l k f g
