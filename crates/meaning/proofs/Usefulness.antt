-- Usefulness is what the paper says: `is_useful` says yes exactly when a row of values fits the new row and no row of the matrix.
use mathlib.Core.Path.{◌≡◌, refl, sym, subst, ◌∙◌}
use mathlib.Core.Logic.{◌⊎◌, inl, inr}
use mathlib.Core.List.{List, [], ◌∷◌, ◌++◌, map}
use mathlib.Core.Bool.{Bool, true, false, cond, ◌||◌}
use Prim.Native.Nat.{ℕ, zero, suc, ◌+◌, ◌≤◌, ◌<◌}
use native.Mathlib.Nat.{add-zero, add-suc, suc-add, zero-add, le_of_suc-le-suc, not-suc-le-zero}
use native.Mathlib.Omega.{arith}
use lib.ListN.{length, get_or, replicate, length-append}
use lib.Dec.{eqb}
use borrow.Author.Tests.{eqb-true, eq-eqb}
use Rattle.scope.specs.Types.{Ref, Ctor, Ty, integer, byte_string, opaque, list, tuple, pair, dat, Table, kind, type_at, fields_of}
use Rattle.scope.specs.Constructors.{built, fields_at, ctors, ctors_at, arity}
use Rattle.scope.specs.Simplify.{Literal, int, byte_array, wild, lit, con, Row, Matrix}
use Rattle.laws.specs.Typed.{literal_kind}
use Rattle.scope.specs.Walks.{specialize_by_ctor, specialize_by_literal, specialize_by_wildcard, seen, Column, column, Walk, joined, try_each, useful_wild, useful_head, is_useful_step, is_useful_in, cost, is_useful}
use Rattle.meaning.specs.Values.{vcon, Vals, []ᵛ, ◌∷ᵛ◌, ◌++ᵛ◌, HasTypes, no_values, integers, byte_strings, opaques, made, literal_fits, fits, fits_any, is_admitted}
use Rattle.meaning.specs.Meaning.{AllValued, Witness, UsefulRight}
use Rattle.scope.proofs.Tests.{clash, both, and-true, either, or_left, or_right}
use Rattle.laws.proofs.Costs.{wilds_weigh, wildcard_weigh, literal_weigh, ctor_weigh, seen_weigh, default_cost, ctor-cost, arity-narrow}
use Rattle.meaning.proofs.Fitting.{value_of, literal_self, literal-is, Suits, done, wilds, lits, cons, AllSuit, no_rows, also, suits, all-suit, literal-fits, wild-fits, wild_unfit, types_append, tail-typed, parted, opened, opened-wilds, valued-at, Unnamed, bare_unnamed, unseen_unnamed}
use Rattle.meaning.proofs.Columns.{wilds-suit, ctor-suits, wild-suits, literal-suits, Finds, is_bare, is_part, is_full, column_finds}

-- A constructor's column: a witness with the constructor, and one with its fields
module _ {table : Table} {t : Ref} {c : ℕ} {q : Row} {m : Matrix} {ts : List Ref} where
  pub con_up : c < length (ctors table t) → Witness table (fields_at table t c ++ ts) (specialize_by_ctor c (arity table t c) m) q → Witness table (t ∷ ts) m (con t c ∷ q)
  con_up l w =
      let p = parted (fields_at table t c) w.typed in
      record {
        values = vcon c p.front ∷ᵛ p.back;
        typed = made l p.typed p.left;
        fitting = and-true (eq-eqb c c refl) (rw p.is at w.fitting);
        new = sym (opened t c p.typed m p.back) ∙ (rw p.is at w.new);
      }

  con_down : Witness table (t ∷ ts) m (con t c ∷ q) → Witness table (fields_at table t c ++ ts) (specialize_by_ctor c (arity table t c) m) q
  con_down w = go w.typed w.fitting w.new
    where
      go : {vs : Vals} → HasTypes table (t ∷ ts) vs → fits (con t c ∷ q) vs ≡ true → fits_any m vs ≡ false → Witness table (fields_at table t c ++ ts) (specialize_by_ctor c (arity table t c) m) q
      go (integers e h) k f = clash (cc)
      go (byte_strings e b h) k f = clash (cc)
      go (opaques e h) k f = clash (cc)
      go (made {c = d} {args = args} {vs = vs} l a h) k f =
          let p = both (eqb c d) (fits q (args ++ᵛ vs)) k in
          let e = eqb-true c d p.0 in
          let b : HasTypes table (fields_at table t c) args = rw e a in
          record { values = args ++ᵛ vs; typed = types_append b h; fitting = p.1; new = opened t c b m vs ∙ rw e f }

  wilds_up : c < length (ctors table t) → Witness table (fields_at table t c ++ ts) (specialize_by_ctor c (arity table t c) m) (replicate (arity table t c) wild ++ q) → Witness table (t ∷ ts) m (wild ∷ q)
  wilds_up l w =
      let p = parted (fields_at table t c) w.typed in
      record {
        values = vcon c p.front ∷ᵛ p.back;
        typed = made l p.typed p.left;
        fitting = sym (opened-wilds t c p.typed q p.back) ∙ (rw p.is at w.fitting);
        new = sym (opened t c p.typed m p.back) ∙ (rw p.is at w.new);
      }

pub no_ctors : (t : Ref) {ty u : Ty} → ty ≡ u → 0 < length (ctors_at t ty) → 0 < length (ctors_at t u)
no_ctors t e l = subst (λ (x : Ty). 0 < length (ctors_at t x)) e l

-- at a type with constructors a value begins with one
pub wilds_down : {table : Table} {t : Ref} {q : Row} {m : Matrix} {ts : List Ref} → 0 < length (ctors table t) → Witness table (t ∷ ts) m (wild ∷ q)
    → (c : ℕ) × (c < length (ctors table t)) × Witness table (fields_at table t c ++ ts) (specialize_by_ctor c (arity table t c) m) (replicate (arity table t c) wild ++ q)
wilds_down {table} {t} {q} {m} {ts} z w = go w.typed w.fitting w.new
  where
    go : {vs : Vals} → HasTypes table (t ∷ ts) vs → fits (wild ∷ q) vs ≡ true → fits_any m vs ≡ false
        → (c : ℕ) × (c < length (ctors table t)) × Witness table (fields_at table t c ++ ts) (specialize_by_ctor c (arity table t c) m) (replicate (arity table t c) wild ++ q)
    go (integers e h) k f = absurd (not-suc-le-zero (no_ctors t e z))
    go (byte_strings e b h) k f = absurd (not-suc-le-zero (no_ctors t e z))
    go (opaques e h) k f = absurd (not-suc-le-zero (no_ctors t e z))
    go (made {c = c} {args = args} {vs = vs} l a h) k f =
        (c, l, record { values = args ++ᵛ vs; typed = types_append a h; fitting = opened-wilds t c a q vs ∙ k; new = opened t c a m vs ∙ f })

-- A literal's column
kind-integer : (ty : Ty) → kind ty ≡ 0 → ty ≡ integer
kind-integer integer h = refl
kind-integer byte_string h = absurd (omega arith)
kind-integer opaque h = absurd (omega arith)
kind-integer (list e) h = absurd (omega arith)
kind-integer (tuple ts) h = absurd (omega arith)
kind-integer (pair a b) h = absurd (omega arith)
kind-integer (dat cs) h = absurd (omega arith)

kind-bytes : (ty : Ty) → kind ty ≡ 1 → ty ≡ byte_string
kind-bytes integer h = absurd (omega arith)
kind-bytes byte_string h = refl
kind-bytes opaque h = absurd (omega arith)
kind-bytes (list e) h = absurd (omega arith)
kind-bytes (tuple ts) h = absurd (omega arith)
kind-bytes (pair a b) h = absurd (omega arith)
kind-bytes (dat cs) h = absurd (omega arith)

literal-typed : {table : Table} {t : Ref} {ts : List Ref} {vs : Vals} (l : Literal) → kind (type_at table t) ≡ literal_kind l → is_admitted l ≡ true → HasTypes table ts vs → HasTypes table (t ∷ ts) (value_of l ∷ᵛ vs)
literal-typed {table} {t} (int x) e g h = integers (kind-integer (type_at table t) e) h
literal-typed {table} {t} (byte_array x) e g h = byte_strings (kind-bytes (type_at table t) e) g h

module _ {table : Table} {t : Ref} {l : Literal} {q : Row} {m : Matrix} {ts : List Ref} (good : is_admitted l ≡ true) (a : AllSuit table (t ∷ ts) m) where
  lit_up : kind (type_at table t) ≡ literal_kind l → Witness table ts (specialize_by_literal l m) q → Witness table (t ∷ ts) m (lit l ∷ q)
  lit_up e w = record {
    values = value_of l ∷ᵛ w.values;
    typed = literal-typed l e good w.typed;
    fitting = and-true (literal_self l) w.fitting;
    new = sym (literal-fits l good w.values a) ∙ w.new;
  }

  lit_down : Witness table (t ∷ ts) m (lit l ∷ q) → Witness table ts (specialize_by_literal l m) q
  lit_down w = go w.values w.typed w.fitting w.new
    where
      go : (vs : Vals) → HasTypes table (t ∷ ts) vs → fits (lit l ∷ q) vs ≡ true → fits_any m vs ≡ false → Witness table ts (specialize_by_literal l m) q
      go []ᵛ h k f = clash (cc)
      go (v ∷ᵛ vs) h k f =
          let p = both (literal_fits l v) (fits q vs) k in
          let e = literal-is l v p.0 in
          record { values = vs; typed = tail-typed h; fitting = p.1; new = literal-fits l good vs a ∙ (rw e at f) }

-- A column that does not name every value
module _ {table : Table} {t : Ref} {q : Row} {m : Matrix} {ts : List Ref} where
  pub wild_up : Unnamed table m t → Witness table ts (specialize_by_wildcard m) q → Witness table (t ∷ ts) m (wild ∷ q)
  wild_up u w = record {
    values = u.value ∷ᵛ w.values;
    typed = types_append u.typed w.typed;
    fitting = w.fitting;
    new = sym (wild-fits m u.value w.values u.free) ∙ w.new;
  }

  pub wild_down : Witness table (t ∷ ts) m (wild ∷ q) → Witness table ts (specialize_by_wildcard m) q
  wild_down w = go w.values w.typed w.fitting w.new
    where
      go : (vs : Vals) → HasTypes table (t ∷ ts) vs → fits (wild ∷ q) vs ≡ true → fits_any m vs ≡ false → Witness table ts (specialize_by_wildcard m) q
      go []ᵛ h k f = clash (cc)
      go (v ∷ᵛ vs) h k f = record { values = vs; typed = tail-typed h; fitting = k; new = wild_unfit m v vs f }

-- The ends: no row, and no pattern
pub fitting-row : {table : Table} → AllValued table → {ts : List Ref} {q : Row} → Suits table ts q → Witness table ts [] q
fitting-row all done = record { values = []ᵛ; typed = no_values; fitting = refl; new = refl }
fitting-row all (wilds {t = t} h) = let v = valued-at all t in wild_up (record { value = v.value; typed = v.typed; free = refl }) (fitting-row all h)
fitting-row all (lits e g h) = lit_up g no_rows e (fitting-row all h)
fitting-row all (cons l h) = con_up l (fitting-row all h)

pub none_left : {table : Table} {q r : Row} {m : Matrix} → Suits table [] r → Witness table [] (r ∷ m) q → ⊥
none_left {table} {q} {r} {m} done w = go w.typed w.new
  where
    go : {vs : Vals} → HasTypes table [] vs → fits_any ([] ∷ m) vs ≡ false → ⊥
    go no_values f = clash (cc)

-- A try for each constructor, from number k on
module _ (f : ℕ → ℕ → Walk Bool) where
  tried : (k : ℕ) (fs : List Ref) (ks : List (List Ref)) → (try_each f k (fs ∷ ks)).result ≡ ((f k (length fs)).result || (try_each f (suc k) ks).result)
  tried k fs ks = go (f k (length fs)).result refl
    where
      go : (b : Bool) → (f k (length fs)).result ≡ b → (cond b (f k (length fs)) (joined ◌||◌ (f k (length fs)) (try_each f (suc k) ks))).result ≡ ((f k (length fs)).result || (try_each f (suc k) ks).result)
      go true e = rw e
      go false e = refl

  try_some : (k : ℕ) (cs : List Ctor) (i : ℕ) → i < length cs → (f (k + i) (length (fields_of (get_or cs i (built [] []))))).result ≡ true → (try_each f k (map fields_of cs)).result ≡ true
  try_some k [] i l h = absurd (not-suc-le-zero l)
  try_some k (c ∷ cs) zero l h = tried k (fields_of c) (map fields_of cs) ∙ or_left (try_each f (suc k) (map fields_of cs)).result (rw add-zero at h)
  try_some k (c ∷ cs) (suc i) l h = tried k (fields_of c) (map fields_of cs) ∙ or_right (f k (length (fields_of c))).result (try_some (suc k) cs i (le_of_suc-le-suc l) (rw (add-suc, ← suc-add) at h))

  try_found : (k : ℕ) (cs : List Ctor) → (try_each f k (map fields_of cs)).result ≡ true → (i : ℕ) × (i < length cs) × ((f (k + i) (length (fields_of (get_or cs i (built [] []))))).result ≡ true)
  try_found k [] h = clash (cc)
  try_found k (c ∷ cs) h = go (either (f k (length (fields_of c))).result (try_each f (suc k) (map fields_of cs)).result (sym (tried k (fields_of c) (map fields_of cs)) ∙ h)) (try_found (suc k) cs)
    where
      go : ((f k (length (fields_of c))).result ≡ true) ⊎ ((try_each f (suc k) (map fields_of cs)).result ≡ true)
          → ((try_each f (suc k) (map fields_of cs)).result ≡ true → (i : ℕ) × (i < length cs) × ((f (suc k + i) (length (fields_of (get_or cs i (built [] []))))).result ≡ true))
          → (i : ℕ) × (i < suc (length cs)) × ((f (k + i) (length (fields_of (get_or (c ∷ cs) i (built [] []))))).result ≡ true)
      go (inl y) more = (0, omega arith, rw add-zero y)
      go (inr y) more = let r = more y in (suc r.0, omega (arith, r.1), rw (add-suc, ← suc-add) r.2)

-- The theorem, by the cost of a call
module _ {table : Table} (all : AllValued table) where
  -- the verdict is right
  record Right (verdict : Bool) (ts : List Ref) (m : Matrix) (q : Row) : Type 0 where
    found : verdict ≡ true → Witness table ts m q
    told : Witness table ts m q → verdict ≡ true

  module _ (again : ℕ → Matrix → Row → Walk Bool) (k : ℕ)
      (ok : (ts : List Ref) (m : Matrix) (q : Row) → AllSuit table ts m → Suits table ts q → cost table (length ts) (q ∷ m) < k → Right (again (length ts) m q).result ts m q) where
    -- the call for constructor c
    ctor-ok : {t : Ref} {ts : List Ref} {m : Matrix} {q : Row} (c : ℕ) → AllSuit table (t ∷ ts) m → Suits table (fields_at table t c ++ ts) q → cost table (arity table t c + length ts) (q ∷ specialize_by_ctor c (arity table t c) m) < k
        → Right (again (arity table t c + length ts) (specialize_by_ctor c (arity table t c) m) q).result (fields_at table t c ++ ts) (specialize_by_ctor c (arity table t c) m) q
    ctor-ok {t} {ts} {m} {q} c a u l =
        let e = length-append (fields_at table t c) ts in
        rw (← e) (ok (fields_at table t c ++ ts) (specialize_by_ctor c (arity table t c) m) q (ctor-suits c a) u (rw e l))

    useful_wild_lem : {t : Ref} {ts : List Ref} {m : Matrix} {q : Row} → AllSuit table (t ∷ ts) m → Suits table ts q → cost table (suc (length ts)) ((wild ∷ q) ∷ m) ≤ k
        → (o : Column) → Finds table m t o → Right (useful_wild table again o (length ts) m q).result (t ∷ ts) m (wild ∷ q)
    useful_wild_lem {t} {ts} {m} {q} a u l o finds = go finds
      where
        below : Right (again (length ts) (specialize_by_wildcard m) q).result ts (specialize_by_wildcard m) q
        below = ok ts (specialize_by_wildcard m) q (wild-suits a) u (omega (arith, default_cost table (length ts) ((wild ∷ q) ∷ m) (q ∷ specialize_by_wildcard m) (omega (arith, wildcard_weigh m))))

        each : ((c : ℕ) → c < length (ctors table t) → seen m c ≡ true) → (c : ℕ) → c < length (ctors table t)
            → Right (again (arity table t c + length ts) (specialize_by_ctor c (arity table t c) m) (replicate (arity table t c) wild ++ q)).result (fields_at table t c ++ ts) (specialize_by_ctor c (arity table t c) m) (replicate (arity table t c) wild ++ q)
        each sn c j =
            let n = arity table t c in
            ctor-ok c a (wilds-suit (fields_at table t c) u)
            (omega (arith, ctor-cost table (length ts) n ((wild ∷ q) ∷ m) ((replicate n wild ++ q) ∷ specialize_by_ctor c n m) (arity-narrow table t c) (omega (arith, wilds_weigh n q, seen_weigh c n m (sn c j)))))

        call : ℕ → ℕ → Walk Bool
        call c n = again (n + length ts) (specialize_by_ctor c n m) (replicate n wild ++ q)

        go : {o : Column} → Finds table m t o → Right (useful_wild table again o (length ts) m q).result (t ∷ ts) m (wild ∷ q)
        go (is_bare h) = record { found = λ y. wild_up (bare_unnamed all m t h) (below.found y); told = λ w. below.told (wild_down w) }
        go (is_part c j h) = record { found = λ y. wild_up (unseen_unnamed all m t c j h) (below.found y); told = λ w. below.told (wild_down w) }
        go (is_full z sn) = record {
          found = λ y. let f = try_found call 0 (ctors table t) y in wilds_up f.1 ((each sn f.0 f.1).found (rw zero-add at f.2));
          told = λ w. let d = wilds_down z w in try_some call 0 (ctors table t) d.0 d.1 (rw zero-add ((each sn d.0 d.1).told d.2));
        }

    useful_head_lem : {t : Ref} {ts : List Ref} {m : Matrix} {q : Row} → AllSuit table (t ∷ ts) m → Suits table (t ∷ ts) q → cost table (suc (length ts)) (q ∷ m) ≤ k → Right (useful_head table again (length ts) m q).result (t ∷ ts) m q
    useful_head_lem {t} {ts} {m} a (wilds {r = q} u) l = useful_wild_lem a u l (column table m) (column_finds a)
    useful_head_lem {t} {ts} {m} a (lits {l = x} {r = q} e g u) l =
        let below = ok ts (specialize_by_literal x m) q (literal-suits x a) u (omega (arith, default_cost table (length ts) ((lit x ∷ q) ∷ m) (q ∷ specialize_by_literal x m) (omega (arith, literal_weigh x m)))) in
        record { found = λ y. lit_up g a e (below.found y); told = λ w. below.told (lit_down g a w) }
    useful_head_lem {t} {ts} {m} a (cons {c = c} {r = q} j u) l =
        let n = arity table t c in
        let below = ctor-ok c a u (omega (arith, ctor-cost table (length ts) n ((con t c ∷ q) ∷ m) (q ∷ specialize_by_ctor c n m) (arity-narrow table t c) (omega (arith, ctor_weigh c n m)))) in
        record { found = λ y. con_up j (below.found y); told = λ w. below.told (con_down w) }

    useful_step : (ts : List Ref) (m : Matrix) (q : Row) → AllSuit table ts m → Suits table ts q → cost table (length ts) (q ∷ m) ≤ k → Right (is_useful_step table again (length ts) m q).result ts m q
    unfolding is_useful_step
    useful_step ts [] q a u l = record { found = λ _. fitting-row all u; told = λ _. refl }
    useful_step [] (r ∷ m) q (also h a) u l = record { found = λ e. clash (cc); told = λ w. absurd (none_left h w) }
    useful_step (t ∷ ts) (r ∷ m) q a u l = useful_head_lem a u l

  useful_at : (k : ℕ) (ts : List Ref) (m : Matrix) (q : Row) → AllSuit table ts m → Suits table ts q → cost table (length ts) (q ∷ m) < k → Right (is_useful_in table k (length ts) m q).result ts m q
  unfolding is_useful_in
  useful_at zero ts m q a u l = absurd (not-suc-le-zero l)
  useful_at (suc k) ts m q a u l = useful_step (is_useful_in table k) k (useful_at k) ts m q a u (le_of_suc-le-suc l)

pub useful_right : UsefulRight
unfolding is_useful
useful_right table all ts m q a u g h =
    let r = useful_at all (suc (cost table (length ts) (q ∷ m))) ts m q (all-suit a g) (suits u h) (omega arith) in
    (r.found, r.told)
