-- Refusal 7's test passes exactly when every reference is to a type and every type has a finite value.
use mathlib.Core.Path.{◌≡◌, refl, sym, subst, ◌∙◌}
use mathlib.Core.Logic.{◌⊎◌, inl, inr, ◌↔◌}
use mathlib.Core.List.{List, [], ◌∷◌, ◌++◌, map}
use mathlib.Core.Bool.{Bool, true, false, ◌&&◌}
use Prim.Native.Nat.{ℕ, zero, suc, ◌+◌, ◌-◌, ◌≤◌, ◌<◌}
use native.Mathlib.Nat.{le_of_suc-le-suc, not-suc-le-zero, zero-add, suc-add, add_comm}
use native.Mathlib.Omega.{arith}
use lib.ListN.{length, get_or, length-map, get_or-eq_default}
use lib.Dec.{ltb}
use borrow.Author.Tests.{ltb-true, ltb-false, lt-ltb}
use Rattle.scope.specs.Lists.{bit, all, any, flatten}
use Rattle.scope.specs.Types.{Ref, Ctor, Ty, integer, byte_string, opaque, list, tuple, pair, dat, Table, type_at, fields_of}
use Rattle.scope.specs.Finite.{refs, is_ref, refs_good, is_known, has_value, rounds, all_finite}
use Rattle.scope.specs.Constructors.{built, ctors_at}
use Rattle.scope.specs.Blocks.{is_sound}
use Rattle.meaning.specs.Values.{plus, vint, vbytes, vopaque, vcon, Vals, []ᵛ, ◌∷ᵛ◌, HasTypes, Valued, no_values, integers, byte_strings, opaques, made}
use Rattle.meaning.specs.Meaning.{AllValued, AllRefs, Sound, FiniteRight, SoundRight}
use Rattle.scope.proofs.Tests.{clash, both, and-true, either, or_left, or_right, all-at, at_all}
use Rattle.meaning.proofs.Fitting.{types_append}

all_append : {A : Type 0} (p : A → Bool) (a b : List A) → all p (a ++ b) ≡ true → (all p a ≡ true) × (all p b ≡ true)
all_append p [] b h = (refl, h)
all_append p (x ∷ a) b h =
    let w = both (p x) (all p (a ++ b)) h in
    let v = all_append p a b w.1 in
    (and-true w.0 v.0, v.1)

get_or_mapped : {A B : Type 0} (f : A → B) (l : List A) (d : A) (e : B) (i : ℕ) → i < length l → get_or (map f l) i e ≡ f (get_or l i d)
get_or_mapped f [] d e i l = absurd (not-suc-le-zero l)
get_or_mapped f (x ∷ xs) d e zero l = refl
get_or_mapped f (x ∷ xs) d e (suc i) l = get_or_mapped f xs d e i (le_of_suc-le-suc l)

-- What is known after k rounds
known_in : (table : Table) (k t : ℕ) → is_known (rounds table k) t ≡ true → t < length table
unfolding rounds
known_in table zero t h = clash (cc)
known_in table (suc k) t h = go (ltb t (length table)) refl
  where
    go : (b : Bool) → ltb t (length table) ≡ b → t < length table
    go true e = ltb-true t (length table) e
    go false e =
        let f = has_value (rounds table k) in
        let z : get_or (map f table) t false ≡ false = get_or-eq_default (map f table) false (omega (arith, length-map table f, ltb-false t (length table) e)) in
        clash (cc)

known-suc : (table : Table) (k t : ℕ) → t < length table → is_known (rounds table (suc k)) t ≡ has_value (rounds table k) (type_at table t)
unfolding rounds
known-suc table k t l = get_or_mapped (has_value (rounds table k)) table opaque false t l

-- Known types have values
module _ (table : Table) (known : List Bool) (valued : (t : Ref) → is_known known t ≡ true → Valued table t) where
  fields-valued : (ts : List Ref) → all (is_known known) ts ≡ true → (vs : Vals) × HasTypes table ts vs
  fields-valued [] h = ([]ᵛ, no_values)
  fields-valued (t ∷ ts) h =
      let p = both (is_known known t) (all (is_known known) ts) h in
      let a = valued t p.0 in
      let b = fields-valued ts p.1 in
      (a.value ∷ᵛ b.0, types_append a.typed b.1)

  some-valued : (cs : List Ctor) → any (λ c. all (is_known known) (fields_of c)) cs ≡ true → (c : ℕ) × (c < length cs) × (vs : Vals) × HasTypes table (fields_of (get_or cs c (built [] []))) vs
  some-valued [] h = clash (cc)
  some-valued (x ∷ cs) h = go (either (all (is_known known) (fields_of x)) (any (λ c. all (is_known known) (fields_of c)) cs) h) (some-valued cs)
    where
      go : (all (is_known known) (fields_of x) ≡ true) ⊎ (any (λ c. all (is_known known) (fields_of c)) cs ≡ true)
          → (any (λ c. all (is_known known) (fields_of c)) cs ≡ true → (c : ℕ) × (c < length cs) × (vs : Vals) × HasTypes table (fields_of (get_or cs c (built [] []))) vs)
          → (c : ℕ) × (c < suc (length cs)) × (vs : Vals) × HasTypes table (fields_of (get_or (x ∷ cs) c (built [] []))) vs
      go (inl a) more = let b = fields-valued (fields_of x) a in (0, omega arith, b.0, b.1)
      go (inr a) more = let b = more a in (suc b.0, omega (arith, b.1), b.2, b.3)

  -- a value made by constructor c
  ctor-valued : (t c : ℕ) (ty : Ty) (vs : Vals) → type_at table t ≡ ty → c < length (ctors_at t ty) → HasTypes table (fields_of (get_or (ctors_at t ty) c (built [] []))) vs → Valued table t
  ctor-valued t c ty vs e l h = record {
    value = vcon c vs;
    typed = made (subst (λ (x : Ty). c < length (ctors_at t x)) (sym e) l) (subst (λ (x : Ty). HasTypes table (fields_of (get_or (ctors_at t x) c (built [] []))) vs) (sym e) h) no_values;
  }

  type-valued : (t : Ref) (ty : Ty) → type_at table t ≡ ty → has_value known ty ≡ true → Valued table t
  type-valued t integer e h = record { value = vint (plus 0); typed = integers e no_values }
  type-valued t byte_string e h = record { value = vbytes []; typed = byte_strings e refl no_values }
  type-valued t opaque e h = record { value = vopaque 0; typed = opaques e no_values }
  type-valued t (list x) e h = ctor-valued t 1 (list x) []ᵛ e (omega arith) no_values
  type-valued t (tuple ts) e h = let b = fields-valued ts h in ctor-valued t 0 (tuple ts) b.0 e (omega arith) b.1
  type-valued t (pair x y) e h =
      let p = both (is_known known x) (is_known known y) h in
      let b = fields-valued (x ∷ y ∷ []) (and-true p.0 (and-true p.1 refl)) in
      ctor-valued t 0 (pair x y) b.0 e (omega arith) b.1
  type-valued t (dat cs) e h = let b = some-valued cs h in ctor-valued t b.0 (dat cs) b.2 e b.1 b.3

known-valued : (table : Table) (k : ℕ) (t : Ref) → is_known (rounds table k) t ≡ true → Valued table t
unfolding rounds
known-valued table zero t h = clash (cc)
known-valued table (suc k) t h = type-valued table (rounds table k) (known-valued table k) t (type_at table t) refl (sym (known-suc table k t (known_in table (suc k) t h)) ∙ h)

-- And the other way: more known, more found
module _ (f g : List Bool) (up : (t : Ref) → is_known f t ≡ true → is_known g t ≡ true) where
  all_up : (ts : List Ref) → all (is_known f) ts ≡ true → all (is_known g) ts ≡ true
  all_up [] h = refl
  all_up (t ∷ ts) h = let p = both (is_known f t) (all (is_known f) ts) h in and-true (up t p.0) (all_up ts p.1)

  some_up : (cs : List Ctor) → any (λ c. all (is_known f) (fields_of c)) cs ≡ true → any (λ c. all (is_known g) (fields_of c)) cs ≡ true
  some_up [] h = h
  some_up (x ∷ cs) h = go (either (all (is_known f) (fields_of x)) (any (λ c. all (is_known f) (fields_of c)) cs) h) (some_up cs)
    where
      go : (all (is_known f) (fields_of x) ≡ true) ⊎ (any (λ c. all (is_known f) (fields_of c)) cs ≡ true) → (any (λ c. all (is_known f) (fields_of c)) cs ≡ true → any (λ c. all (is_known g) (fields_of c)) cs ≡ true) → any (λ c. all (is_known g) (fields_of c)) (x ∷ cs) ≡ true
      go (inl a) more = or_left (any (λ c. all (is_known g) (fields_of c)) cs) (all_up (fields_of x) a)
      go (inr a) more = or_right (all (is_known g) (fields_of x)) (more a)

  value_up : (ty : Ty) → has_value f ty ≡ true → has_value g ty ≡ true
  value_up integer h = refl
  value_up byte_string h = refl
  value_up opaque h = refl
  value_up (list e) h = refl
  value_up (tuple ts) h = all_up ts h
  value_up (pair a b) h = let p = both (is_known f a) (is_known f b) h in and-true (up a p.0) (up b p.1)
  value_up (dat cs) h = some_up cs h

pick_some : (known : List Bool) (cs : List Ctor) (c : ℕ) → c < length cs → all (is_known known) (fields_of (get_or cs c (built [] []))) ≡ true → any (λ c. all (is_known known) (fields_of c)) cs ≡ true
pick_some known [] c l h = absurd (not-suc-le-zero l)
pick_some known (x ∷ cs) zero l h = or_left (any (λ c. all (is_known known) (fields_of c)) cs) h
pick_some known (x ∷ cs) (suc c) l h = or_right (all (is_known known) (fields_of x)) (pick_some known cs c (le_of_suc-le-suc l) h)

-- a constructor whose fields are known makes a value
ctor-has : (known : List Bool) (t : Ref) (ty : Ty) (c : ℕ) → c < length (ctors_at t ty) → all (is_known known) (fields_of (get_or (ctors_at t ty) c (built [] []))) ≡ true → has_value known ty ≡ true
ctor-has known t integer c l h = refl
ctor-has known t byte_string c l h = refl
ctor-has known t opaque c l h = refl
ctor-has known t (list e) c l h = refl
ctor-has known t (tuple ts) zero l h = h
ctor-has known t (tuple ts) (suc c) l h = absurd (omega arith)
ctor-has known t (pair a b) zero l h =
    let p = both (is_known known a) (all (is_known known) (b ∷ [])) h in
    and-true p.0 (both (is_known known b) true p.1).0
ctor-has known t (pair a b) (suc c) l h = absurd (omega arith)
ctor-has known t (dat cs) c l h = pick_some known cs c l h

-- fields are references
flat_at : (p : Ref → Bool) (cs : List Ctor) (c : ℕ) → all p (flatten (map fields_of cs)) ≡ true → all p (fields_of (get_or cs c (built [] []))) ≡ true
flat_at p [] c h = refl
flat_at p (x ∷ cs) zero h = (all_append p (fields_of x) (flatten (map fields_of cs)) h).0
flat_at p (x ∷ cs) (suc c) h = flat_at p cs c (all_append p (fields_of x) (flatten (map fields_of cs)) h).1

fields-refs : (p : Ref → Bool) (t : Ref) (ty : Ty) → p t ≡ true → all p (refs ty) ≡ true → (c : ℕ) → all p (fields_of (get_or (ctors_at t ty) c (built [] []))) ≡ true
fields-refs p t integer a h c = refl
fields-refs p t byte_string a h c = refl
fields-refs p t opaque a h c = refl
fields-refs p t (list e) a h zero = and-true (both (p e) true h).0 (and-true a refl)
fields-refs p t (list e) a h (suc zero) = refl
fields-refs p t (list e) a h (suc (suc c)) = refl
fields-refs p t (tuple ts) a h zero = h
fields-refs p t (tuple ts) a h (suc c) = refl
fields-refs p t (pair x y) a h zero = h
fields-refs p t (pair x y) a h (suc c) = refl
fields-refs p t (dat cs) a h c = flat_at p cs c h

module _ (table : Table) where
  known_up : (k t : ℕ) → is_known (rounds table k) t ≡ true → is_known (rounds table (suc k)) t ≡ true
  unfolding rounds
  known_up zero t h = clash (cc)
  known_up (suc k) t h =
      let l = known_in table (suc k) t h in
      known-suc table (suc k) t l ∙ value_up (rounds table k) (rounds table (suc k)) (known_up k) (type_at table t) (sym (known-suc table k t l) ∙ h)

  known_more : (j k t : ℕ) → is_known (rounds table k) t ≡ true → is_known (rounds table (j + k)) t ≡ true
  known_more zero k t h = rw zero-add h
  known_more (suc j) k t h = rw suc-add (known_up (j + k) t (known_more j k t h))

  -- a value is found in so many rounds
  module _ (good : refs_good table ≡ true) where
    both-known : (t : ℕ) (ts : List Ref) → (k : ℕ) × (is_known (rounds table k) t ≡ true) → (k : ℕ) × (all (is_known (rounds table k)) ts ≡ true) → (k : ℕ) × (all (is_known (rounds table k)) (t ∷ ts) ≡ true)
    both-known t ts x y =
        let k = x.0 + y.0 in
        let h : is_known (rounds table k) t ≡ true = rw (add_comm x.0 y.0) (known_more y.0 x.0 t x.1) in
        (k, and-true h (all_up (rounds table y.0) (rounds table k) (λ t. known_more x.0 y.0 t) ts y.1))

    at_once : (t : Ref) (ty : Ty) → t < length table → type_at table t ≡ ty → has_value [] ty ≡ true → (k : ℕ) × (is_known (rounds table k) t ≡ true)
    unfolding rounds
    at_once t ty l e h = (1, known-suc table 0 t l ∙ subst (λ (x : Ty). has_value [] x ≡ true) (sym e) h)

    typed-known : {ts : List Ref} {vs : Vals} → HasTypes table ts vs → all (is_ref table) ts ≡ true → (k : ℕ) × (all (is_known (rounds table k)) ts ≡ true)
    unfolding refs_good
    typed-known no_values r = (0, refl)
    typed-known (integers {t = t} {ts = ts} e h) r = let p = both (is_ref table t) (all (is_ref table) ts) r in both-known t ts (at_once t integer (ltb-true t (length table) p.0) e refl) (typed-known h p.1)
    typed-known (byte_strings {t = t} {ts = ts} e b h) r = let p = both (is_ref table t) (all (is_ref table) ts) r in both-known t ts (at_once t byte_string (ltb-true t (length table) p.0) e refl) (typed-known h p.1)
    typed-known (opaques {t = t} {ts = ts} e h) r = let p = both (is_ref table t) (all (is_ref table) ts) r in both-known t ts (at_once t opaque (ltb-true t (length table) p.0) e refl) (typed-known h p.1)
    typed-known (made {t = t} {ts = ts} {c = c} l a h) r =
        let p = both (is_ref table t) (all (is_ref table) ts) r in
        let i = ltb-true t (length table) p.0 in
        let f = typed-known a (fields-refs (is_ref table) t (type_at table t) p.0 (all-at (λ ty. all (is_ref table) (refs ty)) table opaque good t i) c) in
        both-known t ts (suc f.0, known-suc table f.0 t i ∙ ctor-has (rounds table f.0) t (type_at table t) c l f.1) (typed-known h p.1)

  -- nothing is new after round k
  Stable : ℕ → Type 0
  Stable k = (t : ℕ) → is_known (rounds table (suc k)) t ≡ true → is_known (rounds table k) t ≡ true

  stable_suc : (k : ℕ) → Stable k → Stable (suc k)
  unfolding Stable
  stable_suc k s t h =
      let l = known_in table (suc (suc k)) t h in
      known-suc table k t l ∙ value_up (rounds table (suc k)) (rounds table k) s (type_at table t) (sym (known-suc table (suc k) t l) ∙ h)

  stable_more : (j k : ℕ) → Stable k → Stable (j + k)
  stable_more zero k h = rw zero-add h
  stable_more (suc j) k h = rw suc-add (stable_suc (j + k) (stable_more j k h))

  stable_all : (j k : ℕ) → Stable k → (t : ℕ) → is_known (rounds table (j + k)) t ≡ true → is_known (rounds table k) t ≡ true
  unfolding Stable
  stable_all zero k h t x = rw zero-add at x
  stable_all (suc j) k h t x = stable_all j k h t (stable_more j k h t (rw suc-add at x))

-- how many of the numbers below n are known
count_to : (ℕ → Bool) → ℕ → ℕ
count_to f zero = 0
count_to f (suc n) = bit (f n) + count_to f n

-- what holds below n and at n
below : (P : ℕ → Type 0) (n : ℕ) → ((t : ℕ) → t < n → P t) → P n → (t : ℕ) → t < suc n → P t
below P n h p t l = go (ltb t n) refl
  where
    go : (b : Bool) → ltb t n ≡ b → P t
    go true e = h t (ltb-true t n e)
    go false e = let q : t ≡ n = omega (arith, ltb-false t n e) in rw q p

count_le : (f : ℕ → Bool) (n : ℕ) → count_to f n ≤ n
unfolding count_to
count_le f zero = omega arith
count_le f (suc n) = go (f n) (count_le f n)
  where
    go : (b : Bool) → count_to f n ≤ n → bit b + count_to f n ≤ suc n
    go true h = omega arith
    go false h = omega arith

count-all : (f : ℕ → Bool) (n : ℕ) → n ≤ count_to f n → (t : ℕ) → t < n → f t ≡ true
unfolding count_to
count-all f zero h t l = absurd (not-suc-le-zero l)
count-all f (suc n) h t l = go (f n) refl h (count-all f n)
  where
    go : (b : Bool) → f n ≡ b → suc n ≤ bit b + count_to f n → (n ≤ count_to f n → (t : ℕ) → t < n → f t ≡ true) → f t ≡ true
    go true e h more = below (λ t. f t ≡ true) n (more (omega arith)) e t l
    go false e h more = absurd (omega (arith, count_le f n))

-- nothing is new below n
abbrev Still : (ℕ → Bool) → (ℕ → Bool) → ℕ → Type 0
Still f g n = (t : ℕ) → t < n → g t ≡ true → f t ≡ true

grow : (f g : ℕ → Bool) → ((t : ℕ) → f t ≡ true → g t ≡ true) → (n : ℕ) → (Still f g n × (count_to f n ≤ count_to g n)) ⊎ (count_to f n < count_to g n)
unfolding count_to
grow f g up zero = inl (λ t l. absurd (not-suc-le-zero l), omega arith)
grow f g up (suc n) = go (f n) refl (g n) refl (up n) (grow f g up n)
  where
    go : (a : Bool) → f n ≡ a → (b : Bool) → g n ≡ b → (f n ≡ true → g n ≡ true) → (Still f g n × (count_to f n ≤ count_to g n)) ⊎ (count_to f n < count_to g n)
        → (Still f g (suc n) × (bit a + count_to f n ≤ bit b + count_to g n)) ⊎ (bit a + count_to f n < bit b + count_to g n)
    go true x true y u (inl r) = inl (below (λ t. g t ≡ true → f t ≡ true) n r.0 (λ _. x), omega (arith, r.1))
    go true x true y u (inr r) = inr (omega arith)
    go true x false y u r = let z = u x in clash (cc)
    go false x true y u (inl r) = inr (omega (arith, r.1))
    go false x true y u (inr r) = inr (omega arith)
    go false x false y u (inl r) = inl (below (λ t. g t ≡ true → f t ≡ true) n r.0 (λ h. clash (cc)), omega (arith, r.1))
    go false x false y u (inr r) = inr (omega arith)

module _ (table : Table) where
  -- within k rounds nothing is new any more, or k types are known
  settled : (k : ℕ) → ((j : ℕ) × (j ≤ k) × Stable table j) ⊎ (k ≤ count_to (is_known (rounds table k)) (length table))
  unfolding Stable
  settled zero = inr (omega arith)
  settled (suc k) = go (settled k) (grow (is_known (rounds table k)) (is_known (rounds table (suc k))) (known_up table k) (length table))
    where
      go : ((j : ℕ) × (j ≤ k) × Stable table j) ⊎ (k ≤ count_to (is_known (rounds table k)) (length table))
          → (Still (is_known (rounds table k)) (is_known (rounds table (suc k))) (length table) × (count_to (is_known (rounds table k)) (length table) ≤ count_to (is_known (rounds table (suc k))) (length table)))
          ⊎ (count_to (is_known (rounds table k)) (length table) < count_to (is_known (rounds table (suc k))) (length table))
          → ((j : ℕ) × (j ≤ suc k) × Stable table j) ⊎ (suc k ≤ count_to (is_known (rounds table (suc k))) (length table))
      go (inl r) g = inl (r.0, omega (arith, r.1), r.2)
      go (inr c) (inl g) = inl (k, omega arith, λ t h. g.0 t (known_in table (suc k) t h) h)
      go (inr c) (inr g) = inr (omega arith)

  -- a round for each type is enough
  enough : (j t : ℕ) → t < length table → is_known (rounds table j) t ≡ true → is_known (rounds table (length table)) t ≡ true
  enough j t l h = go (settled (length table))
    where
      go : ((i : ℕ) × (i ≤ length table) × Stable table i) ⊎ (length table ≤ count_to (is_known (rounds table (length table))) (length table)) → is_known (rounds table (length table)) t ≡ true
      go (inl r) =
          let i = r.0 in
          let a : is_known (rounds table (j + i)) t ≡ true = rw (add_comm j i) (known_more table i j t h) in
          let e : (length table - i) + i ≡ length table = omega (arith, r.1) in
          rw e at (known_more table (length table - i) i t (stable_all table j i r.2 t a))
      go (inr c) = count-all (is_known (rounds table (length table))) (length table) c t l

-- what any number of rounds finds has a value
found-valued : (table : Table) (k : ℕ) → all (has_value (rounds table k)) table ≡ true → AllValued table
found-valued table k h t l = known-valued table (suc k) t (known-suc table k t l ∙ all-at (has_value (rounds table k)) table opaque h t l)

-- and a round for each type finds every type that has one
pub type-found : (table : Table) → refs_good table ≡ true → (t : ℕ) → t < length table → Valued table t → has_value (rounds table (length table)) (type_at table t) ≡ true
type-found table good t l v =
    let r = typed-known table good v.typed (and-true (lt-ltb t (length table) l) refl) in
    let k = enough table r.0 t l (both (is_known (rounds table r.0) t) true r.1).0 in
    sym (known-suc table (length table) t l) ∙ known_up table (length table) t k

valued_found : (table : Table) → refs_good table ≡ true → AllValued table → all (has_value (rounds table (length table))) table ≡ true
valued_found table good valued = at_all (has_value (rounds table (length table))) table opaque (λ t l. type-found table good t l (valued t l))

pub finite_right : FiniteRight
unfolding all_finite
finite_right table good = (found-valued table _, valued_found table good)

refs-right : (table : Table) → (refs_good table ≡ true) ↔ AllRefs table
unfolding refs_good
refs-right table = (to, back)
  where
    to : refs_good table ≡ true → AllRefs table
    to h t i l j = ltb-true (get_or (refs (type_at table t)) i 0) (length table) (all-at (is_ref table) (refs (type_at table t)) 0 (all-at (λ ty. all (is_ref table) (refs ty)) table opaque h t l) i j)

    back : AllRefs table → refs_good table ≡ true
    back h = at_all (λ ty. all (is_ref table) (refs ty)) table opaque (λ t l. at_all (is_ref table) (refs (type_at table t)) 0 (λ i j. lt-ltb (get_or (refs (type_at table t)) i 0) (length table) (h t i l j)))

pub sound-right : SoundRight
unfolding is_sound
sound-right table t = (to, back)
  where
    to : is_sound table t ≡ true → Sound table t
    to h =
        let p = both (is_ref table t && refs_good table) (all_finite table) h in
        let q = both (is_ref table t) (refs_good table) p.0 in
        record { subject = ltb-true t (length table) q.0; references = (refs-right table).0 q.1; valued = (finite_right table q.1).0 p.1 }

    back : Sound table t → is_sound table t ≡ true
    back s = let r = (refs-right table).1 s.references in and-true (and-true (lt-ltb t (length table) s.subject) r) ((finite_right table r).1 s.valued)
