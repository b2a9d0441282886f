-- What every table of a file is, from how constructor frames are read and from refusal 7: names of one type differ, "::" is the list's, labels are there for all fields or for none.
use mathlib.Core.Path.{◌≡◌, refl, ap, ◌∙◌}
use mathlib.Core.List.{List, [], ◌∷◌, ◌++◌, map}
use mathlib.Core.Bool.{Bool, true, false, cond}
use Prim.Native.Nat.{ℕ, zero, suc, ◌-◌, ◌<◌}
use native.Mathlib.Omega.{arith}
use lib.ListN.{length, get_or}
use lib.Dec.{leb}
use borrow.Author.Tests.{leb-true, ne_eqb, not-true}
use Rattle.scope.specs.Lists.{Text, bit, any, same, twice}
use Rattle.scope.specs.Types.{Ref, Ctor, Ty, integer, byte_string, opaque, list, tuple, pair, dat, Table, type_at, kind, name_of, declared, add_ctor}
use Rattle.scope.specs.Constructors.{built, ctors_at, ctors, ctor_at, cons_name, nil_name, tuple_name}
use Rattle.scope.specs.Frames.{Read, fault, found, Reader, and_then, ◌>>=◌, give, byte, passing, within, flag, times, choosing, is_upper, is_big, big_name, small_name, type_kinds, type_frame, fields_for, constructor_frame}
use Rattle.scope.specs.Blocks.{is_fresh}
use Rattle.scope.proofs.Tests.{clash, both, neither}
use Rattle.source.proofs.Rows.{same-sym}
use Rattle.agreement.proofs.Texts.{Labelled, bare, each, Formed, Proper}

-- what is read, if anything is, is so
abbrev pub Of : {A : Type 0} → (A → Type 0) → Read A → Type 0
Of P (fault bs) = Unit {0}
Of P (found a bs) = P a

-- a reader gives only such
pub record Yields {A : Type 0} (P : A → Type 0) (r : Reader A) : Type 0 where
  pub at : (bs : List ℕ) → Of P (r bs)

pub give_yields : {A : Type 0} {P : A → Type 0} {a : A} → P a → Yields P (give a)
give_yields h = record { at = λ bs. h }

pub any_yields : {A : Type 0} (r : Reader A) → Yields (λ a. Unit {0}) r
any_yields {A} r = record { at = λ bs. go (r bs) }
  where
    go : (x : Read A) → Of (λ a. Unit {0}) x
    go (fault bs) = tt
    go (found a bs) = tt

pub bind_yields : {A B : Type 0} {P : A → Type 0} {Q : B → Type 0} {r : Reader A} {f : A → Reader B} → Yields P r → ((a : A) → P a → Yields Q (f a)) → Yields Q (r >>= f)
bind_yields {A} {B} {P} {Q} {r} {f} h k = record { at = λ bs. go (r bs) (h.at bs) }
  where
    go : (x : Read A) → Of P x → Of Q (and_then x f)
    go (fault rest) u = tt
    go (found a rest) u = (k a u).at rest

pub passing_yields : (good : ℕ → Bool) → Yields (λ b. good b ≡ true) (passing good)
passing_yields good = record { at = go }
  where
    test : (b : ℕ) (bs : List ℕ) (x : Bool) → good b ≡ x → Of (λ b'. good b' ≡ true) (cond x (found b bs) (fault (b ∷ bs)))
    test b bs true e = e
    test b bs false e = tt

    go : (bs : List ℕ) → Of (λ b. good b ≡ true) (passing good bs)
    go [] = tt
    go (b ∷ bs) = test b bs (good b) refl

-- a constructor's name is not "::"
big_yields : Yields (λ n. same n cons_name ≡ false) big_name
unfolding big_name same
big_yields = bind_yields (any_yields (within 1 32)) (λ n i. bind_yields (passing_yields is_upper) (λ b u. bind_yields (any_yields (times (n - 1) (passing is_big))) (λ bs j. give_yields (upper b u bs))))
  where
    upper : (b : ℕ) → is_upper b ≡ true → (bs : List ℕ) → same (b ∷ bs) cons_name ≡ false
    upper b u bs = rw (ne_eqb b 58 (λ e. omega (arith, leb-true 65 b (both (leb 65 b) (leb b 90) u).0)))

-- a constructor that a frame declares: it is not named "::", and labels are there for all fields or for none
pub record Declared (c : Ctor) : Type 0 where
  pub plain : same c.name cons_name ≡ false
  pub labelled : Labelled c.labels (length c.fields)

-- labels for all fields or for none
fields_yield : (labelled : Bool) (n : ℕ) → Yields (λ (r : List Ref × List Text). Labelled r.1 (length r.0)) (fields_for labelled n)
fields_yield false n = bind_yields (any_yields (times n byte)) (λ ts i. give_yields bare)
fields_yield true zero = give_yields bare
fields_yield true (suc n) = bind_yields (any_yields byte) (λ t i. bind_yields (any_yields small_name) (λ l j. bind_yields (full n) (λ r e. give_yields (each (ap suc e)))))
  where
    full : (m : ℕ) → Yields (λ (r : List Ref × List Text). length r.1 ≡ length r.0) (fields_for true m)
    full zero = give_yields refl
    full (suc m) = bind_yields (any_yields byte) (λ t i. bind_yields (any_yields small_name) (λ l j. bind_yields (full m) (λ r e. give_yields (ap suc e))))

pub constructor_yields : Yields Declared constructor_frame
unfolding constructor_frame
constructor_yields =
    bind_yields big_yields (λ n plain. bind_yields (any_yields flag) (λ labelled i. bind_yields (any_yields (within (bit labelled) 16)) (λ k j.
    bind_yields (fields_yield labelled k) (λ r h. give_yields (record { plain = plain; labelled = h })))))

-- a type frame declares no constructor
pub type_yields : Yields (λ ty. declared ty ≡ []) type_frame
unfolding type_frame
type_yields = record { at = go }
  where
    of_kind : (b : ℕ) (bs rest : List ℕ) → Of (λ ty. declared ty ≡ []) (get_or type_kinds b (λ more. fault bs) rest)
    of_kind zero bs rest = refl
    of_kind (suc zero) bs rest = refl
    of_kind (suc (suc zero)) bs rest = refl
    of_kind (suc (suc (suc zero))) bs rest = (bind_yields (any_yields byte) (λ e i. give_yields refl)).at rest
    of_kind (suc (suc (suc (suc zero)))) bs rest = (bind_yields (any_yields (within 2 16)) (λ n i. bind_yields (any_yields (times n byte)) (λ ts j. give_yields refl))).at rest
    of_kind (suc (suc (suc (suc (suc zero))))) bs rest = (bind_yields (any_yields byte) (λ a i. bind_yields (any_yields byte) (λ b j. give_yields refl))).at rest
    of_kind (suc (suc (suc (suc (suc (suc zero)))))) bs rest = refl
    of_kind (suc (suc (suc (suc (suc (suc (suc b))))))) bs rest = tt

    go : (bs : List ℕ) → Of (λ ty. declared ty ≡ []) (choosing type_kinds bs)
    go [] = tt
    go (b ∷ bs) = of_kind b (b ∷ bs) bs

-- so is every constructor of a list
pub data Each (P : Ctor → Type 0) : List Ctor → Type 0 where
  none_so : Each P []
  also-so : {c : Ctor} {cs : List Ctor} → P c → Each P cs → Each P (c ∷ cs)

each_at : {P : Ctor → Type 0} {cs : List Ctor} → Each P cs → (c : ℕ) → c < length cs → P (get_or cs c (built [] []))
each_at none_so c l = absurd (omega arith)
each_at (also-so h k) zero l = h
each_at (also-so h k) (suc c) l = each_at k c (omega arith)

each_snoc : {P : Ctor → Type 0} {cs : List Ctor} {c : Ctor} → Each P cs → P c → Each P (cs ++ c ∷ [])
each_snoc none_so h = also-so h none_so
each_snoc (also-so i k) h = also-so i (each_snoc k h)

each_map : {P Q : Ctor → Type 0} {cs : List Ctor} → ((c : Ctor) → P c → Q c) → Each P cs → Each Q cs
each_map f none_so = none_so
each_map f (also-so {c = c} h k) = also-so (f c h) (each_map f k)

-- the constructors of one type: names differ, and each is so
pub record Good (P : Ctor → Type 0) (cs : List Ctor) : Type 0 where
  pub differ : twice (map name_of cs) ≡ false
  pub each : Each P cs

-- the constructors that frames declare, of every type
pub data GoodTypes : Table → Type 0 where
  no_types : GoodTypes []
  also-type : {ty : Ty} {table : Table} → Good Declared (declared ty) → GoodTypes table → GoodTypes (ty ∷ table)

-- one more name, new, at the end
any_snoc : (t u : Text) (ts : List Text) → any (same t) ts ≡ false → same t u ≡ false → any (same t) (ts ++ u ∷ []) ≡ false
any_snoc t u [] h e = rw e
any_snoc t u (v ∷ ts) h e = let p = neither (same t v) (any (same t) ts) h in rw p.0 (any_snoc t u ts p.1 e)

twice-snoc : (u : Text) (ts : List Text) → twice ts ≡ false → any (same u) ts ≡ false → twice (ts ++ u ∷ []) ≡ false
unfolding twice
twice-snoc u [] h e = refl
twice-snoc u (t ∷ ts) h e =
    let p = neither (any (same t) ts) (twice ts) h in
    let q = neither (same u t) (any (same u) ts) e in
    rw (any_snoc t u ts p.0 (same-sym t u ∙ q.0)) (twice-snoc u ts p.1 q.1)

names-snoc : (cs : List Ctor) (c : Ctor) → map name_of (cs ++ c ∷ []) ≡ map name_of cs ++ name_of c ∷ []
names-snoc [] c = refl
names-snoc (x ∷ cs) c = ap (name_of x ∷◌) (names-snoc cs c)

good-snoc : (cs : List Ctor) (c : Ctor) → Good Declared cs → Declared c → any (same c.name) (map name_of cs) ≡ false → Good Declared (cs ++ c ∷ [])
good-snoc cs c g f e = record { differ = rw (names-snoc cs c) (twice-snoc c.name (map name_of cs) g.differ e); each = each_snoc g.each f }

pub ctor-good : {table : Table} (c : Ctor) → GoodTypes table → Declared c → is_fresh table c ≡ true → GoodTypes (add_ctor table c)
unfolding is_fresh
ctor-good c no_types f e = no_types
ctor-good c (also-type {ty = ty} g no_types) f e = also-type (good-snoc (declared ty) c g f (neither (any (same c.name) (map name_of (declared ty))) (twice c.labels) (not-true _ e)).0) no_types
ctor-good c (also-type {ty = ty} g (also-type {ty = ty'} h k)) f e = also-type {ty = ty} g (ctor-good c (also-type {ty = ty'} h k) f e)

pub type-good : {table : Table} (ty : Ty) → GoodTypes table → declared ty ≡ [] → GoodTypes (table ++ ty ∷ [])
unfolding twice
type-good ty no_types e = also-type {ty = ty} (rw e (record { differ = refl; each = none_so })) no_types
type-good ty (also-type g k) e = also-type g (type-good ty k e)

type-at : {table : Table} → GoodTypes table → (t : Ref) → Good Declared (declared (type_at table t))
unfolding twice
type-at no_types t = record { differ = refl; each = none_so }
type-at (also-type g k) zero = g
type-at (also-type g k) (suc t) = type-at k t

built-formed : (n : Text) (fs : List Ref) → same n cons_name ≡ false → Formed (built n fs)
built-formed n fs h = record { cell = λ e. clash (cc); labelled = bare }

-- what frames declare and what is built in
all-good : (t : Ref) (ty : Ty) → Good Declared (declared ty) → Good Formed (ctors_at t ty)
unfolding twice same
all-good t integer g = record { differ = refl; each = none_so }
all-good t byte_string g = record { differ = refl; each = none_so }
all-good t opaque g = record { differ = refl; each = none_so }
all-good t (list e) g = record { differ = refl; each = also-so (record { cell = λ i. refl; labelled = bare }) (also-so (built-formed nil_name [] refl) none_so) }
all-good t (tuple ts) g = record { differ = refl; each = also-so (built-formed tuple_name ts refl) none_so }
all-good t (pair a b) g = record { differ = refl; each = also-so (built-formed tuple_name (a ∷ b ∷ []) refl) none_so }
all-good t (dat cs) g = record { differ = g.differ; each = each_map (λ c d. record { cell = λ e. clash (cc (e, d.plain)); labelled = d.labelled }) g.each }

pub proper : {table : Table} → GoodTypes table → Proper table
proper {table} h = record {
  named = record { differ = λ t. (all-good t (type_at table t) (type-at h t)).differ };
  formed = λ t c l. each_at (all-good t (type_at table t) (type-at h t)).each c l;
}

-- no declared constructor is named as a list cell is
pub not-cell : {table : Table} → GoodTypes table → (t c : ℕ) → kind (type_at table t) ≡ 6 → c < length (ctors table t) → same (ctor_at table t c).name cons_name ≡ false
not-cell {table} h t c k l = go (type_at table t) (type-at h t) k l
  where
    go : (ty : Ty) → Good Declared (declared ty) → kind ty ≡ 6 → c < length (ctors_at t ty) → same (get_or (ctors_at t ty) c (built [] [])).name cons_name ≡ false
    go integer g e i = clash (cc)
    go byte_string g e i = clash (cc)
    go opaque g e i = clash (cc)
    go (list a) g e i = clash (cc)
    go (tuple ts) g e i = clash (cc)
    go (pair a b) g e i = clash (cc)
    go (dat cs) g e i = (each_at g.each c i).plain
