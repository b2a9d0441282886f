-- What the specialisations mean on values: a specialised row fits what is left of a value just when the row fits the value.
use mathlib.Core.Path.{◌≡◌, refl, ap, sym, subst, ◌∙◌}
use mathlib.Core.Logic.{◌⊎◌, inl, inr}
use mathlib.Core.List.{List, [], ◌∷◌, ◌++◌}
use mathlib.Core.Bool.{Bool, true, false, ◌&&◌, ◌||◌}
use Prim.Native.Nat.{ℕ, zero, suc, ◌+◌, ◌≤◌, ◌<◌}
use native.Mathlib.Omega.{arith}
use lib.ListN.{length, replicate, length-replicate, get_or-eq_default}
use lib.Dec.{ltb, eqb}
use borrow.Author.Tests.{eqb-true, eq-eqb, ne_eqb, ltb-true, ltb-false}
use Rattle.scope.specs.Lists.{Text, all, same}
use Rattle.scope.specs.Types.{Ref, opaque, Table, kind, type_at}
use Rattle.scope.specs.Constructors.{fields_at, ctors, arity}
use Rattle.scope.specs.Simplify.{Literal, int, byte_array, same_literal, wild, lit, con, Row, Matrix}
use Rattle.laws.specs.Typed.{literal_kind, Typed, TypedRows}
use Rattle.scope.specs.Walks.{row_if, specialize_row_by_ctor, specialize_row_by_literal, specialize_row_by_wildcard, specialize_by_ctor, specialize_by_literal, specialize_by_wildcard, seen}
use Rattle.meaning.specs.Values.{Number, plus, minus, denotes, same_whole, Val, vint, vbytes, vopaque, vcon, Vals, []ᵛ, ◌∷ᵛ◌, ◌++ᵛ◌, lengthᵛ, is_byte, HasTypes, Valued, no_values, integers, byte_strings, opaques, made, literal_fits, fits, fits_any, is_admitted, admits}
use Rattle.meaning.specs.Meaning.{AllValued}
use Rattle.scope.proofs.Tests.{clash, both, either, or_left, or_right, neither, or_false, not-passed, same_true, same_self}
use Rattle.meaning.proofs.Decimals.{decimal-same}

or_none : (b : Bool) → (b || false) ≡ b
or_none true = refl
or_none false = refl

fits_any_append : (a b : Matrix) (vs : Vals) → fits_any (a ++ b) vs ≡ (fits_any a vs || fits_any b vs)
fits_any_append [] b vs = refl
fits_any_append (r ∷ a) b vs = go (fits r vs) (fits_any_append a b vs)
  where
    go : (x : Bool) → fits_any (a ++ b) vs ≡ (fits_any a vs || fits_any b vs) → (x || fits_any (a ++ b) vs) ≡ (x || fits_any a vs || fits_any b vs)
    go true e = refl
    go false e = e

wilds-fit : (args : Vals) (r : Row) (vs : Vals) → fits (replicate (lengthᵛ args) wild ++ r) (args ++ᵛ vs) ≡ fits r vs
wilds-fit []ᵛ r vs = refl
wilds-fit (a ∷ᵛ args) r vs = wilds-fit args r vs

row_if-fits : (b : Bool) (r : Row) (vs : Vals) → fits_any (row_if b r) vs ≡ (b && fits r vs)
row_if-fits true r vs = or_none (fits r vs)
row_if-fits false r vs = refl

-- by a constructor
module _ (c : ℕ) (args vs : Vals) where
  ctor-row-fits : (r : Row) → fits_any (specialize_row_by_ctor c (lengthᵛ args) r) (args ++ᵛ vs) ≡ fits r (vcon c args ∷ᵛ vs)
  ctor-row-fits [] = refl
  ctor-row-fits (wild ∷ r) = or_none _ ∙ wilds-fit args r vs
  ctor-row-fits (lit l ∷ r) = refl
  ctor-row-fits (con t d ∷ r) = row_if-fits (eqb d c) r (args ++ᵛ vs)

  ctor-fits : (m : Matrix) → fits_any (specialize_by_ctor c (lengthᵛ args) m) (args ++ᵛ vs) ≡ fits_any m (vcon c args ∷ᵛ vs)
  ctor-fits [] = refl
  ctor-fits (r ∷ m) = rw (fits_any_append (specialize_row_by_ctor c (lengthᵛ args) r), ctor-row-fits r, ctor-fits m)

-- the value that a literal fits
abbrev pub value_of : Literal → Val
value_of (int t) = vint (denotes t)
value_of (byte_array t) = vbytes t

whole-true : (m n : Number) → same_whole m n ≡ true → m ≡ n
whole-true (plus m) (plus n) h = ap plus (eqb-true m n h)
whole-true (plus m) (minus n) h = clash (cc)
whole-true (minus m) (plus n) h = clash (cc)
whole-true (minus m) (minus n) h = ap minus (eqb-true m n h)

whole_self : (n : Number) → same_whole n n ≡ true
whole_self (plus n) = eq-eqb n n refl
whole_self (minus n) = eq-eqb n n refl

pub literal-is : (l : Literal) (v : Val) → literal_fits l v ≡ true → v ≡ value_of l
literal-is (int t) (vint n) h = ap vint (sym (whole-true (denotes t) n h))
literal-is (int t) (vbytes s) h = clash (cc)
literal-is (int t) (vopaque n) h = clash (cc)
literal-is (int t) (vcon c args) h = clash (cc)
literal-is (byte_array t) (vint n) h = clash (cc)
literal-is (byte_array t) (vbytes s) h = ap vbytes (sym (same_true t s h))
literal-is (byte_array t) (vopaque n) h = clash (cc)
literal-is (byte_array t) (vcon c args) h = clash (cc)

pub literal_self : (l : Literal) → literal_fits l (value_of l) ≡ true
literal_self (int t) = whole_self (denotes t)
literal_self (byte_array t) = same_self t

-- tests that pass together are the same
pub same_bool : (a b : Bool) → (a ≡ true → b ≡ true) → (b ≡ true → a ≡ true) → a ≡ b
same_bool true b f g = sym (f refl)
same_bool false true f g = g refl
same_bool false false f g = refl

-- literals compared by text are compared by value
texts-same : (a b : Text) → is_admitted (int a) ≡ true → is_admitted (int b) ≡ true → same_whole (denotes a) (denotes b) ≡ same a b
texts-same a b x y =
    same_bool (same_whole (denotes a) (denotes b)) (same a b)
    (λ h. subst (λ (t : Text). same a t ≡ true) (decimal-same a b x y (whole-true (denotes a) (denotes b) h)) (same_self a))
    (λ h. subst (λ (t : Text). same_whole (denotes a) (denotes t) ≡ true) (same_true a b h) (whole_self (denotes a)))

literals-same : (k l : Literal) → is_admitted k ≡ true → is_admitted l ≡ true → literal_fits k (value_of l) ≡ same_literal k l
literals-same (int a) (int b) x y = texts-same a b x y
literals-same (int a) (byte_array b) x y = refl
literals-same (byte_array a) (int b) x y = refl
literals-same (byte_array a) (byte_array b) x y = refl

con_unlike : (t d : ℕ) (r : Row) (l : Literal) (vs : Vals) → fits (con t d ∷ r) (value_of l ∷ᵛ vs) ≡ false
con_unlike t d r (int n) vs = refl
con_unlike t d r (byte_array s) vs = refl

-- a row is patterns of these types with literals as a file has them
pub data Suits (table : Table) : List Ref → Row → Type 0 where
  done : Suits table [] []
  wilds : {t : Ref} {ts : List Ref} {r : Row} → Suits table ts r → Suits table (t ∷ ts) (wild ∷ r)
  lits : {t : Ref} {ts : List Ref} {l : Literal} {r : Row} → kind (type_at table t) ≡ literal_kind l → is_admitted l ≡ true → Suits table ts r → Suits table (t ∷ ts) (lit l ∷ r)
  cons : {t : Ref} {ts : List Ref} {c : ℕ} {r : Row} → c < length (ctors table t) → Suits table (fields_at table t c ++ ts) r → Suits table (t ∷ ts) (con t c ∷ r)

-- all rows are
pub data AllSuit (table : Table) (ts : List Ref) : Matrix → Type 0 where
  no_rows : AllSuit table ts []
  also : {r : Row} {m : Matrix} → Suits table ts r → AllSuit table ts m → AllSuit table ts (r ∷ m)

pub suits : {table : Table} {ts : List Ref} {r : Row} → Typed table ts r → all admits r ≡ true → Suits table ts r
suits Typed.done h = done
suits (Typed.wilds k) h = wilds (suits k h)
suits (Typed.lits {l = l} {r = r} e k) h = let p = both (is_admitted l) (all admits r) h in lits e p.0 (suits k p.1)
suits (Typed.cons c k) h = cons c (suits k h)

pub all-suit : {table : Table} {ts : List Ref} {m : Matrix} → TypedRows table ts m → all (all admits) m ≡ true → AllSuit table ts m
all-suit TypedRows.no_rows h = no_rows
all-suit (TypedRows.also {r = r} {m = m} k ks) h = let p = both (all admits r) (all (all admits) m) h in also (suits k p.0) (all-suit ks p.1)

-- by a literal
module _ (l : Literal) (good : is_admitted l ≡ true) (vs : Vals) where
  literal-row-fits : {table : Table} {ts : List Ref} {r : Row} → Suits table ts r → fits_any (specialize_row_by_literal l r) vs ≡ fits r (value_of l ∷ᵛ vs)
  literal-row-fits done = refl
  literal-row-fits (wilds k) = or_none _
  literal-row-fits (lits {l = x} {r = r} e h k) = row_if-fits (same_literal x l) r vs ∙ ap (λ (b : Bool). b && fits r vs) (sym (literals-same x l h good))
  literal-row-fits (cons {t = t} {c = d} {r = r} h k) = sym (con_unlike t d r l vs)

  pub literal-fits : {table : Table} {ts : List Ref} {m : Matrix} → AllSuit table ts m → fits_any (specialize_by_literal l m) vs ≡ fits_any m (value_of l ∷ᵛ vs)
  literal-fits no_rows = refl
  literal-fits (also {r = r} {m = m} k ks) = rw (fits_any_append (specialize_row_by_literal l r), literal-row-fits k, literal-fits ks)

-- does a row begin with a literal or a constructor that the value has
abbrev meets : Row → Val → Bool
meets [] v = false
meets (wild ∷ r) v = false
meets (lit l ∷ r) v = literal_fits l v
meets (con t d ∷ r) (vint n) = false
meets (con t d ∷ r) (vbytes s) = false
meets (con t d ∷ r) (vopaque n) = false
meets (con t d ∷ r) (vcon c args) = eqb d c

-- does the first column name the value
abbrev pub named : Matrix → Val → Bool
named [] v = false
named (r ∷ m) v = meets r v || named m v

-- by a wildcard
wild-row-fits : (r : Row) (v : Val) (vs : Vals) → meets r v ≡ false → fits_any (specialize_row_by_wildcard r) vs ≡ fits r (v ∷ᵛ vs)
wild-row-fits [] v vs h = refl
wild-row-fits (wild ∷ r) v vs h = or_none _
wild-row-fits (lit l ∷ r) v vs h = ap (λ (b : Bool). b && fits r vs) (sym h)
wild-row-fits (con t d ∷ r) (vint n) vs h = refl
wild-row-fits (con t d ∷ r) (vbytes s) vs h = refl
wild-row-fits (con t d ∷ r) (vopaque n) vs h = refl
wild-row-fits (con t d ∷ r) (vcon c args) vs h = ap (λ (b : Bool). b && fits r (args ++ᵛ vs)) (sym h)

pub wild-fits : (m : Matrix) (v : Val) (vs : Vals) → named m v ≡ false → fits_any (specialize_by_wildcard m) vs ≡ fits_any m (v ∷ᵛ vs)
wild-fits [] v vs h = refl
wild-fits (r ∷ m) v vs h = let p = neither (meets r v) (named m v) h in rw (fits_any_append (specialize_row_by_wildcard r), wild-row-fits r v vs p.0, wild-fits m v vs p.1)

-- what a row that begins with a wildcard leaves over is fitted in any case
wild-row-only : (r : Row) (v : Val) (vs : Vals) → fits_any (specialize_row_by_wildcard r) vs ≡ true → fits r (v ∷ᵛ vs) ≡ true
wild-row-only [] v vs h = clash (cc)
wild-row-only (wild ∷ r) v vs h = sym (or_none (fits r vs)) ∙ h
wild-row-only (lit l ∷ r) v vs h = clash (cc)
wild-row-only (con t d ∷ r) v vs h = clash (cc)

wild-only : (m : Matrix) (v : Val) (vs : Vals) → fits_any (specialize_by_wildcard m) vs ≡ true → fits_any m (v ∷ᵛ vs) ≡ true
wild-only [] v vs h = h
wild-only (r ∷ m) v vs h = go (either (fits_any (specialize_row_by_wildcard r) vs) (fits_any (specialize_by_wildcard m) vs) (sym (fits_any_append (specialize_row_by_wildcard r) (specialize_by_wildcard m) vs) ∙ h)) (wild-only m v vs)
  where
    go : (fits_any (specialize_row_by_wildcard r) vs ≡ true) ⊎ (fits_any (specialize_by_wildcard m) vs ≡ true) → (fits_any (specialize_by_wildcard m) vs ≡ true → fits_any m (v ∷ᵛ vs) ≡ true) → (fits r (v ∷ᵛ vs) || fits_any m (v ∷ᵛ vs)) ≡ true
    go (inl k) more = or_left (fits_any m (v ∷ᵛ vs)) (wild-row-only r v vs k)
    go (inr k) more = or_right (fits r (v ∷ᵛ vs)) (more k)

pub wild_unfit : (m : Matrix) (v : Val) (vs : Vals) → fits_any m (v ∷ᵛ vs) ≡ false → fits_any (specialize_by_wildcard m) vs ≡ false
wild_unfit m v vs h = not-passed (fits_any (specialize_by_wildcard m) vs) (λ k. let e = wild-only m v vs k in clash (cc))

-- Typed values
module _ {table : Table} where
  pub types-length : {ts : List Ref} {vs : Vals} → HasTypes table ts vs → lengthᵛ vs ≡ length ts
  types-length no_values = refl
  types-length (integers e h) = ap suc (types-length h)
  types-length (byte_strings e b h) = ap suc (types-length h)
  types-length (opaques e h) = ap suc (types-length h)
  types-length (made l a h) = ap suc (types-length h)

  pub types_append : {ts us : List Ref} {vs ws : Vals} → HasTypes table ts vs → HasTypes table us ws → HasTypes table (ts ++ us) (vs ++ᵛ ws)
  types_append no_values k = k
  types_append (integers e h) k = integers e (types_append h k)
  types_append (byte_strings e b h) k = byte_strings e b (types_append h k)
  types_append (opaques e h) k = opaques e (types_append h k)
  types_append (made l a h) k = made l a (types_append h k)

  pub tail-typed : {t : Ref} {ts : List Ref} {v : Val} {vs : Vals} → HasTypes table (t ∷ ts) (v ∷ᵛ vs) → HasTypes table ts vs
  tail-typed (integers e h) = h
  tail-typed (byte_strings e b h) = h
  tail-typed (opaques e h) = h
  tail-typed (made l a h) = h

-- a row of values taken apart after its first one
pub record Headed (table : Table) (t : Ref) (ts : List Ref) (ws : Vals) : Type 0 where
  pub head : Val
  pub rest : Vals
  pub is : ws ≡ head ∷ᵛ rest
  pub typed : HasTypes table (t ∷ []) (head ∷ᵛ []ᵛ)
  pub left : HasTypes table ts rest

-- and after the first few
pub record Parted (table : Table) (ts us : List Ref) (ws : Vals) : Type 0 where
  pub front : Vals
  pub back : Vals
  pub is : ws ≡ front ++ᵛ back
  pub typed : HasTypes table ts front
  pub left : HasTypes table us back

module _ {table : Table} where
  pub headed : {t : Ref} {ts : List Ref} {ws : Vals} → HasTypes table (t ∷ ts) ws → Headed table t ts ws
  headed (integers e h) = record { head = vint _; rest = _; is = refl; typed = integers e no_values; left = h }
  headed (byte_strings e b h) = record { head = vbytes _; rest = _; is = refl; typed = byte_strings e b no_values; left = h }
  headed (opaques e h) = record { head = vopaque _; rest = _; is = refl; typed = opaques e no_values; left = h }
  headed (made l a h) = record { head = vcon _ _; rest = _; is = refl; typed = made l a no_values; left = h }

  pub parted : (ts : List Ref) {us : List Ref} {ws : Vals} → HasTypes table (ts ++ us) ws → Parted table ts us ws
  parted [] h = record { front = []ᵛ; back = _; is = refl; typed = no_values; left = h }
  parted (t ∷ ts) h =
      let a = headed h in
      let b = parted ts a.left in
      record { front = a.head ∷ᵛ b.front; back = b.back; is = a.is ∙ ap (λ (x : Vals). a.head ∷ᵛ x) b.is; typed = types_append a.typed b.typed; left = b.left }

-- a constructor's column, by its arity
module _ {table : Table} (t : Ref) (c : ℕ) {args : Vals} (h : HasTypes table (fields_at table t c) args) where
  pub opened : (m : Matrix) (vs : Vals) → fits_any (specialize_by_ctor c (arity table t c) m) (args ++ᵛ vs) ≡ fits_any m (vcon c args ∷ᵛ vs)
  opened m vs = rw (← types-length h) (ctor-fits c args vs m)

  pub opened-wilds : (q : Row) (vs : Vals) → fits (replicate (arity table t c) wild ++ q) (args ++ᵛ vs) ≡ fits q vs
  opened-wilds q vs = rw (← types-length h) (wilds-fit args q vs)

-- Every type has a value, also a reference to none: that one is opaque
pub valued-at : {table : Table} → AllValued table → (t : Ref) → Valued table t
valued-at {table} all t = go (ltb t (length table)) refl
  where
    go : (b : Bool) → ltb t (length table) ≡ b → Valued table t
    go true e = all t (ltb-true t (length table) e)
    go false e = record { value = vopaque 0; typed = opaques (get_or-eq_default table opaque (ltb-false t (length table) e)) no_values }

pub fill : {table : Table} → AllValued table → (ts : List Ref) → (vs : Vals) × HasTypes table ts vs
fill all [] = ([]ᵛ, no_values)
fill all (t ∷ ts) = let a = valued-at all t in let b = fill all ts in (a.value ∷ᵛ b.0, types_append a.typed b.1)

-- A value that the first column does not name: larger than all of its literals together
abbrev whole_size : Number → ℕ
whole_size (plus n) = n
whole_size (minus n) = 0

abbrev literal_size : Literal → ℕ
literal_size (int t) = whole_size (denotes t)
literal_size (byte_array s) = length s

abbrev bound : Matrix → ℕ
bound [] = 0
bound ([] ∷ m) = bound m
bound ((wild ∷ r) ∷ m) = bound m
bound ((lit l ∷ r) ∷ m) = literal_size l + bound m
bound ((con t d ∷ r) ∷ m) = bound m

large_unlike : (w : Number) (b : ℕ) → whole_size w ≤ b → same_whole w (plus (suc b)) ≡ false
large_unlike (plus n) b h = ne_eqb n (suc b) (λ e. omega arith)
large_unlike (minus n) b h = refl

long_unlike : (s : Text) (b : ℕ) → length s ≤ b → same s (replicate (suc b) 0) ≡ false
long_unlike s b h = not-passed (same s (replicate (suc b) 0)) (λ k. let e = ap length (same_true s (replicate (suc b) 0) k) in omega (arith, length-replicate {A = ℕ} b 0))

fresh-int : (m : Matrix) (b : ℕ) → bound m ≤ b → named m (vint (plus (suc b))) ≡ false
fresh-int [] b h = refl
fresh-int ([] ∷ m) b h = fresh-int m b h
fresh-int ((wild ∷ r) ∷ m) b h = fresh-int m b h
fresh-int ((lit (int t) ∷ r) ∷ m) b h = or_false (large_unlike (denotes t) b (omega arith)) (fresh-int m b (omega arith))
fresh-int ((lit (byte_array s) ∷ r) ∷ m) b h = fresh-int m b (omega arith)
fresh-int ((con t d ∷ r) ∷ m) b h = fresh-int m b h

fresh-bytes : (m : Matrix) (b : ℕ) → bound m ≤ b → named m (vbytes (replicate (suc b) 0)) ≡ false
fresh-bytes [] b h = refl
fresh-bytes ([] ∷ m) b h = fresh-bytes m b h
fresh-bytes ((wild ∷ r) ∷ m) b h = fresh-bytes m b h
fresh-bytes ((lit (int t) ∷ r) ∷ m) b h = fresh-bytes m b (omega arith)
fresh-bytes ((lit (byte_array s) ∷ r) ∷ m) b h = or_false (long_unlike s b (omega arith)) (fresh-bytes m b (omega arith))
fresh-bytes ((con t d ∷ r) ∷ m) b h = fresh-bytes m b h

zeros-bytes : (n : ℕ) → all is_byte (replicate n 0) ≡ true
zeros-bytes zero = refl
zeros-bytes (suc n) = zeros-bytes n

pub opaque_unnamed : (m : Matrix) (n : ℕ) → named m (vopaque n) ≡ false
opaque_unnamed [] n = refl
opaque_unnamed ([] ∷ m) n = opaque_unnamed m n
opaque_unnamed ((wild ∷ r) ∷ m) n = opaque_unnamed m n
opaque_unnamed ((lit (int t) ∷ r) ∷ m) n = opaque_unnamed m n
opaque_unnamed ((lit (byte_array s) ∷ r) ∷ m) n = opaque_unnamed m n
opaque_unnamed ((con t d ∷ r) ∷ m) n = opaque_unnamed m n

pub named-seen : (m : Matrix) (c : ℕ) (args : Vals) → named m (vcon c args) ≡ seen m c
named-seen [] c args = refl
named-seen ([] ∷ m) c args = named-seen m c args
named-seen ((wild ∷ r) ∷ m) c args = named-seen m c args
named-seen ((lit (int t) ∷ r) ∷ m) c args = named-seen m c args
named-seen ((lit (byte_array s) ∷ r) ∷ m) c args = named-seen m c args
named-seen ((con t d ∷ r) ∷ m) c args = ap (λ (b : Bool). eqb d c || b) (named-seen m c args)

-- such a value of type t
pub record Unnamed (table : Table) (m : Matrix) (t : Ref) : Type 0 where
  pub value : Val
  pub typed : HasTypes table (t ∷ []) (value ∷ᵛ []ᵛ)
  pub free : named m value ≡ false

module _ {table : Table} (all : AllValued table) (m : Matrix) (t : Ref) where
  pub bare_unnamed : ((c : ℕ) → seen m c ≡ false) → Unnamed table m t
  bare_unnamed none = go (valued-at all t).typed
    where
      go : {vs : Vals} → HasTypes table (t ∷ []) vs → Unnamed table m t
      go (integers e h) = record { value = vint (plus (suc (bound m))); typed = integers e no_values; free = fresh-int m (bound m) (omega arith) }
      go (byte_strings e b h) = record { value = vbytes (replicate (suc (bound m)) 0); typed = byte_strings e (zeros-bytes (suc (bound m))) no_values; free = fresh-bytes m (bound m) (omega arith) }
      go (opaques e h) = record { value = vopaque 0; typed = opaques e no_values; free = opaque_unnamed m 0 }
      go (made {c = c} {args = args} l a h) = record { value = vcon c args; typed = made l a no_values; free = named-seen m c args ∙ none c }

  pub unseen_unnamed : (c : ℕ) → c < length (ctors table t) → seen m c ≡ false → Unnamed table m t
  unseen_unnamed c l none = let b = fill all (fields_at table t c) in record { value = vcon c b.0; typed = made l b.1 no_values; free = named-seen m c b.0 ∙ none }
