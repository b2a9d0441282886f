-- Rows on both sides: what a flat row shows as trees stays so under every specialisation, where constructor names of one type differ.
use mathlib.Core.Path.{◌≡◌, refl, ap, sym, subst, ◌∙◌}
use mathlib.Core.List.{List, [], ◌∷◌, ◌++◌, map, filter_map, filter_map-cons-none, filter_map-cons-some}
use mathlib.Core.Bool.{Bool, true, false, ◌&&◌}
use mathlib.Core.Option.{Option, none, some}
use Prim.Native.Nat.{ℕ, zero, suc, ◌+◌, ◌<◌}
use native.Mathlib.Omega.{arith}
use lib.ListN.{length, get_or, replicate, length-append, length-map, get_or-map}
use lib.Dec.{eqb, eqb-zero-suc, eqb-suc-zero, eqb-suc-suc}
use borrow.Author.Tests.{eqb-true, eq-eqb}
use Rattle.scope.specs.Lists.{Text, any, same, twice}
use Rattle.scope.specs.Types.{Ref, Ty, integer, byte_string, opaque, list, tuple, pair, dat, Table, type_at, kind, name_of}
use Rattle.scope.specs.Constructors.{built, ctors_at, ctors, ctor_at, fields_at, arity}
use Rattle.scope.specs.Simplify.{Literal, int, byte_array, same_literal, wild, Row, Matrix}
use Rattle.laws.specs.Typed.{literal_kind}
use Rattle.scope.specs.Walks as flat
use Rattle.source.specs.Source as rust
use Rattle.source.specs.Source.{Patterns, []ᵖ, ◌∷ᵖ◌, ◌++ᵖ◌, len, wildcards, Panic}
use Rattle.source.specs.Shows.{Made, Shows, done, wilds, lits, cons, ShowsRows, no_rows, also}
use Rattle.scope.proofs.Tests.{neither, same_self}

-- Names of one type
pub eqb-sym : (a b : ℕ) → eqb a b ≡ eqb b a
eqb-sym zero zero = refl
eqb-sym zero (suc b) = eqb-zero-suc b ∙ sym (eqb-suc-zero b)
eqb-sym (suc a) zero = eqb-suc-zero a ∙ sym (eqb-zero-suc a)
eqb-sym (suc a) (suc b) = eqb-suc-suc a b ∙ eqb-sym a b ∙ sym (eqb-suc-suc b a)

pub same-sym : (s t : Text) → same s t ≡ same t s
unfolding same
same-sym [] [] = refl
same-sym [] (b ∷ t) = refl
same-sym (a ∷ s) [] = refl
same-sym (a ∷ s) (b ∷ t) = rw (eqb-sym a b, same-sym s t)

-- no text of the list is this one
not-any : (t : Text) (ts : List Text) (c : ℕ) → any (same t) ts ≡ false → c < length ts → same t (get_or ts c []) ≡ false
not-any t [] c h l = absurd (omega arith)
not-any t (u ∷ ts) zero h l = (neither (same t u) (any (same t) ts) h).0
not-any t (u ∷ ts) (suc c) h l = not-any t ts c (neither (same t u) (any (same t) ts) h).1 (omega arith)

-- where no text is there twice, texts are the same exactly where their places are
place_of : (ts : List Text) → twice ts ≡ false → (d c : ℕ) → d < length ts → c < length ts → same (get_or ts d []) (get_or ts c []) ≡ eqb d c
unfolding twice
place_of [] h d c k l = absurd (omega arith)
place_of (t ∷ ts) h zero zero k l = same_self t
place_of (t ∷ ts) h zero (suc c) k l = not-any t ts c (neither (any (same t) ts) (twice ts) h).0 (omega arith) ∙ sym (eqb-zero-suc c)
place_of (t ∷ ts) h (suc d) zero k l = same-sym (get_or ts d []) t ∙ not-any t ts d (neither (any (same t) ts) (twice ts) h).0 (omega arith) ∙ sym (eqb-suc-zero d)
place_of (t ∷ ts) h (suc d) (suc c) k l = place_of ts (neither (any (same t) ts) (twice ts) h).1 d c (omega arith) (omega arith) ∙ sym (eqb-suc-suc d c)

-- constructor names of one type differ
pub record Named (table : Table) : Type 0 where
  pub differ : (t : Ref) → twice (map name_of (ctors table t)) ≡ false

-- Lengths
pub len_append : (ps qs : Patterns) → len (ps ++ᵖ qs) ≡ len ps + len qs
len_append []ᵖ qs = omega arith
len_append (p ∷ᵖ ps) qs = omega (arith, len_append ps qs)

pub len-wildcards : (n : ℕ) → len (wildcards n) ≡ n
len-wildcards zero = refl
len-wildcards (suc n) = ap suc (len-wildcards n)

module _ (table : Table) where
  pub shows_len : {ts : List Ref} {r : Row} {ps : Patterns} → Shows table ts r ps → len ps ≡ length ts
  shows_len done = refl
  shows_len (wilds h) = ap suc (shows_len h)
  shows_len (lits k h) = ap suc (shows_len h)
  shows_len (cons {t = t} {ts = ts} {c = c} {args = args} {ps = ps} made h) =
      omega (arith, shows_len h, len_append args ps, length-append (fields_at table t c) ts, made.filled)

  pub rows-length : {ts : List Ref} {m : Matrix} {ps : rust.Matrix} → ShowsRows table ts m ps → length m ≡ length ps
  rows-length no_rows = refl
  rows-length (also h k) = ap suc (rows-length k)

  pub rows_append : {ts : List Ref} {m m' : Matrix} {ps ps' : rust.Matrix} → ShowsRows table ts m ps → ShowsRows table ts m' ps' → ShowsRows table ts (m ++ m') (ps ++ ps')
  rows_append no_rows k = k
  rows_append (also h l) k = also h (rows_append l k)

  pub shows-wilds : (fs ts : List Ref) {r : Row} {ps : Patterns} → Shows table ts r ps → Shows table (fs ++ ts) (replicate (length fs) wild ++ r) (wildcards (length fs) ++ᵖ ps)
  shows-wilds [] ts h = h
  shows-wilds (f ∷ fs) ts h = wilds (shows-wilds fs ts h)

  -- a specialised row is there on both sides or on neither
  data ShowsOption (ts : List Ref) : Matrix → Option Patterns → Type 0 where
    absent : ShowsOption ts [] none
    present : {r : Row} {p : Patterns} → Shows table ts r p → ShowsOption ts (r ∷ []) (some p)

  each-shows : {ts us : List Ref} (f : Row → Matrix) (g : Patterns → Option Patterns) → ((r : Row) (p : Patterns) → Shows table ts r p → ShowsOption us (f r) (g p))
      → {m : Matrix} {ps : rust.Matrix} → ShowsRows table ts m ps → ShowsRows table us (flat.each_row f m) (filter_map g ps)
  unfolding filter_map
  each-shows f g h no_rows = no_rows
  each-shows {us = us} f g h (also {r = r} {p = p} {m = m} {ps = ps} k l) = go (f r) (g p) refl (h r p k) (each-shows f g h l)
    where
      go : (x : Matrix) (o : Option Patterns) → g p ≡ o → ShowsOption us x o → ShowsRows table us (flat.each_row f m) (filter_map g ps) → ShowsRows table us (x ++ flat.each_row f m) (filter_map g (p ∷ ps))
      go [] none e absent rest = subst (λ (y : rust.Matrix). ShowsRows table us (flat.each_row f m) y) (sym (filter_map-cons-none g p ps e)) rest
      go [] (some p') e w rest = elim w [ ]
      go (r' ∷ []) none e w rest = elim w [ ]
      go (r' ∷ []) (some p') e (present k') rest = subst (λ (y : rust.Matrix). ShowsRows table us (r' ∷ flat.each_row f m) y) (sym (filter_map-cons-some g p ps e)) (also k' rest)
      go (r' ∷ (_ ∷ _)) o e w rest = elim w [ ]

  row_if_lem : {ts : List Ref} (b : Bool) {r : Row} {p : Patterns} → Shows table ts r p → ShowsOption ts (flat.row_if b r) (rust.row_if b p)
  row_if_lem true h = present h
  row_if_lem false h = absent

  pub wildcard-shows : {t : Ref} {ts : List Ref} {m : Matrix} {ps : rust.Matrix} → ShowsRows table (t ∷ ts) m ps → ShowsRows table ts (flat.specialize_by_wildcard m) (rust.specialize_rows_by_wildcard ps)
  wildcard-shows {t} {ts} h = each-shows flat.specialize_row_by_wildcard rust.specialize_row_by_wildcard (λ r p k. row k) h
    where
      row : {r : Row} {p : Patterns} → Shows table (t ∷ ts) r p → ShowsOption ts (flat.specialize_row_by_wildcard r) (rust.specialize_row_by_wildcard p)
      row (wilds k) = present k
      row (lits e k) = absent
      row (cons made k) = absent

  -- constructors and literals never align: a type of literals has no constructors
  no_ctors : (t : Ref) {c : ℕ} (l : Literal) → kind (type_at table t) ≡ literal_kind l → c < length (ctors table t) → ⊥
  no_ctors t {c} l e k = go (type_at table t) l e k
    where
      go : (ty : Ty) (x : Literal) → kind ty ≡ literal_kind x → c < length (ctors_at t ty) → ⊥
      go integer x i j = omega arith
      go byte_string x i j = omega arith
      go opaque x i j = omega arith
      go (list u) (int s) i j = omega arith
      go (list u) (byte_array s) i j = omega arith
      go (tuple us) (int s) i j = omega arith
      go (tuple us) (byte_array s) i j = omega arith
      go (pair u v) (int s) i j = omega arith
      go (pair u v) (byte_array s) i j = omega arith
      go (dat cs) (int s) i j = omega arith
      go (dat cs) (byte_array s) i j = omega arith

  pub literal-shows : (panic : Panic) {t : Ref} {ts : List Ref} (l : Literal) → kind (type_at table t) ≡ literal_kind l → {m : Matrix} {ps : rust.Matrix} → ShowsRows table (t ∷ ts) m ps
      → ShowsRows table ts (flat.specialize_by_literal l m) (rust.specialize_rows_by_literal panic l ps)
  literal-shows panic {t} {ts} l e h = each-shows (flat.specialize_row_by_literal l) (rust.specialize_row_by_literal panic l) (λ r p k. row k) h
    where
      row : {r : Row} {p : Patterns} → Shows table (t ∷ ts) r p → ShowsOption ts (flat.specialize_row_by_literal l r) (rust.specialize_row_by_literal panic l p)
      row (wilds k) = present k
      row (lits {l = x} i k) = row_if_lem (same_literal x l) k
      row (cons made k) = absurd (no_ctors t l e made.known)

  module _ (named : Named table) where
    -- two constructors of a type have the same name exactly where they have the same number
    pub name-number : (t : Ref) (d c : ℕ) → d < length (ctors table t) → c < length (ctors table t) → same (ctor_at table t d).name (ctor_at table t c).name ≡ eqb d c
    name-number t d c k l =
        let cs = ctors table t in
        let at : (i : ℕ) → get_or (map name_of cs) i [] ≡ (ctor_at table t i).name = λ i. get_or-map name_of cs i (built [] []) in
        let e = length-map cs name_of in
        rw (← at d, ← at c) (place_of (map name_of cs) (named.differ t) d c (omega arith) (omega arith))

    ctor-test : {t : Ref} {d : ℕ} {name : Text} {alts : List rust.ValueConstructor} {args : Patterns} (c : ℕ) → c < length (ctors table t) → Made table t d name alts args
        → (same name (ctor_at table t c).name && eqb (len args) (arity table t c)) ≡ eqb d c
    ctor-test {t} {d} {name} {alts} {args} c k made = go (eqb d c) refl
      where
        named-same : same name (ctor_at table t c).name ≡ eqb d c
        named-same = rw made.named (name-number t d c made.known k)

        go : (b : Bool) → eqb d c ≡ b → (same name (ctor_at table t c).name && eqb (len args) (arity table t c)) ≡ b
        go true e = rw (named-same, e) (eq-eqb (len args) (arity table t c) (made.filled ∙ ap (arity table t) (eqb-true d c e)))
        go false e = rw (named-same, e)

    pub ctor-shows : (panic : Panic) {t : Ref} {ts : List Ref} (c : ℕ) → c < length (ctors table t) → {m : Matrix} {ps : rust.Matrix} → ShowsRows table (t ∷ ts) m ps
        → ShowsRows table (fields_at table t c ++ ts) (flat.specialize_by_ctor c (arity table t c) m) (rust.specialize_rows_by_ctor panic (ctor_at table t c).name (arity table t c) ps)
    ctor-shows panic {t} {ts} c l h = each-shows (flat.specialize_row_by_ctor c (arity table t c)) (rust.specialize_row_by_ctor panic (ctor_at table t c).name (arity table t c)) (λ r p k. row k) h
      where
        made_row : (d : ℕ) (b : Bool) → eqb d c ≡ b → {r : Row} {p : Patterns} → Shows table (fields_at table t d ++ ts) r p → ShowsOption (fields_at table t c ++ ts) (flat.row_if b r) (rust.row_if b p)
        made_row d true e {r} {p} k = present (subst (λ (x : ℕ). Shows table (fields_at table t x ++ ts) r p) (eqb-true d c e) k)
        made_row d false e k = absent

        row : {r : Row} {p : Patterns} → Shows table (t ∷ ts) r p → ShowsOption (fields_at table t c ++ ts) (flat.specialize_row_by_ctor c (arity table t c) r) (rust.specialize_row_by_ctor panic (ctor_at table t c).name (arity table t c) p)
        row (wilds k) = present (shows-wilds (fields_at table t c) ts k)
        row (lits {l = x} e k) = absurd (no_ctors t x e l)
        row (cons {c = d} {args = args} {r = r} {ps = ps} made k) = subst (λ (b : Bool). ShowsOption (fields_at table t c ++ ts) (flat.row_if (eqb d c) r) (rust.row_if b (args ++ᵖ ps))) (sym (ctor-test c l made)) (made_row d (eqb d c) refl k)
