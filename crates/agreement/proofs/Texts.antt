-- The source's text, whole: what `pretty` and `pretty_tail` give of a tree is the flat text of every row that shows it.
use mathlib.Core.Path.{◌≡◌, refl, ap, sym, ◌∙◌}
use mathlib.Core.List.{List, [], ◌∷◌, ◌++◌, map, append-nil}
use mathlib.Core.Bool.{Bool, true, false, cond}
use mathlib.Core.Option.{Option, none}
use Prim.Native.Nat.{ℕ, zero, suc, ◌+◌, ◌≤◌, ◌<◌}
use native.Mathlib.Omega.{arith}
use lib.ListN.{length, drop, replicate}
use lib.Seq.{drop-append-add}
use lib.Dec.{eqb}
use borrow.Author.Tests.{eqb-true, eqb-false, ne_eqb}
use Rattle.scope.specs.Lists.{Text, bytes, same}
use Rattle.scope.specs.Types.{Ref, Ctor, Table}
use Rattle.scope.specs.Constructors.{alts, ctors, ctor_at, fields_at, arity, cons_name, nil_name, tuple_name}
use Rattle.scope.specs.Simplify.{Literal, Node, wild, lit, con, Row, Matrix}
use Rattle.scope.specs.Text.{commas, contains, skip, source, text_unless, Look, look, look_by_name, Place, alone, in_tail, texts, field_text, field_texts, argument_text, pretty_ctor, tail_ctor, pretty_step, pretty_at}
use Rattle.scope.specs.Walks as flat
use Rattle.agreement.specs.Trees as rust
use Rattle.source.specs.Source.{ValueConstructor, Pattern, wildcard, literal, constructor, Patterns, []ᵖ, ◌∷ᵖ◌, ◌++ᵖ◌, len, Panic, field_map_of, value_constructor}
use Rattle.agreement.specs.Trees.{cell_texts, tail_texts, find_map, label_text, label_texts, pretty_record, pretty, pretty_tail, pretty_args}
use Rattle.source.specs.Shows.{Made, Shows, done, wilds, lits, cons}
use Rattle.scope.proofs.Tests.{clash, same_true, same_self}
use Rattle.laws.proofs.Texts.{pretty_law}
use Rattle.source.proofs.Rows.{Named, name-number, shows_len}
use Rattle.source.proofs.Walks.{From, over, next, from_all}

-- a constructor has no labels, or one for each field
pub data Labelled : List Text → ℕ → Type 0 where
  bare : {n : ℕ} → Labelled [] n
  each : {labels : List Text} {n : ℕ} → length labels ≡ n → Labelled labels n

-- what the text asks of a constructor: "::" has two fields, and labels are there for all fields or for none
pub record Formed (c : Ctor) : Type 0 where
  pub cell : same c.name cons_name ≡ true → length c.fields ≡ 2
  pub labelled : Labelled c.labels (length c.fields)

-- what a table is to be: names differ within a type, and each constructor is formed so
pub record Proper (table : Table) : Type 0 where
  pub named : Named table
  pub formed : (t : Ref) (c : ℕ) → c < length (ctors table t) → Formed (ctor_at table t c)

-- a row without literals
pub data Free : Row → Type 0 where
  free : Free []
  free-wild : {r : Row} → Free r → Free (wild ∷ r)
  free-con : {t : Ref} {c : ℕ} {r : Row} → Free r → Free (con t c ∷ r)

-- the patterns after the first n
abbrev dropᵖ : ℕ → Patterns → Patterns
dropᵖ zero ps = ps
dropᵖ (suc n) []ᵖ = []ᵖ
dropᵖ (suc n) (p ∷ᵖ ps) = dropᵖ n ps

drop-args : (args ps : Patterns) (n : ℕ) → dropᵖ (len args + n) (args ++ᵖ ps) ≡ dropᵖ n ps
drop-args []ᵖ ps n = let e : 0 + n ≡ n = omega arith in rw e
drop-args (p ∷ᵖ args) ps n = let e : suc (len args) + n ≡ suc (len args + n) = omega arith in rw e (drop-args args ps n)

module _ (table : Table) where
  skip-shows : {ts : List Ref} {r : Row} {ps : Patterns} → Shows table ts r ps → (n : ℕ) → Shows table (drop n ts) (skip table r n) (dropᵖ n ps)
  skip-shows done zero = done
  skip-shows done (suc n) = done
  skip-shows (wilds h) zero = wilds h
  skip-shows (wilds h) (suc n) = skip-shows h n
  skip-shows (lits e h) zero = lits e h
  skip-shows (lits e h) (suc n) = skip-shows h n
  skip-shows (cons made h) zero = cons made h
  skip-shows (cons {t = t} {ts = ts} {c = c} {args = args} {ps = ps} made h) (suc n) =
      let e : dropᵖ (arity table t c + n) (args ++ᵖ ps) ≡ dropᵖ n ps = rw (← made.filled) (drop-args args ps n) in
      rw (drop-append-add (fields_at table t c) ts n, e) at (skip-shows h (arity table t c + n))

  skip-free : {r : Row} → Free r → (n : ℕ) → Free (skip table r n)
  skip-free free n = free
  skip-free (free-wild h) zero = free-wild h
  skip-free (free-wild h) (suc n) = skip-free h n
  skip-free (free-con h) zero = free-con h
  skip-free (free-con {t = t} {c = c} h) (suc n) = skip-free h (arity table t c + n)

module _ (panic : Panic) (table : Table) where
  -- the flat text of a row's first pattern is that of the tree
  record TextOf (p : Pattern) : Type 0 where
    plain : {t : Ref} {ts : List Ref} {r : Row} {ps : Patterns} → Shows table (t ∷ ts) r (p ∷ᵖ ps) → Free r → pretty_at source table alone r ≡ pretty panic p
    tail : {t : Ref} {ts : List Ref} {r : Row} {ps : Patterns} → Shows table (t ∷ ts) r (p ∷ᵖ ps) → Free r → pretty_at source table in_tail r ≡ pretty_tail panic p

  data TextsOf : Patterns → Type 0 where
    no_texts : TextsOf []ᵖ
    and-text : {p : Pattern} {ps : Patterns} → TextOf p → TextsOf ps → TextsOf (p ∷ᵖ ps)

  texts-agree : {args : Patterns} → TextsOf args → (ps : Patterns) {us : List Ref} {r : Row} → Shows table us r (args ++ᵖ ps) → Free r → texts source table (pretty_at source table) (len args) r ≡ map (λ a. a.plain_text) (pretty_args panic args)
  unfolding pretty_args
  texts-agree no_texts ps h f = refl
  texts-agree (and-text k ks) ps {us = []} h f = absurd (omega (arith, shows_len table h))
  texts-agree (and-text k ks) ps {us = u ∷ us} h f = rw (k.plain h f, texts-agree ks ps (skip-shows table h 1) (skip-free table f 1))

  field-agrees : (label : Text) {t : Ref} {ts : List Ref} {r : Row} {p : Pattern} {ps : Patterns} → TextOf p → Shows table (t ∷ ts) r (p ∷ᵖ ps) → Free r → field_text source table (pretty_at source table) label r ≡ label_text label p (pretty panic p)
  field-agrees label k (wilds h) f = refl
  field-agrees label k (lits e h) f = rw (k.plain (lits e h) f)
  field-agrees label k (cons made h) f = rw (k.plain (cons made h) f)

  fields-agree : {args : Patterns} → TextsOf args → (labels : List Text) → length labels ≡ len args → (ps : Patterns) {us : List Ref} {r : Row} → Shows table us r (args ++ᵖ ps) → Free r
      → field_texts source table (pretty_at source table) labels r ≡ label_texts labels (pretty_args panic args)
  unfolding pretty_args
  fields-agree no_texts [] e ps h f = refl
  fields-agree no_texts (label ∷ labels) e ps h f = absurd (omega arith)
  fields-agree (and-text k ks) [] e ps h f = absurd (omega arith)
  fields-agree (and-text k ks) (label ∷ labels) e ps {us = []} h f = absurd (omega (arith, shows_len table h))
  fields-agree (and-text k ks) (label ∷ labels) e ps {us = u ∷ us} h f = rw (field-agrees label k h f, fields-agree ks labels (omega arith) ps (skip-shows table h 1) (skip-free table f 1))

  -- the two arguments of "::"
  cell-agrees : {args : Patterns} → TextsOf args → len args ≡ 2 → (ps : Patterns) {us : List Ref} {r : Row} → Shows table us r (args ++ᵖ ps) → Free r
      → (pretty_at source table alone r ∷ text_unless (same (pretty_at source table in_tail (skip table r 1)) nil_name) (pretty_at source table in_tail (skip table r 1)) ≡ cell_texts 0 (pretty_args panic args))
      × (pretty_at source table alone r ∷ pretty_at source table in_tail (skip table r 1) ∷ [] ≡ tail_texts 0 (pretty_args panic args))
  unfolding pretty_args
  cell-agrees no_texts e ps h f = absurd (omega arith)
  cell-agrees (and-text k no_texts) e ps h f = absurd (omega arith)
  cell-agrees (and-text k (and-text i (and-text j js))) e ps h f = absurd (omega arith)
  cell-agrees (and-text k (and-text {p = p} i no_texts)) e ps {us = []} h f = absurd (omega (arith, shows_len table h))
  cell-agrees (and-text k (and-text {p = p} i no_texts)) e ps {us = u ∷ []} h f = absurd (omega (arith, shows_len table h))
  cell-agrees (and-text k (and-text {p = p} i no_texts)) e ps {us = u ∷ v ∷ us} h f =
      let d = k.plain h f in
      let g = i.tail (skip-shows table h 1) (skip-free table f 1) in
      (rw (d, g, ends (same (pretty_tail panic p) nil_name)), rw (d, g))
    where
      ends : (b : Bool) → text_unless b (pretty_tail panic p) ≡ cond b [] (pretty_tail panic p ∷ []) ++ []
      ends true = refl
      ends false = refl

found_map : (f : ValueConstructor → Option (List Text)) (alt : ValueConstructor) (alts : List ValueConstructor) (labels : List Text) → f alt ≡ field_map_of labels → find_map f alts ≡ none → find_map f (alt ∷ alts) ≡ field_map_of labels
found_map f alt alts [] e h = rw e h
found_map f alt alts (label ∷ labels) e h = rw e

module _ (table : Table) (named : Named table) (t : Ref) (c : ℕ) (l : c < length (ctors table t)) where
  -- the field map of an alternative, if it has the name of constructor c
  abbrev pick : ValueConstructor → Option (List Text)
  pick alt = cond (same alt.name (ctor_at table t c).name) alt.field_map none

  find_past : {d : ℕ} {cs : List Ctor} → From table t d cs → c < d → find_map pick (map value_constructor cs) ≡ none
  find_past over h = refl
  find_past (next {c = d} e k rest) h = rw (e, name-number table named t d c k l, ne_eqb d c (λ i. omega arith)) (find_past rest (omega arith))

  find_at : {d : ℕ} {cs : List Ctor} → From table t d cs → d ≤ c → c < d + length cs → find_map pick (map value_constructor cs) ≡ field_map_of (ctor_at table t c).labels
  find_at over h u = absurd (omega arith)
  find_at (next {c = d} {x = x} {cs = cs} e k rest) h u = go (eqb d c) refl (λ i. find_at rest i (omega arith))
    where
      labels : List Text
      labels = (ctor_at table t c).labels

      go : (b : Bool) → eqb d c ≡ b → (suc d ≤ c → find_map pick (map value_constructor cs) ≡ field_map_of labels) → find_map pick (value_constructor x ∷ map value_constructor cs) ≡ field_map_of labels
      go true i deeper = found_map pick (value_constructor x) (map value_constructor cs) labels (rw (e, eqb-true d c i, same_self (ctor_at table t c).name)) (find_past rest (omega (arith, eqb-true d c i)))
      go false i deeper = rw (e, name-number table named t d c k l, i) (deeper (omega (arith, eqb-false d c i)))

module _ (panic : Panic) (table : Table) (proper : Proper table) where
  -- what stands after the name
  record_agrees : {args : Patterns} (name : Text) (labels : List Text) → Labelled labels (len args) → TextsOf panic table args → (ps : Patterns) {us : List Ref} {r : Row} → Shows table us r (args ++ᵖ ps) → Free r
      → name ++ argument_text source table (pretty_at source table) labels (len args) r ≡ pretty_record name (field_map_of labels) (pretty_args panic args)
  unfolding pretty_args
  record_agrees name [] e no_texts ps h f = append-nil name
  record_agrees name [] e (and-text k ks) ps h f = ap (λ (ts : List Text). name ++ (bytes "(" ++ commas ts ++ bytes ")")) (texts-agree panic table (and-text k ks) ps h f)
  record_agrees name (label ∷ labels) (each e) k ps h f = ap (λ (ts : List Text). name ++ (bytes " { " ++ commas ts ++ bytes " }")) (fields-agree panic table k (label ∷ labels) e ps h f)

  -- the arms of `pretty` and `pretty_tail` for a constructor
  ctor-agrees : {t : Ref} {us : List Ref} {c : ℕ} {name : Text} {alts : List ValueConstructor} {args : Patterns} {r : Row} (ps : Patterns) → Made table t c name alts args → TextsOf panic table args → Shows table us r (args ++ᵖ ps) → Free r
      → pretty_ctor source table (pretty_at source table) (look source table t c) t c r ≡ rust.pretty_ctor name alts (pretty_args panic args)
  unfolding look
  ctor-agrees {t} {us} {c} {name} {alts} {args} {r} ps made k h f =
      rw (made.named, made.listed, find_at table proper.named t c made.known (from_all table t) (omega arith) (omega (arith, made.known)))
      (go (contains tuple_name N) (same N cons_name) refl)
    where
      N : Text
      N = (ctor_at table t c).name

      formed : Formed (ctor_at table t c)
      formed = proper.formed t c made.known

      round-text : texts source table (pretty_at source table) (arity table t c) r ≡ map (λ a. a.plain_text) (pretty_args panic args)
      round-text = rw (← made.filled) (texts-agree panic table k ps h f)

      go : (a b : Bool) → same N cons_name ≡ b → pretty_ctor source table (pretty_at source table) (cond a Look.round (cond b Look.square Look.spelled)) t c r
          ≡ cond a (bytes "(" ++ commas (map (λ a. a.plain_text) (pretty_args panic args)) ++ bytes ")") (cond b (bytes "[" ++ commas (cell_texts 0 (pretty_args panic args)) ++ bytes "]") (pretty_record N (field_map_of (ctor_at table t c).labels) (pretty_args panic args)))
      go true b e = rw round-text
      go false true e = ap (λ (ts : List Text). bytes "[" ++ commas ts ++ bytes "]") (cell-agrees panic table k (made.filled ∙ formed.cell e) ps h f).0
      go false false e = rw (← made.filled) (record_agrees N (ctor_at table t c).labels (rw made.filled formed.labelled) k ps h f)

  -- "::" holds no `__Tuple`
  cell-square : (name : Text) → same name cons_name ≡ true → look_by_name name ≡ Look.square
  unfolding contains
  cell-square name e = rw (same_true name cons_name e, same_self cons_name)

  tail-agrees : {t : Ref} {us : List Ref} {c : ℕ} {name : Text} {alts : List ValueConstructor} {args : Patterns} {r : Row} (ps : Patterns) → Made table t c name alts args → TextsOf panic table args → Shows table us r (args ++ᵖ ps) → Free r
      → tail_ctor source table (pretty_at source table) (look source table t c) t c r ≡ cond (same name cons_name) (commas (tail_texts 0 (pretty_args panic args))) (rust.pretty_ctor name alts (pretty_args panic args))
  unfolding look
  tail-agrees {t} {us} {c} {name} {alts} {args} {r} ps made k h f = go (same name cons_name) refl
    where
      T : Place → Row → Text
      T = pretty_at source table

      named : same name cons_name ≡ same (ctor_at table t c).name cons_name
      named = rw made.named

      other : (a b : Bool) → b ≡ false → tail_ctor source table T (cond a Look.round (cond b Look.square Look.spelled)) t c r ≡ pretty_ctor source table T (cond a Look.round (cond b Look.square Look.spelled)) t c r
      other true b e = refl
      other false true e = clash (cc)
      other false false e = refl

      go : (b : Bool) → same name cons_name ≡ b → tail_ctor source table T (look source table t c) t c r ≡ cond b (commas (tail_texts 0 (pretty_args panic args))) (rust.pretty_ctor name alts (pretty_args panic args))
      go true e =
          let i : same (ctor_at table t c).name cons_name ≡ true = sym named ∙ e in
          rw (cell-square (ctor_at table t c).name i) (ap commas (cell-agrees panic table k (made.filled ∙ (proper.formed t c made.known).cell i) ps h f).1)
      go false e = other (contains tuple_name (ctor_at table t c).name) (same (ctor_at table t c).name cons_name) (sym named ∙ e) ∙ ctor-agrees ps made k h f

  wildcard-text : TextOf panic table wildcard
  unfolding pretty_step pretty
  wildcard-text = record { plain = λ h f. plain h; tail = λ h f. tail h }
    where
      plain : {t : Ref} {ts : List Ref} {r : Row} {ps : Patterns} → Shows table (t ∷ ts) r (wildcard ∷ᵖ ps) → pretty_at source table alone r ≡ bytes "_"
      plain (wilds {r = r} h) = pretty_law source table alone (wild ∷ r)

      tail : {t : Ref} {ts : List Ref} {r : Row} {ps : Patterns} → Shows table (t ∷ ts) r (wildcard ∷ᵖ ps) → pretty_at source table in_tail r ≡ bytes ".."
      tail (wilds {r = r} h) = pretty_law source table in_tail (wild ∷ r)

  -- no literal comes
  literal-text : (l : Literal) → TextOf panic table (literal l)
  literal-text l = record { plain = λ h f. absurd (never h f); tail = λ h f. absurd (never h f) }
    where
      not_free : {x : Node} {r : Row} → Free (x ∷ r) → x ≡ lit l → ⊥
      not_free (free-wild f) e = clash (cc)
      not_free (free-con f) e = clash (cc)

      never : {t : Ref} {ts : List Ref} {r : Row} {ps : Patterns} → Shows table (t ∷ ts) r (literal l ∷ᵖ ps) → Free r → ⊥
      never (lits e h) f = not_free f refl

  ctor-text : {name : Text} {alts : List ValueConstructor} {args : Patterns} → TextsOf panic table args → TextOf panic table (constructor name alts args)
  unfolding pretty_step pretty
  ctor-text {name} {alts} {args} k = record { plain = λ h f. plain h f; tail = λ h f. tail h f }
    where
      inner : {t : Ref} {c : ℕ} {r : Row} → Free (con t c ∷ r) → Free r
      inner (free-con f) = f

      plain : {t : Ref} {ts : List Ref} {r : Row} {ps : Patterns} → Shows table (t ∷ ts) r (constructor name alts args ∷ᵖ ps) → Free r → pretty_at source table alone r ≡ rust.pretty_ctor name alts (pretty_args panic args)
      plain (cons {t = t} {c = c} {r = r} {ps = ps} made h) f = pretty_law source table alone (con t c ∷ r) ∙ ctor-agrees ps made k h (inner f)

      tail : {t : Ref} {ts : List Ref} {r : Row} {ps : Patterns} → Shows table (t ∷ ts) r (constructor name alts args ∷ᵖ ps) → Free r → pretty_at source table in_tail r ≡ cond (same name cons_name) (commas (tail_texts 0 (pretty_args panic args))) (rust.pretty_ctor name alts (pretty_args panic args))
      tail (cons {t = t} {c = c} {r = r} {ps = ps} made h) f = pretty_law source table in_tail (con t c ∷ r) ∙ tail-agrees ps made k h (inner f)

  mutual
    text_of : (p : Pattern) → TextOf panic table p
    text_of wildcard = wildcard-text
    text_of (literal l) = literal-text l
    text_of (constructor name alts args) = ctor-text (texts_of args)

    texts_of : (ps : Patterns) → TextsOf panic table ps
    texts_of []ᵖ = no_texts
    texts_of (p ∷ᵖ ps) = and-text (text_of p) (texts_of ps)

  -- `pretty` of a tree is the text of every row without literals that shows it
  pub pretty-agrees : {t : Ref} {ts : List Ref} {r : Row} {p : Pattern} {ps : Patterns} → Shows table (t ∷ ts) r (p ∷ᵖ ps) → Free r → pretty_at source table alone r ≡ pretty panic p
  pretty-agrees {p = p} h f = (text_of p).plain h f

-- No literal is ever missing: every row of the missing walk is free of them
pub data FreeRows : Matrix → Type 0 where
  no_rows : FreeRows []
  and-row : {r : Row} {m : Matrix} → Free r → FreeRows m → FreeRows (r ∷ m)

rows-free : {m m' : Matrix} → FreeRows m → FreeRows m' → FreeRows (m ++ m')
rows-free no_rows k = k
rows-free (and-row f h) k = and-row f (rows-free h k)

wilds-free : (n : ℕ) {r : Row} → Free r → Free (replicate n wild ++ r)
wilds-free zero f = f
wilds-free (suc n) f = free-wild (wilds-free n f)

map-free : (f : Row → Row) → ((r : Row) → Free r → Free (f r)) → {m : Matrix} → FreeRows m → FreeRows (map f m)
map-free f h no_rows = no_rows
map-free f h (and-row {r = r} i k) = and-row (h r i) (map-free f h k)

each_free : (f : Row → Matrix) → ((r : Row) → Free r → FreeRows (f r)) → {m : Matrix} → FreeRows m → FreeRows (flat.each_row f m)
each_free f h no_rows = no_rows
each_free f h (and-row {r = r} i k) = rows-free (h r i) (each_free f h k)

unseen-free : (m : Matrix) (t c : ℕ) (ks : List (List Ref)) (r : Row) → Free r → FreeRows (flat.unseen m t c ks r)
unseen-free m t c [] r f = no_rows
unseen-free m t c (fields ∷ ks) r f = rows-free (go (flat.seen m c)) (unseen-free m t (suc c) ks r f)
  where
    go : (b : Bool) → FreeRows (cond b [] ((con t c ∷ replicate (length fields) wild ++ r) ∷ []))
    go true = no_rows
    go false = and-row (free-con (wilds-free (length fields) f)) no_rows

gather-free : (f : ℕ → ℕ → flat.Walk Matrix) → ((c a : ℕ) → FreeRows (f c a).result) → (t c : ℕ) (ks : List (List Ref)) → FreeRows (flat.gather f t c ks).result
gather-free f h t c [] = no_rows
gather-free f h t c (fields ∷ ks) = rows-free (map-free (con t c ∷◌) (λ r i. free-con i) (h c (length fields))) (gather-free f h t (suc c) ks)

column-free : (table : Table) (again : ℕ → Matrix → flat.Walk Matrix) → ((n : ℕ) (m : Matrix) → FreeRows (again n m).result) → (x : flat.Column) (n : ℕ) (m : Matrix) → FreeRows (flat.missing_column table again x n m).result
column-free table again h flat.bare n m = map-free (wild ∷◌) (λ r i. free-wild i) (h n _)
column-free table again h (flat.part t) n m = each_free (flat.unseen m t 0 (alts table t)) (λ r i. unseen-free m t 0 (alts table t) r i) (h n _)
column-free table again h (flat.full t) n m = gather-free (λ c a. again (a + n) (flat.specialize_by_ctor c a m)) (λ c a. h (a + n) (flat.specialize_by_ctor c a m)) t 0 (alts table t)

missing-free : (table : Table) (k n : ℕ) (m : Matrix) → FreeRows (flat.collect_missing_in table k n m).result
unfolding flat.collect_missing_in flat.collect_missing_step
missing-free table zero n m = no_rows
missing-free table (suc k) n [] = and-row (rw append-nil at (wilds-free n free)) no_rows
missing-free table (suc k) zero (r ∷ m) = no_rows
missing-free table (suc k) (suc n) (r ∷ m) = column-free table (flat.collect_missing_in table k) (missing-free table k) (flat.column table (r ∷ m)) n (r ∷ m)

pub all-free : (table : Table) (n : ℕ) (m : Matrix) → FreeRows (flat.collect_missing_patterns table n m).result
unfolding flat.collect_missing_patterns
all-free table n m = missing-free table (suc (flat.cost table n m)) n m
