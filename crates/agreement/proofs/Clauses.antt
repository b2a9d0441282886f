-- `simplify`, whole: a clause that suits its type is one tree as written, and the flat row shows what the source's `simplify` makes of that tree.
use mathlib.Core.Path.{◌≡◌, refl, ap, sym, subst, subst₂, ◌∙◌}
use mathlib.Core.List.{List, [], ◌∷◌, ◌++◌, map, append-nil, append_assoc}
use mathlib.Core.Bool.{Bool, true, false, ◌&&◌, ◌||◌}
use mathlib.Core.Option
use mathlib.Core.Option.{Option, none, some}
use Prim.Native.Nat.{ℕ, zero, suc, ◌-◌, ◌≤◌, ◌<◌}
use native.Mathlib.Omega.{arith}
use lib.ListN.{length, get_or, take, drop, replicate, length-drop}
use lib.Seq.{take-length, drop-length, get_or-drop}
use lib.Dec.{ltb, leb, eqb}
use borrow.Author.Tests.{ltb-true, le-ltb, eqb-true}
use Rattle.scope.specs.Lists.{Text}
use Rattle.scope.specs.Types.{Ref, Ctor, Ty, integer, byte_string, opaque, list, tuple, pair, dat, Table, type_at, fields_of, kind}
use Rattle.scope.specs.Constructors.{fields_at, built, ctors_at, ctors, ctor_at, arity, cons_name, nil_name, tuple_name}
use Rattle.scope.specs.Patterns.{Raw}
use Rattle.scope.specs.Simplify.{Literal, Node, wild, lit, con, Row, Item, put, pat, suiting, element_items, enough, arguments, whole, opened, putting, all_put, ◌>>=◌, simplified, simplify}
use Rattle.agreement.specs.Trees as rust
use Rattle.source.specs.Source.{Pattern, constructor, Patterns, []ᵖ, ◌∷ᵖ◌, ◌++ᵖ◌, len, wildcards, value_constructor, constructors_for, Panic}
use Rattle.agreement.specs.Trees.{list_constructors, tuple_constructors, TypedPattern, TypedPatterns, []ᵗ, ◌∷ᵗ◌, count, spread_by, simplify_each, simplify_cells}
use Rattle.source.specs.Shows.{Made, Shows, done, wilds, lits, cons}
use Rattle.agreement.specs.Agreement.{written, written_each}
use Rattle.scope.proofs.Tests.{clash, both}
use Rattle.laws.proofs.Typing.{enough_le, suiting-some}
use Rattle.source.proofs.Rows.{len_append, len-wildcards, shows-wilds}

-- patterns, one after another
infixl 65 ◌++ᵗ◌
abbrev ◌++ᵗ◌ : TypedPatterns → TypedPatterns → TypedPatterns
[]ᵗ ++ᵗ bs = bs
(a ∷ᵗ qs) ++ᵗ bs = a ∷ᵗ (qs ++ᵗ bs)

written_append : (qs bs : TypedPatterns) → written_each (qs ++ᵗ bs) ≡ written_each qs ++ written_each bs
unfolding written_each
written_append []ᵗ bs = refl
written_append (a ∷ᵗ qs) bs = rw (written_append qs bs) (sym (append_assoc (written a) (written_each qs) (written_each bs)))

append_noneᵗ : (qs : TypedPatterns) → qs ++ᵗ []ᵗ ≡ qs
append_noneᵗ []ᵗ = refl
append_noneᵗ (q ∷ᵗ qs) = ap (q ∷ᵗ◌) (append_noneᵗ qs)

append_assocᵖ : (ps qs rs : Patterns) → (ps ++ᵖ qs) ++ᵖ rs ≡ ps ++ᵖ (qs ++ᵖ rs)
append_assocᵖ []ᵖ qs rs = refl
append_assocᵖ (p ∷ᵖ ps) qs rs = ap (p ∷ᵖ◌) (append_assocᵖ ps qs rs)

module _ (table : Table) where
  -- the nodes x show the tree p of type t, in front of any row, whatever a panic would give
  record Gives (t : Ref) (p : Panic → Pattern) (x : Row) : Type 0 where
    at : (panic : Panic) {ts : List Ref} {r : Row} {ps : Patterns} → Shows table ts r ps → Shows table (t ∷ ts) (x ++ r) (p panic ∷ᵖ ps)

  -- the items, filled with the patterns that they ask for
  data Filled : List Item → TypedPatterns → Row → Type 0 where
    empty : Filled [] []ᵗ []
    puts : {n : Node} {is : List Item} {qs : TypedPatterns} {r : Row} → Filled is qs r → Filled (put n ∷ is) qs (n ∷ r)
    pats : {t : Ref} {is : List Item} {a : TypedPattern} {qs : TypedPatterns} {x r : Row} → Gives t (λ panic. rust.simplify panic table t a) x → Filled is qs r → Filled (pat t ∷ is) (a ∷ᵗ qs) (x ++ r)

  -- some items, then the others
  record Split (is js : List Item) (qs : TypedPatterns) (r : Row) : Type 0 where
    first : TypedPatterns
    second : TypedPatterns
    front : Row
    back : Row
    whole-patterns : qs ≡ first ++ᵗ second
    whole_row : r ≡ front ++ back
    filled : Filled is first front
    others : Filled js second back

  split : (is : List Item) {js : List Item} {qs : TypedPatterns} {r : Row} → Filled (is ++ js) qs r → Split is js qs r
  split [] {qs = qs} {r = r} h = record { first = []ᵗ; second = qs; front = []; back = r; whole-patterns = refl; whole_row = refl; filled = empty; others = h }
  split (put n ∷ is) (puts h) =
      let s = split is h in
      record { first = s.first; second = s.second; front = n ∷ s.front; back = s.back; whole-patterns = s.whole-patterns; whole_row = ap (n ∷◌) s.whole_row; filled = puts s.filled; others = s.others }
  split (pat t ∷ is) (pats {a = a} {x = x} g h) =
      let s = split is h in
      record { first = a ∷ᵗ s.first; second = s.second; front = x ++ s.front; back = s.back; whole-patterns = ap (a ∷ᵗ◌) s.whole-patterns; whole_row = ap (x ++◌) s.whole_row ∙ sym (append_assoc x s.front s.back); filled = pats g s.filled; others = s.others }

  -- a tree that is written so and gives these nodes
  record Reads (t : Ref) (ps : List Raw) (x : Row) : Type 0 where
    tree : TypedPattern
    as_written_lem : written tree ≡ ps
    shown : Gives t (λ panic. rust.simplify panic table t tree) x

  -- k arguments at the first k of these types
  record Arguments (fs : List Ref) (k : ℕ) (qs : TypedPatterns) (x : Row) : Type 0 where
    many : count qs ≡ k
    trees : (panic : Panic) → len (simplify_each panic table fs qs) ≡ k
    at : (panic : Panic) (ts : List Ref) {r : Row} {ps : Patterns} → Shows table (drop k fs ++ ts) r ps → Shows table (fs ++ ts) (x ++ r) (simplify_each panic table fs qs ++ᵖ ps)

  args-give : (k : ℕ) (fs : List Ref) {qs : TypedPatterns} {x : Row} → k ≤ length fs → Filled (map pat (take k fs)) qs x → Arguments fs k qs x
  unfolding rust.simplify
  args-give zero fs l empty = record { many = refl; trees = λ panic. refl; at = λ panic ts h. h }
  args-give (suc k) [] l h = absurd (omega arith)
  args-give (suc k) (f ∷ fs) l (pats {a = a} {x = x} {r = r} g h) =
      let s = args-give k fs (omega arith) h in
      record { many = ap suc s.many; trees = λ panic. ap suc (s.trees panic); at = λ panic ts {r = q} i. rw (append_assoc x r q) (g.at panic (s.at panic ts i)) }

  wild-filled : (n : ℕ) {qs : TypedPatterns} {x : Row} → Filled (replicate n (put wild)) qs x → (qs ≡ []ᵗ) × (x ≡ replicate n wild)
  wild-filled zero empty = (refl, refl)
  wild-filled (suc n) (puts h) = let w = wild-filled n h in (w.0, ap (wild ∷◌) w.1)

  -- a constructor of a data type, its arguments and what spread fills
  module _ (t : Ref) (c k : ℕ) (spread : Bool) (known : c < length (ctors table t)) (suits : enough k spread (fields_at table t c) ≡ true) where
    abbrev fields : List Ref
    fields = fields_at table t c

    few : k ≤ length fields
    few = enough_le k spread fields suits

    fill : (panic : Panic) {n : ℕ} → n ≡ k → spread_by panic (length fields) n spread ≡ wildcards (length fields - k)
    fill panic {n} e = go spread (eqb k (length fields)) refl suits
      where
        go : (b f : Bool) → eqb k (length fields) ≡ f → (f || (b && leb k (length fields))) ≡ true → spread_by panic (length fields) n b ≡ wildcards (length fields - k)
        go true f i g = rw (e, le-ltb (length fields) k few)
        go false true i g = let z : length fields - k ≡ 0 = omega (arith, eqb-true k (length fields) i) in rw z
        go false false i g = clash (cc)

    ctor_gives : {qs : TypedPatterns} {x : Row} → Arguments fields k qs x → Gives t (λ panic. rust.simplify panic table t (rust.ctor c qs spread)) (con t c ∷ (x ++ replicate (length fields - k) wild))
    unfolding rust.simplify
    ctor_gives {qs} {x} a = record { at = λ panic {ts = ts} {r = r} {ps = ps} h. cons (made panic) (shown panic ts h) }
      where
        args : Panic → Patterns
        args panic = simplify_each panic table fields qs ++ᵖ spread_by panic (length fields) (count qs) spread

        same_args : (panic : Panic) → args panic ≡ simplify_each panic table fields qs ++ᵖ wildcards (length fields - k)
        same_args panic = ap (simplify_each panic table fields qs ++ᵖ◌) (fill panic a.many)

        made : (panic : Panic) → Made table t c (ctor_at table t c).name (constructors_for table t) (args panic)
        made panic = record { known = known; named = refl; listed = refl; filled = rw (same_args panic) (omega (arith, len_append (simplify_each panic table fields qs) (wildcards (length fields - k)), a.trees panic, len-wildcards (length fields - k), few)) }

        shown : (panic : Panic) (ts : List Ref) {r : Row} {ps : Patterns} → Shows table ts r ps → Shows table (fields ++ ts) ((x ++ replicate (length fields - k) wild) ++ r) (args panic ++ᵖ ps)
        shown panic ts {r} {ps} h =
            let w = rw (length-drop k fields) at (shows-wilds table (drop k fields) ts h) in
            rw (same_args panic, append_assocᵖ (simplify_each panic table fields qs) (wildcards (length fields - k)) ps, append_assoc x (replicate (length fields - k) wild) r) (a.at panic ts w)

    ctor-reads : {qs : TypedPatterns} {x : Row} → Filled (put (con t c) ∷ arguments k fields) qs x → Reads t (Raw.constructor c k spread ∷ written_each qs) x
    unfolding written
    ctor-reads (puts h) =
        let s = split (map pat (take k fields)) h in
        let w = wild-filled (length fields - k) s.others in
        let a = args-give k fields few s.filled in
        let patterns = s.whole-patterns ∙ ap (s.first ++ᵗ◌) w.0 ∙ append_noneᵗ s.first in
        let row = s.whole_row ∙ ap (s.front ++◌) w.1 in
        subst₂ (λ (q : TypedPatterns) (y : Row). Reads t (Raw.constructor c k spread ∷ written_each q) (con t c ∷ y)) (sym patterns) (sym row) (record { tree = rust.ctor c s.first spread; as_written_lem = rw a.many; shown = ctor_gives a })

  -- a pair or a tuple: one constructor, named `__Tuple`
  record TupleFacts (cs : List Ctor) : Type 0 where
    one : 0 < length cs
    named : tuple_name ≡ (get_or cs 0 (built [] [])).name
    listed : tuple_constructors (length (fields_of (get_or cs 0 (built [] [])))) ≡ map value_constructor cs

  tuple_facts : (t : Ref) (ty : Ty) (k : ℕ) → 4 ≤ k → k ≤ 5 → kind ty ≡ k → TupleFacts (ctors_at t ty)
  tuple_facts t integer k l u h = absurd (omega arith)
  tuple_facts t byte_string k l u h = absurd (omega arith)
  tuple_facts t opaque k l u h = absurd (omega arith)
  tuple_facts t (list e) k l u h = absurd (omega arith)
  tuple_facts t (tuple ts) k l u h = record { one = omega arith; named = refl; listed = refl }
  tuple_facts t (pair a b) k l u h = record { one = omega arith; named = refl; listed = refl }
  tuple_facts t (dat cs) k l u h = absurd (omega arith)

  module _ (t : Ref) (facts : TupleFacts (ctors table t)) where
    tuple_gives : {qs : TypedPatterns} {x : Row} → Filled (map pat (fields_at table t 0)) qs x
        → (count qs ≡ arity table t 0) × Gives t (λ panic. constructor tuple_name (tuple_constructors (arity table t 0)) (simplify_each panic table (fields_at table t 0) qs)) (con t 0 ∷ x)
    tuple_gives {qs} {x} h =
        let F = fields_at table t 0 in
        let a = args-give (length F) F {qs = qs} {x = x} (omega arith) (rw (take-length F) h) in
        (a.many, record { at = λ panic {ts = ts} {r = r} {ps = ps} i. cons (record { known = facts.one; named = facts.named; listed = facts.listed; filled = a.trees panic }) (a.at panic ts {r = r} {ps = ps} (rw (drop-length F) i)) })

    tuple-reads : (k : ℕ) {qs : TypedPatterns} {x : Row} → k ≡ arity table t 0 → Filled (whole t (fields_at table t 0)) qs x → Reads t (Raw.tuple_of k ∷ written_each qs) x
    unfolding written rust.simplify
    tuple-reads k {qs} e (puts h) =
        let g = tuple_gives h in
        record { tree = rust.tuple qs; as_written_lem = ap (λ (n : ℕ). Raw.tuple_of n ∷ written_each qs) (g.0 ∙ sym e); shown = rw g.0 g.1 }

    pair_reads : {qs : TypedPatterns} {x : Row} → arity table t 0 ≡ 2 → Filled (whole t (fields_at table t 0)) qs x → Reads t (Raw.pair_of ∷ written_each qs) x
    unfolding written rust.simplify
    pair_reads {qs} e (puts {r = x} h) = two qs (g.0 ∙ e) (rw e at g.1)
      where
        F : List Ref
        F = fields_at table t 0

        g : (count qs ≡ arity table t 0) × Gives t (λ panic. constructor tuple_name (tuple_constructors (arity table t 0)) (simplify_each panic table F qs)) (con t 0 ∷ x)
        g = tuple_gives h

        two : (ps : TypedPatterns) → count ps ≡ 2 → Gives t (λ panic. constructor tuple_name (tuple_constructors 2) (simplify_each panic table F ps)) (con t 0 ∷ x) → Reads t (Raw.pair_of ∷ written_each ps) (con t 0 ∷ x)
        two []ᵗ n k = absurd (omega arith)
        two (a ∷ᵗ []ᵗ) n k = absurd (omega arith)
        two (a ∷ᵗ b ∷ᵗ []ᵗ) n k = record { tree = rust.pair a b; as_written_lem = rw (append-nil (written b)); shown = rw (← get_or-drop 1 F 0 0) k }
        two (a ∷ᵗ b ∷ᵗ c ∷ᵗ ps) n k = absurd (omega arith)

  -- a list: "::" of an element and a list, and "[]"
  record ListFacts (t : Ref) (cs : List Ctor) : Type 0 where
    two : length cs ≡ 2
    listed : list_constructors ≡ map value_constructor cs
    cell-name : cons_name ≡ (get_or cs 0 (built [] [])).name
    nil-name : nil_name ≡ (get_or cs 1 (built [] [])).name
    cell : fields_of (get_or cs 0 (built [] [])) ≡ get_or (fields_of (get_or cs 0 (built [] []))) 0 0 ∷ t ∷ []
    nil : fields_of (get_or cs 1 (built [] [])) ≡ []

  list_facts : (t : Ref) (ty : Ty) → kind ty ≡ 3 → ListFacts t (ctors_at t ty)
  list_facts t integer h = absurd (omega arith)
  list_facts t byte_string h = absurd (omega arith)
  list_facts t opaque h = absurd (omega arith)
  list_facts t (list e) h = record { two = refl; listed = refl; cell-name = refl; nil-name = refl; cell = refl; nil = refl }
  list_facts t (tuple ts) h = absurd (omega arith)
  list_facts t (pair a b) h = absurd (omega arith)
  list_facts t (dat cs) h = absurd (omega arith)

  module _ (t : Ref) (facts : ListFacts t (ctors table t)) where
    abbrev element : Ref
    element = get_or (fields_at table t 0) 0 0

    -- what a list ends with, and the pattern that is written there
    data Ending : Bool → (Panic → Pattern) → TypedPatterns → Type 0 where
      closed : Ending false (λ panic. constructor nil_name list_constructors []ᵖ) []ᵗ
      tailed : (a : TypedPattern) → Ending true (λ panic. rust.simplify panic table t a) (a ∷ᵗ []ᵗ)

    record Cells (k : ℕ) (tail : Bool) (qs : TypedPatterns) (x : Row) : Type 0 where
      elements : TypedPatterns
      last : TypedPatterns
      end : Panic → Pattern
      ending : Ending tail end last
      many : count elements ≡ k
      whole-patterns : qs ≡ elements ++ᵗ last
      shown : Gives t (λ panic. simplify_cells panic table element elements (end panic)) x

    cell_gives : {hd p : Panic → Pattern} {x y : Row} → Gives element hd x → Gives t p y → Gives t (λ panic. constructor cons_name list_constructors (hd panic ∷ᵖ p panic ∷ᵖ []ᵖ)) (con t 0 ∷ (x ++ y))
    cell_gives {hd} {p} {x} {y} g h = record { at = λ panic {ts = ts} {r = r} {ps = ps} i. cons (made panic) (shown r (g.at panic (h.at panic i))) }
      where
        made : (panic : Panic) → Made table t 0 cons_name list_constructors (hd panic ∷ᵖ p panic ∷ᵖ []ᵖ)
        made panic = record { known = omega (arith, facts.two); named = facts.cell-name; listed = facts.listed; filled = sym (ap length facts.cell) }

        shown : {ts : List Ref} (r : Row) {ps : Patterns} → Shows table (element ∷ t ∷ ts) (x ++ (y ++ r)) ps → Shows table (fields_at table t 0 ++ ts) ((x ++ y) ++ r) ps
        shown {ts} r {ps} i = subst (λ (fs : List Ref). Shows table (fs ++ ts) ((x ++ y) ++ r) ps) (sym facts.cell) (rw (append_assoc x y r) i)

    nil_gives : Gives t (λ panic. constructor nil_name list_constructors []ᵖ) (con t 1 ∷ [])
    nil_gives = record { at = λ panic {ts = ts} {r = r} {ps = ps} i. cons made (subst (λ (fs : List Ref). Shows table (fs ++ ts) r ps) (sym facts.nil) i) }
      where
        made : Made table t 1 nil_name list_constructors []ᵖ
        made = record { known = omega (arith, facts.two); named = facts.nil-name; listed = facts.listed; filled = sym (ap length facts.nil) }

    cells-give : (k : ℕ) (tail : Bool) {qs : TypedPatterns} {x : Row} → Filled (element_items t element k tail) qs x → Cells k tail qs x
    unfolding rust.simplify
    cells-give zero true (pats {a = a} {x = x} g empty) = record { elements = []ᵗ; last = a ∷ᵗ []ᵗ; end = λ panic. rust.simplify panic table t a; ending = tailed a; many = refl; whole-patterns = refl; shown = rw (append-nil x) g }
    cells-give zero false (puts empty) = record { elements = []ᵗ; last = []ᵗ; end = λ panic. constructor nil_name list_constructors []ᵖ; ending = closed; many = refl; whole-patterns = refl; shown = nil_gives }
    cells-give (suc k) tail (puts (pats {a = a} g h)) =
        let s = cells-give k tail h in
        record { elements = a ∷ᵗ s.elements; last = s.last; end = s.end; ending = s.ending; many = ap suc s.many; whole-patterns = ap (a ∷ᵗ◌) s.whole-patterns; shown = cell_gives g s.shown }

    list-reads : (k : ℕ) (tail : Bool) {qs : TypedPatterns} {x : Row} → Filled (element_items t element k tail) qs x → Reads t (Raw.list_of k tail ∷ written_each qs) x
    unfolding written rust.simplify
    list-reads k tail {qs} {x} h =
        let s = cells-give k tail h in
        subst (λ (q : TypedPatterns). Reads t (Raw.list_of k tail ∷ written_each q) x) (sym s.whole-patterns) (go s.elements s.ending s.many s.shown)
      where
        go : (es : TypedPatterns) {b : Bool} {p : Panic → Pattern} {last : TypedPatterns} → Ending b p last → count es ≡ k → Gives t (λ panic. simplify_cells panic table element es (p panic)) x → Reads t (Raw.list_of k b ∷ written_each (es ++ᵗ last)) x
        go es closed n g = record { tree = rust.list es; as_written_lem = rw (n, append_noneᵗ es); shown = g }
        go es (tailed a) n g = record { tree = rust.list_to es a; as_written_lem = rw (n, written_append es (a ∷ᵗ []ᵗ), append-nil (written a)); shown = g }

  -- the items of a pattern that suits its type
  given : {t : Ref} {ps : List Raw} {x : Row} {qs : TypedPatterns} (b : Bool) (is new : List Item) → suiting b is ≡ some new → (b ≡ true → Filled is qs x → Reads t ps x) → Filled new qs x → Reads t ps x
  given {x = x} {qs = qs} b is new e k h = let w = suiting-some b is new e in k w.0 (subst (λ (js : List Item). Filled js qs x) (sym w.1) h)

  pair-two : (t : Ref) (ty : Ty) → kind ty ≡ 5 → length (fields_of (get_or (ctors_at t ty) 0 (built [] []))) ≡ 2
  pair-two t integer h = absurd (omega arith)
  pair-two t byte_string h = absurd (omega arith)
  pair-two t opaque h = absurd (omega arith)
  pair-two t (list e) h = refl
  pair-two t (tuple ts) h = absurd (omega arith)
  pair-two t (pair a b) h = refl
  pair-two t (dat cs) h = absurd (omega arith)

  -- a pattern that becomes one node
  leaf-reads : {t : Ref} {qs : TypedPatterns} {x : Row} (a : TypedPattern) (p : Raw) (n : Node) → written a ≡ p ∷ [] → Gives t (λ panic. rust.simplify panic table t a) (n ∷ []) → Filled (put n ∷ []) qs x → Reads t (p ∷ written_each qs) x
  unfolding written
  leaf-reads a p n w g (puts empty) = record { tree = a; as_written_lem = w; shown = g }

  assign_reads : {t : Ref} {qs : TypedPatterns} {x : Row} (n : Text) → Filled (pat t ∷ []) qs x → Reads t (Raw.assign n ∷ written_each qs) x
  unfolding written rust.simplify
  assign_reads n (pats {a = a} {x = x} g empty) = record { tree = rust.assign n a; as_written_lem = rw (append-nil (written a)); shown = rw (append-nil x) g }

  -- what a pattern becomes, filled, is a tree that is written as the pattern and what fills it
  opened-reads : (t : Ref) (p : Raw) (new : List Item) {qs : TypedPatterns} {x : Row} → opened table t p ≡ some new → Filled new qs x → Reads t (p ∷ written_each qs) x
  unfolding written rust.simplify
  opened-reads t Raw.discard new e h = given true (put wild ∷ []) new e (λ i k. leaf-reads rust.discard Raw.discard wild refl (record { at = λ panic j. wilds j }) k) h
  opened-reads t (Raw.variable n) new e h = given true (put wild ∷ []) new e (λ i k. leaf-reads (rust.var n) (Raw.variable n) wild refl (record { at = λ panic j. wilds j }) k) h
  opened-reads t (Raw.assign n) new e h = given true (pat t ∷ []) new e (λ i k. assign_reads n k) h
  opened-reads t (Raw.integer_of n) new e h = given (eqb (kind (type_at table t)) 0) _ new e (λ i k. leaf-reads (rust.int n) (Raw.integer_of n) (lit (Literal.int n)) refl (record { at = λ panic j. lits (eqb-true _ _ i) j }) k) h
  opened-reads t (Raw.byte_string_of s) new e h = given (eqb (kind (type_at table t)) 1) _ new e (λ i k. leaf-reads (rust.byte_array s) (Raw.byte_string_of s) (lit (Literal.byte_array s)) refl (record { at = λ panic j. lits (eqb-true _ _ i) j }) k) h
  opened-reads t (Raw.list_of k tail) new e h = given (eqb (kind (type_at table t)) 3) _ new e (λ i f. list-reads t (list_facts t (type_at table t) (eqb-true _ _ i)) k tail f) h
  opened-reads t (Raw.constructor c k spread) new e h =
      let small = ltb c (length (ctors table t)) in
      let full = enough k spread (fields_at table t c) in
      given (eqb (kind (type_at table t)) 6 && small && full) (put (con t c) ∷ arguments k (fields_at table t c)) new e
      (λ i f.
      let w = both (eqb (kind (type_at table t)) 6 && small) full i in
      let v = both (eqb (kind (type_at table t)) 6) small w.0 in
      ctor-reads t c k spread (ltb-true c (length (ctors table t)) v.1) w.1 f) h
  opened-reads t Raw.pair_of new e h = given (eqb (kind (type_at table t)) 5) _ new e (λ i f. let q = eqb-true _ _ i in pair_reads t (tuple_facts t (type_at table t) 5 (omega arith) (omega arith) q) (pair-two t (type_at table t) q) f) h
  opened-reads t (Raw.tuple_of k) new e h =
      given (eqb (kind (type_at table t)) 4 && eqb k (length (fields_at table t 0))) (whole t (fields_at table t 0)) new e
      (λ i f.
      let w = both (eqb (kind (type_at table t)) 4) (eqb k (length (fields_at table t 0))) i in
      tuple-reads t (tuple_facts t (type_at table t) 4 (omega arith) (omega arith) (eqb-true _ _ w.0)) k (eqb-true _ _ w.1) f) h

  -- trees that are written so and fill the items
  record Found (is : List Item) (ps : List Raw) (r : Row) : Type 0 where
    trees : TypedPatterns
    as_written_lem : written_each trees ≡ ps
    filled : Filled is trees r

  under : {is : List Item} {ps : List Raw} {r : Row} (n : Node) (o : Option Row) → Option.map (n ∷◌) o ≡ some r → ((q : Row) → o ≡ some q → Found is ps q) → Found (put n ∷ is) ps r
  under n none e k = clash (cc)
  under {is} {ps} {r} n (some q) e k =
      let f = k q refl in
      let i : (n ∷ q) ≡ r = cc in
      subst (λ (y : Row). Found (put n ∷ is) ps y) i (record { trees = f.trees; as_written_lem = f.as_written_lem; filled = puts f.filled })

  all_put-found : (is : List Item) (r : Row) → all_put is ≡ some r → Found is [] r
  unfolding written
  all_put-found [] r e = let i : [] ≡ r = cc in subst (λ (y : Row). Found [] [] y) i (record { trees = []ᵗ; as_written_lem = refl; filled = empty })
  all_put-found (put n ∷ is) r e = under n (all_put is) e (λ q i. all_put-found is q i)
  all_put-found (pat t ∷ is) r e = clash (cc)

  putting-found : {ps : List Raw} (go : Ref → List Item → Option Row) → ((t : Ref) (rest : List Item) (q : Row) → go t rest ≡ some q → Found (pat t ∷ rest) ps q) → (is : List Item) (r : Row) → putting is go ≡ some r → Found is ps r
  putting-found go k [] r e = clash (cc)
  putting-found go k (put n ∷ is) r e = under n (putting is go) e (λ q i. putting-found go k is q i)
  putting-found go k (pat t ∷ is) r e = k t is r e

  -- a pattern in front of what fills its items
  next-found : (t : Ref) (p : Raw) (new rest : List Item) {ps : List Raw} {q : Row} → opened table t p ≡ some new → Found (new ++ rest) ps q → Found (pat t ∷ rest) (p ∷ ps) q
  unfolding written
  next-found t p new rest {ps} {q} e f =
      let s = split new f.filled in
      let a = opened-reads t p new e s.filled in
      let w = rw (s.whole-patterns, written_append s.first s.second) at f.as_written_lem in
      subst (λ (y : Row). Found (pat t ∷ rest) (p ∷ ps) y) (sym s.whole_row)
      (record { trees = a.tree ∷ᵗ s.second; as_written_lem = rw a.as_written_lem (ap (p ∷◌) w); filled = pats a.shown s.others })

  simplified-found : (ps : List Raw) (is : List Item) (r : Row) → simplified table is ps ≡ some r → Found is ps r
  unfolding simplified
  simplified-found [] is r e = all_put-found is r e
  simplified-found (p ∷ ps) is r e = putting-found (λ t rest. opened table t p >>= λ new. simplified table (new ++ rest) ps) (λ t rest q h. next t rest q h (λ js s k. simplified-found ps js s k)) is r e
    where
      next : (t : Ref) (rest : List Item) (q : Row) → (opened table t p >>= λ new. simplified table (new ++ rest) ps) ≡ some q → ((js : List Item) (s : Row) → simplified table js ps ≡ some s → Found js ps s) → Found (pat t ∷ rest) (p ∷ ps) q
      next t rest q h deeper = go (opened table t p) refl h
        where
          go : (o : Option (List Item)) → opened table t p ≡ o → (o >>= λ new. simplified table (new ++ rest) ps) ≡ some q → Found (pat t ∷ rest) (p ∷ ps) q
          go none i j = clash (cc)
          go (some new) i j = next-found t p new rest i (deeper (new ++ rest) q j)

-- a clause's tree: written as the clause is, and shown by the flat row
pub record Clause (table : Table) (t : Ref) (ps : List Raw) (r : Row) : Type 0 where
  pub tree : TypedPattern
  pub as_written_lem : written tree ≡ ps
  pub shown : (panic : Panic) → Shows table (t ∷ []) r (rust.simplify panic table t tree ∷ᵖ []ᵖ)

pub simplify-shows : (table : Table) (t : Ref) (ps : List Raw) (r : Row) → simplify table t ps ≡ some r → Clause table t ps r
unfolding simplify written
simplify-shows table t ps r e = let f = simplified-found table ps (pat t ∷ []) r e in go f.filled f.as_written_lem
  where
    go : {qs : TypedPatterns} {x : Row} → Filled table (pat t ∷ []) qs x → written_each qs ≡ ps → Clause table t ps x
    go (pats {a = a} g empty) w = record { tree = a; as_written_lem = sym (append-nil (written a)) ∙ w; shown = λ panic. g.at panic done }
