-- One pattern read and the open patterns settled: from what the answer of `suits` means and from `Settled`, in each of the five arms of `turn`.
use mathlib.Core.Path.{◌≡◌, refl, sym, ap, ap₂, subst, ◌∙◌}
use mathlib.Core.Bool.{Bool, true, false}
use mathlib.Core.List.{List, [], ◌∷◌, ◌++◌, map, append-nil}
use mathlib.Core.Option.{Option, some}
use Prim.Native.Nat.{ℕ, zero, suc, ◌+◌, ◌*◌, ◌-◌, ◌/◌, ◌%◌, ◌≤◌, ◌<◌}
use native.Mathlib.Nat.{add-zero}
use native.Mathlib.Omega.{arith}
use lib.ListN.{length, get_or, take, drop, set, replicate, length-append, length-take, length-drop}
use lib.Seq.{sets, drop-cons, take-take, get_or-take, get_or-drop}
use borrow.Author.Tests.{le-leb, lt-leb, eq-eqb, ne_eqb}
use Rattle.scope.specs.Lists.{bit}
use Rattle.scope.specs.Types.{Table, type_at, kind}
use Rattle.scope.specs.Constructors.{ctors, fields_at, arity}
use Rattle.scope.specs.Patterns.{inner}
use Rattle.scope.specs.Simplify.{Node, wild, con, Item, put, pat, element_items, opened}
use Rattle.layout.specs.Types.{Shape, Fielded}
use Rattle.layout.specs.Nodes.{node_of, row_of, LiteralStands, Literals, done, also, places_in}
use Rattle.nodes.specs.Keys.{low16, key_of}
use Rattle.nodes.proofs.Runs.{stores, puts_append, literals_append, places_append, plain-one, no_places}
use Rattle.nodes.proofs.Numbers.{key-node}
use Rattle.suits.specs.Raws.{raw_at, size_at, own_place}
use Rattle.suits.specs.Suits.{suit_at, meant, Sound}
use Rattle.suits.specs.declared.Suit.{Suit}
use Rattle.suits.specs.declared.Suit.TheVariants.{Leaf, Again, Cells, Args}
use Rattle.suits.proofs.Facts.{list_facts}
use Rattle.suits.proofs.Suiting.{Counted, counted, agree}
use Rattle.nodes.specs.Opens.{opening, mark_of, field_items, list_items, items_of, wanted, opens, pending, due}
use Rattle.nodes.specs.declared.Open.{Open}
use Rattle.std.specs.Prelude.{Option as Answer, Result, Ok, Err}
use Rattle.std.specs.Result.{IsErr}
use Rattle.scope.proofs.Tests.{clash}
use Rattle.settle.specs.Settled.{Next, Read, Done, rest_of, Due, Ends, Settled}
use Rattle.suits.specs.declared.Unsuited.{Unsuited}
use Rattle.patterns.specs.Rows.{turned_to, Became, Turned}

-- the types of fields that stand among the fields
field-items : (k : ℕ) (fields : List ℕ) (start : ℕ) → start + k ≤ length fields → length fields ≤ 65536 → field_items k fields start ≡ map pat (take k (drop start fields))
unfolding field_items
field-items zero fields start h l = refl
field-items (suc zero) fields start h l = rw (drop-cons fields start 0 (omega arith))
field-items (suc (suc k)) fields start h l =
    let n : (start + 1) % 65536 ≡ suc start = omega arith in
    rw (drop-cons fields start 0 (omega arith), n) (ap (λ (is : List Item). pat (get_or fields start 0) ∷ is) (field-items (suc k) fields (suc start) (omega arith) l))

no_fields : (fields : List ℕ) (start : ℕ) → field_items 0 fields start ≡ []
unfolding field_items
no_fields fields start = refl

module _ (kinds counts arities starts fields : List ℕ) (table : Table) (used : ℕ) (shape : Shape kinds counts arities table) (fielded : Fielded starts fields used table) (t : ℕ) (here : t < length table) (short : length fields ≤ 65536) where
  -- the first k fields of a constructor
  first-fields : (c k start : ℕ) → c < length (ctors table t) → k ≤ arity table t c → start ≡ get_or starts (32 * t + c) 0 → field_items k fields start ≡ map pat (take k (fields_at table t c))
  first-fields c zero start h l e = no_fields fields start
  first-fields c (suc k) start h l e =
      let f = fielded.fields_at' t c here h in
      let n : arity table t c ≤ length fields - get_or starts (32 * t + c) 0 = omega (arith, ap length f, length-take (arity table t c) (drop (get_or starts (32 * t + c) 0) fields), length-drop (get_or starts (32 * t + c) 0) fields) in
      field-items (suc k) fields start (omega arith) short
      ∙ ap (λ (s : ℕ). map pat (take (suc k) (drop s fields))) e
      ∙ ap (map pat) (sym (take-take (suc k) (arity table t c) (drop (get_or starts (32 * t + c) 0) fields) l) ∙ ap (take (suc k)) f)

  -- a list's element
  element : (start : ℕ) → kind (type_at table t) ≡ 3 → start ≡ get_or starts (32 * t) 0 → get_or fields start 0 ≡ get_or (fields_at table t 0) 0 0
  element start h e =
      let f = list_facts t (type_at table t) h in
      let g = fielded.fields_at' t 0 here (omega (arith, f.0)) in
      let s : start ≡ get_or starts (32 * t + 0) 0 = e ∙ ap (λ (i : ℕ). get_or starts i 0) (sym (add-zero (32 * t))) in
      ap (λ (i : ℕ). get_or fields i 0) (s ∙ sym (add-zero (get_or starts (32 * t + 0) 0)))
      ∙ sym (get_or-drop (get_or starts (32 * t + 0) 0) fields 0 0)
      ∙ sym (get_or-take (arity table t 0) (drop (get_or starts (32 * t + 0) 0) fields) 0 0 (omega (arith, f.1)))
      ∙ ap (λ (l : List ℕ). get_or l 0 0) g

  -- a constructor's arguments and wildcards as an open pattern
  args-items : (bytes : List ℕ) (c k w start : ℕ) → c < length (ctors table t) → k + w ≡ arity table t c → w < 256 → start ≡ get_or starts (32 * t + c) 0
      → items_of bytes fields (opening w k start) ≡ map pat (take k (fields_at table t c)) ++ replicate w (put wild)
  unfolding items_of
  args-items bytes c k w start h n l e = rw (lt-leb 32768 w (omega arith)) (ap (λ (is : List Item). is ++ replicate w (put wild)) (first-fields c k start h (omega arith) e))

  -- a list's elements and tail as an open pattern
  cells-items : (bytes : List ℕ) (k start : ℕ) (tail : Bool) → kind (type_at table t) ≡ 3 → start ≡ get_or starts (32 * t) 0
      → items_of bytes fields (opening (mark_of t tail) k start) ≡ element_items t (get_or (fields_at table t 0) 0 0) k tail
  unfolding items_of list_items
  cells-items bytes k start tail h e = go tail
    where
      go : (b : Bool) → items_of bytes fields (opening (mark_of t b) k start) ≡ element_items t (get_or (fields_at table t 0) 0 0) k b
      go true =
          let ty : (32768 + 2 * t + 1 - 32768) / 2 ≡ t = omega arith in
          let od : (32768 + 2 * t + 1) % 2 ≡ 1 = omega arith in
          rw (le-leb 32768 (32768 + 2 * t + 1) (omega arith), ty, eq-eqb ((32768 + 2 * t + 1) % 2) 1 od, key-node bytes t 0 (omega (arith, shape.few)) (omega arith), element start h e)
      go false =
          let ty : (32768 + 2 * t + 0 - 32768) / 2 ≡ t = omega arith in
          let od : (32768 + 2 * t + 0) % 2 ≡ 1 → ⊥ = λ i. omega arith in
          rw (le-leb 32768 (32768 + 2 * t + 0) (omega arith), ty, ne_eqb ((32768 + 2 * t + 0) % 2) 1 od, key-node bytes t 0 (omega (arith, shape.few)) (omega arith), key-node bytes t 1 (omega (arith, shape.few)) (omega arith), element start h e)

-- how many patterns a pushed list reads
cells-wanted : (t k : ℕ) (tail : Bool) → wanted (mark_of t tail) k ≡ k + bit tail
unfolding wanted
cells-wanted t k true = let od : (32768 + 2 * t + 1) % 2 ≡ 1 = omega arith in rw (le-leb 32768 (32768 + 2 * t + 1) (omega arith), eq-eqb ((32768 + 2 * t + 1) % 2) 1 od)
cells-wanted t k false = let od : (32768 + 2 * t + 0) % 2 ≡ 1 → ⊥ = λ i. omega arith in rw (le-leb 32768 (32768 + 2 * t + 0) (omega arith), ne_eqb ((32768 + 2 * t + 0) % 2) 1 od)

args-wanted : (w k : ℕ) → w < 256 → wanted w k ≡ k
unfolding wanted
args-wanted w k l = rw (lt-leb 32768 w (omega arith))

due-cons : (f : Open) (fs : List Open) → due (f ∷ fs) ≡ wanted f.what f.more + due fs
unfolding due
due-cons f fs = refl

pending-cons : (bytes fields : List ℕ) (f : Open) (fs : List Open) → pending bytes fields (f ∷ fs) ≡ items_of bytes fields f ++ pending bytes fields fs
unfolding pending
pending-cons bytes fields f fs = refl

module _ (bytes kinds counts arities starts fields : List ℕ) (at t depth place : ℕ) (stack nodes : List ℕ) where
  -- what the pattern's items and those after it are, under every table that the slices hold
  abbrev Puts : List ℕ → List Open → Type 0
  Puts xs fs = (table : Table) (used : ℕ) → Shape kinds counts arities table → Fielded starts fields used table → t < length table
      → (is : List Item) × (opened table t (raw_at bytes at) ≡ some is) × (is ++ pending bytes fields (opens stack depth) ≡ map put (row_of bytes xs) ++ pending bytes fields fs)

  -- the nodes xs are put, then fs settled
  turn-settled : (xs nodes₁ stack' nodes' : List ℕ) (fs : List Open) (h from : ℕ) (r : Next) → nodes₁ ≡ sets nodes place xs → from ≡ place + length xs → length xs ≤ 1 → h ≤ depth + 1
      → (at + size_at bytes at ≤ length bytes → Literals bytes xs) → places_in xs ≡ own_place at (raw_at bytes at) → inner (raw_at bytes at) + due (opens stack depth) ≡ due fs → Puts xs fs → Settled bytes fields fs h from nodes₁ stack' nodes' r
      → Turned bytes kinds counts arities starts fields at t depth place stack nodes stack' nodes' (Ok r)
  turn-settled xs nodes₁ stack' nodes' fs h from r e f l m lits pl d p s =
      record {
        new = xs ++ s.new;
        nodes_are = stores nodes nodes₁ nodes' xs s.new place from e f s.nodes_are;
        few = rw (length-append xs s.new) (omega (arith, s.few));
        whole = λ i. literals_append s.new (lits i) s.whole;
        places = all-places;
        ends = ends_more r s.ends;
        due_is = due-more r s.due_is;
        became = λ table used shape fielded here. became-more r s.items s.due_is (p table used shape fielded here);
      }
    where
      whole_length : from + length s.new ≡ place + length (xs ++ s.new)
      whole_length = rw (length-append xs s.new) (omega arith)

      all-places : places_in (xs ++ s.new) ≡ own_place at (raw_at bytes at)
      all-places = places_append xs s.new ∙ ap₂ ◌++◌ pl s.plain ∙ append-nil (own_place at (raw_at bytes at))

      ends_more : (x : Next) → Ends (from + length s.new) h x → Ends (place + length (xs ++ s.new)) (depth + 1) x
      ends_more (Read u d p) q = (q.0 ∙ whole_length, q.1, omega (arith, q.2))
      ends_more (Done p) q = q ∙ whole_length

      due-more : (x : Next) → Due (due fs) stack' x → Due (inner (raw_at bytes at) + due (opens stack depth)) stack' x
      due-more (Read u k p) q = d ∙ q
      due-more (Done p) q = d ∙ q

      became-more : {o : Option (List Item)} (x : Next) → pending bytes fields fs ≡ map put (row_of bytes s.new) ++ rest_of bytes fields stack' x → Due (due fs) stack' x
          → (is : List Item) × (o ≡ some is) × (is ++ pending bytes fields (opens stack depth) ≡ map put (row_of bytes xs) ++ pending bytes fields fs)
          → Became o (pending bytes fields (opens stack depth)) bytes fields (xs ++ s.new) stack' (Ok x)
      became-more (Read u k p) q z w = (w.0, w.1, w.2 ∙ ap (λ (is : List Item). map put (row_of bytes xs) ++ is) q ∙ puts_append bytes xs s.new (rest_of bytes fields stack' (Read u k p)))
      became-more (Done p) q z w = (w.0, w.1, w.2 ∙ ap (λ (is : List Item). map put (row_of bytes xs) ++ is) q ∙ puts_append bytes xs s.new [])

  module _ (low : at < 32768) (sound : t < 16384) (short : length fields ≤ 65536) where
    -- what is known of an answer
    pub known : (s : Result Suit Unsuited) → s ≡ suit_at bytes at kinds counts arities t → Counted bytes at s (raw_at bytes at)
    known s e = subst (λ (x : Result Suit Unsuited). Counted bytes at x (raw_at bytes at)) (sym e) (counted bytes kinds counts arities at t)

    meaning : (s : Result Suit Unsuited) → s ≡ suit_at bytes at kinds counts arities t → (table : Table) → Shape kinds counts arities table → t < length table → (meant table bytes t s ≡ opened table t (raw_at bytes at)) × Sound table t s
    meaning s e table shape here = subst (λ (x : Result Suit Unsuited). (meant table bytes t x ≡ opened table t (raw_at bytes at)) × Sound table t x) (sym e) (agree bytes kinds counts arities at t table shape here low)

    pub turn_unfit : (u : Unsuited) (r : Result (Answer ℕ) Unsuited) → IsErr r → Err u ≡ suit_at bytes at kinds counts arities t → Turned bytes kinds counts arities starts fields at t depth place stack nodes stack nodes (turned_to r depth place)
    turn_unfit u (Ok o) h e = clash (cc)
    turn_unfit u (Err v) h e =
        record {
          new = [];
          nodes_are = refl;
          few = omega arith;
          whole = λ i. done;
          places = tt;
          ends = tt;
          due_is = tt;
          became = λ table used shape fielded here. sym (meaning (Err u) e table shape here).0;
        }

    pub turn-again : Ok Again ≡ suit_at bytes at kinds counts arities t → Turned bytes kinds counts arities starts fields at t depth place stack nodes stack nodes (Ok (Read t depth place))
    turn-again e =
        record {
          new = [];
          nodes_are = refl;
          few = omega arith;
          whole = λ i. done;
          places = no_places ∙ sym (known (Ok Again) e).1;
          ends = (sym (add-zero place), sound, omega arith);
          due_is = omega (arith, (known (Ok Again) e).0);
          became = λ table used shape fielded here. (pat t ∷ [], sym (meaning (Ok Again) e table shape here).0, refl);
        }

    pub turn-leaf : (n : ℕ) (stack' nodes' : List ℕ) (r : Next) → Ok (Leaf n) ≡ suit_at bytes at kinds counts arities t
        → Settled bytes fields (opens stack depth) depth (place + 1) (set nodes place n) stack' nodes' r → Turned bytes kinds counts arities starts fields at t depth place stack nodes stack' nodes' (Ok r)
    turn-leaf n stack' nodes' r e s =
        let k = known (Ok (Leaf n)) e in
        turn-settled (n ∷ []) (set nodes place n) stack' nodes' (opens stack depth) depth (place + 1) r refl refl (omega arith) (omega arith)
        (λ i. also (λ h. subst (λ (x : ℕ). LiteralStands bytes x) (place_is k h) (record { known = (k.2 h).2; whole = omega (arith, (k.2 h).1) })) done)
        (k.1 ∙ ap (λ (x : ℕ). own_place x (raw_at bytes at)) here-is)
        (omega (arith, k.0))
        (λ table used shape fielded here. (put (node_of bytes n) ∷ [], sym (meaning (Ok (Leaf n)) e table shape here).0, refl))
        s
      where
        place_is : Counted bytes at (Ok (Leaf n)) (raw_at bytes at) → 32768 ≤ n → at ≡ n - 32768
        place_is k h = omega (arith, (k.2 h).0)

        here-is : at % 32768 ≡ at
        here-is = omega arith

    pub turn-cells : (k start : ℕ) (tail : Bool) (o : Open) (stack' nodes' : List ℕ) (r : Next) → k < 256 → Ok (Cells k tail) ≡ suit_at bytes at kinds counts arities t → start ≡ get_or starts (32 * t) 0
        → o ≡ opening (mark_of t tail) (low16 k) start → Settled bytes fields (o ∷ opens stack depth) (depth + 1) place nodes stack' nodes' r
        → Turned bytes kinds counts arities starts fields at t depth place stack nodes stack' nodes' (Ok r)
    turn-cells k start tail o stack' nodes' r few e f o_is s =
        let n = known (Ok (Cells k tail)) e in
        let k' : low16 k ≡ k = omega (arith, few) in
        let o' : o ≡ opening (mark_of t tail) k start = o_is ∙ ap (λ (x : ℕ). opening (mark_of t tail) x start) k' in
        turn-settled [] nodes stack' nodes' (o ∷ opens stack depth) (depth + 1) place r refl (sym (add-zero place)) (omega arith) (omega arith)
        (λ i. done)
        (no_places ∙ sym n.1)
        (rw (o', due-cons (opening (mark_of t tail) k start) (opens stack depth), cells-wanted t k tail, n.0) refl)
        (λ table used shape fielded here.
        let m = meaning (Ok (Cells k tail)) e table shape here in
        (element_items t (get_or (fields_at table t 0) 0 0) k tail, sym m.0, ap (λ (is : List Item). is ++ pending bytes fields (opens stack depth)) (sym (cells-items kinds counts arities starts fields table used shape fielded t here short bytes k start tail m.1 f)) ∙ sym (pending-cons bytes fields (opening (mark_of t tail) k start) (opens stack depth)) ∙ ap (λ (x : Open). pending bytes fields (x ∷ opens stack depth)) (sym o')))
        s

    pub turn-args : (c k w start node from : ℕ) (o : Open) (nodes₁ stack' nodes' : List ℕ) (r : Next) → (c < 256) × (k < 256) × (w < 256) → Ok (Args c k w) ≡ suit_at bytes at kinds counts arities t → start ≡ get_or starts (32 * t + c) 0
        → node ≡ key_of t c → nodes₁ ≡ set nodes place node → from ≡ place + 1
        → o ≡ opening (low16 w) (low16 k) start → Settled bytes fields (o ∷ opens stack depth) (depth + 1) from nodes₁ stack' nodes' r
        → Turned bytes kinds counts arities starts fields at t depth place stack nodes stack' nodes' (Ok r)
    turn-args c k w start node from o nodes₁ stack' nodes' r few e f g h i o_is s =
        let n = known (Ok (Args c k w)) e in
        let k' : low16 k ≡ k = omega (arith, few.1) in
        let w' : low16 w ≡ w = omega (arith, few.2) in
        let o' : o ≡ opening w k start = o_is ∙ ap₂ (λ (x y : ℕ). opening x y start) w' k' in
        turn-settled (node ∷ []) nodes₁ stack' nodes' (o ∷ opens stack depth) (depth + 1) from r h i (omega arith) (omega arith)
        (λ j. also {n = node} (λ l. absurd (omega arith)) done)
        (plain-one node (omega arith) ∙ sym n.1)
        (rw (o', due-cons (opening w k start) (opens stack depth), args-wanted w k few.2, n.0) refl)
        (λ table used shape fielded here.
        let m = meaning (Ok (Args c k w)) e table shape here in
        let items = args-items kinds counts arities starts fields table used shape fielded t here short bytes c k w start m.1.0 m.1.1 few.2 f in
        let key : node_of bytes node ≡ con t c = ap (node_of bytes) g ∙ key-node bytes t c (omega (arith, shape.few)) (omega (arith, shape.in_type t, m.1.0)) in
        (put (con t c) ∷ (map pat (take k (fields_at table t c)) ++ replicate w (put wild)), sym m.0, ap₂ (λ (x : Node) (is : List Item). put x ∷ (is ++ pending bytes fields (opens stack depth))) (sym key) (sym items) ∙ ap (λ (is : List Item). put (node_of bytes node) ∷ is) (sym (pending-cons bytes fields (opening w k start) (opens stack depth)) ∙ ap (λ (x : Open). pending bytes fields (x ∷ opens stack depth)) (sym o'))))
        s
