-- `left` beside a row that has room: from the row's types, each node's arity in the slices is its constructor's, and what is left fits 16 bits.
use mathlib.Core.Path.{◌≡◌, refl, sym, ap, ap₂, subst, ◌∙◌}
use mathlib.Core.Bool.{Bool, true, false, cond}
use mathlib.Core.List.{List, [], ◌∷◌, ◌++◌, map, append_assoc}
use mathlib.Core.Option.{Option, none, some}
use Prim.Native.Nat.{ℕ, zero, suc, ◌+◌, ◌*◌, ◌-◌, ◌/◌, ◌%◌, ◌≤◌, ◌<◌}
use native.Mathlib.Omega.{arith}
use lib.ListN.{length, get_or, take, drop, length-append, length-map, get_or-eq_default}
use lib.Seq.{sets, sets-eq, take_at, drop_at, length-take-le}
use lib.Dec.{ltb}
use borrow.Author.Tests.{ltb-true, ltb-false}
use Rattle.scope.proofs.Tests.{clash}
use Rattle.laws.proofs.Typing.{simplify-typed}
use Rattle.scope.specs.Types.{Ref, Ty, opaque, Table}
use Rattle.scope.specs.Constructors.{ctors_at, ctors, fields_at}
use Rattle.scope.specs.Patterns.{Raw}
use Rattle.scope.specs.Simplify.{Node, wild, lit, con, Row, simplify}
use Rattle.laws.specs.Typed.{Typed}
use Rattle.layout.specs.Types.{Shape}
use Rattle.layout.specs.Nodes.{node_of, row_of, left_of}
use Rattle.layout.specs.Nodes as Nodes
use Rattle.nodes.specs.Keys.{low16}
use Rattle.nodes.specs.Lefts.{arity_of, lefts_of}
use Rattle.scope.specs.Blocks.{ok, refuse}
use Rattle.patterns.specs.Rows.{Given, Answers, Beside, Reading, Simplifies}
use Rattle.std.specs.Prelude.{Result, Ok, Err}
use Rattle.std.specs.Result.{IsErr}
use Rattle.suits.specs.declared.Unsuited.{Unsuited}

module _ (table : Table) where
  -- the types of a node's arguments
  abbrev parts_of : Node → List Ref
  parts_of wild = []
  parts_of (lit l) = []
  parts_of (con t c) = fields_at table t c

  -- a node's constructor is one of its type
  abbrev Declared : Node → Type 0
  Declared wild = Unit {0}
  Declared (lit l) = Unit {0}
  Declared (con t c) = c < length (ctors table t)

  -- the first node of a row, and what is left of the types after it
  record Headed (ts : List Ref) (x : Node) (r : Row) : Type 0 where
    others : List Ref
    one : length ts ≡ suc (length others)
    declared : Declared x
    typed : Typed table (parts_of x ++ others) r

  headed : {ts : List Ref} {x : Node} {r : Row} → Typed table ts (x ∷ r) → Headed ts x r
  headed (Typed.wilds {ts = us} h) = record { others = us; one = refl; declared = tt; typed = h }
  headed (Typed.lits {ts = us} k h) = record { others = us; one = refl; declared = tt; typed = h }
  headed (Typed.cons {ts = us} l h) = record { others = us; one = refl; declared = l; typed = h }

  -- a pattern has a node or more
  typed-length : (ts : List Ref) (r : Row) → Typed table ts r → length ts ≤ length r
  typed-length ts [] Typed.done = omega arith
  typed-length ts (x ∷ r) h = let d = headed h in omega (arith, d.one, typed-length (parts_of x ++ d.others) r d.typed, length-append (parts_of x) d.others)

  -- a type with constructors is in the table
  in_table : (t c : ℕ) → c < length (ctors table t) → t < length table
  in_table t c h = go (ltb t (length table)) refl
    where
      go : (b : Bool) → ltb t (length table) ≡ b → t < length table
      go true e = ltb-true t (length table) e
      go false e =
          let n : length (ctors table t) ≡ 0 = ap (λ (ty : Ty). length (ctors_at t ty)) (get_or-eq_default table opaque (ltb-false t (length table) e)) in
          absurd (omega arith)

  arguments-length : (x : Node) → Nodes.arguments table x ≡ length (parts_of x)
  arguments-length wild = refl
  arguments-length (lit l) = refl
  arguments-length (con t c) = refl

  module _ (bytes kinds counts arities : List ℕ) (shape : Shape kinds counts arities table) where
    -- a node's arity in the slices
    arity-is : (n : ℕ) → Declared (node_of bytes n) → arity_of arities n ≡ Nodes.arguments table (node_of bytes n)
    unfolding node_of
    arity-is zero d = refl
    arity-is (suc i) d = go (ltb i 32767) refl d
      where
        go : (b : Bool) → ltb i 32767 ≡ b → Declared (cond b (con (i / 32) (i % 32)) (lit (Nodes.literal_at bytes (i - 32767)))) → cond b (get_or arities i 0) 0 ≡ Nodes.arguments table (cond b (con (i / 32) (i % 32)) (lit (Nodes.literal_at bytes (i - 32767))))
        go true e h =
            let j : i ≡ 32 * (i / 32) + i % 32 = omega arith in
            ap (λ (k : ℕ). get_or arities k 0) j ∙ shape.arity_at (i / 32) (i % 32) (in_table (i / 32) (i % 32) h) h
        go false e h = refl

    -- beside the nodes of patterns of these types
    lefts-are : (ns : List ℕ) (ts : List Ref) (k : ℕ) → Typed table ts (row_of bytes ns) → length ts ≡ k → length ns < 65536 → map low16 (lefts_of arities k ns) ≡ take (length ns) (left_of table k (row_of bytes ns))
    unfolding lefts_of left_of
    lefts-are [] ts k h e l = refl
    lefts-are (n ∷ ns) ts k h e l =
        let d = headed h in
        let m = typed-length ts (row_of bytes (n ∷ ns)) h in
        let a : arity_of arities n ≡ Nodes.arguments table (node_of bytes n) = arity-is n d.declared in
        let low : low16 k ≡ k = omega (arith, m, length-map ns (node_of bytes)) in
        let next : length (parts_of (node_of bytes n) ++ d.others) ≡ k - 1 + arity_of arities n = length-append (parts_of (node_of bytes n)) d.others ∙ omega (arith, d.one, a, arguments-length (node_of bytes n)) in
        ap₂ ◌∷◌ low (lefts-are ns (parts_of (node_of bytes n) ++ d.others) (k - 1 + arity_of arities n) d.typed next (omega arith) ∙ ap (λ (x : ℕ). take (length ns) (left_of table (k - 1 + x) (row_of bytes ns))) a)

-- a run that was stored and has room is there to be read
pub run-there : (d d' vs : List ℕ) (used n : ℕ) → d' ≡ sets d used vs → n ≡ length vs → used + n ≤ length d → take n (drop used d') ≡ vs
run-there d d' vs used n e m l =
    let w : sets d used vs ≡ take used d ++ (vs ++ drop (used + length vs) d) = sets-eq vs d used (omega arith) ∙ append_assoc (take used d) vs (drop (used + length vs) d) in
    ap (λ (s : List ℕ). take n (drop used s)) (e ∙ w)
    ∙ ap (take n) (drop_at (take used d) (vs ++ drop (used + length vs) d) used (length-take-le used d (omega arith)))
    ∙ take_at vs (drop (used + length vs) d) n (sym m)

module _ (bytes : List ℕ) (from : ℕ) (kinds counts arities starts fields : List ℕ) (subject used : ℕ) (nodes left nodes' : List ℕ) where
  abbrev Done : List ℕ → Result ℕ Unsuited → Type 0
  Done left' r = Simplifies bytes from kinds counts arities starts fields subject used nodes left nodes' left' r

  pub unsuited : (u : Unsuited) (r : Result ℕ Unsuited) → IsErr r → Reading bytes from kinds counts arities starts fields subject used nodes nodes' (Err u) → Done left r
  unsuited u (Ok count) i q = clash (cc)
  unsuited u (Err v) i q =
      record {
        new = q.new;
        lefts = [];
        nodes_are = q.nodes_are;
        left_are = refl;
        whole = q.whole;
        places = λ count h. clash (cc);
        means = λ raws h table g. refused table (simplify table subject raws) (q.means raws h table g);
      }
    where
      refused : (table : Table) (o : Option Row) → Answers bytes q.new o (Err u) → Answers bytes q.new o (Err v) × Beside used (length nodes) table o []
      refused table none a = (a, refl)
      refused table (some row) a = let f : refuse 8 ≡ ok (length row) = a.0 in clash (cc)

  module _ (count : ℕ) (short : length nodes < 32768) (room : used ≤ length nodes) (q : Reading bytes from kinds counts arities starts fields subject used nodes nodes' (Ok count)) where
    len : count ≡ length q.new
    len = q.counted count refl

    row-length : (row : Row) → row_of bytes q.new ≡ row → length row ≡ count
    row-length row f = ap length (sym f) ∙ length-map q.new (node_of bytes) ∙ sym len

    -- no room: only counted
    pub too_long : length nodes - used < count → Done left (Ok count)
    too_long l =
        record {
          new = q.new;
          lefts = [];
          nodes_are = q.nodes_are;
          left_are = refl;
          whole = q.whole;
          places = λ n h. q.places count refl;
          means = λ raws h table g. (q.means raws h table g, no_room table (simplify table subject raws) (q.means raws h table g));
        }
      where
        no_room : (table : Table) (o : Option Row) → Answers bytes q.new o (Ok count) → Beside used (length nodes) table o []
        no_room table none a = refl
        no_room table (some row) a = (λ i. absurd (omega (arith, row-length row a.1)), λ i. refl)

    -- room for the nodes, and `left` beside them
    pub kept : (left' : List ℕ) → count ≤ length nodes - used → left' ≡ sets left used (map low16 (lefts_of arities 1 (take count (drop used nodes')))) → Done left' (Ok count)
    kept left' l f =
        record {
          new = q.new;
          lefts = map low16 (lefts_of arities 1 q.new);
          nodes_are = q.nodes_are;
          left_are = f ∙ ap (λ (ns : List ℕ). sets left used (map low16 (lefts_of arities 1 ns))) there;
          whole = q.whole;
          places = λ n h. q.places count refl;
          means = λ raws h table g. (q.means raws h table g, beside table raws g (simplify table subject raws) refl (q.means raws h table g));
        }
      where
        there : take count (drop used nodes') ≡ q.new
        there = run-there nodes nodes' q.new used count q.nodes_are len (omega arith)

        beside : (table : Table) (raws : List Raw) → Given kinds counts arities starts fields subject table → (o : Option Row) → simplify table subject raws ≡ o → Answers bytes q.new o (Ok count) → Beside used (length nodes) table o (map low16 (lefts_of arities 1 q.new))
        beside table raws g none i a = let f : ok count ≡ refuse 8 = a in clash (cc)
        beside table raws g (some row) i a =
            let typed : Typed table (subject ∷ []) (row_of bytes q.new) = subst (λ (s : Row). Typed table (subject ∷ []) s) (sym a.1) (simplify-typed table subject raws row i) in (
              λ j. lefts-are table bytes kinds counts arities g.shape q.new (subject ∷ []) 1 typed refl (omega (arith, len)) ∙ ap₂ (λ (n : ℕ) (s : Row). take n (left_of table 1 s)) (sym len ∙ sym (row-length row a.1)) a.1,
              λ j. absurd (omega (arith, row-length row a.1)),
            )
