-- For callers: a simplified row with its terminator stands at its place, the rows before it are kept, and more bytes change none of them.
use mathlib.Core.Path.{◌≡◌, refl, sym, ap, ap₂, subst, ◌∙◌}
use mathlib.Core.Bool.{Bool, true, false, cond}
use mathlib.Core.Logic.{inl, inr, ⊎_elim}
use mathlib.Core.List.{List, [], ◌∷◌, ◌++◌}
use mathlib.Core.Option.{Option, some}
use Prim.Native.Nat.{ℕ, zero, suc, ◌+◌, ◌-◌, ◌/◌, ◌%◌, ◌≤◌, ◌<◌}
use native.Mathlib.Omega.{arith}
use native.Mathlib.Numerals.{add-one}
use lib.ListN.{length, get_or, take, drop, set, length-set, length-append, length-drop, length-map, get_or-append}
use lib.Seq.{sets, length-sets, take-take, take_at, take-append-le, drop-append-le, take-set-le, get_or-set_same, get_or-take}
use lib.Dec.{ltb}
use borrow.Author.Tests.{ltb-false}
use Rattle.cells.proofs.Laws.{sets-sets}
use Rattle.scope.specs.Types.{Table}
use Rattle.scope.specs.Patterns.{Raw}
use Rattle.scope.specs.Simplify.{lit, con, Row, simplify}
use Rattle.scope.specs.Frames.{found, patterns}
use Rattle.layout.specs.Types.{text_at}
use Rattle.layout.specs.Nodes.{literal_at, node_of, row_of, left_of, LiteralStands, Literals, done, also}
use Rattle.layout.specs.Nodes as Nodes
use Rattle.patterns.specs.Rows.{Given, Answers, Beside, Simplifies, RowAt}
use Rattle.std.specs.Prelude.{Result}
use Rattle.suits.specs.declared.Unsuited.{Unsuited}
use Rattle.patterns.proofs.Beside.{run-there}

-- stores from a place on keep what is before it
sets-before : (vs d : List ℕ) (at n : ℕ) → n ≤ at → take n (sets d at vs) ≡ take n d
sets-before [] d at n h = refl
sets-before (v ∷ vs) d at n h = sets-before vs (set d at v) (suc at) n (omega arith) ∙ take-set-le n d at v h

-- a part of what is before a place
part-before : (p n used : ℕ) (d : List ℕ) → p + n ≤ used → take n (drop p (take used d)) ≡ take n (drop p d)
part-before zero n used d h = take-take n used d (omega arith)
part-before (suc p) n zero d h = absurd (omega arith)
part-before (suc p) n (suc used) [] h = refl
part-before (suc p) n (suc used) (x ∷ d) h = part-before p n used d (omega arith)

same-part : (p n used : ℕ) (d d' : List ℕ) → p + n ≤ used → take used d' ≡ take used d → take n (drop p d') ≡ take n (drop p d)
same-part p n used d d' h e = sym (part-before p n used d' h) ∙ ap (λ (l : List ℕ). take n (drop p l)) e ∙ part-before p n used d h

same_at : (i used : ℕ) (d d' : List ℕ) → i < used → take used d' ≡ take used d → get_or d' i 0 ≡ get_or d i 0
same_at i used d d' h e = sym (get_or-take used d' i 0 h) ∙ ap (λ (l : List ℕ). get_or l i 0) e ∙ get_or-take used d i 0 h

-- the terminator closes what is left
left-ends : (table : Table) (k : ℕ) (r : Row) → take (length r) (left_of table k r) ++ 0 ∷ [] ≡ left_of table k r
unfolding left_of
left-ends table k [] = refl
left-ends table k (x ∷ r) = ap (λ (l : List ℕ). k ∷ l) (left-ends table (k - 1 + Nodes.arguments table x) r)

left-length : (table : Table) (k : ℕ) (r : Row) → length (take (length r) (left_of table k r)) ≡ length r
unfolding left_of
left-length table k [] = refl
left-length table k (x ∷ r) = ap suc (left-length table (k - 1 + Nodes.arguments table x) r)

-- a run of stores and one more after it
run-closed : (d d' d'' vs : List ℕ) (used n : ℕ) → d' ≡ sets d used vs → n ≡ length vs → used + n < length d → d'' ≡ set d' (used + n) 0 → take (suc n) (drop used d'') ≡ vs ++ 0 ∷ []
run-closed d d' d'' vs used n e m l f =
    let one : d'' ≡ sets d used (vs ++ 0 ∷ []) = f ∙ ap₂ (λ (s : List ℕ) (k : ℕ). set s (used + k) 0) e m ∙ sets-sets vs (0 ∷ []) d used in
    run-there d d'' (vs ++ 0 ∷ []) used (suc n) one (ap suc m ∙ sym (length-append vs (0 ∷ []) ∙ add-one (length vs))) (omega arith)

module _ {bytes : List ℕ} {from : ℕ} {kinds counts arities starts fields : List ℕ} {subject used : ℕ} {nodes left nodes' left' : List ℕ} {r : Result ℕ Unsuited} (s : Simplifies bytes from kinds counts arities starts fields subject used nodes left nodes' left' r) where
  -- what stands before `used` is kept
  nodes-before : take used nodes' ≡ take used nodes
  nodes-before = ap (take used) s.nodes_are ∙ sets-before s.new nodes used used (omega arith)

  left-before : take used left' ≡ take used left
  left-before = ap (take used) s.left_are ∙ sets-before s.lefts left used used (omega arith)

  -- with the terminator written too
  pub nodes-closed : (n : ℕ) → take used (set nodes' (used + n) 0) ≡ take used nodes
  nodes-closed n = take-set-le used nodes' (used + n) 0 (omega arith) ∙ nodes-before

  pub left-closed : (n : ℕ) → take used (set left' (used + n) 0) ≡ take used left
  left-closed n = take-set-le used left' (used + n) 0 (omega arith) ∙ left-before

  -- the row with its terminator
  pub row-stands : (raws : List Raw) → patterns 1 (drop from bytes) ≡ found raws [] → (table : Table) → Given kinds counts arities starts fields subject table
      → (row : Row) → simplify table subject raws ≡ some row → length left ≡ length nodes → used + length row < length nodes
      → (nodes'' left'' : List ℕ) → nodes'' ≡ set nodes' (used + length row) 0 → left'' ≡ set left' (used + length row) 0 → RowAt bytes nodes'' left'' table used row
  row-stands raws e table g row i same room nodes'' left'' f h =
      let m = subst (λ (o : Option Row). Answers bytes s.new o r × Beside used (length nodes) table o s.lefts) i (s.means raws e table g) in
      let n : length row ≡ length s.new = ap length (sym m.0.1) ∙ length-map s.new (node_of bytes) in
      let k : s.lefts ≡ take (length row) (left_of table 1 row) = m.1.0 (omega arith) in
      let there : take (length row) (drop used nodes'') ≡ s.new = sym (take-take (length row) (suc (length row)) (drop used nodes'') (omega arith)) ∙ ap (take (length row)) (run-closed nodes nodes' nodes'' s.new used (length row) s.nodes_are n room f) ∙ take_at s.new (0 ∷ []) (length row) (sym n) in
      let long : length nodes'' ≡ length nodes = ap length f ∙ length-set nodes' (used + length row) 0 ∙ ap length s.nodes_are ∙ length-sets nodes used s.new in
      let inner : length nodes' ≡ length nodes = ap length s.nodes_are ∙ length-sets nodes used s.new in
      record {
        stands = record {
          inside = omega arith;
          nodes_are = ap (row_of bytes) there ∙ m.0.1;
          left_are = run-closed left left' left'' s.lefts used (length row) s.left_are (lefts-length k) (omega arith) h ∙ ap (λ (l : List ℕ). l ++ 0 ∷ []) k ∙ left-ends table 1 row;
          ends = ap (λ (l : List ℕ). get_or l (used + length row) 0) f ∙ get_or-set_same nodes' (used + length row) 0 0 (omega arith);
        };
        whole = subst (λ (l : List ℕ). Literals bytes l) (sym there) s.whole;
      }
    where
      lefts-length : s.lefts ≡ take (length row) (left_of table 1 row) → length row ≡ length s.lefts
      lefts-length k = sym (ap length k ∙ left-length table 1 row)

-- a row that stands before a place stays where all before that place does
pub row_kept : {bytes nodes left : List ℕ} {table : Table} {p : ℕ} {r : Row} (nodes' left' : List ℕ) (used : ℕ) → RowAt bytes nodes left table p r → p + length r < used
    → take used nodes' ≡ take used nodes → take used left' ≡ take used left → length nodes' ≡ length nodes → RowAt bytes nodes' left' table p r
row_kept {bytes} {nodes} {left} {table} {p} {r} nodes' left' used a l e f n =
    let same : take (length r) (drop p nodes') ≡ take (length r) (drop p nodes) = same-part p (length r) used nodes nodes' (omega arith) e in
    record {
      stands = record {
        inside = omega (arith, a.stands.inside);
        nodes_are = ap (row_of bytes) same ∙ a.stands.nodes_are;
        left_are = same-part p (suc (length r)) used left left' (omega arith) f ∙ a.stands.left_are;
        ends = same_at (p + length r) used nodes nodes' l e ∙ a.stands.ends;
      };
      whole = subst (λ (ns : List ℕ). Literals bytes ns) (sym same) a.whole;
    }

module _ (bytes more : List ℕ) where
  at-grown : (i : ℕ) → i < length bytes → get_or (bytes ++ more) i 0 ≡ get_or bytes i 0
  at-grown i h = get_or-append bytes more 0 i h

  -- a text that stands whole among the bytes
  text-grown : (p : ℕ) → p + 1 + get_or bytes p 0 ≤ length bytes → text_at (bytes ++ more) p ≡ text_at bytes p
  unfolding text_at
  text-grown p h =
      ap₂ (λ (n : ℕ) (l : List ℕ). take n l) (at-grown p (omega arith)) (drop-append-le (suc p) bytes more (omega arith))
      ∙ take-append-le (get_or bytes p 0) (drop (suc p) bytes) more (omega (arith, length-drop (suc p) bytes))

  literal-grown : (p : ℕ) → LiteralStands bytes p → literal_at (bytes ++ more) p ≡ literal_at bytes p
  unfolding literal_at
  literal-grown p h =
      let l : suc p + 1 + get_or bytes (suc p) 0 ≤ length bytes = omega (arith, h.whole, ap (λ (i : ℕ). get_or bytes i 0) (add-one p)) in
      rw (at-grown p (omega (arith, h.whole)), text-grown (suc p) l)

  node-grown : (n : ℕ) → (32768 ≤ n → LiteralStands bytes (n - 32768)) → node_of (bytes ++ more) n ≡ node_of bytes n
  unfolding node_of
  node-grown zero h = refl
  node-grown (suc i) h = go (ltb i 32767) refl
    where
      go : (b : Bool) → ltb i 32767 ≡ b → cond b (con (i / 32) (i % 32)) (lit (literal_at (bytes ++ more) (i - 32767))) ≡ cond b (con (i / 32) (i % 32)) (lit (literal_at bytes (i - 32767)))
      go true e = refl
      go false e =
          let l : 32767 ≤ i = ltb-false i 32767 e in
          let m : suc i - 32768 ≡ i - 32767 = omega arith in
          ap lit (literal-grown (i - 32767) (subst (λ (p : ℕ). LiteralStands bytes p) m (h (omega arith))))

  nodes-grown : (ns : List ℕ) → Literals bytes ns → row_of (bytes ++ more) ns ≡ row_of bytes ns
  nodes-grown [] done = refl
  nodes-grown (n ∷ ns) (also h q) = ap₂ ◌∷◌ (node-grown n h) (nodes-grown ns q)

  literals-grown : {ns : List ℕ} → Literals bytes ns → Literals (bytes ++ more) ns
  literals-grown done = done
  literals-grown (also {n} h q) = also (λ l. whole-grown (n - 32768) (h l)) (literals-grown q)
    where
      whole-grown : (p : ℕ) → LiteralStands bytes p → LiteralStands (bytes ++ more) p
      whole-grown p w =
          let same : get_or (bytes ++ more) p 0 ≡ get_or bytes p 0 = at-grown p (omega (arith, w.whole)) in
          record { known = ⊎_elim (λ k. inl (same ∙ k)) (λ k. inr (same ∙ k)) w.known; whole = omega (arith, w.whole, at-grown (p + 1) (omega (arith, w.whole)), length-append bytes more) }

  -- more bytes change no row
  pub row-grown : {nodes left : List ℕ} {table : Table} {p : ℕ} {r : Row} → RowAt bytes nodes left table p r → RowAt (bytes ++ more) nodes left table p r
  row-grown {nodes} {p = p} {r = r} a =
      record {
        stands = record {
          inside = a.stands.inside;
          nodes_are = nodes-grown (take (length r) (drop p nodes)) a.whole ∙ a.stands.nodes_are;
          left_are = a.stands.left_are;
          ends = a.stands.ends;
        };
        whole = literals-grown a.whole;
      }
