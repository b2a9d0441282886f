-- What the table of simplified patterns holds: at a clause's place a row of numbers runs, and it says the clause's row.
use mathlib.Core.Path.{◌≡◌, refl, sym, ap, subst, ◌∙◌}
use mathlib.Core.List.{List, [], ◌∷◌, map}
use Prim.Native.Nat.{ℕ, zero, suc, ◌+◌, ◌*◌, ◌-◌, ◌≤◌, ◌<◌}
use native.Mathlib.Nat.{add-zero}
use native.Mathlib.Omega.{arith}
use lib.ListN.{length, get_or, take, drop, length-append}
use lib.Seq.{drop-cons}
use borrow.Author.Tests.{lt-ltb, le-ltb}
use Rattle.scope.specs.Types.{Ref, Table}
use Rattle.scope.specs.Constructors.{ctors, fields_at, arity}
use Rattle.scope.specs.Simplify.{Node, wild, lit, con, Row, Matrix}
use Rattle.laws.specs.Typed.{Typed, done, wilds, lits, cons, TypedRows, no_rows, also}
use Rattle.layout.specs.Types.{Shape}
use Rattle.layout.specs.Nodes.{node_of, arguments, row_of, left_of, StandsAt, LiteralStands}
use Rattle.matrix.specs.Numbers.{ar_of, is_ctor, base_of, count_of}
use Rattle.matrix.specs.Places.{Narrow, Runs, ends, goes, Starts}
use Rattle.walks.specs.Bridge as bridge
use Rattle.walks.specs.Bridge.{Says, Holding, SayRows, no_rows, also}
use Rattle.matrix.proofs.Arities.{arity_0, arity-lit}
use Rattle.matrix.proofs.Seen.{narrow-none}
use Rattle.walks.proofs.BridgeRows.{key-arity}
use Rattle.walks.proofs.BridgeNodes.{number-wild, number-literal, number-ctor}
use Rattle.walks.proofs.BridgeColumns.{base-is, count-is}

-- the part of a list from a place on, by its first element
first_of : (l : List ℕ) (p n k : ℕ) (rest : List ℕ) → p < length l → take (suc n) (drop p l) ≡ k ∷ rest → (get_or l p 0 ≡ k) × (take n (drop (suc p) l) ≡ rest)
first_of l p n k rest lt e =
    let q : get_or l p 0 ∷ take n (drop (suc p) l) ≡ k ∷ rest = sym (ap (take (suc n)) (drop-cons l p 0 lt)) ∙ e in
    (cc, cc)

module _ (bytes kinds nodes left counts ars : List ℕ) (table : Table) (sh : Shape kinds counts ars table) (low : length ars < 32768) (even : length left ≡ length nodes) where
  -- what stands at a place where k patterns of the types ts are left
  pub record Stood (p : ℕ) (ts : List Ref) (r : Row) : Type 0 where
    pub runs : Runs nodes left counts ars p
    pub count : get_or left p 0 ≡ length ts
    pub says : Says bytes table ts (drop p nodes) r

  narrow-ctor : (t c h : ℕ) → h ≡ suc (32 * t + c) → c < length (ctors table t) → Narrow counts h
  narrow-ctor t c h e l =
      let b : base_of h ≡ suc (32 * t) = ap base_of e ∙ base-is bytes kinds counts ars table sh t c l in
      let k : count_of counts (base_of h) ≡ length (ctors table t) = ap (count_of counts) b ∙ count-is bytes kinds counts ars table sh t c l in
      record { few = λ q. omega (arith, k, sh.in_type t); among = λ q. omega (arith, b, k) }

  narrow-lit : (h : ℕ) → 32768 ≤ h → Narrow counts h
  narrow-lit h l = narrow-none counts h (simp (lt-ltb 0 h (omega arith), le-ltb h 32768 l))

  narrow-wild : (h : ℕ) → h ≡ 0 → Narrow counts h
  narrow-wild h e = narrow-none counts h (ap is_ctor e)

  -- what the slices say of a row x ∷ r at p: of its first node, and of the row after it at the next place
  record Cell (p k : ℕ) (x : Node) (r : Row) : Type 0 where
    cut : drop p nodes ≡ get_or nodes p 0 ∷ drop (suc p) nodes
    node : node_of bytes (get_or nodes p 0) ≡ x
    nodes_on : row_of bytes (take (length r) (drop (suc p) nodes)) ≡ r
    here : get_or left p 0 ≡ k
    left_on : take (suc (length r)) (drop (suc p) left) ≡ left_of table (k - 1 + arguments table x) r

  cell : (p k : ℕ) (x : Node) (r : Row) → p + suc (length r) < length nodes → row_of bytes (take (suc (length r)) (drop p nodes)) ≡ x ∷ r → take (suc (suc (length r))) (drop p left) ≡ left_of table k (x ∷ r) → Cell p k x r
  unfolding left_of
  cell p k x r lt ns ls =
      let on = drop-cons nodes p 0 (omega arith) in
      let both : node_of bytes (get_or nodes p 0) ∷ row_of bytes (take (length r) (drop (suc p) nodes)) ≡ x ∷ r = sym (ap (λ (y : List ℕ). row_of bytes (take (suc (length r)) y)) on) ∙ ns in
      let f = first_of left p (suc (length r)) k (left_of table (k - 1 + arguments table x) r) (omega arith) ls in
      record { cut = on; node = cc; nodes_on = cc; here = f.0; left_on = f.1 }

  -- the literals after the first node
  after : (p n : ℕ) → ((j : ℕ) → j < suc n → 32768 ≤ get_or nodes (p + j) 0 → LiteralStands bytes (get_or nodes (p + j) 0 - 32768)) → (j : ℕ) → j < n → 32768 ≤ get_or nodes (suc p + j) 0 → LiteralStands bytes (get_or nodes (suc p + j) 0 - 32768)
  after p n ok j l =
      let shift : p + suc j ≡ suc p + j = omega arith in
      subst (λ (i : ℕ). 32768 ≤ get_or nodes i 0 → LiteralStands bytes (get_or nodes i 0 - 32768)) shift (ok (suc j) (omega arith))

  stands : {ts : List Ref} {r : Row} (p k : ℕ) → Typed table ts r → k ≡ length ts → p + length r < length nodes → row_of bytes (take (length r) (drop p nodes)) ≡ r → take (suc (length r)) (drop p left) ≡ left_of table k r
      → ((j : ℕ) → j < length r → 32768 ≤ get_or nodes (p + j) 0 → LiteralStands bytes (get_or nodes (p + j) 0 - 32768)) → Stood p ts r
  unfolding left_of
  stands p k done e lt ns ls ok =
      let f = first_of left p 0 0 [] (omega arith) ls in
      record { runs = ends {p = p} (omega arith) f.0; count = f.0; says = bridge.done }
  stands p k (wilds {t = t} {ts = ts} {r = r} h) e lt ns ls ok =
      let x = cell p k wild r lt ns ls in
      let z = number-wild bytes (get_or nodes p 0) x.node in
      let on = stands (suc p) (k - 1 + 0) h (omega arith) (omega arith) x.nodes_on x.left_on (after p (length r) ok) in
      record {
        runs = goes {p = p} (omega (arith, x.here, on.count, ap (ar_of ars) z, arity_0 ars)) (narrow-wild (get_or nodes p 0) z) on.runs;
        count = x.here ∙ e;
        says = subst (λ (y : List ℕ). Says bytes table (t ∷ ts) y (wild ∷ r)) (sym (x.cut ∙ ap (◌∷ drop (suc p) nodes) z)) (bridge.wilds on.says);
      }
  stands p k (lits {t = t} {ts = ts} {l = l} {r = r} kd h) e lt ns ls ok =
      let x = cell p k (lit l) r lt ns ls in
      let z = number-literal bytes (get_or nodes p 0) l x.node in
      let on = stands (suc p) (k - 1 + 0) h (omega arith) (omega arith) x.nodes_on x.left_on (after p (length r) ok) in
      let this : LiteralStands bytes (get_or nodes p 0 - 32768) = subst (λ (i : ℕ). 32768 ≤ get_or nodes i 0 → LiteralStands bytes (get_or nodes i 0 - 32768)) (add-zero p) (ok 0 (omega arith)) z.high in
      record {
        runs = goes {p = p} (omega (arith, x.here, on.count, arity-lit ars (get_or nodes p 0) low z.high)) (narrow-lit (get_or nodes p 0) z.high) on.runs;
        count = x.here ∙ e;
        says = subst (λ (y : List ℕ). Says bytes table (t ∷ ts) y (lit l ∷ r)) (sym x.cut) (bridge.lits z.high this z.says on.says);
      }
  stands p k (cons {t = t} {ts = ts} {c = c} {r = r} cl h) e lt ns ls ok =
      let x = cell p k (con t c) r lt ns ls in
      let z = number-ctor bytes (get_or nodes p 0) t c x.node in
      let wide = length-append (fields_at table t c) ts in
      let on = stands (suc p) (k - 1 + arity table t c) h (omega arith) (omega arith) x.nodes_on x.left_on (after p (length r) ok) in
      record {
        runs = goes {p = p} (omega (arith, x.here, on.count, key-arity kinds counts ars table sh t c (get_or nodes p 0) z cl)) (narrow-ctor t c (get_or nodes p 0) z cl) on.runs;
        count = x.here ∙ e;
        says = subst (λ (y : List ℕ). Says bytes table (t ∷ ts) y (con t c ∷ r)) (sym x.cut) (bridge.cons z cl on.says);
      }

  -- a row that stands at a place
  pub stood : (p : ℕ) (t : Ref) (r : Row) → Typed table (t ∷ []) r → StandsAt bytes nodes left table p r → ((j : ℕ) → j < length r → 32768 ≤ get_or nodes (p + j) 0 → LiteralStands bytes (get_or nodes (p + j) 0 - 32768)) → Stood p (t ∷ []) r
  stood p t r h at ok = stands p 1 h refl at.inside at.nodes_are at.left_are ok

typed_at : (table : Table) (ts : List Ref) {m : Matrix} → TypedRows table ts m → (i : ℕ) → i < length m → Typed table ts (get_or m i [])
typed_at table ts no_rows i l = absurd (omega arith)
typed_at table ts (also h k) zero l = h
typed_at table ts (also h k) (suc i) l = typed_at table ts k i (omega arith)

module _ (bytes kinds nodes left counts ars starts : List ℕ) (table : Table) (t : Ref) (m : Matrix) (holds : Holding bytes kinds nodes left counts ars starts table t m) (low : length ars < 32768) where
  clause-stood : (i : ℕ) → i < length m → Stood bytes kinds nodes left counts ars table holds.shape low holds.rows.same (get_or starts i 0) (t ∷ []) (get_or m i [])
  clause-stood i l = stood bytes kinds nodes left counts ars table holds.shape low holds.rows.same (get_or starts i 0) t (get_or m i []) (typed_at table (t ∷ []) holds.typed i l) (holds.rows.each i l) (λ j k. holds.literals.each i j l k)

  -- what `judge` asks of the clauses' places
  pub starts_hold : Starts nodes left counts ars starts
  starts_hold = record { each = λ i l. let s = clause-stood i (omega (arith, holds.rows.many)) in record { runs = s.runs; one = s.count } }

  pub clause-says : (i : ℕ) → i < length m → Says bytes table (t ∷ []) (drop (get_or starts i 0) nodes) (get_or m i [])
  clause-says i l = (clause-stood i l).says

-- the rows of the clauses' places say the clauses
pub rows_at : (bytes nodes : List ℕ) (table : Table) (ts : List Ref) (ps : List ℕ) (m : Matrix) → length ps ≡ length m → ((i : ℕ) → i < length m → Says bytes table ts (drop (get_or ps i 0) nodes) (get_or m i [])) → SayRows bytes table ts (map (λ p. drop p nodes) ps) m
rows_at bytes nodes table ts [] [] e h = no_rows
rows_at bytes nodes table ts [] (r ∷ m) e h = absurd (omega arith)
rows_at bytes nodes table ts (p ∷ ps) [] e h = absurd (omega arith)
rows_at bytes nodes table ts (p ∷ ps) (r ∷ m) e h = also (h 0 (omega arith)) (rows_at bytes nodes table ts ps m (omega arith) (λ i l. h (suc i) (omega arith)))
