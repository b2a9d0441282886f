-- The driver's part: the clauses' rows at the front of the scratch, and what the answer says of every block that the slices hold.
use mathlib.Core.Path.{◌≡◌, refl, sym, ap, ap₂, subst, ◌∙◌}
use mathlib.Core.Bool.{Bool, true, false, not, cond, ◌&&◌, ◌||◌}
use mathlib.Core.List.{List, [], ◌∷◌, ◌++◌, map, map-append}
use Prim.Native.Nat.{ℕ, ◌+◌, ◌≤◌, ◌<◌}
use native.Mathlib.Nat.{zero-add}
use native.Mathlib.Omega.{arith}
use lib.ListN.{length, take, drop, replicate, length-map, length-replicate}
use lib.Seq.{sets, sets-eq, length-sets, take_at, take-length, length-take-le}
use lib.Dec.{leb, ltb}
use Rattle.scope.specs.Limits.{max_calls, max_cells, max_missing}
use Rattle.scope.specs.Lists.{flatten}
use Rattle.scope.specs.Types.{Table}
use Rattle.scope.specs.Simplify.{Row, Matrix}
use Rattle.scope.specs.Walks.{Walk, turned, collect_missing_patterns}
use Rattle.scope.specs.Blocks.{Step, ok, refuse, nodes_in}
use Rattle.scope.proofs.Tests.{clash}
use Rattle.layout.specs.Nodes.{node_of, row_of}
use Rattle.matrix.specs.Numbers.{Rows, matrix}
use Rattle.walks.specs.Walks.{missing_of}
use Rattle.matrix.specs.Places.{Places, Sizes, Starts}
use Rattle.walks.specs.Limits.{within}
use Rattle.paths.specs.Path.{under, path_of}
use Rattle.paths.specs.Spread.{nodes_of}
use Rattle.collect.specs.Ready.{Opened, Sought, sought}
use Rattle.missing.specs.Missing.{missing_rows, out_after, found_of, Finds, FindsAll}
use Rattle.outcomes.specs.Past.{said_seek}
use Rattle.std.specs.Prelude.{Result, Ok, Err}
use Rattle.std.specs.Result.{is_err}
use Rattle.outcomes.specs.declared.Seek.{Seek}
use Rattle.outcomes.specs.declared.TooMuch.{TooMuch}
use Rattle.paths.specs.declared.Steps.{Steps}
use Rattle.matrix.proofs.Fronts.{front_length}
use Rattle.walks.proofs.BridgeTable.{clause-says, rows_at}
use Rattle.walks.proofs.Limits.{within-not, test-not, not_or}
use Rattle.paths.proofs.PathSpread.{flatten-length}
use Rattle.collect.proofs.Limits.{done-is}
use Rattle.walks.proofs.BridgeMissing.{same-missing}
use Rattle.matrix.proofs.Specialised.{start-places, start-rows}

-- rows that are read from rows of numbers: as many nodes, and one row after another
module _ (bytes : List ℕ) where
  nodes-read : (m : Rows) → nodes_in (map (row_of bytes) m) ≡ nodes_of m
  nodes-read [] = refl
  nodes-read (r ∷ m) = omega (arith, nodes-read m, length-map r (node_of bytes))

  flat_read : (m : Rows) → row_of bytes (flatten m) ≡ flatten (map (row_of bytes) m)
  flat_read [] = refl
  flat_read (r ∷ m) = map-append (node_of bytes) r (flatten m) ∙ ap (λ (x : Row). row_of bytes r ++ x) (flat_read m)

  answer-read : (w : Walk Rows) → sought 0 16384 0 0 w ≡ found_of (turned (map (row_of bytes)) w)
  unfolding sought found_of
  answer-read w =
      let n : 0 + nodes_of w.result ≡ nodes_in (map (row_of bytes) w.result) = omega (arith, nodes-read w.result) in
      let k : 0 + length w.result ≡ length (map (row_of bytes) w.result) = omega (arith, length-map w.result (row_of bytes)) in
      ap₂ (λ (x y : ℕ). cond (within 0 16384 w && leb x 4096) (ok (x, (y, 0 + w.calls))) (refuse 10)) n k
      ∙ ap (λ (c : ℕ). cond (within 0 16384 w && leb (nodes_in (map (row_of bytes) w.result)) 4096) (ok (nodes_in (map (row_of bytes) w.result), (length (map (row_of bytes) w.result), c))) (refuse 10)) (zero-add w.calls)

-- the front of a list that a run of stores has filled
front-filled : (d vs : List ℕ) → length vs ≤ length d → take (length vs) (sets d 0 vs) ≡ vs
front-filled d vs l = ap (take (length vs)) (sets-eq vs d 0 (omega arith)) ∙ take_at vs (drop (0 + length vs) d) (length vs) refl

finds_all : (bytes nodes left counts ars starts : List ℕ) → length ars < 32768 → (out oe : List ℕ) (r : Result Seek TooMuch) → 4096 ≤ length out
    → said_seek r ≡ sought 0 16384 0 0 (missing_rows bytes counts ars nodes starts) → oe ≡ out_after out (missing_rows bytes counts ars nodes starts).result r
    → FindsAll bytes nodes left counts ars starts oe r
unfolding out_after
finds_all bytes nodes left counts ars starts low out oe r big e f kinds table t m holds = record { answer = e ∙ answer-read bytes w ∙ ap found_of same; rows = text }
  where
    w : Walk Rows
    w = missing_rows bytes counts ars nodes starts

    same : turned (map (row_of bytes)) w ≡ collect_missing_patterns table 1 m
    same = same-missing bytes kinds counts ars table holds.shape low (t ∷ []) (map (λ p. drop p nodes) starts) m (rows_at bytes nodes table (t ∷ []) starts m holds.rows.many (clause-says bytes kinds nodes left counts ars starts table t m holds low))

    text : (v : Seek) → r ≡ Ok v → row_of bytes (take v.written oe) ≡ flatten (collect_missing_patterns table 1 m).result
    text v q =
        let i = done-is 0 16384 0 0 w v.written v.rows v.calls (sym (ap said_seek q) ∙ e) in
        let n : v.written ≡ length (flatten w.result) = i.nodes ∙ zero-add (nodes_of w.result) ∙ sym (flatten-length w.result) in
        let o : oe ≡ sets out 0 (flatten w.result) = f ∙ ap (out_after out w.result) q in
        ap (row_of bytes) (ap₂ take n o ∙ front-filled out (flatten w.result) (omega (arith, i.low)))
        ∙ flat_read bytes w.result ∙ ap (λ (v : Walk Matrix). flatten v.result) same

-- the buffer is as long as before
pub out_long : (out : List ℕ) (m : Rows) (r : Result Seek TooMuch) → length (out_after out m r) ≡ length out
unfolding out_after
out_long out m (Ok v) = length-sets out 0 (flatten m)
out_long out m (Err e) = length-replicate (length out) 0

-- what the contract says of the answer, the buffer and the scratch
abbrev pub Leaves : List ℕ → List ℕ → List ℕ → List ℕ → List ℕ → List ℕ → List ℕ → List ℕ → List ℕ → List ℕ → Result Seek TooMuch → Type 0
Leaves bytes nodes left counts ars starts s s' out out' r =
    (said_seek r ≡ sought 0 16384 0 0 (missing_rows bytes counts ars nodes starts)) × ((out' ≡ out_after out (missing_rows bytes counts ars nodes starts).result r) × ((s' ≡ replicate (length s) 0) × FindsAll bytes nodes left counts ars starts out' r))

-- the clauses' rows, copied to the front of the scratch
module _ (bytes nodes left counts ars starts : List ℕ) (sz : Sizes nodes ars) (st : Starts nodes left counts ars starts) (s e : List ℕ) (few : length starts ≤ 64) (big : 16384 ≤ length s) (ee : e ≡ take (length starts) starts ++ drop (length starts) s) where
  front : take (length starts) e ≡ starts
  front = ap (take (length starts)) ee ∙ take_at (take (length starts) starts) (drop (length starts) s) (length starts) (length-take-le (length starts) starts (omega arith)) ∙ take-length starts

  same_length_lem : length e ≡ length s
  same_length_lem = ap length ee ∙ front_length starts s (length starts) (omega arith) (omega arith)

  pub first-opened : Opened nodes left counts ars 1 e (length starts) 16384
  first-opened = record {
    sizes = sz;
    places = subst (Places nodes left counts ars 1) (sym front) (start-places nodes left counts ars starts st.each);
    low = few;
    fits = omega (arith, same_length_lem);
    space = omega (arith, same_length_lem);
    wide = omega arith;
  }

  -- what the walk leaves
  module _ {e₂ out oe : List ℕ} {p q : Steps} {r : Result Seek TooMuch}
      (h : Sought e (length starts) e₂ p q 0 out oe (record { written = 0; rows = 0; calls = 0 }) 16384 r (turned (under ars (path_of p.nodes p.sets 0)) (missing_of bytes counts ars 1 (matrix nodes left 1 (take (length starts) e))))) where
    whole : turned (under ars (path_of p.nodes p.sets 0)) (missing_of bytes counts ars 1 (matrix nodes left 1 (take (length starts) e))) ≡ missing_rows bytes counts ars nodes starts
    unfolding under path_of
    whole = ap (missing_of bytes counts ars 1) (ap (matrix nodes left 1) front ∙ start-rows nodes left counts ars starts st.each)

    missing-is : said_seek r ≡ sought 0 16384 0 0 (missing_rows bytes counts ars nodes starts)
    missing-is = h.is ∙ ap (sought 0 16384 0 0) whole

    -- the scratch cleared, and all that the contract says for the buffer afterwards
    module _ {s' : List ℕ} (z : s' ≡ replicate (length e₂) 0) (l : length e₂ ≡ length e) (long : 4096 ≤ length out) where
      says : (out' : List ℕ) → out' ≡ out_after out (missing_rows bytes counts ars nodes starts).result r → Leaves bytes nodes left counts ars starts s s' out out' r
      says out' f = (missing-is, (f, (z ∙ ap (λ (n : ℕ). replicate n 0) (l ∙ same_length_lem), finds_all bytes nodes left counts ars starts sz.low out out' r long missing-is f)))

      pub done-says : (v : Seek) → r ≡ Ok v → Leaves bytes nodes left counts ars starts s s' out oe r
      unfolding out_after
      done-says v q = says oe (h.text v q ∙ ap (λ (x : Walk Rows). sets out 0 (flatten x.result)) whole ∙ ap (out_after out (missing_rows bytes counts ars nodes starts).result) (sym q))

      pub over-says : {t : TooMuch} → r ≡ Err t → {out' : List ℕ} → out' ≡ replicate (length oe) 0 → Leaves bytes nodes left counts ars starts s s' out out' r
      unfolding out_after
      over-says q {out'} f = says out' (f ∙ ap (λ (n : ℕ). replicate n 0) h.long_out ∙ ap (out_after out (missing_rows bytes counts ars nodes starts).result) (sym q))

      pub done-leaves : is_err r ≡ false → Leaves bytes nodes left counts ars starts s s' out oe r
      done-leaves n = go r refl
        where
          go : (u : Result Seek TooMuch) → r ≡ u → Leaves bytes nodes left counts ars starts s s' out oe r
          go (Ok v) q = done-says v q
          go (Err t) q = let x : is_err r ≡ true = ap is_err q in clash (cc)

      pub over-leaves : is_err r ≡ true → {out' : List ℕ} → out' ≡ replicate (length oe) 0 → Leaves bytes nodes left counts ars starts s s' out out' r
      over-leaves n {out'} f = go r refl
        where
          go : (u : Result Seek TooMuch) → r ≡ u → Leaves bytes nodes left counts ars starts s s' out out' r
          go (Ok v) q = let x : is_err r ≡ false = ap is_err q in clash (cc)
          go (Err t) q = over-says q f

-- a walk is within all limits exactly when no test of refusal 10 passes
pub found-not : (w : Walk Matrix) → (within 0 max_cells w && leb (nodes_in w.result) max_missing) ≡ not (ltb max_calls w.calls || ltb max_cells w.peak || ltb max_missing (nodes_in w.result))
found-not w = ap₂ ◌&&◌ (within-not w) (test-not (nodes_in w.result) max_missing) ∙ not_or (ltb max_calls w.calls || ltb max_cells w.peak) (ltb max_missing (nodes_in w.result))

-- an answer that is done: nodes, rows and calls are those of `scope`, within all limits
pub record AllFound (w : Walk Matrix) (n k c : ℕ) : Type 0 where
  pub fits : (within 0 max_cells w && leb (nodes_in w.result) max_missing) ≡ true
  pub nodes : n ≡ nodes_in w.result
  pub count : k ≡ length w.result
  pub called : c ≡ w.calls

module _ (bytes : List ℕ) (table : Table) (m : Matrix) (out_end : List ℕ) where
  pub found-done : (v : Seek) → Finds bytes table m out_end (Ok v) → AllFound (collect_missing_patterns table 1 m) v.written v.rows v.calls
  unfolding found_of
  found-done v f = go (within 0 max_cells w && leb (nodes_in w.result) max_missing) refl f.answer
    where
      w : Walk Matrix
      w = collect_missing_patterns table 1 m

      go : (b : Bool) → (within 0 max_cells w && leb (nodes_in w.result) max_missing) ≡ b → ◌≡◌ {A = Step (ℕ × (ℕ × ℕ))} (ok (v.written, (v.rows, v.calls))) (cond b (ok (nodes_in w.result, (length w.result, w.calls))) (refuse 10)) → AllFound w v.written v.rows v.calls
      go true e q =
          let i : ◌≡◌ {A = ℕ × (ℕ × ℕ)} (v.written, (v.rows, v.calls)) (nodes_in w.result, (length w.result, w.calls)) = cc in
          record { fits = e; nodes = ap (λ (x : ℕ × (ℕ × ℕ)). x.0) i; count = ap (λ (x : ℕ × (ℕ × ℕ)). x.1.0) i; called = ap (λ (x : ℕ × (ℕ × ℕ)). x.1.1) i }
      go false e q = clash (cc)

  pub found-over : (t : TooMuch) → Finds bytes table m out_end (Err t) → (within 0 max_cells (collect_missing_patterns table 1 m) && leb (nodes_in (collect_missing_patterns table 1 m).result) max_missing) ≡ false
  unfolding found_of
  found-over t f = go (within 0 max_cells w && leb (nodes_in w.result) max_missing) f.answer
    where
      w : Walk Matrix
      w = collect_missing_patterns table 1 m

      go : (b : Bool) → ◌≡◌ {A = Step (ℕ × (ℕ × ℕ))} (refuse 10) (cond b (ok (nodes_in w.result, (length w.result, w.calls))) (refuse 10)) → b ≡ false
      go true q = clash (cc)
      go false q = refl
