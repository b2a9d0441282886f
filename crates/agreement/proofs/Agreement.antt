-- On every block of a file the flat definitions agree with the source's functions on the trees of its clauses: from `simplify`, walks and texts.
use mathlib.Core.Path.{◌≡◌, refl, ap₂}
use mathlib.Core.List.{List, [], ◌∷◌, ◌++◌, map}
use mathlib.Core.Bool.{Bool}
use Prim.Native.Nat.{ℕ, zero, suc, ◌≤◌, ◌<◌}
use native.Mathlib.Nat.{mul-le-mul_right}
use native.Mathlib.Omega.{arith}
use lib.ListN.{length, get_or, take, drop}
use lib.Seq.{append_snoc, split_at}
use Rattle.scope.specs.Lists.{Text}
use Rattle.scope.specs.Lines.{lines}
use Rattle.scope.specs.Types.{Ref, Table}
use Rattle.scope.specs.Patterns.{Raw}
use Rattle.scope.specs.Simplify.{Row, Matrix}
use Rattle.scope.specs.Walks.{Walk, turned, joined, ctors_in, weight, widest, cost, is_useful}
use Rattle.scope.specs.Text.{source, alone, pretty_at}
use Rattle.scope.specs.Blocks.{Block, parsed, block_of}
use Rattle.scope.specs.Driver as driver
use Rattle.source.specs.Source as rust
use Rattle.agreement.specs.Trees as typed
use Rattle.source.specs.Source.{Patterns, []ᵖ, ◌∷ᵖ◌, Panic}
use Rattle.agreement.specs.Trees.{pretty_args, pretty_each, TypedPattern}
use Rattle.agreement.specs.Agreement as agreement
use Rattle.source.specs.Shows.{Shows, ShowsRows, no_rows, also}
use Rattle.agreement.specs.Agreement.{written, SourceAgrees}
use Rattle.laws.proofs.Costs.{sum_append}
use Rattle.source.proofs.Rows.{Named, shows_len, rows_append}
use Rattle.source.proofs.Walks.{useful_agrees, missing-agrees}
use Rattle.agreement.proofs.Raws.{clauses_in}
use Rattle.agreement.proofs.Texts.{Proper, pretty-agrees, FreeRows, and-row, all-free}
use Rattle.agreement.proofs.Clauses.{simplify-shows}
use Rattle.agreement.proofs.Tables.{proper}
use Rattle.agreement.proofs.Blocks.{Simplifies, no_clauses, also-clause, block-sound}

-- the trees of a block's clauses
record Trees (table : Table) (t : Ref) (raws : List (List Raw)) (m : Matrix) : Type 0 where
  trees : List TypedPattern
  as_written_lem : map written trees ≡ raws
  shown : (panic : Panic) → ShowsRows table (t ∷ []) m (map (λ p. typed.simplify panic table t p ∷ᵖ []ᵖ) trees)

trees_of : {table : Table} {t : Ref} {raws : List (List Raw)} {m : Matrix} → Simplifies table t raws m → Trees table t raws m
trees_of no_clauses = record { trees = []; as_written_lem = refl; shown = λ panic. no_rows }
trees_of {table} {t} (also-clause {ps = ps} {r = r} e k) =
    let c = simplify-shows table t ps r e in
    let s = trees_of k in
    record { trees = c.tree ∷ s.trees; as_written_lem = ap₂ ◌∷◌ c.as_written_lem s.as_written_lem; shown = λ panic. also (c.shown panic) (s.shown panic) }

-- a clause costs no more against those before it than all clauses do
cheaper : (table : Table) (before : Matrix) (r : Row) (rs : Matrix) → cost table 1 (r ∷ before) ≤ cost table 1 (before ++ r ∷ rs)
unfolding cost
cheaper table before r rs =
    let h : weight (r ∷ before) ≤ weight (before ++ r ∷ rs) = omega (arith, sum_append ctors_in before (r ∷ rs)) in
    omega (arith, mul-le-mul_right (suc (widest table)) h)

rows_take : {table : Table} {ts : List Ref} {m : Matrix} {ps : rust.Matrix} (i : ℕ) → ShowsRows table ts m ps → ShowsRows table ts (take i m) (take i ps)
rows_take zero h = no_rows
rows_take (suc i) no_rows = no_rows
rows_take (suc i) (also h k) = also h (rows_take i k)

rows_at : {table : Table} {ts : List Ref} {m : Matrix} {ps : rust.Matrix} (i : ℕ) → ShowsRows table ts m ps → i < length m → Shows table ts (get_or m i []) (get_or ps i []ᵖ)
rows_at i no_rows l = absurd (omega arith)
rows_at zero (also h k) l = h
rows_at (suc i) (also h k) l = rows_at i k (omega arith)

each-agrees : (panic : Panic) (table : Table) → Named table → (t : Ref) (fuel : ℕ) {m : Matrix} {ps : rust.Matrix} → ShowsRows table (t ∷ []) m ps → cost table 1 m < fuel
    → (i : ℕ) → i < length m → is_useful table 1 (take i m) (get_or m i []) ≡ rust.is_useful panic fuel (take i ps) (get_or ps i []ᵖ)
each-agrees panic table named t fuel {m} h l i k =
    let c : cost table 1 (get_or m i [] ∷ take i m) ≤ cost table 1 m = rw (← split_at m i [] k) at (cheaper table (take i m) (get_or m i []) (drop (suc i) m)) in
    useful_agrees panic table named fuel (rows_take i h) (rows_at i h k) (omega arith)

judged-agrees : (panic : Panic) (table : Table) → Named table → (t : Ref) (fuel : ℕ) (before : Matrix) (ps : rust.Matrix) {rs : Matrix} {qs : rust.Matrix} → ShowsRows table (t ∷ []) before ps → ShowsRows table (t ∷ []) rs qs → cost table 1 (before ++ rs) < fuel
    → driver.judged table before rs ≡ agreement.judged_by_source panic fuel ps qs
unfolding driver.judged agreement.judged_by_source
judged-agrees panic table named t fuel before ps h no_rows l = refl
judged-agrees panic table named t fuel before ps h (also {r = r} {p = p} {m = rs} i k) l =
    ap₂ (λ (w : Walk Bool) (v : Walk (List Bool)). joined ◌++◌ (turned (◌∷ []) w) v)
    (useful_agrees panic table named fuel h i (omega (arith, cheaper table before r rs)))
    (judged-agrees panic table named t fuel (before ++ r ∷ []) (ps ++ p ∷ []) (rows_append table h (also i no_rows)) k (rw (append_snoc before r rs) l))

-- each missing row is one pattern, and its text is that pattern's
texts-agree : {table : Table} {t : Ref} {m : Matrix} {ps : rust.Matrix} (panic : Panic) → Proper table → ShowsRows table (t ∷ []) m ps → FreeRows m → map (pretty_at source table alone) m ≡ pretty_each panic (rust.flatten ps)
unfolding pretty_args
texts-agree panic good no_rows f = refl
texts-agree {table} {t} panic good (also {r = r} {p = p} {m = m} {ps = ps} h k) (and-row f fs) = go p h (shows_len table h) (texts-agree panic good k fs)
  where
    texts : rust.Matrix → List Text
    texts qs = pretty_each panic (rust.flatten qs)

    go : (q : Patterns) → Shows table (t ∷ []) r q → rust.len q ≡ 1 → map (pretty_at source table alone) m ≡ texts ps → pretty_at source table alone r ∷ map (pretty_at source table alone) m ≡ texts (q ∷ ps)
    go []ᵖ i e deeper = absurd (omega arith)
    go (x ∷ᵖ []ᵖ) i e deeper = ap₂ ◌∷◌ (pretty-agrees panic table good i f) deeper
    go (x ∷ᵖ y ∷ᵖ q) i e deeper = absurd (omega arith)

pub source-agrees : (file : List ℕ) (b : Block) → block_of (lines file) ≡ parsed b → SourceAgrees (clauses_in (lines file)) b
unfolding driver.findings
source-agrees file b e =
    let k = block-sound (lines file) b e in
    let good = proper k.table in
    let s = trees_of k.rows in
    record {
      trees = s.trees;
      as_written = s.as_written_lem;
      agrees = λ panic fuel l.
          let missing = missing-agrees panic b.table good.named fuel (s.shown panic) l in
          record {
            rows = s.shown panic;
            each = each-agrees panic b.table good.named b.subject fuel (s.shown panic) l;
            reached = judged-agrees panic b.table good.named b.subject fuel [] [] no_rows (s.shown panic) l;
            missing = missing;
            texts = texts-agree panic good missing.rows (all-free b.table 1 b.rows);
          };
    }
