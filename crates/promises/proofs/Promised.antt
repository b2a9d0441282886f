-- Demand 3 holds of the file's own clauses, from what it is of their simplified rows: each fits what its clause takes.
use mathlib.Core.Path.{◌≡◌, refl, ap, subst, ◌∙◌}
use mathlib.Core.List.{List, [], ◌∷◌}
use mathlib.Core.Bool.{Bool, true, false}
use mathlib.Core.Option.{some}
use mathlib.Core.Logic.{◌⊎◌, inl, inr, ◌↔◌}
use Prim.Native.Nat.{ℕ, zero, suc, ◌<◌}
use native.Mathlib.Nat.{le_of_suc-le-suc, not-suc-le-zero}
use native.Mathlib.Omega.{arith}
use lib.ListN.{length, get_or, take}
use lib.Seq.{get_or-take, length-take-le}
use Rattle.scope.specs.Lists.{all}
use Rattle.scope.specs.Lines.{lines}
use Rattle.scope.specs.Types.{Ref, Table}
use Rattle.scope.specs.Patterns.{Raw}
use Rattle.scope.specs.Simplify.{Row, Matrix, simplify}
use Rattle.scope.specs.Blocks.{Block, parsed, block_of}
use Rattle.scope.specs.Driver.{verdicts, gaps}
use Rattle.meaning.specs.Values.{Val, Vals, []ᵛ, ◌∷ᵛ◌, HasTypes, fits, fits_any, is_plain}
use Rattle.meaning.specs.Meaning.{Witness}
use Rattle.meaning.specs.Rows.{Promises}
use Rattle.promises.specs.Clauses.{ClausesOf, TakesAt, OfSubject, Reached, Taken, Uncovered, no_literal, Demand3}
use Rattle.scope.proofs.Tests.{clash, both, and-true, either, or_left, or_right, not-passed}
use Rattle.meaning.proofs.Fitting.{headed}
use Rattle.meaning.proofs.Simplified.{simplify-keeps}
use Rattle.agreement.proofs.Blocks.{Simplifies, no_clauses, also-clause, block-sound}
use Rattle.written.proofs.Fits.{fits-written}
use Rattle.promises.proofs.Own.{clauses-exactly}

-- a value of one type is one value
one_value : {table : Table} {t : Ref} {vs : Vals} → HasTypes table (t ∷ []) vs → (v : Val) × (vs ≡ v ∷ᵛ []ᵛ)
one_value h = let w = headed h in (w.head, w.is ∙ ap (w.head ∷ᵛ◌) (nothing w.left))
  where
    nothing : {table : Table} {ws : Vals} → HasTypes table [] ws → ws ≡ []ᵛ
    nothing HasTypes.no_values = refl

-- some row fits
record FitsAt (m : Matrix) (vs : Vals) : Type 0 where
  row : ℕ
  within : row < length m
  fitting : fits (get_or m row []) vs ≡ true

any-fits : (m : Matrix) (vs : Vals) → fits_any m vs ≡ true → FitsAt m vs
any-fits [] vs h = clash (cc)
any-fits (r ∷ m) vs h = go (either (fits r vs) (fits_any m vs) h) (any-fits m vs)
  where
    go : (fits r vs ≡ true) ⊎ (fits_any m vs ≡ true) → (fits_any m vs ≡ true → FitsAt m vs) → FitsAt (r ∷ m) vs
    go (inl e) more = record { row = 0; within = omega arith; fitting = e }
    go (inr e) more = let w = more e in let l = w.within in record { row = suc w.row; within = omega arith; fitting = w.fitting }

fits-any : (m : Matrix) (vs : Vals) (i : ℕ) → i < length m → fits (get_or m i []) vs ≡ true → fits_any m vs ≡ true
fits-any [] vs i l h = absurd (not-suc-le-zero l)
fits-any (r ∷ m) vs zero l h = or_left (fits_any m vs) h
fits-any (r ∷ m) vs (suc i) l h = or_right (fits r vs) (fits-any m vs i (le_of_suc-le-suc l) h)

-- clause by clause
pub same-many : {table : Table} {t : Ref} {raws : List (List Raw)} {m : Matrix} → Simplifies table t raws m → length m ≡ length raws
same-many no_clauses = refl
same-many (also-clause e k) = ap suc (same-many k)

pub row_of : {table : Table} {t : Ref} {raws : List (List Raw)} {m : Matrix} → Simplifies table t raws m → (i : ℕ) → i < length raws → simplify table t (get_or raws i []) ≡ some (get_or m i [])
row_of no_clauses i l = absurd (not-suc-le-zero l)
row_of (also-clause e k) zero l = e
row_of (also-clause e k) (suc i) l = row_of k i (le_of_suc-le-suc l)

-- without literals: the row of a clause has none
row_plain : (table : Table) (t : Ref) (ps : List Raw) (r : Row) → all no_literal ps ≡ true → simplify table t ps ≡ some r → all is_plain r ≡ true
row_plain = simplify-keeps is_plain no_literal (record { wilds = refl; cons = λ t c. refl; ints = λ n h. clash (cc); strings = λ s h. clash (cc) })

rows-plain : {table : Table} {t : Ref} {raws : List (List Raw)} {m : Matrix} → Simplifies table t raws m → all (all no_literal) raws ≡ true → all (all is_plain) m ≡ true
rows-plain no_clauses h = refl
rows-plain {table} {t} (also-clause {ps = ps} {raws = raws} {r = r} e k) h =
    let w = both (all no_literal ps) (all (all no_literal) raws) h in
    and-true (row_plain table t ps r w.0 e) (rows-plain k w.1)

-- the rows of a block are the file's own clauses, simplified
pub made-from : (file : List ℕ) (b : Block) → block_of (lines file) ≡ parsed b → (clauses : List (List Raw)) → ClausesOf file clauses → Simplifies b.table b.subject clauses b.rows
made-from file b e clauses own = subst (λ (x : List (List Raw)). Simplifies b.table b.subject x b.rows) ((clauses-exactly file clauses).1 own) (block-sound (lines file) b e).rows

-- the promises of a block, over the clauses it is made of
module _ (file : List ℕ) (p : Promises file) (clauses : List (List Raw)) (own : ClausesOf file clauses) where
  made_of : Simplifies p.block.table p.block.subject clauses p.block.rows
  made_of = made-from file p.block p.says clauses own

  many : length p.block.rows ≡ length clauses
  many = same-many made_of

  taken-fits : (v : Val) → OfSubject p.block v → (i : ℕ) → i < length clauses → (fits (get_or p.block.rows i []) (v ∷ᵛ []ᵛ) ≡ true) ↔ TakesAt clauses i v
  taken-fits v h i l = fits-written p.block.table p.block.subject (get_or clauses i []) (get_or p.block.rows i []) v (row_of made_of i l) h

  some-taken : (v : Val) → OfSubject p.block v → (fits_any p.block.rows (v ∷ᵛ []ᵛ) ≡ true) ↔ Taken clauses v
  some-taken v h = (to, back)
    where
      to : fits_any p.block.rows (v ∷ᵛ []ᵛ) ≡ true → Taken clauses v
      to e =
          let w = any-fits p.block.rows (v ∷ᵛ []ᵛ) e in
          let l : w.row < length clauses = omega (arith, w.within, many) in
          record { clause = w.row; within = l; takes = (taken-fits v h w.row l).0 w.fitting }

      back : Taken clauses v → fits_any p.block.rows (v ∷ᵛ []ᵛ) ≡ true
      back t = fits-any p.block.rows (v ∷ᵛ []ᵛ) t.clause (omega (arith, t.within, many)) ((taken-fits v h t.clause t.within).1 t.takes)

  untaken : (v : Val) → OfSubject p.block v → fits_any p.block.rows (v ∷ᵛ []ᵛ) ≡ false → Taken clauses v → ⊥
  untaken v h e t = let i = (some-taken v h).1 t in clash (cc)

  witness_reached : (i : ℕ) → i < length clauses → Witness p.block.table (p.block.subject ∷ []) (take i p.block.rows) (get_or p.block.rows i []) → Reached clauses p.block i
  witness_reached i l w = go (one_value w.typed) w.typed w.fitting w.new
    where
      go : (v : Val) × (w.values ≡ v ∷ᵛ []ᵛ) → HasTypes p.block.table (p.block.subject ∷ []) w.values → fits (get_or p.block.rows i []) w.values ≡ true → fits_any (take i p.block.rows) w.values ≡ false → Reached clauses p.block i
      go x h f n =
          let v = x.0 in
          let t : OfSubject p.block v = rw x.1 at h in
          record {
            value = v;
            typed = t;
            taken = (taken-fits v t i l).0 (rw x.1 at f);
            new = λ j k u.
                let m : j < length clauses = omega arith in
                earlier v (rw x.1 at n) j k (omega (arith, many)) ((taken-fits v t j m).1 u);
          }
        where
          earlier : (v : Val) → fits_any (take i p.block.rows) (v ∷ᵛ []ᵛ) ≡ false → (j : ℕ) → j < i → j < length p.block.rows → fits (get_or p.block.rows j []) (v ∷ᵛ []ᵛ) ≡ true → ⊥
          earlier v e j k m g =
              let y = fits-any (take i p.block.rows) (v ∷ᵛ []ᵛ) j (omega (arith, length-take-le i p.block.rows (omega (arith, many)))) (rw (get_or-take i p.block.rows j [] k) g) in
              clash (cc)

  reached_witness : (i : ℕ) → i < length clauses → Reached clauses p.block i → Witness p.block.table (p.block.subject ∷ []) (take i p.block.rows) (get_or p.block.rows i [])
  reached_witness i l r = record {
    values = r.value ∷ᵛ []ᵛ;
    typed = r.typed;
    fitting = (taken-fits r.value r.typed i l).1 r.taken;
    new = not-passed (fits_any (take i p.block.rows) (r.value ∷ᵛ []ᵛ)) earlier;
  }
    where
      earlier : fits_any (take i p.block.rows) (r.value ∷ᵛ []ᵛ) ≡ true → ⊥
      earlier e =
          let w = any-fits (take i p.block.rows) (r.value ∷ᵛ []ᵛ) e in
          let k : w.row < i = omega (arith, w.within, length-take-le i p.block.rows (omega (arith, many))) in
          r.new w.row k ((taken-fits r.value r.typed w.row (omega arith)).0 (rw (get_or-take i p.block.rows w.row [] k) at w.fitting))

-- within a list the default does not matter
pub within-list : (l : List Bool) (i : ℕ) → i < length l → get_or l i true ≡ get_or l i false
within-list [] i l = absurd (not-suc-le-zero l)
within-list (x ∷ xs) zero l = refl
within-list (x ∷ xs) (suc i) l = within-list xs i (le_of_suc-le-suc l)

-- demand 3
pub demand3 : (file : List ℕ) (p : Promises file) (clauses : List (List Raw)) → ClausesOf file clauses → Demand3 clauses p.block
demand3 file p clauses own = record {
  each = p.each ∙ many file p clauses own;
  reached = reached;
  never = never;
  complete = (λ e v h. (some-taken file p clauses own v h).0 (p.complete.0 e (v ∷ᵛ []ᵛ) h), λ f. p.complete.1 (λ vs h. all_fit vs h f));
  missed = missed;
  once = λ v i j k l f g. p.once (v ∷ᵛ []ᵛ) f.typed i j k l f.fitting g.fitting;
  apart = λ plain v i l f. untaken file p clauses own v f.typed (p.apart (rows-plain (made_of file p clauses own) plain) (v ∷ᵛ []ᵛ) f.typed i l f.fitting);
}
  where
    reached : (i : ℕ) → i < length clauses → (get_or (verdicts p.block) i false ≡ true) ↔ Reached clauses p.block i
    reached i l =
        let r = p.reached i (omega (arith, many file p clauses own)) in
        (λ e. witness_reached file p clauses own i l (r.0 e), λ x. r.1 (reached_witness file p clauses own i l x))

    never : (i : ℕ) → i < length clauses → (get_or (verdicts p.block) i true ≡ false) ↔ (Reached clauses p.block i → ⊥)
    never i l =
        let d = within-list (verdicts p.block) i (omega (arith, p.each, many file p clauses own)) in
        (λ e r. let y = (reached i l).1 r in clash (cc), λ n. d ∙ not-passed (get_or (verdicts p.block) i false) (λ e. n ((reached i l).0 e)))

    all_fit : (vs : Vals) → HasTypes p.block.table (p.block.subject ∷ []) vs → ((v : Val) → OfSubject p.block v → Taken clauses v) → fits_any p.block.rows vs ≡ true
    all_fit vs h f = let x = one_value h in let t : OfSubject p.block x.0 = rw x.1 at h in rw x.1 ((some-taken file p clauses own x.0 t).1 (f x.0 t))

    missed : (i : ℕ) → i < length (gaps p.block) → Uncovered clauses p.block (get_or (gaps p.block) i [])
    missed i l =
        let w = p.missed i l in
        let x = one_value w.typed in
        let t : OfSubject p.block x.0 = rw x.1 at w.typed in
        record { value = x.0; fitting = record { typed = t; fitting = rw x.1 at w.fitting }; free = untaken file p clauses own x.0 t (rw x.1 at w.new) }
