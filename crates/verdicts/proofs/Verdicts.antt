-- The verdicts' lines, verdict by verdict.
use mathlib.Core.Path.{◌≡◌, refl, ap, ap₂, sym, ◌∙◌}
use mathlib.Core.List.{List, [], ◌∷◌, ◌++◌, append_assoc, append-nil}
use mathlib.Core.Bool.{Bool, true, false, cond}
use Prim.Native.Nat.{ℕ, suc, ◌+◌, ◌-◌, ◌<◌}
use native.Mathlib.Nat.{add-zero, add-suc, suc-add}
use native.Mathlib.Omega.{arith}
use native.Mathlib.Numerals.{add-one}
use lib.ListN.{length, get_or, take}
use lib.Seq.{take-suc, length-take-le}
use lib.Dec.{eqb}
use Rattle.std.specs.Prelude.{count_by}
use Rattle.std.proofs.lemmas.List.{length-map, map-append}
use Rattle.std.proofs.lemmas.List.Sums.{sum_by-cons}
use Rattle.scope.specs.Lists.{Text, bytes, bit}
use Rattle.scope.specs.Text.{decimal}
use Rattle.scope.specs.Report.{yeses, noes, as_line, count_line, verdict_word, clause_lines}
use Rattle.writing.specs.declared.Writer.{Writer}
use Rattle.writing.specs.Writing.{Writes}
use Rattle.verdicts.specs.Verdicts.{said, counts_text}
use Rattle.writing.proofs.Writing.{writes_as}
use Rattle.wording.proofs.Wording.{then-numbered, then-ended}

said-next : (vs : List ℕ) (i : ℕ) → i < length vs → said (take (i + 1) vs) ≡ said (take i vs) ++ eqb (get_or vs i 0) 1 ∷ []
said-next vs i h = ap (λ (j : ℕ). said (take j vs)) (add-one i) ∙ ap said (take-suc vs i 0 h) ∙ map-append (λ v. eqb v 1) (take i vs) (get_or vs i 0 ∷ [])

-- those that say yes, counted
pub yeses_counted : (vs : List ℕ) → yeses (said vs) ≡ count_by (λ v. eqb v 1) vs
yeses_counted [] = refl
yeses_counted (v ∷ vs) = ap₂ ◌+◌ (one (eqb v 1)) (yeses_counted vs) ∙ sym (sum_by-cons (λ x. cond (eqb x 1) 1 0) v vs)
  where
    one : (b : Bool) → bit b ≡ cond b 1 0
    one true = refl
    one false = refl

-- every verdict is yes or no
both-counts : (vs : List Bool) → yeses vs + noes vs ≡ length vs
both-counts [] = refl
both-counts (true ∷ vs) = omega (arith, both-counts vs)
both-counts (false ∷ vs) = omega (arith, both-counts vs)

-- both counts, each after its word
pub count_law : {a b c d : Writer} (n y : ℕ)
    → Writes a b (bytes "clauses " ++ decimal n) → Writes b c (bytes " reached " ++ decimal y) → Writes c d (as_line (bytes " never " ++ decimal (n - y))) → Writes a d (counts_text n y)
count_law n y u v w =
    let first = bytes "clauses " ++ decimal n in
    then-ended (first ++ bytes " reached " ++ decimal y) (bytes " never ") (decimal (n - y)) (then-numbered first (bytes " reached ") (decimal y) u v) w

-- the counts of verdicts
pub count-is : (vs : List ℕ) (y : ℕ) → y ≡ yeses (said vs) → counts_text (length vs) y ≡ count_line (said vs)
count-is vs y e =
    let m : length vs - y ≡ noes (said vs) = omega (arith, both-counts (said vs), length-map vs (λ v. eqb v 1)) in
    ap₂ (λ (n k : ℕ). as_line (bytes "clauses " ++ decimal n ++ bytes " reached " ++ decimal k ++ bytes " never " ++ decimal (length vs - y))) (sym (length-map vs (λ v. eqb v 1))) e
    ∙ ap (λ (k : ℕ). as_line (bytes "clauses " ++ decimal (length (said vs)) ++ bytes " reached " ++ decimal (yeses (said vs)) ++ bytes " never " ++ decimal k)) m

-- the line of clause k
abbrev pub clause_text : ℕ → Bool → Text
clause_text k v = as_line (bytes "clause " ++ decimal k ++ verdict_word v)

-- a verdict's word and the line feed are written as one
pub clause_law : {a b : Writer} (k : ℕ) (v : Bool) → Writes a b (bytes "clause " ++ decimal k ++ cond v (bytes " reached\n") (bytes " never\n")) → Writes a b (clause_text k v)
clause_law k v w = writes_as (ap (λ (t : Text). bytes "clause " ++ decimal k ++ t) (word v) ∙ sym (append_assoc (bytes "clause " ++ decimal k) (verdict_word v) (10 ∷ []))) w
  where
    word : (u : Bool) → cond u (bytes " reached\n") (bytes " never\n") ≡ verdict_word u ++ 10 ∷ []
    word true = refl
    word false = refl

lines_snoc : (k : ℕ) (us : List Bool) (v : Bool) → clause_lines k (us ++ v ∷ []) ≡ clause_lines k us ++ clause_text (k + length us) v
lines_snoc k [] v = append-nil (clause_text k v) ∙ ap (λ (j : ℕ). clause_text j v) (sym (add-zero k))
lines_snoc k (u ∷ us) v =
    ap (λ (t : Text). clause_text k u ++ t) (lines_snoc (suc k) us v)
    ∙ sym (append_assoc (clause_text k u) (clause_lines (suc k) us) (clause_text (suc k + length us) v))
    ∙ ap (λ (j : ℕ). clause_text k u ++ clause_lines (suc k) us ++ clause_text j v) (suc-add k (length us) ∙ sym (add-suc k (length us)))

-- one more line
pub lines_next : (vs : List ℕ) (i : ℕ) → i < length vs → clause_lines 1 (said (take i vs)) ++ clause_text (i + 1) (eqb (get_or vs i 0) 1) ≡ clause_lines 1 (said (take (i + 1) vs))
lines_next vs i h =
    let n : i + 1 ≡ 1 + length (said (take i vs)) = omega (arith, length-map (take i vs) (λ v. eqb v 1), length-take-le i vs (omega arith)) in
    ap (λ (j : ℕ). clause_lines 1 (said (take i vs)) ++ clause_text j (eqb (get_or vs i 0) 1)) n ∙ sym (ap (clause_lines 1) (said-next vs i h) ∙ lines_snoc 1 (said (take i vs)) (eqb (get_or vs i 0) 1))
