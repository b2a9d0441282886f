-- Request 7 holds of every review: from what the rows of a file cost, and from the words of a report.
use mathlib.Core.Path.{◌≡◌, refl, ap, ap₂, sym, ◌∙◌}
use mathlib.Core.List.{List, [], ◌∷◌, ◌++◌, map, append_assoc}
use mathlib.Core.Bool.{true}
use mathlib.Core.Option.{some}
use Prim.Native.Nat.{ℕ, zero, suc, ◌+◌, ◌*◌, ◌≤◌, ◌<◌}
use native.Mathlib.Nat.{suc-mul}
use native.Mathlib.Omega.{arith}
use lib.ListN.{length, get_or, take, drop, length-append}
use lib.Seq.{take-length, take-append_seam, get_or-append_seam}
use Rattle.scope.specs.Lists.{Text, all}
use Rattle.scope.specs.Types.{Table}
use Rattle.scope.specs.Simplify.{Matrix}
use Rattle.scope.specs.Frames.{is_digit}
use Rattle.scope.specs.Text.{decimal}
use Rattle.scope.specs.Driver.{judged, gaps}
use Rattle.meaning.specs.Costs.{row_walk, missing_walk, calls_to, FlatSubject, Costs}
use Rattle.promises.specs.Words.{count_text, gaps_text, pair_texts, calls_text}
use Rattle.promises.specs.Reviews.{Review, the_block, the_rows, the_clauses}
use Rattle.promises.specs.Cheap.{CallsAre, Counted, OneMore, GrowsBy, Request7}
use Rattle.scope.proofs.Tests.{clash, both}
use Rattle.meaning.proofs.Decimals.{decimal-names, decimal-all-digits}
use Rattle.scope.proofs.Calls.{few-calls}
use Rattle.meaning.proofs.Costs.{costs_of_rows}
use Rattle.meaning.proofs.Tight.{tight}
use Rattle.written.proofs.Solid.{solid-rows}
use Rattle.promises.proofs.Promised.{same-many, row_of}
use Rattle.promises.proofs.Reviews.{says_in, made, lists, meant_in, one-meant, other-meant, taken, gets}

-- a number in front of a blank ends there
before-blank : (s t x y : Text) → all is_digit s ≡ true → all is_digit t ≡ true → s ++ 32 ∷ x ≡ t ++ 32 ∷ y → (s ≡ t) × (x ≡ y)
before-blank [] [] x y h k e = (refl, cc)
before-blank [] (d ∷ t) x y h k e = let i : d ≡ 32 = cc in let j = rw i at (both (is_digit d) (all is_digit t) k).0 in clash (cc)
before-blank (c ∷ s) [] x y h k e = let i : c ≡ 32 = cc in let j = rw i at (both (is_digit c) (all is_digit s) h).0 in clash (cc)
before-blank (c ∷ s) (d ∷ t) x y h k e =
    let head : c ≡ d = cc in
    let rest = before-blank s t x y (both (is_digit c) (all is_digit s) h).1 (both (is_digit d) (all is_digit t) k).1 (cc) in
    (ap₂ ◌∷◌ head rest.0, rest.1)

-- the line of calls names its numbers
calls-name : (a b c d : ℕ) → calls_text a b ≡ calls_text c d → (a ≡ c) × (b ≡ d)
calls-name a b c d e =
    let f = sym (append_assoc (decimal a) (32 ∷ []) (decimal b)) ∙ ap (drop 6) e ∙ append_assoc (decimal c) (32 ∷ []) (decimal d) in
    let g = before-blank (decimal a) (decimal c) (decimal b) (decimal d) (decimal-all-digits a) (decimal-all-digits c) f in
    (decimal-names a c g.0, decimal-names b d g.1)

-- a list has one last element
same-last : (xs ys : List Text) (x y : Text) → xs ++ x ∷ [] ≡ ys ++ y ∷ [] → x ≡ y
same-last xs ys x y e =
    let l : length xs ≡ length ys = omega (arith, ap length e, length-append xs (x ∷ []), length-append ys (y ∷ [])) in
    sym (get_or-append_seam xs x [] []) ∙ ap₂ (λ (ls : List Text) (n : ℕ). get_or ls n []) e l ∙ get_or-append_seam ys y [] []

one_last : {r : Review} {a b c d : ℕ} → CallsAre r a b → CallsAre r c d → (a ≡ c) × (b ≡ d)
one_last {a = a} {b = b} {c = c} {d = d} h k = calls-name a b c d (same-last h.above k.above (calls_text a b) (calls_text c d) (sym h.last ∙ k.last))

module _ (r : Review) where
  costs : Costs (the_block r)
  costs = costs_of_rows r.file (the_block r) (says_in r)

  abbrev first_calls : ℕ
  first_calls = calls_to (the_block r) (length (the_rows r))

  abbrev second_calls : ℕ
  second_calls = (missing_walk (the_block r)).calls

  summed : CallsAre r first_calls second_calls
  summed =
      let w = r.report.words in
      let top = count_text (length (the_clauses r)) w.reached w.never in
      let below = gaps_text (length (gaps (the_block r))) ∷ pair_texts (the_block r).table (gaps (the_block r)) in
      let numbers = ap₂ calls_text costs.first costs.second in
      record {
        above = top ∷ (w.verdict_texts ++ below);
        last = w.whole ∙ ap (top ∷◌) (sym (append_assoc w.verdict_texts below _)) ∙ sym (ap (λ (t : Text). top ∷ (w.verdict_texts ++ below ++ t ∷ [])) numbers);
      }

  counted : Counted r
  counted = record {
    listed = λ i l. (lists r i l (row_walk (the_block r) i).result).1 (sym (costs.judges i (omega (arith, same-many (made r)))));
    summed = summed;
    no_other = λ first second h. one_last h summed;
  }

  -- with a flat subject
  flat_sum : (k : ℕ) → FlatSubject (the_block r) k → (i : ℕ) → i ≤ length (the_rows r) → calls_to (the_block r) i ≤ i * (k + 1)
  flat_sum k f zero l = omega arith
  flat_sum k f (suc i) l = omega (arith, suc-mul i (k + 1), flat_sum k f i (omega arith), costs.flat_row k f i l)

  flat_report_lem : (k first second : ℕ) → FlatSubject (the_block r) k → CallsAre r first second → (first ≤ length (the_clauses r) * (k + 1)) × (second ≤ k + 1)
  flat_report_lem k first second f h =
      let e = one_last h summed in
      (rw (e.0, ← same-many (made r)) (flat_sum k f (length (the_rows r)) (omega arith)), rw e.1 (costs.flat_missing k f))

-- in two tables that are the same
same-judged : {table table' : Table} {m m' : Matrix} → table ≡ table' → m ≡ m' → (judged table [] m).calls ≡ (judged table' [] m').calls
same-judged e f = rw (e, f)

some_same : (m n : Matrix) → map some m ≡ map some n → m ≡ n
some_same [] [] e = refl
some_same [] (q ∷ n) e = clash (cc)
some_same (r ∷ m) [] e = clash (cc)
some_same (r ∷ m) (q ∷ n) e =
    let head : r ≡ q = cc in
    let rest : map some m ≡ map some n = cc in
    ap₂ ◌∷◌ head (some_same m n rest)

-- the first number grows by what the last row takes
module _ (r s : Review) (o : OneMore r s) where
  abbrev place : ℕ
  place = length (the_clauses r)

  within : place < length (the_clauses s)
  within = omega (arith, ap length o.clauses, length-append (the_clauses r) (o.clause ∷ []))

  before : take place (the_rows s) ≡ the_rows r
  before =
      let t = o.types in
      let same = ap (take place) o.clauses ∙ take-append_seam (the_clauses r) (o.clause ∷ []) in
      some_same (take place (the_rows s)) (the_rows r) (taken r s t s (other-meant r s t) place ∙ ap (meant_in r s t) same ∙ sym (one-meant r s t))

  sooner : calls_to (the_block s) place ≡ first_calls r
  sooner =
      (costs s).sooner place (omega (arith, within, same-many (made s)))
      ∙ same-judged (sym o.types.types) (before ∙ sym (take-length (the_rows r)))
      ∙ sym ((costs r).sooner (length (the_rows r)) (omega arith))

  long : length (the_rows s) ≡ suc place
  long = omega (arith, same-many (made s), ap length o.clauses, length-append (the_clauses r) (o.clause ∷ []))

  grows_by : (most : ℕ) → (row_walk (the_block s) place).calls ≤ most → GrowsBy r s most
  grows_by most h first second first' second' one other =
      let e = one_last one (summed r) in
      let f = one_last other (summed s) in
      omega (arith, e.0, f.0, ap (calls_to (the_block s)) long, sooner)

pub request_7 : Request7
request_7 = record {
  costs = costs;
  counted = counted;
  gets = gets;
  written = λ r i N l h. solid-rows (the_block r).table (the_block r).subject (get_or (the_clauses r) i []) (get_or (the_rows r) i []) N (row_of (made r) i l) h;
  flat_report = flat_report_lem;
  solid_asked = λ r s N o h. grows_by r s o (N + 1) ((costs s).solid (length (the_clauses r)) N (omega (arith, long r s o)) h);
  flat_asked = λ r s k o f. grows_by r s o (k + 1) ((costs s).flat_row k f (length (the_clauses r)) (omega (arith, long r s o)));
  any_rows = few-calls;
  tight = tight;
}
