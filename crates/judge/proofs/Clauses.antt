-- A clause against those before it, and the clauses one after another under the limits.
use mathlib.Core.Path.{◌≡◌, refl, sym, ap, ap₂, subst, subst₂, ◌∙◌}
use mathlib.Core.Bool.{Bool, true, false}
use mathlib.Core.List.{List, [], ◌∷◌, ◌++◌, map, map-append}
use Prim.Native.Nat.{ℕ, zero, suc, ◌+◌, ◌-◌, ◌≤◌, ◌<◌}
use native.Mathlib.Nat.{zero-add, suc-add}
use native.Mathlib.Numerals.{add-one}
use native.Mathlib.Omega.{arith}
use lib.ListN.{length, get_or, take, drop, set, length-append, length-map}
use lib.Seq.{length-take-le, take_at, get_or-take, sets}
use Rattle.cells.proofs.Laws.{sets-sets}
use Rattle.scope.specs.Lists.{bit}
use Rattle.scope.specs.Walks.{Walk}
use Rattle.scope.proofs.Tests.{clash}
use Rattle.walks.specs.Walks.{useful_of}
use Rattle.matrix.specs.Numbers.{matrix}
use Rattle.matrix.specs.Places.{Places, Patterned, Sizes, Start, Starts}
use Rattle.walks.specs.Limits.{within}
use Rattle.useful.specs.Ready.{limited, new_row, Ready}
use Rattle.judge.specs.Driver.{clause_walk, judged_to, answered, written}
use Rattle.scope.specs.Blocks.{ok, refuse}
use Rattle.walks.proofs.Limits.{within_both, past-calls, past-cells, within-cases}
use Rattle.useful.proofs.Limits.{IsDone, done-is, over-is}
use Rattle.matrix.proofs.Specialised.{patterned-at, start-places, start-rows}
use Rattle.matrix.proofs.Fronts.{part, front_length}

-- a clause's walk
module _ (bytes nodes left counts ars starts : List ℕ) (sz : Sizes nodes ars) (st : Starts nodes left counts ars starts) (k p : ℕ) (s e : List ℕ) (low : k < length starts) (few : k ≤ 64) (big : 16384 ≤ length s) (pe : p ≡ get_or starts k 0) (ee : e ≡ take k starts ++ drop k s) where
  first : take k e ≡ take k starts
  first = ap (take k) ee ∙ take_at (take k starts) (drop k s) k (length-take-le k starts (omega arith))

  begun : (i : ℕ) → i < length (take k starts) → Start nodes left counts ars (get_or (take k starts) i 0)
  begun i lt =
      let lk : i < k = omega (arith, length-take-le k starts (omega arith)) in
      subst (Start nodes left counts ars) (sym (get_or-take k starts i 0 lk)) (st.each i (omega arith))

  rest : take (length nodes - p) (drop p nodes) ≡ drop (get_or starts k 0) nodes
  rest = part nodes p ∙ ap (λ (x : ℕ). drop x nodes) pe

  pub clause-ready : Ready nodes left counts ars (take (length nodes - p) (drop p nodes)) 0 1 e k 16384
  clause-ready =
      let h = st.each k low in
      let one : get_or left (get_or starts k 0) 0 ≡ 1 - 0 = h.one in
      record {
        sizes = sz;
        places = subst (Places nodes left counts ars 1) (sym first) (start-places nodes left counts ars (take k starts) begun);
        pats = subst₂ (Patterned ars) (sym rest) one (patterned-at nodes left counts ars h.runs);
        inside = omega arith;
        low = few;
        space = omega (arith, ap length ee, front_length starts s k (omega arith) (omega arith));
        cap = omega arith;
        wide = omega arith;
      }

  pub clause-is : useful_of bytes counts ars 1 (matrix nodes left 1 (take k e)) (new_row 0 (take (length nodes - p) (drop p nodes))) ≡ clause_walk bytes counts ars nodes starts k
  clause-is = ap₂ (useful_of bytes counts ars 1) (ap (matrix nodes left 1) first ∙ start-rows nodes left counts ars (take k starts) begun) rest

-- walks one after another, each over the one before it
pub record Rising (f : ℕ → Walk (List Bool)) : Type 0 where
  pub calls : (k : ℕ) → (f k).calls ≤ (f (suc k)).calls
  pub peak : (k : ℕ) → (f k).peak ≤ (f (suc k)).peak

-- what is written, where the first k clauses are within the limits
pub written-whole : (f : ℕ → Walk (List Bool)) (k : ℕ) → (k ≡ 0 → (f k).result ≡ []) → within 0 16384 (f k) ≡ true → written f k ≡ (f k).result
unfolding written
written-whole f zero z e = sym (z refl)
written-whole f (suc k) z e = rw e

-- what is past a limit stays so
module _ (f : ℕ → Walk (List Bool)) (up : Rising f) where
  past_next : (k : ℕ) → within 0 16384 (f k) ≡ false → within 0 16384 (f (suc k)) ≡ false
  past_next k e = within-cases 0 16384 (f k)
      (λ p q. clash (cc (within_both 0 16384 (f k) p q)))
      (λ p. past-calls 0 16384 (f (suc k)) (omega (arith, up.calls k)))
      (λ p. past-cells 0 16384 (f (suc k)) (omega (arith, up.peak k)))

  past_more : (k j : ℕ) → within 0 16384 (f (suc k)) ≡ false → within 0 16384 (f (suc (j + k))) ≡ false
  past_more k zero e = subst (λ (i : ℕ). within 0 16384 (f (suc i)) ≡ false) (sym (zero-add k)) e
  past_more k (suc j) e = subst (λ (i : ℕ). within 0 16384 (f (suc i)) ≡ false) (sym (suc-add j k)) (past_next (suc (j + k)) (past_more k j e))

  -- the answer, and what is written, where clause k is too much
  written-more : (k j : ℕ) → within 0 16384 (f (suc k)) ≡ false → written f (suc (j + k)) ≡ written f k
  unfolding written
  written-more k zero e = rw (past_more k zero e) (ap (written f) (zero-add k))
  written-more k (suc j) e = rw (past_more k (suc j) e) (ap (written f) (suc-add j k) ∙ written-more k j e)

  pub over-at : (k n : ℕ) → k < n → (k ≡ 0 → (f k).result ≡ []) → within 0 16384 (f k) ≡ true → within 0 16384 (f (suc k)) ≡ false
      → (refuse 10 ≡ answered (f n)) × (written f n ≡ (f k).result)
  unfolding answered
  over-at k n lt z w e =
      let same : suc (n - suc k + k) ≡ n = omega arith in (
        subst (λ (i : ℕ). refuse 10 ≡ answered (f i)) same (rw (past_more k (n - suc k) e)),
        subst (λ (i : ℕ). written f i ≡ (f k).result) same (written-more k (n - suc k) e ∙ written-whole f k z w),
      )

  pub done_at : (n : ℕ) → within 0 16384 (f n) ≡ true → ok (f n).calls ≡ answered (f n)
  unfolding answered
  done_at n w = rw w

module _ (bytes cs ars nodes starts : List ℕ) where
  pub rising : Rising (judged_to bytes cs ars nodes starts)
  unfolding judged_to
  rising = record { calls = λ k. omega arith; peak = λ k. omega arith }

  pub none_yet : (k : ℕ) → k ≡ 0 → (judged_to bytes cs ars nodes starts k).result ≡ []
  unfolding judged_to
  none_yet zero e = refl
  none_yet (suc k) e = absurd (omega arith)

  judged-length : (k : ℕ) → length (judged_to bytes cs ars nodes starts k).result ≡ k
  unfolding judged_to
  judged-length zero = refl
  judged-length (suc k) = length-append (judged_to bytes cs ars nodes starts k).result ((clause_walk bytes cs ars nodes starts k).result ∷ []) ∙ omega (arith, judged-length k)

  -- where the driver stands before clause k
  pub record Before (k calls : ℕ) (v₀ v : List ℕ) : Type 0 where
    pub called : calls ≡ (judged_to bytes cs ars nodes starts k).calls
    pub few : calls ≤ 65536
    pub fits : (judged_to bytes cs ars nodes starts k).peak ≤ 16384
    pub verdicts : v ≡ sets v₀ 0 (map bit (judged_to bytes cs ars nodes starts k).result)

  pub before-none : (v : List ℕ) → Before 0 0 v v
  unfolding judged_to
  before-none v = record { called = refl; few = omega arith; fits = omega arith; verdicts = refl }

  module _ (k calls : ℕ) (v₀ v : List ℕ) (b : Before k calls v₀ v) where
    pub before-within : within 0 16384 (judged_to bytes cs ars nodes starts k) ≡ true
    before-within = within_both 0 16384 (judged_to bytes cs ars nodes starts k) (omega (arith, b.called, b.few)) b.fits

    place : k ≡ 0 + length (map bit (judged_to bytes cs ars nodes starts k).result)
    place = sym (zero-add (length (map bit (judged_to bytes cs ars nodes starts k).result)) ∙ length-map (judged_to bytes cs ars nodes starts k).result bit ∙ judged-length k)

    next : (y : Bool) (d x : ℕ) (v' : List ℕ) → IsDone calls 16384 (clause_walk bytes cs ars nodes starts k) y d → x ≡ bit y → v' ≡ set v k x → Before (suc k) d v₀ v'
    unfolding judged_to
    next y d x v' i xe ve = record {
      called = omega (arith, i.called, b.called);
      few = i.few;
      fits = omega (arith, i.fits, b.fits);
      verdicts =
          ve ∙ ap₂ (λ (l : List ℕ) (z : ℕ). set l k z) b.verdicts (xe ∙ ap bit (sym i.answer))
          ∙ ap (λ (j : ℕ). set (sets v₀ 0 (map bit (judged_to bytes cs ars nodes starts k).result)) j (bit (clause_walk bytes cs ars nodes starts k).result)) place
          ∙ sets-sets (map bit (judged_to bytes cs ars nodes starts k).result) (bit (clause_walk bytes cs ars nodes starts k).result ∷ []) v₀ 0
          ∙ ap (sets v₀ 0) (sym (map-append bit (judged_to bytes cs ars nodes starts k).result ((clause_walk bytes cs ars nodes starts k).result ∷ [])));
    }

    -- one clause more
    pub before-next : (y : Bool) (d x : ℕ) (v' : List ℕ) → ok (y, d) ≡ limited calls 16384 (clause_walk bytes cs ars nodes starts k) → x ≡ bit y → v' ≡ set v k x → Before (k + 1) d v₀ v'
    before-next y d x v' e xe ve = subst (λ (j : ℕ). Before j d v₀ v') (sym (add-one k)) (next y d x v' (done-is calls 16384 (clause_walk bytes cs ars nodes starts k) y d e) xe ve)

    -- a clause that is too much
    pub before-over : refuse 10 ≡ limited calls 16384 (clause_walk bytes cs ars nodes starts k) → within 0 16384 (judged_to bytes cs ars nodes starts (suc k)) ≡ false
    unfolding judged_to
    before-over e =
        let o = judged_to bytes cs ars nodes starts (suc k) in
        let out = over-is calls 16384 (clause_walk bytes cs ars nodes starts k) e in
        within-cases calls 16384 (clause_walk bytes cs ars nodes starts k)
        (λ p q. clash (cc (within_both calls 16384 (clause_walk bytes cs ars nodes starts k) p q)))
        (λ p. past-calls 0 16384 o (omega (arith, b.called)))
        (λ p. past-cells 0 16384 o (omega arith))
