-- The driver on numbers is the driver of `scope`, for every block that the slices hold; and what its answer says.
use mathlib.Core.Path.{◌≡◌, refl, sym, ap, ap₂, ◌∙◌}
use mathlib.Core.Bool.{Bool, true, false, cond}
use mathlib.Core.List.{List, [], ◌∷◌, ◌++◌, map}
use Prim.Native.Nat.{ℕ, zero, suc, ◌≤◌, ◌<◌}
use native.Mathlib.Omega.{arith}
use lib.ListN.{length, get_or, take, drop}
use lib.Seq.{sets, take-suc, take-length, length-take-le, get_or-take}
use Rattle.scope.specs.Limits.{max_cells}
use Rattle.scope.specs.Lists.{bit}
use Rattle.scope.specs.Types.{Ref, Table}
use Rattle.scope.specs.Simplify.{Matrix}
use Rattle.scope.specs.Walks.{Walk, turned, joined, is_useful}
use Rattle.scope.specs.Driver.{judged}
use Rattle.scope.proofs.Tests.{clash}
use Rattle.scope.proofs.Driver.{judged-snoc}
use Rattle.scope.specs.Blocks.{ok, refuse}
use Rattle.std.specs.Prelude.{Result, Ok, Err, IsErr}
use Rattle.outcomes.specs.declared.TooMuch.{TooMuch}
use Rattle.walks.specs.Limits.{within}
use Rattle.judge.specs.Driver.{said_judged, clause_walk, judged_to, answered, written, Judges, JudgesAll}
use Rattle.walks.specs.Bridge.{Says, SayRows, Holding}
use Rattle.judge.proofs.Clauses.{written-whole}
use Rattle.walks.proofs.BridgeUseful.{same_useful}
use Rattle.walks.proofs.BridgeTable.{clause-says, rows_at}

module _ (bytes kinds nodes left counts ars starts : List ℕ) (table : Table) (t : Ref) (m : Matrix) (holds : Holding bytes kinds nodes left counts ars starts table t m) (low : length ars < 32768) where
  before-says : (k : ℕ) → k < length m → SayRows bytes table (t ∷ []) (map (λ p. drop p nodes) (take k starts)) (take k m)
  before-says k l =
      let lm : length (take k m) ≡ k = length-take-le k m (omega arith) in
      let ls : length (take k starts) ≡ k = length-take-le k starts (omega (arith, holds.rows.many)) in
      rows_at bytes nodes table (t ∷ []) (take k starts) (take k m) (ls ∙ sym lm) (λ i li. each i (omega arith))
    where
      each : (i : ℕ) → i < k → Says bytes table (t ∷ []) (drop (get_or (take k starts) i 0) nodes) (get_or (take k m) i [])
      each i li = rw (get_or-take k starts i 0 li, get_or-take k m i [] li) (clause-says bytes kinds nodes left counts ars starts table t m holds low i (omega arith))

  clause-is : (k : ℕ) → k < length m → clause_walk bytes counts ars nodes starts k ≡ is_useful table 1 (take k m) (get_or m k [])
  clause-is k l = same_useful bytes kinds counts ars table holds.shape low (t ∷ []) (map (λ p. drop p nodes) (take k starts)) (take k m) (drop (get_or starts k 0) nodes) (get_or m k []) (before-says k l) (clause-says bytes kinds nodes left counts ars starts table t m holds low k l)

  pub judged-is : (k : ℕ) → k ≤ length m → judged_to bytes counts ars nodes starts k ≡ judged table [] (take k m)
  unfolding judged_to judged
  judged-is zero l = refl
  judged-is (suc k) l =
      ap₂ (λ (w : Walk (List Bool)) (v : Walk Bool). joined ◌++◌ w (turned (◌∷ []) v)) (judged-is k (omega arith)) (clause-is k l)
      ∙ sym (ap (judged table []) (take-suc m k [] l) ∙ judged-snoc table (take k m) [] (get_or m k []))

  written_is : (k : ℕ) → k ≤ length m → written (judged_to bytes counts ars nodes starts) k ≡ written (λ j. judged table [] (take j m)) k
  unfolding written
  written_is zero l = refl
  written_is (suc k) l = ap₂ (λ (w : Walk (List Bool)) (v : List Bool). cond (within 0 max_cells w) w.result v) (judged-is (suc k) l) (written_is k (omega arith))

  -- what `judge` answers is what the driver of `scope` finds under the limits
  pub judges : (v₀ v : List ℕ) (r : Result ℕ TooMuch) → said_judged r ≡ answered (judged_to bytes counts ars nodes starts (length starts)) → v ≡ sets v₀ 0 (map bit (written (judged_to bytes counts ars nodes starts) (length starts))) → Judges table m v₀ v r
  judges v₀ v r e f = record {
    answer = e ∙ ap (λ (k : ℕ). answered (judged_to bytes counts ars nodes starts k)) holds.rows.many ∙ ap answered (judged-is (length m) (omega arith) ∙ ap (judged table []) (take-length m));
    verdicts = f ∙ ap (λ (k : ℕ). sets v₀ 0 (map bit (written (judged_to bytes counts ars nodes starts) k))) holds.rows.many ∙ ap (λ (l : List Bool). sets v₀ 0 (map bit l)) (written_is (length m) (omega arith));
  }

-- an error is 10
pub said-err : (r : Result ℕ TooMuch) → IsErr r → said_judged r ≡ refuse 10
said-err (Ok calls) h = cc
said-err (Err e) h = refl

-- an answer that is done: the calls, and all verdicts
pub record AllDone (table : Table) (m : Matrix) (v₀ v : List ℕ) (calls : ℕ) : Type 0 where
  pub fits : within 0 max_cells (judged table [] m) ≡ true
  pub called : calls ≡ (judged table [] m).calls
  pub verdicts : v ≡ sets v₀ 0 (map bit (judged table [] m).result)

module _ (table : Table) (m : Matrix) (v₀ v : List ℕ) where
  pub judged-done : (calls : ℕ) → Judges table m v₀ v (Ok calls) → AllDone table m v₀ v calls
  unfolding answered judged
  judged-done calls j = go (within 0 max_cells (judged table [] m)) refl j.answer
    where
      whole : judged table [] (take (length m) m) ≡ judged table [] m
      whole = ap (judged table []) (take-length m)

      go : (b : Bool) → within 0 max_cells (judged table [] m) ≡ b → ok calls ≡ cond b (ok (judged table [] m).calls) (refuse 10) → AllDone table m v₀ v calls
      go false e q = clash (cc)
      go true e q = record {
        fits = e;
        called = cc;
        verdicts =
            j.verdicts
            ∙ ap (λ (l : List Bool). sets v₀ 0 (map bit l))
            (written-whole (λ k. judged table [] (take k m)) (length m) (λ z. ap (λ (k : ℕ). (judged table [] (take k m)).result) z) (ap (within 0 max_cells) whole ∙ e) ∙ ap (λ (w : Walk (List Bool)). w.result) whole);
      }

  pub judged-over : (e : TooMuch) → Judges table m v₀ v (Err e) → within 0 max_cells (judged table [] m) ≡ false
  unfolding answered
  judged-over e j = go (within 0 max_cells (judged table [] m)) j.answer
    where
      go : (b : Bool) → refuse 10 ≡ cond b (ok (judged table [] m).calls) (refuse 10) → b ≡ false
      go false q = refl
      go true q = clash (cc)

pub judges-all : (bytes nodes left counts ars starts : List ℕ) → length ars < 32768 → (v₀ v : List ℕ) (r : Result ℕ TooMuch) → said_judged r ≡ answered (judged_to bytes counts ars nodes starts (length starts)) → v ≡ sets v₀ 0 (map bit (written (judged_to bytes counts ars nodes starts) (length starts)))
    → JudgesAll bytes nodes left counts ars starts v₀ v r
judges-all bytes nodes left counts ars starts low v₀ v r e f kinds table t m holds = judges bytes kinds nodes left counts ars starts table t m holds low v₀ v r e f
