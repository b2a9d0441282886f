-- The driver's part of usefulness: every clause judged against all before it, on rows of numbers, and what the limits make of it.
use Rattle.std.specs.Prelude.{◌≡◌, Bool, cond, List, [], ◌∷◌, ◌++◌, map, ℕ, zero, suc, length, get_or, take, drop, Result, Ok, Err}
use Rattle.std.proofs.lemmas.List.Edits.{sets}
use Rattle.scope.specs.Limits.{max_cells}
use Rattle.scope.specs.Walks.{Walk, plain, turned, joined}
use Rattle.scope.specs.Lists.{bit}
use Rattle.scope.specs.Types.{Ref, Table}
use Rattle.scope.specs.Simplify.{Matrix}
use Rattle.scope.specs.Driver.{judged}
use Rattle.scope.specs.Blocks.{Step, ok, refuse}
use Rattle.outcomes.specs.declared.TooMuch.{TooMuch}
use Rattle.walks.specs.Walks.{useful_of}
use Rattle.walks.specs.Limits.{within}
use Rattle.walks.specs.Bridge.{Holding}

-- clause k judged against all clauses before it
abbrev pub clause_walk : List ℕ → List ℕ → List ℕ → List ℕ → List ℕ → ℕ → Walk Bool
clause_walk bytes cs ars nodes starts k = useful_of bytes cs ars 1 (map (λ p. drop p nodes) (take k starts)) (drop (get_or starts k 0) nodes)

-- the first k clauses, one after another: their verdicts
unfoldable pub judged_to : List ℕ → List ℕ → List ℕ → List ℕ → List ℕ → ℕ → Walk (List Bool)
judged_to bytes cs ars nodes starts zero = plain []
judged_to bytes cs ars nodes starts (suc k) = joined ◌++◌ (judged_to bytes cs ars nodes starts k) (turned (◌∷ []) (clause_walk bytes cs ars nodes starts k))

-- document 01's number and values for each case: the calls; 10
abbrev pub said_judged : Result ℕ TooMuch → Step ℕ
said_judged (Ok calls) = ok calls
said_judged (Err e) = refuse 10

-- what the driver's answer says: 10 exactly when a limit is passed
unfoldable pub answered : Walk (List Bool) → Step ℕ
answered w = cond (within 0 max_cells w) (ok w.calls) (refuse 10)

-- the verdicts that are written, where the first k clauses give the walk f k: those before the first clause that is too much work
unfoldable pub written : (ℕ → Walk (List Bool)) → ℕ → List Bool
written f zero = []
written f (suc k) = cond (within 0 max_cells (f (suc k))) (f (suc k)).result (written f k)

-- the driver of `scope` under the limits: its answer, and its verdicts, up to the first clause that is too much work
pub record Judges (table : Table) (m : Matrix) (v₀ v : List ℕ) (r : Result ℕ TooMuch) : Type 0 where
  pub answer : said_judged r ≡ answered (judged table [] m)
  pub verdicts : v ≡ sets v₀ 0 (map bit (written (λ k. judged table [] (take k m)) (length m)))

-- for every block that the slices hold
abbrev pub JudgesAll : List ℕ → List ℕ → List ℕ → List ℕ → List ℕ → List ℕ → List ℕ → List ℕ → Result ℕ TooMuch → Type 0
JudgesAll bytes nodes left counts arities starts v₀ v r = (kinds : List ℕ) (table : Table) (t : Ref) (m : Matrix) → Holding bytes kinds nodes left counts arities starts table t m → Judges table m v₀ v r
