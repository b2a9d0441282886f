-- What both walks together find in a block, from what each of them finds and from the tests of refusal 10.
use mathlib.Core.Path.{◌≡◌, refl, sym, ap, ◌∙◌}
use mathlib.Core.Bool.{Bool, true, false, not, ◌&&◌, ◌||◌}
use mathlib.Core.List.{List, [], ◌∷◌, map}
use Prim.Native.Nat.{ℕ, ◌+◌, ◌≤◌}
use native.Mathlib.Omega.{arith}
use lib.ListN.{length, take, drop, length-map}
use lib.Seq.{sets, sets-eq, take_at}
use lib.Dec.{ltb, leb}
use Rattle.std.specs.Prelude.{Result, Ok, Err, IsErr}
use Rattle.scope.specs.Limits.{max_calls, max_cells, max_missing}
use Rattle.scope.specs.Lists.{bit}
use Rattle.scope.specs.Types.{Table}
use Rattle.scope.specs.Simplify.{Matrix}
use Rattle.scope.specs.Blocks.{Block, nodes_in, ok, refuse}
use Rattle.scope.specs.Walks.{collect_missing_patterns}
use Rattle.scope.specs.Driver.{judged, Findings, findings, too_much}
use Rattle.meaning.proofs.Promised.{judged-length}
use Rattle.walks.specs.Limits.{within}
use Rattle.judge.specs.Driver.{Judges}
use Rattle.missing.specs.Missing.{Finds}
use Rattle.outcomes.specs.declared.Seek.{Seek}
use Rattle.outcomes.specs.declared.TooMuch.{TooMuch}
use Rattle.verdicts.specs.Verdicts.{said}
use Rattle.walks.proofs.Limits.{within-not}
use Rattle.judge.proofs.Driver.{judged-done, judged-over}
use Rattle.missing.proofs.Driver.{found-not, found-done, found-over}
use Rattle.judging.specs.declared.Walks.{Walks}
use Rattle.judging.specs.Walks.{said_walks, Walked, over, done}

-- the tests of refusal 10, walk by walk
sorted : (a b c d e : Bool) → (a || b || c || d || e) ≡ ((a || c) || (b || d || e))
sorted true b c d e = refl
sorted false true true d e = refl
sorted false true false d e = refl
sorted false false true d e = refl
sorted false false false d e = refl

-- the first walk is too much
abbrev first_test : Findings → Bool
first_test f = ltb max_calls f.reached.calls || ltb max_cells f.reached.peak

-- the second is
abbrev second_test : Findings → Bool
second_test f = ltb max_calls f.missing.calls || ltb max_cells f.missing.peak || ltb max_missing (nodes_in f.missing.result)

too_much_lem : (f : Findings) → too_much f ≡ (first_test f || second_test f)
unfolding too_much
too_much_lem f = sorted (ltb max_calls f.reached.calls) (ltb max_calls f.missing.calls) (ltb max_cells f.reached.peak) (ltb max_cells f.missing.peak) (ltb max_missing (nodes_in f.missing.result))

-- a test that is the negation of another
from-not : (x y z : Bool) → x ≡ not y → x ≡ z → y ≡ not z
from-not x true z e h = let i : z ≡ false = sym h ∙ e in rw i
from-not x false z e h = let i : z ≡ true = sym h ∙ e in rw i

or_left : (x y z : Bool) → z ≡ (x || y) → x ≡ true → z ≡ true
or_left x y z e h = rw h at e

or_right : (x y z : Bool) → z ≡ (x || y) → y ≡ true → z ≡ true
or_right true y z e h = e
or_right false y z e h = e ∙ h

or_neither : (x y z : Bool) → z ≡ (x || y) → x ≡ false → y ≡ false → z ≡ false
or_neither x y z e h k = e ∙ rw (h, k)

-- verdicts as bytes
said-bits : (vs : List Bool) → said (map bit vs) ≡ vs
said-bits [] = refl
said-bits (true ∷ vs) = ap (true ∷◌) (said-bits vs)
said-bits (false ∷ vs) = ap (false ∷◌) (said-bits vs)

front : (d vs : List ℕ) (n : ℕ) → length vs ≡ n → n ≤ length d → take n (sets d 0 vs) ≡ vs
front d vs n e l = ap (take n) (sets-eq vs d 0 (omega arith)) ∙ take_at vs (drop (0 + length vs) d) n e

said-front : (table : Table) (m : Matrix) (v₀ v : List ℕ) → length m ≤ length v₀ → v ≡ sets v₀ 0 (map bit (judged table [] m).result) → said (take (length m) v) ≡ (judged table [] m).result
said-front table m v₀ v l e = ap said (ap (take (length m)) e ∙ front v₀ (map bit (judged table [] m).result) (length m) (length-map (judged table [] m).result bit ∙ judged-length table [] m) l) ∙ said-bits (judged table [] m).result

module _ (bytes : List ℕ) (b : Block) (v₀ v : List ℕ) where
  first-test : (x : Bool) → within 0 max_cells (judged b.table [] b.rows) ≡ x → first_test (findings b) ≡ not x
  unfolding findings
  first-test x h = from-not (within 0 max_cells (findings b).reached) (first_test (findings b)) x (within-not (findings b).reached) h

  second-test : (x : Bool) → (within 0 max_cells (collect_missing_patterns b.table 1 b.rows) && leb (nodes_in (collect_missing_patterns b.table 1 b.rows).result) max_missing) ≡ x → second_test (findings b) ≡ not x
  unfolding findings
  second-test x h = from-not (within 0 max_cells (findings b).missing && leb (nodes_in (findings b).missing.result) max_missing) (second_test (findings b)) x (found-not (findings b).missing) h

  pub first-over : {out : List ℕ} {e : TooMuch} → Judges b.table b.rows v₀ v (Err e) → Walked bytes b v out (refuse 10)
  first-over {e = e} j = over (or_left (first_test (findings b)) (second_test (findings b)) (too_much (findings b)) (too_much_lem (findings b)) (first-test false (judged-over b.table b.rows v₀ v e j)))

  pub second-over : {out : List ℕ} {e : TooMuch} → Finds bytes b.table b.rows out (Err e) → Walked bytes b v out (refuse 10)
  second-over {out} {e} f = over (or_right (first_test (findings b)) (second_test (findings b)) (too_much (findings b)) (too_much_lem (findings b)) (second-test false (found-over bytes b.table b.rows out e f)))

  pub both-done : {out : List ℕ} {first : ℕ} {found : Seek} → length b.rows ≤ length v₀ → Judges b.table b.rows v₀ v (Ok first) → Finds bytes b.table b.rows out (Ok found) → Walked bytes b v out (ok (first, (found.written, (found.rows, found.calls))))
  unfolding findings
  both-done {out} {first} {found} l j f =
      let a = judged-done b.table b.rows v₀ v first j in
      let c = found-done bytes b.table b.rows out found f in
      done
      (or_neither (first_test (findings b)) (second_test (findings b)) (too_much (findings b)) (too_much_lem (findings b)) (first-test true a.fits) (second-test true c.fits))
      (said-front b.table b.rows v₀ v l a.verdicts)
      (f.rows found refl)
      c.nodes
      c.count
      a.called
      c.called

-- an error is 10
pub said-over : (r : Result Walks TooMuch) → IsErr r → said_walks r ≡ refuse 10
said-over (Ok w) h = cc
said-over (Err e) h = refl
