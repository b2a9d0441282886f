-- The clauses of a file by relation are those that the reader finds, from what frames are as bytes.
use mathlib.Core.Path.{◌≡◌, refl, ap, ap₂, sym, subst, ◌∙◌}
use mathlib.Core.List.{List, [], ◌∷◌, ◌++◌}
use mathlib.Core.Logic.{◌↔◌}
use Prim.Native.Nat.{ℕ}
use Rattle.scope.specs.Lines.{Line, lines, bytes_of}
use Rattle.scope.specs.Patterns.{Raw}
use Rattle.scope.specs.Frames.{Read, fault, found, Frame, type_of, constructor_of, subject_of, clause_of, end, frame}
use Rattle.scope.specs.Blocks.{wholly}
use Rattle.refusals.specs.Refusals.{Says}
use Rattle.promises.specs.Clauses.{ClausesIn, none, a_clause, another, ClausesOf}
use Rattle.scope.proofs.Tests.{clash}
use Rattle.refusals.proofs.Cutting.{cuts-exactly}
use Rattle.refusals.proofs.Framed.{frame_found, frame_finds}
use Rattle.agreement.proofs.Raws.{clause_in, read_clause, clauses_in}

-- a line that says a clause has it for the reader
says-clause : {l : Line} {ps : List Raw} → Says l (clause_of ps) → read_clause (bytes_of l) ≡ ps ∷ []
says-clause s = ap read_clause s.first.first ∙ ap (λ (r : Read Frame). clause_in (wholly r)) (frame_finds s.holds)

-- what the reader finds in a line: its clause, or none
data Found (l : Line) : List (List Raw) → Type 0 where
  one : {ps : List Raw} → Says l (clause_of ps) → Found l (ps ∷ [])
  nothing : ((ps : List Raw) → Says l (clause_of ps) → ⊥) → Found l []

-- where it finds none the line says none
not-said : {l : Line} → read_clause (bytes_of l) ≡ [] → Found l []
not-said {l} e = nothing (λ ps s. let i : ps ∷ [] ≡ [] = sym (says-clause s) ∙ e in clash (cc))

line-found : (l : Line) → Found l (read_clause (bytes_of l))
line-found l = go (bytes_of l) refl
  where
    held : (k : ℕ) (bs : List ℕ) → bytes_of l ≡ k ∷ bs → (r : Read Frame) → frame k bs ≡ r → Found l (clause_in (wholly r))
    held k bs e r i = by r (ap read_clause e ∙ ap (λ (x : Read Frame). clause_in (wholly x)) i) i
      where
        by : (x : Read Frame) → read_clause (bytes_of l) ≡ clause_in (wholly x) → frame k bs ≡ x → Found l (clause_in (wholly x))
        by (fault cs) n j = not-said n
        by (found f (c ∷ cs)) n j = not-said n
        by (found (type_of ty) []) n j = not-said n
        by (found (constructor_of c) []) n j = not-said n
        by (found (subject_of t) []) n j = not-said n
        by (found end []) n j = not-said n
        by (found (clause_of ps) []) n j = one (record { kind = k; rest = bs; first = record { first = e }; holds = frame_found k bs (clause_of ps) j })

    go : (bs : List ℕ) → bytes_of l ≡ bs → Found l (read_clause bs)
    go [] e = not-said (ap read_clause e)
    go (k ∷ bs) e = held k bs e (frame k bs) refl

-- line by line
lines_have : (ls : List Line) → ClausesIn ls (clauses_in ls)
unfolding clauses_in
lines_have [] = none
lines_have (l ∷ ls) = go (read_clause (bytes_of l)) (line-found l) (lines_have ls)
  where
    go : (first : List (List Raw)) → Found l first → ClausesIn ls (clauses_in ls) → ClausesIn (l ∷ ls) (first ++ clauses_in ls)
    go first (one s) more = a_clause s more
    go first (nothing n) more = another n more

only_those : {ls : List Line} {clauses : List (List Raw)} → ClausesIn ls clauses → clauses_in ls ≡ clauses
unfolding clauses_in
only_those none = refl
only_those (a_clause s more) = ap₂ ◌++◌ (says-clause s) (only_those more)
only_those (another {l = l} {ls = ls} n more) = go (read_clause (bytes_of l)) (line-found l) (only_those more)
  where
    go : {clauses : List (List Raw)} (first : List (List Raw)) → Found l first → clauses_in ls ≡ clauses → first ++ clauses_in ls ≡ clauses
    go first (one s) e = absurd (n _ s)
    go first (nothing m) e = e

-- the clauses of a file are those that the reader finds, and no others
pub clauses-exactly : (file : List ℕ) (clauses : List (List Raw)) → (clauses_in (lines file) ≡ clauses) ↔ ClausesOf file clauses
clauses-exactly file clauses = (
  λ e. record { all = lines file; cuts = (cuts-exactly file (lines file)).0 refl; has = subst (ClausesIn (lines file)) e (lines_have (lines file)) },
  λ h. ap clauses_in ((cuts-exactly file h.all).1 h.cuts) ∙ only_those h.has,
)
