-- The clauses that the reader finds in a file's lines, from how a line's bytes are read: definitions that the proofs share.
use mathlib.Core.List.{List, [], ◌∷◌, map}
use Prim.Native.Nat.{ℕ}
use Rattle.scope.specs.Lists.{flatten}
use Rattle.scope.specs.Lines.{Line, bytes_of}
use Rattle.scope.specs.Patterns.{Raw}
use Rattle.scope.specs.Frames.{Frame, frame}
use Rattle.scope.specs.Blocks.{Step, ok, refuse, wholly}

-- the patterns of a frame, if it is a clause
abbrev pub clause_in : Step Frame → List (List Raw)
clause_in (refuse n) = []
clause_in (ok (Frame.type_of ty)) = []
clause_in (ok (Frame.constructor_of c)) = []
clause_in (ok (Frame.subject_of t)) = []
clause_in (ok (Frame.clause_of ps)) = ps ∷ []
clause_in (ok Frame.end) = []

-- the clause in a line's bytes, if there is one
abbrev pub read_clause : List ℕ → List (List Raw)
read_clause [] = []
read_clause (k ∷ bs) = clause_in (wholly (frame k bs))

-- the clauses of a file, as written
unfoldable pub clauses_in : List Line → List (List Raw)
clauses_in ls = flatten (map (λ l. read_clause (bytes_of l)) ls)
