-- The file's own clauses, and demand 3 over them: what verdicts and missing rows mean for the values that the clauses take as they are written.
use Rattle.std.specs.Prelude.{List, [], ◌∷◌, ◌≡◌, ◌↔◌, Bool, true, false, ℕ, ◌<◌, length, get_or}
use Rattle.scope.specs.Lists.{all}
use Rattle.scope.specs.Lines.{Line}
use Rattle.scope.specs.Patterns.{Raw, integer_of, byte_string_of, discard, variable, assign, pair_of, list_of, constructor, tuple_of}
use Rattle.scope.specs.Simplify.{Row}
use Rattle.scope.specs.Frames.{clause_of}
use Rattle.scope.specs.Blocks.{Block}
use Rattle.scope.specs.Driver.{verdicts, gaps}
use Rattle.meaning.specs.Values.{Val, []ᵛ, ◌∷ᵛ◌, HasTypes, fits}
use Rattle.refusals.specs.Cut.{Cuts}
use Rattle.refusals.specs.Refusals.{Says}
use Rattle.written.specs.Takes.{Takes}

-- the clauses of lines, in order: the patterns of each line that says a clause (frame 04)
pub data ClausesIn : List Line → List (List Raw) → Type 0 where
  none : ClausesIn [] []
  a_clause : {l : Line} {ls : List Line} {ps : List Raw} {clauses : List (List Raw)} → Says l (clause_of ps) → ClausesIn ls clauses
      → ClausesIn (l ∷ ls) (ps ∷ clauses)
  another : {l : Line} {ls : List Line} {clauses : List (List Raw)} → ((ps : List Raw) → Says l (clause_of ps) → ⊥) → ClausesIn ls clauses
      → ClausesIn (l ∷ ls) clauses

-- these are the clauses of a file
pub record ClausesOf (file : List ℕ) (clauses : List (List Raw)) : Type 0 where
  pub all : List Line
  pub cuts : Cuts file all
  pub has : ClausesIn all clauses

-- clause i takes a value
abbrev pub TakesAt : List (List Raw) → ℕ → Val → Type 0
TakesAt clauses i v = Takes (get_or clauses i []) v

-- a value of the subject's type
abbrev pub OfSubject : Block → Val → Type 0
OfSubject b v = HasTypes b.table (b.subject ∷ []) (v ∷ᵛ []ᵛ)

-- some value of the subject's type: clause i takes it and no clause before it does
pub record Reached (clauses : List (List Raw)) (b : Block) (i : ℕ) : Type 0 where
  pub value : Val
  pub typed : OfSubject b value
  pub taken : TakesAt clauses i value
  pub new : (j : ℕ) → j < i → TakesAt clauses j value → ⊥

-- some clause takes the value
pub record Taken (clauses : List (List Raw)) (v : Val) : Type 0 where
  pub clause : ℕ
  pub within : clause < length clauses
  pub takes : TakesAt clauses clause v

-- a value of the subject's type fits the row r
pub record Fits (b : Block) (r : Row) (v : Val) : Type 0 where
  pub typed : OfSubject b v
  pub fitting : fits r (v ∷ᵛ []ᵛ) ≡ true

-- some value fits the row r and no clause takes it
pub record Uncovered (clauses : List (List Raw)) (b : Block) (r : Row) : Type 0 where
  pub value : Val
  pub fitting : Fits b r value
  pub free : Taken clauses value → ⊥

-- is a pattern as written no literal
abbrev pub no_literal : Raw → Bool
no_literal discard = true
no_literal (variable n) = true
no_literal (assign n) = true
no_literal (integer_of n) = false
no_literal (byte_string_of s) = false
no_literal (list_of k tail) = true
no_literal (constructor c k spread) = true
no_literal pair_of = true
no_literal (tuple_of k) = true

-- Demand 3: what the findings about a block mean for the clauses it is made of
pub record Demand3 (clauses : List (List Raw)) (b : Block) : Type 0 where
  -- each clause has one verdict, in order
  pub each : length (verdicts b) ≡ length clauses
  -- a clause is reached exactly when it takes some value that no clause before it takes; else it is never reached
  pub reached : (i : ℕ) → i < length clauses → (get_or (verdicts b) i false ≡ true) ↔ Reached clauses b i
  pub never : (i : ℕ) → i < length clauses → (get_or (verdicts b) i true ≡ false) ↔ (Reached clauses b i → ⊥)
  -- no row is missing exactly when every value is taken by some clause
  pub complete : (gaps b ≡ []) ↔ ((v : Val) → OfSubject b v → Taken clauses v)
  -- each missing row fits a value that no clause takes
  pub missed : (i : ℕ) → i < length (gaps b) → Uncovered clauses b (get_or (gaps b) i [])
  -- no value fits two missing rows
  pub once : (v : Val) (i j : ℕ) → i < length (gaps b) → j < length (gaps b) → Fits b (get_or (gaps b) i []) v → Fits b (get_or (gaps b) j []) v → i ≡ j
  -- without literals no clause takes a value of a missing row
  pub apart : all (all no_literal) clauses ≡ true → (v : Val) (i : ℕ) → i < length (gaps b) → Fits b (get_or (gaps b) i []) v → Taken clauses v → ⊥
