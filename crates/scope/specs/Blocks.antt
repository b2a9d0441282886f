-- A file as a block: types, one subject, clauses, end. The first faulty line refuses it.
use Rattle.std.specs.Prelude.{List, [], ◌∷◌, ◌++◌, map, Bool, true, false, not, cond, ◌&&◌, ◌||◌, ℕ, suc, ◌+◌, length, get_or, leb, ltb, eqb}
use Rattle.std.proofs.Math.Option.{Option, none, some}
use Rattle.scope.specs.Limits.{max_types, max_constructors, max_in_type, max_clauses, max_nodes}
use Rattle.scope.specs.Lists.{any, sum, same, twice}
use Rattle.scope.specs.Lines.{Line, is_line, bytes_of}
use Rattle.scope.specs.Types.{Ref, Ctor, Ty, Table, data_kind, kind, name_of, declared, last_declared, add_ctor}
use Rattle.scope.specs.Frames.{type_frames, constructor_frames, subject_frames, clause_frames, end_frames, is_kind}
use Rattle.scope.specs.Frames.{Read, fault, found, Frame, type_of, constructor_of, subject_of, clause_of, end, frame}
use Rattle.scope.specs.Finite.{is_ref, refs_good, all_finite}
use Rattle.scope.specs.Simplify.{Row, Matrix, simplify}

-- what a file says: the types, the subject's type, and a row of one simplified pattern for each clause
pub record Block : Type 0 where
  pub table : Table
  pub subject : Ref
  pub rows : Matrix

-- where in the order of frames a file is
pub data Phase : Type 0 where
  types constructors clauses closed : Phase

-- Order: types, each data type followed by its constructors; one subject; 0 or more clauses; end. The kinds that may stand in each phase
abbrev pub standing : Phase → List ℕ
standing types = type_frames ∷ subject_frames ∷ []
standing constructors = type_frames ∷ constructor_frames ∷ subject_frames ∷ []
standing clauses = clause_frames ∷ end_frames ∷ []
standing closed = []

-- what the lines so far have said
pub record State : Type 0 where
  pub phase : Phase
  pub block : Block

-- nothing is said yet
abbrev pub start : State
start = record { phase = types; block = record { table = []; subject = 0; rows = [] } }

-- A step goes on, or it refuses with a number
pub data Step (A : Type 0) : Type 0 where
  ok : A → Step A
  refuse : ℕ → Step A

-- one step, then another
infixl 20 ◌>>=◌
abbrev pub ◌>>=◌ : {A B : Type 0} → Step A → (A → Step B) → Step B
◌>>=◌ (ok a) f = f a
◌>>=◌ (refuse n) f = refuse n

-- refusal n unless the test passes
abbrev pub need : ℕ → Bool → Step (Unit {0})
need n true = ok tt
need n false = refuse n

-- 4: a fault, or bytes over
abbrev pub wholly : {A : Type 0} → Read A → Step A
wholly (fault bs) = refuse 4
wholly (found a []) = ok a
wholly (found a (b ∷ bs)) = refuse 4

-- 8: the pattern does not suit its type
abbrev pub suited : Option Row → Step Row
suited none = refuse 8
suited (some r) = ok r

-- the constructors of a table
abbrev pub ctor_count : Table → ℕ
ctor_count table = sum (map (λ ty. length (declared ty)) table)

-- the constructors, literals and wildcards of rows
abbrev pub nodes_in : Matrix → ℕ
nodes_in m = sum (map length m)

-- 5: may a frame of kind k stand here
unfoldable pub stands : State → ℕ → Bool
stands s k = any (eqb k) (standing s.phase)

-- 6: is there room for one more frame of each kind: 64 types, 256 constructors, 32 in one type, 64 clauses; no other kind has a limit
abbrev pub room_for : Block → List Bool
room_for b =
    true ∷  -- 00 no frame
    ltb (length b.table) max_types ∷  -- 01 type
    (ltb (ctor_count b.table) max_constructors && ltb (length (last_declared b.table)) max_in_type) ∷  -- 02 constructor
    true ∷  -- 03 subject
    ltb (length b.rows) max_clauses ∷  -- 04 clause
    []

-- 6: is there room for one more frame of kind k
unfoldable pub has_room : Block → ℕ → Bool
has_room b k = get_or (room_for b) k true

-- 7: is the name new in the type, and is no label there twice
unfoldable pub is_fresh : Table → Ctor → Bool
is_fresh table c = not (any (same c.name) (map name_of (last_declared table)) || twice c.labels)

-- 7: are all references to types, the subject's too, and has every type a finite value
unfoldable pub is_sound : Table → Ref → Bool
is_sound table t = is_ref table t && refs_good table && all_finite table

-- the phase after a type frame
abbrev pub after_type : Ty → Phase
after_type ty = cond (eqb (kind ty) data_kind) constructors types

-- the state before the subject, with this table
abbrev pub with_table : Phase → Table → State
with_table p table = record { phase = p; block = record { table = table; subject = 0; rows = [] } }

-- the state with one more row
abbrev pub with_row : Block → Row → State
with_row b r = record { phase = clauses; block = record { table = b.table; subject = b.subject; rows = b.rows ++ r ∷ [] } }

-- what a frame adds: 7, 8, 9
unfoldable pub enter : Block → Frame → Step State
enter b (type_of ty) = ok (with_table (after_type ty) (b.table ++ ty ∷ []))
enter b (constructor_of c) = do
  _ ← need 7 (is_fresh b.table c)
  ok (with_table constructors (add_ctor b.table c))
enter b (subject_of t) = do
  _ ← need 7 (is_sound b.table t)
  ok (record { phase = clauses; block = record { table = b.table; subject = t; rows = [] } })
enter b (clause_of ps) = do
  r ← suited (simplify b.table b.subject ps)
  _ ← need 9 (leb (nodes_in b.rows + length r) max_nodes)
  ok (with_row b r)
enter b end = ok (record { phase = closed; block = b })

-- a line's bytes, within a line: unknown kind (4), 5, 6, the rest of 4, then 7, 8, 9
unfoldable pub framed : State → List ℕ → Step State
framed s [] = refuse 4
framed s (k ∷ bs) = do
  _ ← need 4 (is_kind k)
  _ ← need 5 (stands s k)
  _ ← need 6 (has_room s.block k)
  f ← wholly (frame k bs)
  enter s.block f

-- a line: 3 first
unfoldable pub line_step : State → Line → Step State
line_step s l = do
  _ ← need 3 (is_line l)
  framed s (bytes_of l)

-- the block of a file, or the refusal and its line
pub data Parsed : Type 0 where
  parsed : Block → Parsed
  faulty : ℕ → ℕ → Parsed

-- 5: no end, at the last line + 1
abbrev pub finish : ℕ → State → Parsed
finish k s = ending s.phase
  where
    ending : Phase → Parsed
    ending types = faulty 5 k
    ending constructors = faulty 5 k
    ending clauses = faulty 5 k
    ending closed = parsed s.block

-- go on after line k, or stop there
abbrev pub go_on : ℕ → Step State → (State → Parsed) → Parsed
go_on k (ok s) go = go s
go_on k (refuse n) go = faulty n k

-- the lines from number k on; the first faulty one decides
unfoldable pub parse : ℕ → State → List Line → Parsed
parse k s [] = finish k s
parse k s (l ∷ ls) = go_on k (line_step s l) (λ s'. parse (suc k) s' ls)

-- all lines
unfoldable pub block_of : List Line → Parsed
block_of ls = parse 1 start ls
