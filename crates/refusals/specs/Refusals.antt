-- Document 01's table "What is refused, and when": one row a constructor of `Refuses`, the document's row above it; 4, which has two places in the order, and
-- 5, which has a line of its own where no end is there, have two each. No test of `scope` decides a row. What a premise calls says what was read: `bytes_of`
-- the bytes of a line, two digits each; `type_at`, `fields_at`, `refs`, `last_declared`, `ctor_count` and `add_ctor` the types as far as they are declared. 7 asks
-- for values (`Valued`), of which a byte string is one whose elements are below 256. For 9 to 11 the document itself speaks of the simplified clauses
-- (`simplify`, `nodes_in`), of the walks as the source would run them (`findings`) and of the report (`report`).
use Rattle.std.specs.Prelude.{List, [], ◌∷◌, ◌++◌, ◌≡◌, ℕ, suc, ◌+◌, ◌*◌, ◌≤◌, ◌<◌, length, get_or}
use Rattle.std.proofs.Math.Option.{some}
use Rattle.scope.specs.Lines.{Line, ended, cut, bytes_of}
use Rattle.scope.specs.Types.{Ref, Ctor, Ty, dat, type_at, last_declared, add_ctor}
use Rattle.scope.specs.Finite.{refs}
use Rattle.scope.specs.Constructors.{built}
use Rattle.scope.specs.Patterns.{Raw}
use Rattle.scope.specs.Simplify.{Row, simplify}
use Rattle.scope.specs.Frames.{Frame, type_of, constructor_of, subject_of, clause_of, end}
use Rattle.scope.specs.Frames.{type_frames, constructor_frames, subject_frames, clause_frames, end_frames}
use Rattle.scope.specs.Blocks.{Block, Phase, types, constructors, clauses, closed, State, start, with_table, with_row, ctor_count, nodes_in}
use Rattle.scope.specs.Driver.{Findings, findings}
use Rattle.scope.specs.Report.{report}
use Rattle.meaning.specs.Values.{Valued}
use Rattle.refusals.specs.Cut.{Cuts}
use Rattle.refusals.specs.Suits.{Suits}
use Rattle.refusals.specs.Bytes.{FrameBytes}

-- a lower-case hexadecimal digit: 0 to 9, a to f
pub data HexDigit (d : ℕ) : Type 0 where
  digit : 48 ≤ d → d ≤ 57 → HexDigit d
  letter : 97 ≤ d → d ≤ 102 → HexDigit d

-- 3: a line empty, odd, not lower-case hex, over 1,280 digits, or without line feed
pub data BadLine : Line → Type 0 where
  empty : BadLine (ended [])
  odd : {ds : List ℕ} (n : ℕ) → length ds ≡ 2 * n + 1 → BadLine (ended ds)
  not_hex : {ds : List ℕ} (i : ℕ) → i < length ds → (HexDigit (get_or ds i 0) → ⊥) → BadLine (ended ds)
  long : {ds : List ℕ} → 1280 < length ds → BadLine (ended ds)
  no_feed : {ds : List ℕ} → BadLine (cut ds)

-- a line's first byte is the kind of its frame
pub record Kind (l : Line) (k : ℕ) (rest : List ℕ) : Type 0 where
  pub first : bytes_of l ≡ k ∷ rest

-- a line says a frame: its bytes are the kind, then what the frame holds, neither short nor over, each field in its range
pub record Says (l : Line) (f : Frame) : Type 0 where
  pub kind : ℕ
  pub rest : List ℕ
  pub first : Kind l kind rest
  pub holds : FrameBytes kind f rest

-- the kind of line l is so
pub data KindIs (P : ℕ → Type 0) (l : Line) : Type 0 where
  kind_is : {k : ℕ} {bs : List ℕ} → Kind l k bs → P k → KindIs P l

-- the frame that line l says is so
pub data FrameIs (P : Frame → Type 0) (l : Line) : Type 0 where
  frame_is : {f : Frame} → Says l f → P f → FrameIs P l

-- 4: unknown frame kind, none of 01 to 05
pub data Unknown : ℕ → Type 0 where
  none : Unknown 0
  over : {k : ℕ} → 5 < k → Unknown k

-- Order: types, each data type followed by its constructors; one subject; 0 or more clauses; end. Nothing follows the end
pub data Stands : Phase → ℕ → Type 0 where
  a_type : Stands types type_frames
  the_subject : Stands types subject_frames
  another_type : Stands constructors type_frames
  its_constructor : Stands constructors constructor_frames
  the_subject_then : Stands constructors subject_frames
  a_clause : Stands clauses clause_frames
  the_end : Stands clauses end_frames

-- 5: frame out of place
pub record OutOfPlace (p : Phase) (k : ℕ) : Type 0 where
  pub nowhere : Stands p k → ⊥

-- 6: one more frame of kind k makes over 64 types, 256 constructors, 32 in one type, 64 clauses
pub data Over (b : Block) : ℕ → Type 0 where
  types64 : 64 < suc (length b.table) → Over b type_frames
  constructors256 : 256 < suc (ctor_count b.table) → Over b constructor_frames
  in_type32 : 32 < suc (length (last_declared b.table)) → Over b constructor_frames
  clauses64 : 64 < suc (length b.rows) → Over b clause_frames

-- the rest of 4: a field outside its range, bytes short or over
pub record NoFrame (l : Line) : Type 0 where
  pub nothing : (f : Frame) → Says l f → ⊥

-- 7: constructor name twice in a type, label twice in a constructor; at the subject's line, reference to no type, or a type without a finite value
pub data Clashes (b : Block) : Frame → Type 0 where
  name_twice : {c : Ctor} (i : ℕ) → i < length (last_declared b.table) → (get_or (last_declared b.table) i (built [] [])).name ≡ c.name
      → Clashes b (constructor_of c)
  label_twice : {c : Ctor} (i j : ℕ) → i < j → j < length c.labels → get_or c.labels i [] ≡ get_or c.labels j [] → Clashes b (constructor_of c)
  no_subject : {t : Ref} → length b.table ≤ t → Clashes b (subject_of t)
  no_type : {t : Ref} (u i : ℕ) → u < length b.table → i < length (refs (type_at b.table u))
      → length b.table ≤ get_or (refs (type_at b.table u)) i 0 → Clashes b (subject_of t)
  no_value : {t : Ref} (u : ℕ) → u < length b.table → (Valued b.table u → ⊥) → Clashes b (subject_of t)

-- 8: pattern does not suit its type
pub data Unsuited (b : Block) : Frame → Type 0 where
  unsuited : {ps : List Raw} → (Suits b.table (b.subject ∷ []) ps → ⊥) → Unsuited b (clause_of ps)

-- 9: over 4,096 constructors, literals and wildcards in the simplified clauses so far
pub data OverNodes (b : Block) : Frame → Type 0 where
  nodes4096 : {ps : List Raw} {r : Row} → simplify b.table b.subject ps ≡ some r → 4096 < nodes_in b.rows + length r → OverNodes b (clause_of ps)

-- the faults of a line, each with its number
pub data Fault : Type 0 where
  line3 kind4 place5 over6 rest4 clash7 suit8 nodes9 : Fault

-- Within a line: 3, unknown kind (4), 5, 6, the rest of 4, 7, 8, 9
abbrev pub place : Fault → ℕ
place line3 = 0
place kind4 = 1
place place5 = 2
place over6 = 3
place rest4 = 4
place clash7 = 5
place suit8 = 6
place nodes9 = 7

-- what is wrong with line l, where the lines before it have said s
pub data Wrong (s : State) (l : Line) : Fault → Type 0 where
  is3 : BadLine l → Wrong s l line3
  is4 : KindIs Unknown l → Wrong s l kind4
  is5 : KindIs (OutOfPlace s.phase) l → Wrong s l place5
  is6 : KindIs (Over s.block) l → Wrong s l over6
  is_rest4 : NoFrame l → Wrong s l rest4
  is7 : FrameIs (Clashes s.block) l → Wrong s l clash7
  is8 : FrameIs (Unsuited s.block) l → Wrong s l suit8
  is9 : FrameIs (OverNodes s.block) l → Wrong s l nodes9

-- nothing is wrong with line l
pub record Fine (s : State) (l : Line) : Type 0 where
  pub fine : (f : Fault) → Wrong s l f → ⊥

-- what a frame adds to what the lines before have said
pub data Adds (s : State) : Frame → State → Type 0 where
  data_type : {cs : List Ctor} → Adds s (type_of (dat cs)) (with_table constructors (s.block.table ++ dat cs ∷ []))
  other_type : {ty : Ty} → ((cs : List Ctor) → ty ≡ dat cs → ⊥) → Adds s (type_of ty) (with_table types (s.block.table ++ ty ∷ []))
  ctor : {c : Ctor} → Adds s (constructor_of c) (with_table constructors (add_ctor s.block.table c))
  subject : {t : Ref} → Adds s (subject_of t) (record { phase = clauses; block = record { table = s.block.table; subject = t; rows = [] } })
  clause : {ps : List Raw} {r : Row} → simplify s.block.table s.block.subject ps ≡ some r → Adds s (clause_of ps) (with_row s.block r)
  the_end : Adds s end (record { phase = closed; block = s.block })

-- lines at which nothing is wrong, one after another: where s was said before them, u is said after them
pub data Leads : State → List Line → State → Type 0 where
  none : {s : State} → Leads s [] s
  also : {s s' u : State} {l : Line} {ls : List Line} {f : Frame} → Fine s l → Says l f → Adds s f s' → Leads s' ls u → Leads s (l ∷ ls) u

-- no line is at fault and the last one is the end: the file says this block
pub record SaysBlock (file : List ℕ) (b : Block) : Type 0 where
  pub all : List Line
  pub cuts : Cuts file all
  pub said : Leads start all (record { phase = closed; block = b })

-- 10: too much work: over 65,536 calls of the first kind in all clauses together, or of the second kind; or over 16,384 cells held by open calls; or
-- over 4,096 constructors and wildcards in the final missing rows
pub data TooMuch (f : Findings) : Type 0 where
  first_calls : 65536 < f.reached.calls → TooMuch f
  second_calls : 65536 < f.missing.calls → TooMuch f
  first_cells : 16384 < f.reached.peak → TooMuch f
  second_cells : 16384 < f.missing.peak → TooMuch f
  missing_rows : 4096 < nodes_in f.missing.result → TooMuch f

-- A file, lent so many cells of scratch
module _ (file : List ℕ) (cells : ℕ) where
  -- neither 1 nor 2
  pub record Admitted : Type 0 where
    pub scratch : 16384 ≤ cells
    pub size : length file ≤ 49152

  -- Order: 1, 2, then line by line, the first faulty line: neither 1 nor 2, line k is l, the lines before it are good and have said s, and nothing
  -- that comes before fault f within a line is wrong with l
  pub record First (k : ℕ) (s : State) (l : Line) (f : Fault) : Type 0 where
    pub taken : Admitted
    pub before : List Line
    pub after : List Line
    pub cuts : Cuts file (before ++ l ∷ after)
    pub number : k ≡ suc (length before)
    pub good : Leads start before s
    pub first : (g : Fault) → place g < place f → Wrong s l g → ⊥

  -- and a report buffer of `room` bytes
  module _ (room : ℕ) where
    -- the number and the line of a refusal: No. | Given exactly when | Line. After the last line: 10, 11
    pub data Refuses : ℕ → ℕ → Type 0 where
      -- 1 | scratch shorter than 16,384 cells of 16 bits | 0
      row1 : cells < 16384 → Refuses 1 0
      -- 2 | file longer than 49,152 bytes | 0
      row2 : 16384 ≤ cells → 49152 < length file → Refuses 2 0
      -- 3 | a line empty, odd, not lower-case hex, over 1,280 digits, or without line feed | it
      row3 : {k : ℕ} {s : State} {l : Line} → First k s l line3 → BadLine l → Refuses 3 k
      -- 4 | unknown frame kind, a field outside its range, bytes short or over | it
      row4 : {k : ℕ} {s : State} {l : Line} → First k s l kind4 → KindIs Unknown l → Refuses 4 k
      row4rest : {k : ℕ} {s : State} {l : Line} → First k s l rest4 → NoFrame l → Refuses 4 k
      -- 5 | frame out of place; or no end (line: last + 1) | it
      row5 : {k : ℕ} {s : State} {l : Line} → First k s l place5 → KindIs (OutOfPlace s.phase) l → Refuses 5 k
      row5end : {s : State} {all : List Line} → Admitted → Cuts file all → Leads start all s → (s.phase ≡ closed → ⊥) → Refuses 5 (length all + 1)
      -- 6 | over 64 types, 256 constructors, 32 in one type, 64 clauses | it
      row6 : {k : ℕ} {s : State} {l : Line} → First k s l over6 → KindIs (Over s.block) l → Refuses 6 k
      -- 7 | constructor name twice in a type, label twice in a constructor: that line. Reference to no type, or a type without a finite value: the
      -- subject's line | as said
      row7 : {k : ℕ} {s : State} {l : Line} → First k s l clash7 → FrameIs (Clashes s.block) l → Refuses 7 k
      -- 8 | pattern does not suit its type | it
      row8 : {k : ℕ} {s : State} {l : Line} → First k s l suit8 → FrameIs (Unsuited s.block) l → Refuses 8 k
      -- 9 | over 4,096 constructors, literals and wildcards in the simplified clauses so far | it
      row9 : {k : ℕ} {s : State} {l : Line} → First k s l nodes9 → FrameIs (OverNodes s.block) l → Refuses 9 k
      -- 10 | too much work, below | 0
      row10 : {b : Block} → Admitted → SaysBlock file b → TooMuch (findings b) → Refuses 10 0
      -- 11 | report longer than its buffer | 0
      row11 : {b : Block} → Admitted → SaysBlock file b → (TooMuch (findings b) → ⊥) → room < length (report b.table (findings b)) → Refuses 11 0

    -- Number 0 is a report and its length L: no row applies, and the report on the block that the file says is of L bytes
    pub record Reports (L : ℕ) : Type 0 where
      pub none : (n k : ℕ) → Refuses n k → ⊥
      pub block : Block
      pub whole : SaysBlock file block
      pub long : L ≡ length (report block.table (findings block))
