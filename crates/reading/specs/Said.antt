-- What the slices and the numbers of the code say: a state of the definitions.
use Rattle.std.specs.Prelude.{◌≡◌, true, List, [], ℕ, Result, Ok, Err, ◌+◌, ◌≤◌, ◌<◌, length, get_or}
use Rattle.std.proofs.Math.Option.{some}
use Rattle.scope.specs.Types.{Table}
use Rattle.scope.specs.Simplify.{Matrix}
use Rattle.scope.specs.Blocks as scope
use Rattle.scope.specs.Blocks.{Block, Phase, types, constructors, clauses, closed, ok, refuse, is_sound, nodes_in}
use Rattle.layout.specs.Types.{Holds}
use Rattle.table.specs.Build.{EndsInData}
use Rattle.patterns.specs.Rows.{RowAt}
use Rattle.order.specs.declared.State.{State}
use Rattle.order.specs.Phases.{phase_of}
use Rattle.layout.specs.declared.tables.Tables.{Tables}
use Rattle.layout.specs.declared.tables.Rows.{Rows as RowTables}
use Rattle.layout.specs.declared.tables.Store.{Store}
use Rattle.scope.specs.declared.refusal.Refusal.{Refusal}
use Rattle.scope.specs.Numbers.{number_of}

-- the slices: the decoded bytes, the type table's, and the rows'
pub record Held : Type 0 where
  pub bytes : List ℕ
  pub kinds : List ℕ
  pub counts : List ℕ
  pub arities : List ℕ
  pub starts : List ℕ
  pub names : List ℕ
  pub fields : List ℕ
  pub labels : List ℕ
  pub nodes : List ℕ
  pub left : List ℕ
  pub rows : List ℕ

-- the slices together
abbrev pub held : List ℕ → List ℕ → List ℕ → List ℕ → List ℕ → List ℕ → List ℕ → List ℕ → List ℕ → List ℕ → List ℕ → Held
held bytes kinds counts arities starts names fields labels nodes left rows = record { bytes = bytes; kinds = kinds; counts = counts; arities = arities; starts = starts; names = names; fields = fields; labels = labels; nodes = nodes; left = left; rows = rows }

-- the slices of the bytes so far, the tables and the rows
abbrev pub held_in : List ℕ → Tables → RowTables → Held
held_in bytes t r = held bytes t.kinds t.counts t.arities t.starts t.names t.fields t.labels r.nodes r.left r.starts

-- those of a store
abbrev pub held_by : Store → Held
held_by s = held_in s.bytes s.tables s.rows

-- their lengths, by the limits
pub record Sized (h : Held) : Type 0 where
  pub kinds_long : length h.kinds ≡ 64
  pub counts_long : length h.counts ≡ 64
  pub arities_long : length h.arities ≡ 2048
  pub starts_long : length h.starts ≡ 2048
  pub names_long : length h.names ≡ 2048
  pub fields_long : length h.fields ≡ 5120
  pub labels_long : length h.labels ≡ 5120
  pub nodes_long : length h.nodes ≡ 4160
  pub left_long : length h.left ≡ 4160
  pub rows_long : length h.rows ≡ 64

-- what holds in each phase: a data type is just above a constructor; from the subject on the table is sound
abbrev pub InPhase : Phase → Block → Type 0
InPhase types b = Unit {0}
InPhase constructors b = EndsInData b.table
InPhase clauses b = is_sound b.table b.subject ≡ true
InPhase closed b = is_sound b.table b.subject ≡ true

-- the rows so far, each with a terminator after it, one after another
pub record Rows (bytes nodes left rows : List ℕ) (count used : ℕ) (table : Table) (m : Matrix) : Type 0 where
  pub counted : count ≡ nodes_in m
  pub packed : used ≡ count + length m
  pub few : length m ≤ 64
  pub short : count ≤ 4096
  pub each : (i : ℕ) → i < length m → RowAt bytes nodes left table (get_or rows i 0) (get_or m i [])
  pub before : (i : ℕ) → i < length m → get_or rows i 0 + length (get_or m i []) < used

-- the slices, as long as the limits say, and the numbers say what the lines so far have said
pub record Says (h : Held) (s : State) (σ : scope.State) : Type 0 where
  pub phase_is : phase_of s.phase ≡ some σ.phase
  pub holds : Holds h.bytes h.kinds h.counts h.arities h.starts h.names h.fields h.labels s.types s.ctors s.fields σ.block.table
  pub few : s.ctors ≤ 256
  pub subject_is : s.subject ≡ σ.block.subject
  pub clauses_are : s.clauses ≡ length σ.block.rows
  pub rows_are : Rows h.bytes h.nodes h.left h.rows s.count s.used σ.block.table σ.block.rows
  pub in_phase : InPhase σ.phase σ.block
  pub sized : Sized h

-- they say some state
pub record Known (h : Held) (s : State) : Type 0 where
  pub state : scope.State
  pub says : Says h s state

-- document 01's number and values for each case: the numbers that go on; the refusal's number
abbrev pub said_step : Result State Refusal → scope.Step State
said_step (Ok s) = ok s
said_step (Err e) = refuse (number_of e)

-- what a line's answer says is what the definitions say: on with what the slices say, or the same refusal
pub data Stepped (h : Held) : scope.Step State → scope.Step scope.State → Type 0 where
  goes : {s : State} {σ : scope.State} → Says h s σ → Stepped h (ok s) (ok σ)
  stops : (n : ℕ) → Stepped h (refuse n) (refuse n)
