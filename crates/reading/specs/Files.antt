-- What reading a file answers and leaves in the slices: its block, or the refusal and its line.
use Rattle.std.specs.Prelude.{◌≡◌, true, cond, List, [], ◌∷◌, ℕ, Result, Ok, Err, ◌≤◌, ◌<◌, length, get_or, take, replicate, ltb}
use Rattle.scope.specs.Limits.{max_file}
use Rattle.scope.specs.Lines.{lines}
use Rattle.laws.specs.Typed.{TypedRows}
use Rattle.scope.specs.Blocks as scope
use Rattle.scope.specs.Blocks.{ok, refuse, is_sound, parsed, faulty, block_of}
use Rattle.layout.specs.Types.{Holds}
use Rattle.layout.specs.Nodes.{HoldsRows}
use Rattle.patterns.specs.Rows.{RowAt}
use Rattle.order.specs.declared.State.{State}
use Rattle.order.specs.Phases.{closes_in}
use Rattle.scope.specs.declared.refusal.Refusal.TheVariants.{Order}
use Rattle.scope.specs.Numbers.{number_of}
use Rattle.reading.specs.declared.file.Parsed.{Parsed}
use Rattle.reading.specs.declared.file.Faulty.{Faulty}
use Rattle.reading.specs.Said.{Held, Sized}

-- the slices hold a block: its types, its rows, one for each clause, with every literal whole among the bytes; and it is sound
pub record HoldsBlock (h : Held) (subject clauses types : ℕ) (b : scope.Block) : Type 0 where
  pub ctors : ℕ
  pub fields : ℕ
  pub holds : Holds h.bytes h.kinds h.counts h.arities h.starts h.names h.fields h.labels types ctors fields b.table
  pub rows_are : HoldsRows h.bytes h.nodes h.left (take clauses h.rows) b.table b.rows
  pub subject_is : subject ≡ b.subject
  pub clauses_are : clauses ≡ length b.rows
  pub sound : is_sound b.table b.subject ≡ true
  pub typed : TypedRows b.table (b.subject ∷ []) b.rows
  pub each_row : (i : ℕ) → i < length b.rows → RowAt h.bytes h.nodes h.left b.table (get_or (take clauses h.rows) i 0) (get_or b.rows i [])
  pub few_clauses : clauses ≤ 64
  pub sized : Sized h

-- every slice is zero everywhere
pub record Blank (h : Held) : Type 0 where
  pub bytes_zero : h.bytes ≡ replicate (length h.bytes) 0
  pub kinds_zero : h.kinds ≡ replicate (length h.kinds) 0
  pub counts_zero : h.counts ≡ replicate (length h.counts) 0
  pub arities_zero : h.arities ≡ replicate (length h.arities) 0
  pub starts_zero : h.starts ≡ replicate (length h.starts) 0
  pub names_zero : h.names ≡ replicate (length h.names) 0
  pub fields_zero : h.fields ≡ replicate (length h.fields) 0
  pub labels_zero : h.labels ≡ replicate (length h.labels) 0
  pub nodes_zero : h.nodes ≡ replicate (length h.nodes) 0
  pub left_zero : h.left ≡ replicate (length h.left) 0
  pub rows_zero : h.rows ≡ replicate (length h.rows) 0

-- 2, then line by line
unfoldable pub file_of : List ℕ → scope.Parsed
file_of file = let read = block_of (lines file) in cond (ltb max_file (length file)) (faulty 2 0) read

-- after the last line: the block, or no end (5) at the line after it
unfoldable pub end_of : State → ℕ → Result Parsed Faulty
end_of s k = cond (closes_in s.phase) (Ok (record { subject = s.subject; clauses = s.clauses; types = s.types })) (Err (record { why = Order; line = k }))

-- the block that the file says, in the slices, or the refusal and its line
pub data LinesAs (file : List ℕ) (h : Held) : Result Parsed Faulty → Type 0 where
  says_block : {p : Parsed} (b : scope.Block) → file_of file ≡ parsed b → HoldsBlock h p.subject p.clauses p.types b → LinesAs file h (Ok p)
  says_fault : {f : Faulty} → file_of file ≡ faulty (number_of f.why) f.line → LinesAs file h (Err f)

-- document 01's number, values and line for each case: the subject, how many clauses and types; the refusal's number, and its line
abbrev pub said_parsed : Result Parsed Faulty → scope.Step (ℕ × (ℕ × ℕ)) × ℕ
said_parsed (Ok p) = (ok (p.subject, (p.clauses, p.types)), 0)
said_parsed (Err f) = (refuse (number_of f.why), f.line)

-- the block that the file says, in the slices, or the refusal and its line, and the slices are blank
pub data ReadAs (file : List ℕ) (h : Held) : scope.Step (ℕ × (ℕ × ℕ)) × ℕ → Type 0 where
  a_block : {subject clauses types : ℕ} (b : scope.Block) → file_of file ≡ parsed b → HoldsBlock h subject clauses types b
      → ReadAs file h (ok (subject, (clauses, types)), 0)
  a_fault : {n k : ℕ} → file_of file ≡ faulty n k → Sized h → Blank h → ReadAs file h (refuse n, k)
