-- "Small blocks": those marked P, each with all that is printed for it, and P1 for every table and every subject. T is a data type with A and B.
use Rattle.std.specs.Prelude.{List, [], ◌∷◌, ◌≡◌, ℕ, ◌≤◌, length}
use Prim.Native.String.{String}
use Rattle.scope.specs.declared.Answer.TheVariants.{Report}
use Rattle.scope.specs.Lists.{Text, bytes}
use Rattle.scope.specs.Limits.{scratch_cells, max_file}
use Rattle.scope.specs.Lines.{lines}
use Rattle.scope.specs.Blocks.{Block, parsed, block_of}
use Rattle.scope.specs.Driver.{findings}
use Rattle.scope.specs.Report.{report}
use Rattle.scope.specs.Answer.{answer, report_text, program_prints}

-- a file, and what is printed for it
pub record Example : Type 0 where
  pub file : String
  pub prints : String

-- just that is printed for every file of the table
abbrev pub AllPrinted : List Example → Type 0
AllPrinted [] = Unit {0}
AllPrinted (e ∷ es) = (program_prints (bytes e.file) ≡ bytes e.prints) × AllPrinted es

-- P4: a pair of T; (_, A)
abbrev pub P4 : Example
P4 = record {
  file = "0106\n0201410000\n0201420000\n01050000\n0301\n04070006000000\n05\n";
  prints = "clauses 1 reached 1 never 0\nclause 1 reached\ngaps 1\nmissing (_, B)\npaste (_, B)\ncalls 1 4\n";
}

-- P5: a pair of T; (_, A), (A, A)
abbrev pub P5 : Example
P5 = record {
  file = "0106\n0201410000\n0201420000\n01050000\n0301\n04070006000000\n04070600000006000000\n05\n";
  prints = "clauses 2 reached 1 never 1\nclause 1 reached\nclause 2 never\ngaps 1\nmissing (B, B)\npaste (B, B)\ncalls 5 4\n";
}

-- P10: the block that document 01 shows with its report, a list of Red or Blue; [], [Red, ..], []
abbrev pub document_block : Example
document_block = record {
  file = "010301\n0106\n02035265640000\n0204426c75650000\n0300\n04050000\n040501010600000000\n04050000\n05\n";
  prints = "clauses 3 reached 2 never 1\nclause 1 reached\nclause 2 reached\nclause 3 never\ngaps 1\nmissing [Blue, ..]\npaste [Blue, ..]\ncalls 5 4\n";
}

-- Subject; clauses. P1 for an integer
abbrev pub small_blocks : List Example
small_blocks =
    -- P1: an integer; none
    record {
      file = "0100\n0300\n05\n";
      prints = "clauses 0 reached 0 never 0\ngaps 1\nmissing _\npaste _\ncalls 0 1\n";
    } ∷
    -- P2: an integer; 1
    record {
      file = "0100\n0300\n04030131\n05\n";
      prints = "clauses 1 reached 1 never 0\nclause 1 reached\ngaps 1\nmissing _\npaste _\ncalls 1 2\n";
    } ∷
    -- P3: an integer; 1, _, 2
    record {
      file = "0100\n0300\n04030131\n0400\n04030132\n05\n";
      prints = "clauses 3 reached 2 never 1\nclause 1 reached\nclause 2 reached\nclause 3 never\ngaps 0\ncalls 5 2\n";
    } ∷
    P4 ∷
    P5 ∷
    -- P6: a list; [], [_]
    record {
      file = "0100\n010300\n0301\n04050000\n0405010000\n05\n";
      prints = "clauses 2 reached 2 never 0\nclause 1 reached\nclause 2 reached\ngaps 1\nmissing [_, _, ..]\npaste [_, _, ..]\ncalls 3 5\n";
    } ∷
    -- P7: a list; [], [_], [_, _, _, ..]
    record {
      file = "0100\n010300\n0301\n04050000\n0405010000\n0405030100000000\n05\n";
      prints = "clauses 3 reached 3 never 0\nclause 1 reached\nclause 2 reached\nclause 3 reached\ngaps 1\nmissing [_, _, []]\npaste [_, _]\ncalls 7 8\n";
    } ∷
    -- P8: only P, with labels a (T) and b (integer); P of A, _
    record {
      file = "0106\n0201410000\n0201420000\n0100\n0106\n0201500102000161010162\n0302\n04060002000600000000\n05\n";
      prints = "clauses 1 reached 1 never 0\nclause 1 reached\ngaps 1\nmissing P { a: B, b }\npaste P { a: B, b }\ncalls 1 3\n";
    } ∷
    -- P9: N, My__Tuple (one integer, no label); N
    record {
      file = "0100\n0106\n02014e0000\n02094d795f5f5475706c65000100\n0301\n0406000000\n05\n";
      prints = "clauses 1 reached 1 never 0\nclause 1 reached\ngaps 1\nmissing (_)\npaste My__Tuple(_)\ncalls 1 2\n";
    } ∷
    document_block ∷
    []

-- P1's report: gaps 1, `_`, calls 0 1
abbrev pub all_missing : Text
all_missing = bytes "clauses 0 reached 0 never 0\ngaps 1\nmissing _\npaste _\ncalls 0 1\n"

-- a file that says a block without clauses, of any table and any subject
pub record NoClauses (file : List ℕ) : Type 0 where
  pub size : length file ≤ max_file
  pub block : Block
  pub says : block_of (lines file) ≡ parsed block
  pub none : block.rows ≡ []

-- P1: any; none. The block's report; the answer for a file, lent enough, and its text; what is printed
pub record AnyNone : Type 0 where
  pub reports : (b : Block) → b.rows ≡ [] → report b.table (findings b) ≡ all_missing
  pub answers : (file : List ℕ) (cells room : ℕ) → NoClauses file → scratch_cells ≤ cells → length all_missing ≤ room
      → answer file cells room ≡ Report (length all_missing)
  pub report_texts : (file : List ℕ) (cells room : ℕ) → NoClauses file → scratch_cells ≤ cells → length all_missing ≤ room
      → report_text file cells room ≡ all_missing
  pub prints_it : (file : List ℕ) → NoClauses file → program_prints file ≡ all_missing

-- P1 to P10 together, over one table
pub record SmallBlocks : Type 0 where
  pub each : AllPrinted small_blocks
  pub any_none : AnyNone
