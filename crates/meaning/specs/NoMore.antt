-- Request 13, the other side: "Calls, missing rows and the moved clauses' own verdicts may differ", and what its premises are for.
use mathlib.Core.List.{List, [], ◌∷◌, ◌++◌, Subset, Perm}
use Rattle.std.specs.Prelude.{◌≡◌, true, false, ℕ, ◌<◌, length, get_or, take}
use Rattle.scope.specs.declared.Answer.TheVariants.{Report}
use Rattle.scope.specs.Lines.{lines}
use Rattle.scope.specs.Simplify.{Row, Matrix}
use Rattle.scope.specs.Blocks.{Block, parsed, block_of}
use Rattle.scope.specs.Driver.{findings, verdicts, gaps}
use Rattle.scope.specs.Answer.{answer}
use Rattle.scope.specs.SmallBlocks.{Example, AllPrinted, P4, P5}
use Rattle.meaning.specs.Order.{SameMembers}

-- Subject; clauses. A byte string; "", _
abbrev pub empty_any : Example
empty_any = record {
  file = "0101\n0300\n040400\n0400\n05\n";
  prints = "clauses 2 reached 2 never 0\nclause 1 reached\nclause 2 reached\ngaps 0\ncalls 3 2\n";
}

-- a byte string; _, ""
abbrev pub any_empty : Example
any_empty = record {
  file = "0101\n0300\n0400\n040400\n05\n";
  prints = "clauses 2 reached 1 never 1\nclause 1 reached\nclause 2 never\ngaps 0\ncalls 3 2\n";
}

-- a byte string; _
abbrev pub any_once : Example
any_once = record {
  file = "0101\n0300\n0400\n05\n";
  prints = "clauses 1 reached 1 never 0\nclause 1 reached\ngaps 0\ncalls 1 2\n";
}

-- a byte string; _, _
abbrev pub any_twice : Example
any_twice = record {
  file = "0101\n0300\n0400\n0400\n05\n";
  prints = "clauses 2 reached 1 never 1\nclause 1 reached\nclause 2 never\ngaps 0\ncalls 3 2\n";
}

-- a list whose elements are such lists; [_], _
abbrev pub one_any : Example
one_any = record {
  file = "010300\n0300\n0405010000\n0400\n05\n";
  prints = "clauses 2 reached 2 never 0\nclause 1 reached\nclause 2 reached\ngaps 0\ncalls 3 2\n";
}

-- the same list; _, [_]
abbrev pub any_one : Example
any_one = record {
  file = "010300\n0300\n0400\n0405010000\n05\n";
  prints = "clauses 2 reached 1 never 1\nclause 1 reached\nclause 2 never\ngaps 0\ncalls 5 2\n";
}

-- the same list; [], [_], [[]]
abbrev pub none_one_inner : Example
none_one_inner = record {
  file = "010300\n0300\n04050000\n0405010000\n04050100050000\n05\n";
  prints = "clauses 3 reached 2 never 1\nclause 1 reached\nclause 2 reached\nclause 3 never\ngaps 1\nmissing [[_, ..], _, ..]\npaste [[_, ..], _, ..]\ncalls 7 5\n";
}

-- the same list; [], [_]
abbrev pub none_one : Example
none_one = record {
  file = "010300\n0300\n04050000\n0405010000\n05\n";
  prints = "clauses 2 reached 2 never 0\nclause 1 reached\nclause 2 reached\ngaps 1\nmissing [_, _, ..]\npaste [_, _, ..]\ncalls 3 5\n";
}

-- a byte string; "", ""
abbrev pub empty_twice : Example
empty_twice = record {
  file = "0101\n0300\n040400\n040400\n05\n";
  prints = "clauses 2 reached 1 never 1\nclause 1 reached\nclause 2 never\ngaps 1\nmissing _\npaste _\ncalls 3 2\n";
}

-- a data type with A alone; A, _
abbrev pub only_a : Example
only_a = record {
  file = "0106\n0201410000\n0300\n0406000000\n0400\n05\n";
  prints = "clauses 2 reached 1 never 1\nclause 1 reached\nclause 2 never\ngaps 0\ncalls 3 2\n";
}

-- a data type with A and B; A, _
abbrev pub a_or_b : Example
a_or_b = record {
  file = "0106\n0201410000\n0201420000\n0300\n0406000000\n0400\n05\n";
  prints = "clauses 2 reached 2 never 0\nclause 1 reached\nclause 2 reached\ngaps 0\ncalls 3 2\n";
}

-- The smallest files that show what may differ, in pairs
abbrev pub may_differ : List Example
may_differ =
    -- a moved clause's own verdict
    empty_any ∷
    any_empty ∷
    -- calls, by a repeat and by a swap
    any_once ∷
    any_twice ∷
    one_any ∷
    any_one ∷
    -- missing rows, where a clause that is never reached goes; and document 01's own files for that
    none_one_inner ∷
    none_one ∷
    P5 ∷
    P4 ∷
    -- the verdict on another clause after the same ones (empty_any is the other file), and on the same clause at another type
    empty_twice ∷
    only_a ∷
    a_or_b ∷
    []

-- a file gets a report, and says this block
pub record GetsReport (file : List ℕ) (b : Block) : Type 0 where
  pub cells : ℕ
  pub room : ℕ
  pub long : ℕ
  pub reports : answer file cells room ≡ Report long
  pub says : block_of (lines file) ≡ parsed b

-- a claim about any two blocks with the same subject, of files that get a report
abbrev pub OfTwo : (Block → Block → Type 0) → Type 0
OfTwo claim = (file file' : List ℕ) (b c : Block) → GetsReport file b → GetsReport file' c → b.subject ≡ c.subject → claim b c

-- the claim that a premise about row i of the one and row j of the other settles their verdicts
abbrev pub Settles : (Block → Block → ℕ → ℕ → Type 0) → Type 0
Settles premise =
    OfTwo (λ b c. (i j : ℕ) → i < length b.rows → j < length c.rows → premise b c i j → get_or (verdicts b) i false ≡ get_or (verdicts c) j false)

-- No more holds than the request says: these files print that, and each of these claims is false
pub record NoMore : Type 0 where
  pub printed : AllPrinted may_differ
  -- the same rows in the whole block do not settle a verdict, not even each as often: a moved row's own verdict may differ
  pub before : Settles (λ b c i j. (b.table ≡ c.table) × (get_or b.rows i [] ≡ get_or c.rows j []) × Perm b.rows c.rows) → ⊥
  -- nor do rows before the one that are all among those before the other
  pub back : Settles (λ b c i j. (b.table ≡ c.table) × (get_or b.rows i [] ≡ get_or c.rows j []) × Subset (take i b.rows) (take j c.rows)) → ⊥
  -- nor the same rows before another row
  pub itself : Settles (λ b c i j. (b.table ≡ c.table) × SameMembers (take i b.rows) (take j c.rows)) → ⊥
  -- nor the same rows with other types
  pub types : Settles (λ b c i j. (get_or b.rows i [] ≡ get_or c.rows j []) × SameMembers (take i b.rows) (take j c.rows)) → ⊥
  -- the same rows in another order do not fix the first number of calls
  pub calls : OfTwo (λ b c. b.table ≡ c.table → Perm b.rows c.rows → (findings b).reached.calls ≡ (findings c).reached.calls) → ⊥
  -- missing rows may differ where a row goes, even one that is never reached
  pub gone : OfTwo (λ b c. b.table ≡ c.table → (m n : Matrix) (r : Row) → b.rows ≡ m ++ r ∷ n → c.rows ≡ m ++ n
      → get_or (verdicts b) (length m) true ≡ false → gaps b ≡ gaps c) → ⊥
