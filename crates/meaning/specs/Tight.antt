-- Request 7, the other side: files that meet each bound, and what the premises of each are for.
use Rattle.std.specs.Prelude.{List, [], ◌∷◌, ◌≡◌, ℕ, ◌+◌, ◌≤◌, ◌<◌, length, get_or}
use Rattle.scope.specs.Types.{type_at, data_kind, kind}
use Rattle.scope.specs.Constructors.{ctors, arity}
use Rattle.scope.specs.Blocks.{Block}
use Rattle.scope.specs.Calls.{Counts}
use Rattle.scope.specs.SmallBlocks.{Example, AllPrinted}
use Rattle.meaning.specs.NoMore.{any_empty, any_twice, GetsReport}
use Rattle.meaning.specs.Costs.{row_walk, missing_walk, FlatSubject}

-- Subject; clauses. A data type with A alone; _, _
abbrev pub alone_twice : Example
alone_twice = record {
  file = "0106\n0201410000\n0300\n0400\n0400\n05\n";
  prints = "clauses 2 reached 1 never 1\nclause 1 reached\nclause 2 never\ngaps 0\ncalls 3 2\n";
}

-- a data type with A and B; A, B, _
abbrev pub each_any : Example
each_any = record {
  file = "0106\n0201410000\n0201420000\n0300\n0406000000\n0406010000\n0400\n05\n";
  prints = "clauses 3 reached 2 never 1\nclause 1 reached\nclause 2 reached\nclause 3 never\ngaps 0\ncalls 6 3\n";
}

-- a pair of integers; (_, _), _
abbrev pub pair_any : Example
pair_any = record {
  file = "0100\n01050000\n0301\n04070000\n0400\n05\n";
  prints = "clauses 2 reached 1 never 1\nclause 1 reached\nclause 2 never\ngaps 0\ncalls 5 4\n";
}

-- a data type with A alone, of one integer; A(..), _
abbrev pub field_any : Example
field_any = record {
  file = "0100\n0106\n020141000100\n0301\n0406000001\n0400\n05\n";
  prints = "clauses 2 reached 1 never 1\nclause 1 reached\nclause 2 never\ngaps 0\ncalls 4 3\n";
}

-- Files that meet the bounds, and files that pass them where a premise fails
abbrev pub costly : List Example
costly =
    -- the second row takes 2 calls, N + 1
    any_empty ∷
    -- the last row and the missing walk take k + 1 calls, 2 and 3
    alone_twice ∷
    each_any ∷
    -- the second row, a wildcard, takes 2 calls and then 4, where N is 0
    any_twice ∷
    pair_any ∷
    -- with a field the last row and the missing walk take 3 calls, where k is 1
    field_any ∷
    []

-- a claim about the block of any file that gets a report
abbrev pub OfEach : (Block → Type 0) → Type 0
OfEach claim = (file : List ℕ) (b : Block) → GetsReport file b → claim b

-- the claim that each row that holds so many wildcards, constructors and literals takes at most so many calls
abbrev pub RowsWithin : (ℕ → ℕ → Type 0) → (ℕ → ℕ → ℕ) → Type 0
RowsWithin premise most =
    OfEach (λ b. (i w N : ℕ) → i < length b.rows → Counts w N (get_or b.rows i []) → premise w N → (row_walk b i).calls ≤ most w N)

-- the claim that with a subject of k constructors each row takes at most so many calls; and the missing walk
abbrev pub SubjectsWithin : (Block → ℕ → Type 0) → (ℕ → ℕ) → Type 0
SubjectsWithin premise most = OfEach (λ b. (k i : ℕ) → premise b k → i < length b.rows → (row_walk b i).calls ≤ most k)

abbrev pub MissingWithin : (Block → ℕ → Type 0) → (ℕ → ℕ) → Type 0
MissingWithin premise most = OfEach (λ b. (k : ℕ) → premise b k → (missing_walk b).calls ≤ most k)

-- the subject is of a data type with k constructors; or of a type with k constructors, all of arity 0: halves of `FlatSubject`
abbrev pub OfData : Block → ℕ → Type 0
OfData b k = (kind (type_at b.table b.subject) ≡ data_kind) × (length (ctors b.table b.subject) ≡ k)

abbrev pub OfBare : Block → ℕ → Type 0
OfBare b k = (length (ctors b.table b.subject) ≡ k) × ((c : ℕ) → c < k → arity b.table b.subject c ≡ 0)

-- The bounds are tight: these files print that, and each of these claims is false
pub record Tight : Type 0 where
  pub printed : AllPrinted costly
  -- one call less
  pub solid : RowsWithin (λ w N. w ≡ 0) (λ w N. N) → ⊥
  pub flat_row : SubjectsWithin FlatSubject (λ k. k) → ⊥
  pub flat_missing : MissingWithin FlatSubject (λ k. k) → ⊥
  -- a row with wildcards, which are not counted; nor where they are
  pub wildcard : RowsWithin (λ w N. Unit {0}) (λ w N. N + 1) → ⊥
  pub wildcards : RowsWithin (λ w N. Unit {0}) (λ w N. w + N + 1) → ⊥
  -- a data type with k constructors of any arity; a type of any kind with k constructors, all of arity 0
  pub arities : SubjectsWithin OfData (λ k. k + 1) → ⊥
  pub arities_missing : MissingWithin OfData (λ k. k + 1) → ⊥
  pub kinds : SubjectsWithin OfBare (λ k. k + 1) → ⊥
  pub kinds_missing : MissingWithin OfBare (λ k. k + 1) → ⊥
