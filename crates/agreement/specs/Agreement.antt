-- What it means that the flat definitions agree with the source's own functions on its own trees, from a file's clauses to the text of its gaps.
use Rattle.std.specs.Prelude.{List, [], ◌∷◌, ◌++◌, map, ◌≡◌, Bool, true, false, ℕ, ◌<◌, length, get_or, take}
use Rattle.scope.specs.Patterns.{Raw}
use Rattle.scope.specs.Blocks.{Block}
use Rattle.scope.specs.Walks.{Walk, plain, turned, joined, cost, is_useful}
use Rattle.scope.specs.Text.{source, pretty}
use Rattle.scope.specs.Driver.{findings}
use Rattle.source.specs.Source.{[]ᵖ, ◌∷ᵖ◌, Panic}
use Rattle.source.specs.Source as rust
use Rattle.source.specs.Shows.{ShowsRows, ShowsWalk}
use Rattle.agreement.specs.Trees.{TypedPattern, TypedPatterns, []ᵗ, ◌∷ᵗ◌, count}
use Rattle.agreement.specs.Trees as typed

unfoldable mutual
  -- a pattern as a clause writes it
  pub written : TypedPattern → List Raw
  written (typed.var n) = Raw.variable n ∷ []
  written typed.discard = Raw.discard ∷ []
  written (typed.int n) = Raw.integer_of n ∷ []
  written (typed.byte_array s) = Raw.byte_string_of s ∷ []
  written (typed.assign n p) = Raw.assign n ∷ written p
  written (typed.list elements) = Raw.list_of (count elements) false ∷ written_each elements
  written (typed.list_to elements tail) = Raw.list_of (count elements) true ∷ (written_each elements ++ written tail)
  written (typed.ctor c args spread) = Raw.constructor c (count args) spread ∷ written_each args
  written (typed.pair fst snd) = Raw.pair_of ∷ (written fst ++ written snd)
  written (typed.tuple elems) = Raw.tuple_of (count elems) ∷ written_each elems

  -- one after another
  pub written_each : TypedPatterns → List Raw
  written_each []ᵗ = []
  written_each (p ∷ᵗ ps) = written p ++ written_each ps

-- the driver of document 01 over the source's `is_useful`
unfoldable pub judged_by_source : Panic → ℕ → rust.Matrix → rust.Matrix → Walk (List Bool)
judged_by_source panic fuel before [] = plain []
judged_by_source panic fuel before (r ∷ rs) = joined ◌++◌ (turned (◌∷ []) (rust.is_useful panic fuel before r)) (judged_by_source panic fuel (before ++ r ∷ []) rs)

-- the source's rows m are the block's, and so is all that the source says of them, calling itself as deep as the fuel goes: of each clause, of all, of
-- the gaps
pub record Agrees (panic : Panic) (fuel : ℕ) (b : Block) (m : rust.Matrix) : Type 0 where
  pub rows : ShowsRows b.table (b.subject ∷ []) b.rows m
  pub each : (i : ℕ) → i < length b.rows
      → is_useful b.table 1 (take i b.rows) (get_or b.rows i []) ≡ rust.is_useful panic fuel (take i m) (get_or m i []ᵖ)
  pub reached : (findings b).reached ≡ judged_by_source panic fuel [] m
  pub missing : ShowsWalk b.table (b.subject ∷ []) (findings b).missing (rust.collect_missing_patterns panic fuel 1 m)
  pub texts : map (pretty source b.table) (findings b).missing.result
      ≡ typed.pretty_each panic (rust.flatten (rust.collect_missing_patterns panic fuel 1 m).result)

-- the clauses as written are these patterns, and the source agrees about them from some depth of calls on, whatever a panic would give
pub record SourceAgrees (clauses : List (List Raw)) (b : Block) : Type 0 where
  pub trees : List TypedPattern
  pub as_written : map written trees ≡ clauses
  pub agrees : (panic : Panic) (fuel : ℕ) → cost b.table 1 b.rows < fuel
      → Agrees panic fuel b (map (λ p. typed.simplify panic b.table b.subject p ∷ᵖ []ᵖ) trees)
