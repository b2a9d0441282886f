-- Request 7, of clauses as they are written: one that writes no discard, no variable and no spread holds no wildcard when it is simplified, and so many
-- constructors and literals.
use Rattle.std.specs.Prelude.{List, [], ◌∷◌, ◌≡◌, true, false, ℕ, ◌+◌}
use Rattle.std.proofs.Math.Option.{some}
use Rattle.scope.specs.Lists.{Text}
use Rattle.scope.specs.Types.{Ref, Table}
use Rattle.scope.specs.Patterns.{Raw}
use Rattle.scope.specs.Simplify.{Row, simplify}
use Rattle.scope.specs.Calls.{Counts}

-- a pattern, without its inner ones, brings no wildcard, and so many constructors and literals; a discard, a variable and a spread are not here
pub data Brings : ℕ → Raw → Type 0 where
  -- 02 assign: what its inner one brings. 03 integer, 04 byte string: one literal
  assign : {x : Text} → Brings 0 (Raw.assign x)
  integer_of : {n : Text} → Brings 1 (Raw.integer_of n)
  byte_string_of : {s : Text} → Brings 1 (Raw.byte_string_of s)
  -- 05 list: a cell "::" for each element, and "[]" where it has no tail
  list_of : {k : ℕ} → Brings (k + 1) (Raw.list_of k false)
  list_to : {k : ℕ} → Brings k (Raw.list_of k true)
  -- 06 constructor without spread, 07 pair, 08 tuple: one constructor
  constructor : {c k : ℕ} → Brings 1 (Raw.constructor c k false)
  pair_of : Brings 1 Raw.pair_of
  tuple_of : {k : ℕ} → Brings 1 (Raw.tuple_of k)

-- patterns, each followed by its inner ones, bring no wildcard, and so many constructors and literals
pub data Solid : ℕ → List Raw → Type 0 where
  none : Solid 0 []
  also : {a N : ℕ} {p : Raw} {ps : List Raw} → Brings a p → Solid N ps → Solid (a + N) (p ∷ ps)

-- such a clause holds that when it is simplified
abbrev pub SolidRows : Type 0
SolidRows = (table : Table) (t : Ref) (ps : List Raw) (r : Row) (N : ℕ) → simplify table t ps ≡ some r → Solid N ps → Counts 0 N r
