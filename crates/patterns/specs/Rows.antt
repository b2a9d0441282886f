-- The row that `simplify` stores: its nodes, `left` beside them, and what its answer says.
use Rattle.std.specs.Prelude.{◌≡◌, true, List, [], ◌∷◌, ◌++◌, map, ℕ, ◌+◌, ◌*◌, ◌≤◌, ◌<◌, length, take, drop, Result, Ok, Err}
use Rattle.std.specs.Prelude.{Option as Answer}
use Rattle.std.proofs.Math.Option.{Option, none, some}
use Rattle.std.proofs.lemmas.List.Edits.{sets}
use Rattle.scope.specs.Types.{Table}
use Rattle.scope.specs.Finite.{refs_good}
use Rattle.scope.specs.Patterns.{Raw, inner}
use Rattle.scope.specs.Simplify.{Row, Item, put, opened, simplify}
use Rattle.scope.specs.Frames.{found, patterns}
use Rattle.scope.specs.Blocks.{Step, ok, refuse}
use Rattle.layout.specs.Types.{Shape, Fielded}
use Rattle.layout.specs.Nodes.{row_of, left_of, Literals, places_in, StandsAt}
use Rattle.suits.specs.Raws.{raw_at, size_at, own_place}
use Rattle.nodes.specs.Opens.{opens, pending, due}
use Rattle.settle.specs.Settled.{Next, Read, Done, came_to, rest_of, Due, Ends}
use Rattle.suits.specs.declared.Unsuited.{Unsuited}

-- the bytes from a place on are one pattern and nothing after it: the line's shape has been checked
pub record Shaped (bytes : List ℕ) (from : ℕ) : Type 0 where
  pub raws : List Raw
  pub read : patterns 1 (drop from bytes) ≡ found raws []

-- the places of the literals among patterns that stand from a place on, one after another
unfoldable pub literal_places : List ℕ → ℕ → List Raw → List ℕ
literal_places bytes at [] = []
literal_places bytes at (p ∷ ps) = own_place at p ++ literal_places bytes (at + size_at bytes at) ps

-- what is asked of a caller: a line's bytes whose shape has been checked, and slices long enough
pub record Ready (bytes : List ℕ) (from subject : ℕ) (fields stack nodes : List ℕ) (used : ℕ) : Type 0 where
  pub short : length bytes ≤ 32768
  pub in_bytes : from ≤ length bytes
  pub line : length bytes ≤ from + 640
  pub shaped : Shaped bytes from
  pub subject_low : subject < 64
  pub fields_short : length fields ≤ 65536
  pub stack_long : 1920 ≤ length stack
  pub nodes_short : length nodes < 32768
  pub room : used ≤ length nodes

-- the slices hold a type table whose references are good, and the subject is one of its types
pub record Given (kinds counts arities starts fields : List ℕ) (subject : ℕ) (table : Table) : Type 0 where
  pub used : ℕ
  pub shape : Shape kinds counts arities table
  pub fielded : Fielded starts fields used table
  pub in_table : subject < length table
  pub good : refs_good table ≡ true

-- what one turn answers, by the walk after it
abbrev pub turned_to : Result (Answer ℕ) Unsuited → ℕ → ℕ → Result Next Unsuited
turned_to (Ok o) depth place = Ok (came_to o depth place)
turned_to (Err e) depth place = Err e

-- what the pattern at a place has become, before the items after it: it suits its type and the nodes were put, or it does not
abbrev pub Became : Option (List Item) → List Item → List ℕ → List ℕ → List ℕ → List ℕ → Result Next Unsuited → Type 0
Became o after bytes fields new stack (Ok (Read t depth place)) = (is : List Item) × (o ≡ some is) × (is ++ after ≡ map put (row_of bytes new) ++ rest_of bytes fields stack (Read t depth place))
Became o after bytes fields new stack (Ok (Done place)) = (is : List Item) × (o ≡ some is) × (is ++ after ≡ map put (row_of bytes new) ++ [])
Became o after bytes fields new stack (Err e) = o ≡ none

-- a fact of where it has come to, if the pattern suits
abbrev pub Unless : Result Next Unsuited → (Next → Type 0) → Type 0
Unless (Ok n) P = P n
Unless (Err e) P = Unit {0}

-- one pattern read at type t, and the nodes up to the next put from `place` on
pub record Turned (bytes kinds counts arities starts fields : List ℕ) (at t depth place : ℕ) (stack nodes stack' nodes' : List ℕ) (r : Result Next Unsuited) : Type 0 where
  pub new : List ℕ
  pub nodes_are : nodes' ≡ sets nodes place new
  pub few : length new ≤ 65536 * (depth + 1) + 2
  pub whole : at + size_at bytes at ≤ length bytes → Literals bytes new
  pub places : Unless r (λ n. places_in new ≡ own_place at (raw_at bytes at))
  pub ends : Unless r (Ends (place + length new) (depth + 1))
  pub due_is : Unless r (Due (inner (raw_at bytes at) + due (opens stack depth)) stack')
  pub became : (table : Table) (used : ℕ) → Shape kinds counts arities table → Fielded starts fields used table → t < length table
      → Became (opened table t (raw_at bytes at)) (pending bytes fields (opens stack depth)) bytes fields new stack' r

-- document 01's number and values for each case: the count of the row's nodes; 8
abbrev pub said_simplified : Result ℕ Unsuited → Step ℕ
said_simplified (Ok count) = ok count
said_simplified (Err e) = refuse 8

-- the answer for what a definition of `simplify` gives: the row was put, and its length counted; or 8
abbrev pub Answers : List ℕ → List ℕ → Option Row → Result ℕ Unsuited → Type 0
Answers bytes new none r = said_simplified r ≡ refuse 8
Answers bytes new (some row) r = (said_simplified r ≡ ok (length row)) × (row_of bytes new ≡ row)

-- the nodes of the pattern from a place on, put from `used` on
pub record Reading (bytes : List ℕ) (from : ℕ) (kinds counts arities starts fields : List ℕ) (subject used : ℕ) (nodes nodes' : List ℕ) (r : Result ℕ Unsuited) : Type 0 where
  pub new : List ℕ
  pub nodes_are : nodes' ≡ sets nodes used new
  pub whole : Literals bytes new
  pub counted : (count : ℕ) → r ≡ Ok count → count ≡ length new
  pub places : (count : ℕ) → r ≡ Ok count → (raws : List Raw) → patterns 1 (drop from bytes) ≡ found raws [] → places_in new ≡ literal_places bytes from raws
  pub means : (raws : List Raw) → patterns 1 (drop from bytes) ≡ found raws [] → (table : Table) → Given kinds counts arities starts fields subject table → Answers bytes new (simplify table subject raws) r

-- `left` beside a row that has room, and nothing where there is none
abbrev pub Beside : ℕ → ℕ → Table → Option Row → List ℕ → Type 0
Beside used size table none lefts = lefts ≡ []
Beside used size table (some row) lefts = (used + length row ≤ size → lefts ≡ take (length row) (left_of table 1 row)) × (size < used + length row → lefts ≡ [])

-- the pattern from a place on as a row from `used` on: what is answered, and what stands in `nodes` and `left` afterwards
pub record Simplifies (bytes : List ℕ) (from : ℕ) (kinds counts arities starts fields : List ℕ) (subject used : ℕ) (nodes left nodes' left' : List ℕ) (r : Result ℕ Unsuited) : Type 0 where
  pub new : List ℕ
  pub lefts : List ℕ
  pub nodes_are : nodes' ≡ sets nodes used new
  pub left_are : left' ≡ sets left used lefts
  pub whole : Literals bytes new
  pub places : (count : ℕ) → r ≡ Ok count → (raws : List Raw) → patterns 1 (drop from bytes) ≡ found raws [] → places_in new ≡ literal_places bytes from raws
  pub means : (raws : List Raw) → patterns 1 (drop from bytes) ≡ found raws [] → (table : Table) → Given kinds counts arities starts fields subject table → Answers bytes new (simplify table subject raws) r × Beside used (length nodes) table (simplify table subject raws) lefts

-- a row stands at a place, and its literals whole among the bytes
pub record RowAt (bytes nodes left : List ℕ) (table : Table) (p : ℕ) (r : Row) : Type 0 where
  pub stands : StandsAt bytes nodes left table p r
  pub whole : Literals bytes (take (length r) (drop p nodes))
