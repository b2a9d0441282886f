-- Simplified patterns in slices: `nodes`, and `left`, how many patterns of its row are left from a place on.
use Rattle.std.specs.Prelude.{◌≡◌, cond, ◌⊎◌, List, [], ◌∷◌, ◌++◌, map, ℕ, zero, suc, ◌+◌, ◌-◌, ◌/◌, ◌%◌, ◌≤◌, ◌<◌, length, get_or, take, drop, ltb, eqb}
use Rattle.scope.specs.Types.{Table}
use Rattle.scope.specs.Constructors.{arity}
use Rattle.scope.specs.Simplify.{Literal, int, byte_array, Node, wild, lit, con, Row, Matrix}
use Rattle.layout.specs.Types.{text_at}

-- the literal that a pattern's bytes say: its kind, its length, its text
unfoldable pub literal_at : List ℕ → ℕ → Literal
literal_at bytes p = cond (eqb (get_or bytes p 0) 3) (int (text_at bytes (suc p))) (byte_array (text_at bytes (suc p)))

-- 0 is a wildcard, 1 + 32 t + c is constructor c of type t, 32,768 + p is the literal at the place p
unfoldable pub node_of : List ℕ → ℕ → Node
node_of bytes zero = wild
node_of bytes (suc i) = cond (ltb i 32767) (con (i / 32) (i % 32)) (lit (literal_at bytes (i - 32767)))

-- the arguments of a node
abbrev pub arguments : Table → Node → ℕ
arguments table wild = 0
arguments table (lit l) = 0
arguments table (con t c) = arity table t c

-- the nodes of a row
abbrev pub row_of : List ℕ → List ℕ → Row
row_of bytes ns = map (node_of bytes) ns

-- `left` beside the nodes of a row of k patterns, and 0 at the terminator after them
unfoldable pub left_of : Table → ℕ → Row → List ℕ
left_of table k [] = 0 ∷ []
left_of table k (x ∷ r) = k ∷ left_of table (k - 1 + arguments table x) r

-- the literal at a place stands whole among the bytes: its kind, 03 or 04, its length, its text
pub record LiteralStands (bytes : List ℕ) (p : ℕ) : Type 0 where
  pub known : (get_or bytes p 0 ≡ 3) ⊎ (get_or bytes p 0 ≡ 4)
  pub whole : p + 2 + get_or bytes (p + 1) 0 ≤ length bytes

-- every literal among the nodes stands whole among the bytes
pub data Literals (bytes : List ℕ) : List ℕ → Type 0 where
  done : Literals bytes []
  also : {n : ℕ} {ns : List ℕ} → (32768 ≤ n → LiteralStands bytes (n - 32768)) → Literals bytes ns → Literals bytes (n ∷ ns)

-- the places of the literals among nodes
unfoldable pub places_in : List ℕ → List ℕ
places_in [] = []
places_in (n ∷ ns) = cond (ltb n 32768) [] ((n - 32768) ∷ []) ++ places_in ns

-- the row of one pattern that stands at a place: its nodes, `left` beside them, and the terminator
pub record StandsAt (bytes nodes left : List ℕ) (table : Table) (p : ℕ) (r : Row) : Type 0 where
  pub inside : p + length r < length nodes
  pub nodes_are : row_of bytes (take (length r) (drop p nodes)) ≡ r
  pub left_are : take (suc (length r)) (drop p left) ≡ left_of table 1 r
  pub ends : get_or nodes (p + length r) 0 ≡ 0

-- the slices hold the rows of a matrix, each where `starts` says
pub record HoldsRows (bytes nodes left starts : List ℕ) (table : Table) (m : Matrix) : Type 0 where
  pub same : length left ≡ length nodes
  pub short : length nodes < 32768
  pub many : length starts ≡ length m
  pub each : (i : ℕ) → i < length m → StandsAt bytes nodes left table (get_or starts i 0) (get_or m i [])
