-- What ties the walks on numbers to those of `scope`: the row that numbers say, and the statement that both walks are one.
use Rattle.std.specs.Prelude.{◌≡◌, List, [], ◌∷◌, ◌++◌, map, ℕ, suc, ◌+◌, ◌*◌, ◌-◌, ◌≤◌, ◌<◌, length, get_or}
use Rattle.scope.specs.Types.{Ref, Table}
use Rattle.scope.specs.Constructors.{ctors, fields_at}
use Rattle.scope.specs.Simplify.{Literal, wild, lit, con, Row, Matrix}
use Rattle.laws.specs.Typed.{TypedRows}
use Rattle.scope.specs.Walks.{is_useful, turned, collect_missing_patterns}
use Rattle.layout.specs.Types.{Shape}
use Rattle.layout.specs.Nodes.{literal_at, row_of, LiteralStands, HoldsRows}
use Rattle.matrix.specs.Numbers.{Rows}
use Rattle.walks.specs.Walks.{useful_of, missing_of}

-- a row of numbers begins with patterns of these types, and so does a row: with the same ones
pub data Says (bytes : List ℕ) (table : Table) : List Ref → List ℕ → Row → Type 0 where
  done : {ns : List ℕ} {r : Row} → Says bytes table [] ns r
  wilds : {t : Ref} {ts : List Ref} {ns : List ℕ} {r : Row} → Says bytes table ts ns r → Says bytes table (t ∷ ts) (0 ∷ ns) (wild ∷ r)
  lits : {t : Ref} {ts : List Ref} {h : ℕ} {l : Literal} {ns : List ℕ} {r : Row} → 32768 ≤ h → LiteralStands bytes (h - 32768) → l ≡ literal_at bytes (h - 32768) → Says bytes table ts ns r → Says bytes table (t ∷ ts) (h ∷ ns) (lit l ∷ r)
  cons : {t : Ref} {ts : List Ref} {h c : ℕ} {ns : List ℕ} {r : Row} → h ≡ suc (32 * t + c) → c < length (ctors table t) → Says bytes table (fields_at table t c ++ ts) ns r → Says bytes table (t ∷ ts) (h ∷ ns) (con t c ∷ r)

-- rows of numbers beside the rows that they say
pub data SayRows (bytes : List ℕ) (table : Table) (ts : List Ref) : Rows → Matrix → Type 0 where
  no_rows : SayRows bytes table ts [] []
  also : {ns : List ℕ} {r : Row} {m : Rows} {p : Matrix} → Says bytes table ts ns r → SayRows bytes table ts m p → SayRows bytes table ts (ns ∷ m) (r ∷ p)

-- `is_useful` on numbers is `is_useful`: result, calls and cells
abbrev pub SameUseful : Type 0
SameUseful =
    (bytes kinds counts arities : List ℕ) (table : Table) → Shape kinds counts arities table → length arities < 32768
    → (ts : List Ref) (m : Rows) (p : Matrix) (q : List ℕ) (s : Row) → SayRows bytes table ts m p → Says bytes table ts q s
    → useful_of bytes counts arities (length ts) m q ≡ is_useful table (length ts) p s

-- the same of the rows that are read from the numbers
abbrev pub SameRead : Type 0
SameRead =
    (bytes kinds counts arities : List ℕ) (table : Table) → Shape kinds counts arities table → length arities < 32768
    → (ts : List Ref) (m : Rows) (p : Matrix) (q : List ℕ) (s : Row) → SayRows bytes table ts m p → Says bytes table ts q s
    → useful_of bytes counts arities (length ts) m q ≡ is_useful table (length ts) (map (row_of bytes) m) (row_of bytes q)

-- the rows that numbers say, of every walk: calls and cells are the same, and the rows that are read from the rows of numbers
abbrev pub SameMissing : Type 0
SameMissing =
    (bytes kinds counts arities : List ℕ) (table : Table) → Shape kinds counts arities table → length arities < 32768
    → (ts : List Ref) (m : Rows) (p : Matrix) → SayRows bytes table ts m p
    → turned (map (row_of bytes)) (missing_of bytes counts arities (length ts) m) ≡ collect_missing_patterns table (length ts) p

-- every literal in the rows stands whole among the bytes
pub record LiteralsWhole (bytes nodes starts : List ℕ) (m : Matrix) : Type 0 where
  pub each : (i j : ℕ) → i < length m → j < length (get_or m i []) → 32768 ≤ get_or nodes (get_or starts i 0 + j) 0 → LiteralStands bytes (get_or nodes (get_or starts i 0 + j) 0 - 32768)

-- the slices hold the rows of a block's clauses, each one pattern of type t
pub record Holding (bytes kinds nodes left counts arities starts : List ℕ) (table : Table) (t : Ref) (m : Matrix) : Type 0 where
  pub shape : Shape kinds counts arities table
  pub rows : HoldsRows bytes nodes left starts table m
  pub literals : LiteralsWhole bytes nodes starts m
  pub typed : TypedRows table (t ∷ []) m
