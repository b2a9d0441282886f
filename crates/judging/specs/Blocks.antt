-- The slices of a block, as far as the walks and the report read them.
use Rattle.std.specs.Prelude.{List, [], ◌∷◌, ℕ, ◌≤◌, ◌<◌, length}
use Rattle.laws.specs.Typed.{TypedRows}
use Rattle.scope.specs.Blocks.{Block}
use Rattle.scope.specs.Driver.{findings}
use Rattle.layout.specs.declared.lent.Block.{Block as Lent}
use Rattle.walks.specs.Bridge.{Holding}
use Rattle.text.specs.Rows.{slices, Tabled}

-- the slices that reading leaves, as far as the walks and the report read them
pub record Slices : Type 0 where
  pub bytes : List ℕ
  pub kinds : List ℕ
  pub counts : List ℕ
  pub arities : List ℕ
  pub starts : List ℕ
  pub names : List ℕ
  pub labels : List ℕ
  pub nodes : List ℕ
  pub left : List ℕ
  pub rows : List ℕ

-- these slices
abbrev pub lent : List ℕ → List ℕ → List ℕ → List ℕ → List ℕ → List ℕ → List ℕ → List ℕ → List ℕ → List ℕ → Slices
lent bytes kinds counts arities starts names labels nodes left rows = record { bytes = bytes; kinds = kinds; counts = counts; arities = arities; starts = starts; names = names; labels = labels; nodes = nodes; left = left; rows = rows }

-- those of a lent block, and where the row of each clause begins
abbrev pub lent_by : Lent → List ℕ → Slices
lent_by b rows = lent b.types.bytes.now b.types.kinds.now b.types.counts.now b.types.arities.now b.types.starts.now b.types.names.now b.types.labels.now b.nodes.now b.left.now rows

-- they hold a block: its types, its names, a row for each clause; and its missing rows are patterns of the subject's type
pub record Holds (s : Slices) (b : Block) : Type 0 where
  pub holding : Holding s.bytes s.kinds s.nodes s.left s.counts s.arities s.rows b.table b.subject b.rows
  pub tabled : (nodes : List ℕ) → Tabled (slices s.bytes s.kinds s.arities s.starts s.names s.labels nodes) b.table
  pub gaps_typed : TypedRows b.table (b.subject ∷ []) (findings b).missing.result

-- they hold some block, in slices that are not too long
pub record Known (s : Slices) : Type 0 where
  pub block : Block
  pub holds : Holds s block
  pub short_nodes : length s.nodes ≤ 65536
  pub low_arities : length s.arities < 32768
  pub few : length s.rows ≤ 64
