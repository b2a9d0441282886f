-- The slices hold the block that a file says, as the walks and the report ask, from what reading leaves.
use mathlib.Core.Path.{◌≡◌}
use mathlib.Core.List.{List, [], ◌∷◌}
use Prim.Native.Nat.{ℕ}
use native.Mathlib.Omega.{arith}
use lib.ListN.{take}
use Rattle.scope.specs.Lines.{lines}
use Rattle.laws.specs.Typed.{TypedRows}
use Rattle.scope.specs.Blocks.{Block, parsed, block_of}
use Rattle.scope.specs.Driver.{findings}
use Rattle.meaning.proofs.Parsing.{Good, block-good}
use Rattle.meaning.proofs.Fitting.{all-suit}
use Rattle.meaning.proofs.Gaps.{missing-typed}
use Rattle.reading.specs.Said as read
use Rattle.reading.specs.Files.{HoldsBlock}
use Rattle.reading.proofs.Literals.{block-literal}
use Rattle.agreement.proofs.Blocks.{block-sound}
use Rattle.agreement.proofs.Tables.{not-cell}
use Rattle.layout.specs.declared.lent.Types.{Types}
use Rattle.layout.specs.declared.lent.Block.{Block as Lent}
use Rattle.layout.specs.declared.tables.Store.{Store}
use Rattle.judging.specs.Blocks.{Slices, lent, lent_by, Holds, Known}

-- missing rows are patterns of the subject's type
gaps-typed : (b : Block) → Good b → TypedRows b.table (b.subject ∷ []) (findings b).missing.result
unfolding findings
gaps-typed b g = missing-typed (b.subject ∷ []) b.rows (all-suit g.typed g.admitted)

-- the slices that reading leaves, as the driver hands them on
abbrev pub handed : read.Held → ℕ → Slices
handed h clauses = lent h.bytes h.kinds h.counts h.arities h.starts h.names h.labels h.nodes h.left (take clauses h.rows)

-- a store's, as its tables and rows are lent
pub handed-lent : (s : Store) (n : ℕ) (t : Types) (b : Lent) → b.types ≡ t → t.bytes.now ≡ s.bytes → t.kinds.now ≡ s.tables.kinds → t.counts.now ≡ s.tables.counts → t.arities.now ≡ s.tables.arities → t.starts.now ≡ s.tables.starts → t.names.now ≡ s.tables.names → t.labels.now ≡ s.tables.labels
    → b.nodes.now ≡ s.rows.nodes → b.left.now ≡ s.rows.left → handed (read.held_by s) n ≡ lent_by b (take n s.rows.starts)
handed-lent s n t b is bytes kinds counts arities starts names labels nodes left =
    let e : lent s.bytes s.tables.kinds s.tables.counts s.tables.arities s.tables.starts s.tables.names s.tables.labels s.rows.nodes s.rows.left (take n s.rows.starts) ≡ lent b.types.bytes.now b.types.kinds.now b.types.counts.now b.types.arities.now b.types.starts.now b.types.names.now b.types.labels.now b.nodes.now b.left.now (take n s.rows.starts) = rw (is, bytes, kinds, counts, arities, starts, names, labels, nodes, left) in e

module _ (file : List ℕ) (h : read.Held) (subject clauses types : ℕ) (b : Block) (is : block_of (lines file) ≡ parsed b) (x : HoldsBlock h subject clauses types b) where
  pub holds : Holds (handed h clauses) b
  holds = record {
    holding = record {
      shape = x.holds.shape;
      rows = x.rows_are;
      literals = record { each = block-literal x };
      typed = x.typed;
    };
    tabled = λ nodes. record {
      counts = h.counts;
      shape = x.holds.shape;
      named = x.holds.named;
      proper = not-cell (block-sound (lines file) b is).table;
    };
    gaps_typed = gaps-typed b (block-good (lines file) b is);
  }

  pub known : Known (handed h clauses)
  known = record {
    block = b;
    holds = holds;
    short_nodes = omega (arith, x.sized.nodes_long);
    low_arities = omega (arith, x.sized.arities_long);
    few = omega (arith, x.rows_are.many, x.clauses_are, x.few_clauses);
  }
