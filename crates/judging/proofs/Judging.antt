-- What is answered for the block that the slices hold, from what the walks find and what the writer leaves.
use mathlib.Core.Path.{◌≡◌, refl, sym, subst, ◌∙◌}
use mathlib.Core.Bool.{false}
use mathlib.Core.List.{List, [], ◌∷◌, append-nil}
use Prim.Native.Nat.{ℕ, ◌≤◌}
use native.Mathlib.Omega.{arith}
use lib.ListN.{length, take, length-take}
use lib.Seq.{length-take-le}
use Rattle.std.specs.Prelude.{Ok}
use Rattle.scope.specs.declared.Answer.{Answer}
use Rattle.scope.specs.declared.Answer.TheVariants.{Refused}
use Rattle.scope.specs.Lists.{flatten}
use Rattle.scope.specs.Types.{Ref, Table}
use Rattle.scope.specs.Simplify.{Matrix}
use Rattle.laws.specs.Typed.{Typed, TypedRows}
use Rattle.scope.specs.Blocks.{Block, nodes_in, parsed, refuse}
use Rattle.scope.specs.Driver.{Findings, findings, too_much}
use Rattle.scope.specs.Report.{report}
use Rattle.scope.specs.Answer.{Outcome, fitted, outcome_of}
use Rattle.scope.proofs.Limits.{not_too_much}
use Rattle.scope.proofs.Answers.{judged_10, judged-parsed}
use Rattle.matrix.specs.Places.{Starts}
use Rattle.walks.proofs.BridgeTable.{starts_hold}
use Rattle.text.specs.Rows.{slices}
use Rattle.verdicts.specs.Verdicts.{said}
use Rattle.text.specs.Findings.{Says, Small}
use Rattle.fitting.specs.Given.{Given}
use Rattle.judging.specs.Blocks.{Slices, Holds, Known}
use Rattle.judging.specs.declared.Walks.{Walks}
use Rattle.judging.specs.Walks.{said_walks, Walked, over, done}

-- a row of one pattern has a node, so there are no more rows than nodes
some-node : {table : Table} {t : Ref} {r : List _} → Typed table (t ∷ []) r → 1 ≤ length r
some-node (Typed.wilds h) = omega arith
some-node (Typed.lits e h) = omega arith
some-node (Typed.cons l h) = omega arith

no_more-rows : {table : Table} {t : Ref} {m : Matrix} → TypedRows table (t ∷ []) m → length m ≤ nodes_in m
no_more-rows TypedRows.no_rows = omega arith
no_more-rows (TypedRows.also h k) = omega (arith, some-node h, no_more-rows k)

pub starts : (s : Slices) → Known s → Starts s.nodes s.left s.counts s.arities s.rows
starts s k = starts_hold s.bytes s.kinds s.nodes s.left s.counts s.arities s.rows k.block.table k.block.subject k.block.rows k.holds.holding k.low_arities

module _ {s : Slices} {b : Block} (h : Holds s b) {v out : List ℕ} {w : Walks} where
  -- no more nodes than the limit, and no more rows than nodes
  pub few-written : Walked s.bytes b v out (said_walks (Ok w)) → w.written ≤ 4096
  few-written (done t a r n g f c) = omega (arith, n, (not_too_much (findings b) t).missing_nodes)

  pub few-gaps : Walked s.bytes b v out (said_walks (Ok w)) → w.gaps ≤ 4096
  few-gaps (done t a r n g f c) = omega (arith, g, no_more-rows h.gaps_typed, (not_too_much (findings b) t).missing_nodes)

  -- the numbers are small enough
  pub small : length s.rows ≤ 64 → Walked s.bytes b v out (said_walks (Ok w)) → Small (length (take w.written out)) (length (take (length s.rows) v)) w.gaps 0
  small few found = record {
    few_nodes = omega (arith, length-take w.written out, few-written found);
    few_verdicts = omega (arith, length-take (length s.rows) v, few);
    few_gaps = omega (arith, few-gaps found);
    soon = omega arith;
  }

  pub says : Walked s.bytes b v out (said_walks (Ok w)) → Says (slices s.bytes s.kinds s.arities s.starts s.names s.labels (take w.written out)) (take (length s.rows) v) w.gaps w.first w.second b.table (findings b)
  says (done t a r n g f c) = record {
    tabled = h.tabled (take w.written out);
    verdicts_are = subst (λ (n : ℕ). said (take n v) ≡ (findings b).reached.result) (sym h.holding.rows.many) a;
    subject = b.subject;
    typed = h.gaps_typed;
    gaps_are = g;
    more = [];
    rows_are = r ∙ sym (append-nil (flatten (findings b).missing.result));
    first_is = f;
    second_is = c;
  }

  fine : Walked s.bytes b v out (said_walks (Ok w)) → too_much (findings b) ≡ false
  fine (done t a r n g f c) = t

  -- the report, or 11
  pub reported : (room : ℕ) {r : Answer} {d e : List ℕ} → Walked s.bytes b v out (said_walks (Ok w))
      → ((table : Table) (f : Findings) → Says (slices s.bytes s.kinds s.arities s.starts s.names s.labels (take w.written out)) (take (length s.rows) v) w.gaps w.first w.second table f → Given (fitted room (report table f)) r d e)
      → Given (outcome_of room (parsed b)) r d e
  reported room {r} {d} {e} found g = subst (λ (o : Outcome). Given o r d e) (sym (judged-parsed room b (parsed b) refl (fine found))) (g b.table (findings b) (says found))

-- the parts of the buffers that are printed
pub part_of_verdicts : (s : Slices) (k : Known s) (v : List ℕ) → length v ≡ 64 → length s.rows ≡ length (take (length s.rows) v)
part_of_verdicts s k v e = sym (length-take-le (length s.rows) v (omega (arith, k.few)))

pub part_of_out : (s : Slices) (k : Known s) (v out : List ℕ) {w : Walks} → length out ≡ 4096 → Walked s.bytes k.block v out (said_walks (Ok w)) → w.written ≤ length out
part_of_out s k v out e found = omega (arith, few-written k.holds found)

-- 10
pub too_much_work : {bytes : List ℕ} {b : Block} {v out : List ℕ} (room : ℕ) {r : Answer} {d : List ℕ} → Walked bytes b v out (refuse 10) → r ≡ Refused 10 0 → Given (outcome_of room (parsed b)) r d d
too_much_work {b = b} room (over t) e = rw (judged_10 room b (parsed b) refl t) (record { answer_is = e; buffer_is = refl })
