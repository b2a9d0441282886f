-- `looks::is_nil` meets its contract.
use mathlib.Core.Path.{sym, ap, ◌∙◌}
use mathlib.Core.Bool.{true, false}
use Prim.Native.Nat.{ℕ}
use lib.Dec.{eqb}
use borrow.Author.Tests.{eqb-true, eqb-false}
use Rattle.looks.proofs.Nodes.{of-kind, nil-zero, nil-by}
use Rattle.looks.proofs.is_nil.Goals as goal

pub returns-then-is_wild : goal.returns-then-is_wild
returns-then-is_wild c = nil-zero c.args.types.now.kinds.now c.args.node (eqb-true c.args.node 0 (sym c.if-is_wild.ensures))

pub returns-then-eq : goal.returns-then-eq
returns-then-eq c = nil-by c.args.types.now.kinds.now true c.from-i.ensures (λ e. eqb-false c.args.node 0 (sym c.if-is_wild.ensures) (sym c.from-i.ensures ∙ e)) (c.if-eq.ensures ∙ of-kind _ _ _ _ c.try_from.ensures ∙ ap (λ (k : ℕ). eqb k 3) c.kind.ensures)

pub returns-else-eq : goal.returns-else-eq
returns-else-eq c = c.if-eq.false ∙ nil-by c.args.types.now.kinds.now false c.from-i.ensures (λ e. eqb-false c.args.node 0 (sym c.if-is_wild.ensures) (sym c.from-i.ensures ∙ e)) (c.if-eq.ensures ∙ of-kind _ _ _ _ c.try_from.ensures ∙ ap (λ (k : ℕ). eqb k 3) c.kind.ensures)
