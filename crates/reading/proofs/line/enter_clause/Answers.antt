-- `reading::line::enter_clause` meets its contract: a clause's row with its terminator, or 8, or 9.
use mathlib.Core.Path.{refl, sym, ap, subst, ◌∙◌}
use lib.ListN.{set}
use Rattle.scope.specs.declared.refusal.Refusal.TheVariants as why
use Rattle.reading.specs.Enters.{EntersClause, unsuited, over, row}
use Rattle.reading.proofs.Entering.{simplified_as}
use Rattle.reading.proofs.Relent.{raised}
use Rattle.reading.proofs.line.enter_clause.Goals as goal

pub returns-in_err-count : goal.returns-in_err-count
returns-in_err-count c =
    let t = c.args.types.now in
    subst (EntersClause t.bytes.now c.args.at c.args.s t.kinds.now t.counts.now t.arities.now t.starts.now t.fields.now c.args.rows.now.nodes c.args.rows.now.left c.args.rows.now.starts c.simplify.new.nodes c.simplify.new.left c.args.rows.now.starts) (sym (raised c.from_residual.result why.Suit c.from_residual.ensures)) (unsuited (simplified_as c.in_err-count.was c.simplify.ensures))

pub returns-then-not-has_nodes : goal.returns-then-not-has_nodes
returns-then-not-has_nodes c =
    over (simplified_as c.in_ok-count.was c.simplify.ensures) (sym c.has_nodes.ensures ∙ c.if-not-has_nodes.true)

pub returns : goal.returns
returns c =
    row (simplified_as c.in_ok-count.was c.simplify.ensures) (sym c.has_nodes.ensures ∙ c.if-not-has_nodes.false) refl refl (ap (set c.args.rows.now.starts c.args.s.clauses) c.low.ensures) c.after_clause.ensures
