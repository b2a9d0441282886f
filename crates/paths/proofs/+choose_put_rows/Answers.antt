-- `paths::choose` and `paths::put_rows` meet their contracts: what is chosen, then what is still to come, is the whole.
use Rattle.paths.proofs.PathChoose.{rows_fit, rows_on, rows-chosen, chosen-end, chosen-skip, chosen-stop, chosen-more}
use native.Mathlib.Omega.{arith}
use lib.ListN.{set}
use lib.Seq.{set-set}
use mathlib.Core.Path.{refl, ap, ◌∙◌}
use Rattle.paths.proofs.+choose_put_rows.Goals as goal
use Rattle.paths.proofs.+choose_put_rows.Goals.{choose-then-rest-eq1+in_ok-at, choose-else-rest-eq1}

pub choose-returns-in_err-at-clause-spread : goal.choose-returns-in_err-at-clause-spread
choose-returns-in_err-at-clause-spread t c =
    let h = c.requires in
    chosen-stop c.args.arities.now h.spelling h.k_lt_depth.0 h.k_lt_depth.1 c.loop-c.invariant c.loop-c-test.true refl (λ z. omega (arith, c.if-rest-eq1.true)) c.put_rows.ensures.spread c.in_err-at.was c.from_residual.ensures.0

pub choose-returns-in_err-at-clause-by_index : goal.choose-returns-in_err-at-clause-by_index
choose-returns-in_err-at-clause-by_index t c =
    let p = c.loop-c in
    λ x. ap (λ s. set s c.args.k x) c.put_rows.ensures.path_unchanged ∙ set-set p.nodes c.args.k _ x ∙ p.invariant.kept x

pub choose-loop-c-preserved : goal.choose-loop-c-preserved
choose-loop-c-preserved t c =
    let h = c.requires in
    let p = c.loop-c in
    elim c.if-rest-eq1.branch [
      | choose-then-rest-eq1+in_ok-at w ↦ rw (w.nodes-is, w.out-is, w.at-is) (chosen-more c.args.arities.now h.spelling h.k_lt_depth.0 h.k_lt_depth.1 p.invariant c.loop-c-test.true refl (λ z. omega (arith, w.if-rest-eq1.true)) w.put_rows.ensures.spread w.in_ok-at.was w.put_rows.ensures.path_unchanged)
      | choose-else-rest-eq1 w ↦ rw (w.nodes-is, w.out-is, w.at-is) (chosen-skip c.args.arities.now h.spelling h.k_lt_depth.0 h.k_lt_depth.1 p.invariant c.loop-c-test.true (omega (arith, w.if-rest-eq1.false)))
    ]

pub choose-returns-clause-spread : goal.choose-returns-clause-spread
choose-returns-clause-spread t c =
    let h = c.requires in
    chosen-end c.args.arities.now h.spelling h.k_lt_depth.0 h.k_lt_depth.1 c.loop-c.invariant c.loop-c-test.false

pub put_rows-returns-then-k-eq0-clause-spread : goal.put_rows-returns-then-k-eq0-clause-spread
put_rows-returns-then-k-eq0-clause-spread t c =
    rows_fit c.args.arities.now c.requires c.if-k-eq0.true c.put_row-end.ensures c.fit.ensures

pub put_rows-returns-then-sets-j-eq0-clause-spread : goal.put_rows-returns-then-sets-j-eq0-clause-spread
put_rows-returns-then-sets-j-eq0-clause-spread t c =
    rows_on c.args.arities.now c.requires (omega (arith, c.if-k-eq0.false)) c.if-sets-j-eq0.true c.put_rows.ensures.spread

pub put_rows-returns-clause-spread : goal.put_rows-returns-clause-spread
put_rows-returns-clause-spread t c =
    rows-chosen c.args.arities.now c.requires (omega (arith, c.if-k-eq0.false)) c.if-sets-j-eq0.false c.choose-r.ensures.spread
