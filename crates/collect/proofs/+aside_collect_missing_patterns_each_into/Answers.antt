-- `collect::collect_missing_patterns`, `each`, `into` and `aside` meet their contracts.
use Rattle.matrix.proofs.Specialised.{steady, few-places}
use Rattle.collect.proofs.Calls.{into-falls, into-opened, into-sought, walked-end, walked-held, walked_trail, walked-falls, walked-stop, walked-more, is-past, is_leaf, is_zero, seen-held, seen_trail, full-asked, is-full, open_trail, open_falls, is_open}
use Rattle.outcomes.proofs.Tests.{entered}
use native.Mathlib.Omega.{arith}
use lib.ListN.{take}
use mathlib.Core.Path.{ap}
use Prim.Native.Nat.{◌+◌, ◌*◌, ◌<◌}
use Rattle.collect.proofs.+aside_collect_missing_patterns_each_into.Goals as goal

pub collect_missing_patterns-returns-then-over : goal.collect_missing_patterns-returns-then-over
collect_missing_patterns-returns-then-over t c =
    let a = c.args in
    let b = c.args.b.now in
    let h = c.requires in
    let low = c.low.ensures in
    is-past b low h.opened h.trail a.out.now _ c.over.ensures c.if-over.true

pub collect_missing_patterns-counted-requires : goal.collect_missing_patterns-counted-requires
collect_missing_patterns-counted-requires t c =
    let a = c.args in
    (entered a.at.calls (a.rows * a.n) a.room c.over.result c.over.ensures c.if-over.false).few

pub collect_missing_patterns-returns-then-rows-eq0 : goal.collect_missing_patterns-returns-then-rows-eq0
collect_missing_patterns-returns-then-rows-eq0 t c =
    let a = c.args in
    let b = c.args.b.now in
    let h = c.requires in
    let low = c.low.ensures in
    let g = (entered a.at.calls (a.rows * a.n) a.room c.over.result c.over.ensures c.if-over.false) in
    is_leaf b low h.opened h.trail a.out.now g.fits g.few c.if-rows-eq0.true c.put_rows-r.ensures.spread (ap (λ x. record a.steps.now { nodes = x }) c.put_rows-r.ensures.path_unchanged) c.counted.ensures

pub collect_missing_patterns-overflow_add-called : goal.collect_missing_patterns-overflow_add-called
collect_missing_patterns-overflow_add-called t c =
    let a = c.args in
    omega (arith, (entered a.at.calls (a.rows * a.n) a.room c.over.result c.over.ensures c.if-over.false).few)

pub collect_missing_patterns-returns-then-n-eq0 : goal.collect_missing_patterns-returns-then-n-eq0
collect_missing_patterns-returns-then-n-eq0 t c =
    let a = c.args in
    let b = c.args.b.now in
    let h = c.requires in
    let low = c.low.ensures in
    let g = (entered a.at.calls (a.rows * a.n) a.room c.over.result c.over.ensures c.if-over.false) in
    is_zero b low h.opened h.trail a.out.now g.fits g.few (omega (arith, c.if-rows-eq0.false)) c.if-n-eq0.true

pub collect_missing_patterns-collect_ctors-requires : goal.collect_missing_patterns-collect_ctors-requires
collect_missing_patterns-collect_ctors-requires t c =
    let a = c.args in
    let b = c.args.b.now in
    let pos : 0 < c.args.n = omega (arith, c.if-n-eq0.false) in
    few-places b.nodes.now b.left.now b.types.counts.now b.types.arities.now a.n (take a.rows a.s.now) c.requires.opened.places pos

pub collect_missing_patterns-overflow_sub-room : goal.collect_missing_patterns-overflow_sub-room
collect_missing_patterns-overflow_sub-room t c =
    let a = c.args in
    (entered a.at.calls (a.rows * a.n) a.room c.over.result c.over.ensures c.if-over.false).fits

pub collect_missing_patterns-each-requires : goal.collect_missing_patterns-each-requires
collect_missing_patterns-each-requires t c =
    let a = c.args in
    let b = c.args.b.now in
    let h = c.requires in
    let low = c.low.ensures in
    let g = (entered a.at.calls (a.rows * a.n) a.room c.over.result c.over.ensures c.if-over.false) in
    let some : 0 < c.args.rows = omega (arith, c.if-rows-eq0.false) in
    let pos : 0 < c.args.n = omega (arith, c.if-n-eq0.false) in
    let f = full-asked b low h.opened h.trail a.out.now g.fits g.few some pos c.collect_ctors.ensures c.in-Complete.is in
    (omega (arith, c.decreases), (seen-held b low h.opened h.trail a.out.now g.fits g.few some pos, (seen_trail b low h.opened h.trail a.out.now g.fits g.few some pos, (f.0, (low, (omega (arith, g.few), f.1.0, f.1.1))))))

pub collect_missing_patterns-bounds-steps-depth : goal.collect_missing_patterns-bounds-steps-depth
collect_missing_patterns-bounds-steps-depth t c =
    let a = c.args in
    let b = c.args.b.now in
    let h = c.requires in
    let low = c.low.ensures in
    let g = (entered a.at.calls (a.rows * a.n) a.room c.over.result c.over.ensures c.if-over.false) in
    let some : 0 < c.args.rows = omega (arith, c.if-rows-eq0.false) in
    let pos : 0 < c.args.n = omega (arith, c.if-n-eq0.false) in
    let st = seen_trail b low h.opened h.trail a.out.now g.fits g.few some pos in
    omega (arith, st.deep)

pub collect_missing_patterns-bounds-steps-depth-in-Open : goal.collect_missing_patterns-bounds-steps-depth-in-Open
collect_missing_patterns-bounds-steps-depth-in-Open t c =
    let a = c.args in
    let b = c.args.b.now in
    let h = c.requires in
    let low = c.low.ensures in
    let g = (entered a.at.calls (a.rows * a.n) a.room c.over.result c.over.ensures c.if-over.false) in
    let some : 0 < c.args.rows = omega (arith, c.if-rows-eq0.false) in
    let pos : 0 < c.args.n = omega (arith, c.if-n-eq0.false) in
    let st = seen_trail b low h.opened h.trail a.out.now g.fits g.few some pos in
    omega (arith, st.deep)

pub collect_missing_patterns-overflow_sub-room-in-Open : goal.collect_missing_patterns-overflow_sub-room-in-Open
collect_missing_patterns-overflow_sub-room-in-Open t c =
    let a = c.args in
    (entered a.at.calls (a.rows * a.n) a.room c.over.result c.over.ensures c.if-over.false).fits

pub collect_missing_patterns-into-requires : goal.collect_missing_patterns-into-requires
collect_missing_patterns-into-requires t c =
    let a = c.args in
    let b = c.args.b.now in
    let h = c.requires in
    let low = c.low.ensures in
    let g = (entered a.at.calls (a.rows * a.n) a.room c.over.result c.over.ensures c.if-over.false) in
    let some : 0 < c.args.rows = omega (arith, c.if-rows-eq0.false) in
    let pos : 0 < c.args.n = omega (arith, c.if-n-eq0.false) in
    (open_falls b low h.opened h.trail a.out.now g.fits g.few some pos c.collect_ctors.ensures c.in-Open.is c.decreases, (seen-held b low h.opened h.trail a.out.now g.fits g.few some pos, (open_trail b low h.opened h.trail a.out.now g.fits g.few some pos c.collect_ctors.ensures c.in-Open.is, omega arith)))

pub collect_missing_patterns-returns-in-Complete : goal.collect_missing_patterns-returns-in-Complete
collect_missing_patterns-returns-in-Complete t c =
    let a = c.args in
    let b = c.args.b.now in
    let h = c.requires in
    let low = c.low.ensures in
    let g = (entered a.at.calls (a.rows * a.n) a.room c.over.result c.over.ensures c.if-over.false) in
    let some : 0 < c.args.rows = omega (arith, c.if-rows-eq0.false) in
    let pos : 0 < c.args.n = omega (arith, c.if-n-eq0.false) in
    is-full b low h.opened h.trail a.out.now g.fits g.few some pos c.collect_ctors.ensures c.in-Complete.is c.each.ensures

pub collect_missing_patterns-returns-in-Open : goal.collect_missing_patterns-returns-in-Open
collect_missing_patterns-returns-in-Open t c =
    let a = c.args in
    let b = c.args.b.now in
    let h = c.requires in
    let low = c.low.ensures in
    let g = (entered a.at.calls (a.rows * a.n) a.room c.over.result c.over.ensures c.if-over.false) in
    let some : 0 < c.args.rows = omega (arith, c.if-rows-eq0.false) in
    let pos : 0 < c.args.n = omega (arith, c.if-n-eq0.false) in
    is_open b low h.opened h.trail a.out.now g.fits g.few some pos c.collect_ctors.ensures c.in-Open.is c.into.ensures

pub each-into-requires : goal.each-into-requires
each-into-requires t c =
    let a = c.args in
    let b = c.args.b.now in
    let h = c.requires in
    let small : a.key + c.loop-c.c + 32 < 65536 = omega (arith, c.loop-c-test.true, h.calls_bound.2) in
    (walked-falls b h.held h.trail c.loop-c.invariant c.loop-c-test.true h.low h.listed h.calls_bound.1 c.decreases, (walked-held b h.held h.trail c.loop-c.invariant, (walked_trail b h.held h.trail c.loop-c.invariant small, omega arith)))

pub each-returns-in_err-at : goal.each-returns-in_err-at
each-returns-in_err-at t c =
    let b = c.args.b.now in
    let h = c.requires in
    walked-stop b h.held h.trail c.loop-c.invariant c.loop-c-test.true c.into.ensures c.in_err-at.was c.from_residual.ensures.0

pub each-loop-c-preserved : goal.each-loop-c-preserved
each-loop-c-preserved t c =
    let b = c.args.b.now in
    let h = c.requires in
    walked-more b h.held h.trail c.loop-c.invariant c.loop-c-test.true c.into.ensures c.into.auto.s c.in_ok-at.was

pub each-returns : goal.each-returns
each-returns t c =
    let b = c.args.b.now in
    let h = c.requires in
    walked-end b h.held h.trail c.loop-c.invariant c.loop-c-test.false

pub into-specialize-k-requires-clause-steady : goal.into-specialize-k-requires-clause-steady
into-specialize-k-requires-clause-steady t c =
    let a = c.args in
    let b = c.args.b.now in
    let h = c.requires in
    steady b.nodes.now b.left.now b.types.counts.now b.types.arities.now a.n (take a.rows a.s.now) h.held.places h.held.some h.held.sizes.short

pub into-overflow_add-n : goal.into-overflow_add-n
into-overflow_add-n t c =
    let a = c.args in
    omega (arith, c.arity-a.ensures, c.low.ensures a.key, c.requires.held.wide)

pub into-collect_missing_patterns-requires : goal.into-collect_missing_patterns-requires
into-collect_missing_patterns-requires t c =
    let a = c.args in
    let b = c.args.b.now in
    let h = c.requires in
    let low = c.low.ensures in
    (into-falls b low a.key h.held c.if-s-rows.false c.specialize-k.ensures c.arity-a.ensures c.decreases, (into-opened b low a.key h.held c.if-s-rows.false c.specialize-k.ensures c.arity-a.ensures, (h.trail, omega (arith, h.depth_nonzero))))

pub into-returns : goal.into-returns
into-returns t c =
    let a = c.args in
    let b = c.args.b.now in
    let h = c.requires in
    let low = c.low.ensures in
    into-sought b low a.key h.held c.if-s-rows.false c.specialize-k.ensures c.arity-a.ensures c.collect_missing_patterns.ensures
