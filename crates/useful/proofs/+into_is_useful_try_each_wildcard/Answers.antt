-- The cycle of `is_useful` meets its contracts: each call is ready for its work, the measure falls, and each answer is what the limits make of the definition.
use Rattle.useful.proofs.Calls.{into-ready, into-falls, into-walked, tried-none, each_work, each-falls, each_over, each_yes, each_no, each_none, wild_work, wild-into-falls, wild-each-falls, wild-seen, wild-into, wild-each, split_some, split-row, split-work, split-wild, wild-falls, own-falls}
use Rattle.matrix.proofs.Specialised.{matrix-length, steady, few-places}
use Rattle.matrix.proofs.Arities.{arities-low, arity_0}
use Rattle.outcomes.proofs.Tests.{entered}
use Rattle.useful.proofs.Returns.{is-past, is_none, is_zero, is-wild, is-own}
use Rattle.useful.specs.Ready.{new_row}
use Rattle.matrix.specs.Numbers.{ar_of, matrix}
use lib.ListN.{length, take}
use Rattle.std.proofs.Common.{rules}
use native.Mathlib.Omega.{arith}
use mathlib.Core.List.{List, ◌∷◌}
use mathlib.Core.Path.{◌≡◌, refl, sym, ap, ◌∙◌}
use Prim.Native.Nat.{ℕ, ◌+◌, ◌*◌, ◌<◌}
use Rattle.useful.proofs.+into_is_useful_try_each_wildcard.Goals as goal

pub into-specialize-k-requires : goal.into-specialize-k-requires
into-specialize-k-requires t c =
    let a = c.args in
    let b = a.b.now in
    let r = c.requires.work in
    record { steady = steady b.nodes.now b.left.now b.types.counts.now b.types.arities.now a.n (take a.rows a.s.now) r.places r.some r.sizes.short; rows_in_bounds = omega (arith, r.space) }

pub into-is_useful-requires : goal.into-is_useful-requires
into-is_useful-requires t c =
    let a = c.args in
    let b = a.b.now in
    let r = c.requires.work in
    let g = c.requires.arguments in
    let k = c.specialize-k in
    (into-falls b.types.bytes.now b.nodes.now b.left.now b.types.counts.now b.types.arities.now a.row.rest.now a.row.wilds a.n a.key a.s.now a.rows a.room r k.result k.new.s k.ensures a.a g.0 g.1 t c.decreases, into-ready b.types.bytes.now b.nodes.now b.left.now b.types.counts.now b.types.arities.now a.row.rest.now a.row.wilds a.n a.key a.s.now a.rows a.room r k.result k.new.s k.ensures a.a g.0 g.1)

pub into-returns : goal.into-returns
into-returns t c =
    let a = c.args in
    let b = a.b.now in
    let g = c.requires.arguments in
    let k = c.specialize-k in
    into-walked b.types.bytes.now b.nodes.now b.left.now b.types.counts.now b.types.arities.now a.row.rest.now a.row.wilds a.n a.key a.s.now a.rows a.room c.requires.work k.result k.new.s k.ensures a.a g.0 g.1 a.calls c.is_useful.new.s c.is_useful.result c.is_useful.ensures

pub is_useful-returns-then-over : goal.is_useful-returns-then-over
is_useful-returns-then-over t c =
    let a = c.args in
    let b = a.b.now in
    let r = c.requires in
    let low = arities-low c.arities_of-arities.ensures (search rules) in
    let m = matrix b.nodes.now b.left.now a.n (take a.rows a.s.now) in
    let v = new_row a.row.wilds a.row.rest.now in
    let len : length m ≡ a.rows = matrix-length b.nodes.now b.left.now a.n a.s.now a.rows (omega (arith, r.space)) in
    record { kept = refl; is = is-past b.types.bytes.now b.types.counts.now b.types.arities.now low a.n m v a.calls a.room a.rows len c.over.result c.over.ensures c.if-over.true }

pub is_useful-leaf-requires : goal.is_useful-leaf-requires
is_useful-leaf-requires t c =
    let a = c.args in
    let g = entered a.calls ((a.rows + 1) * a.n) a.room c.over.result c.over.ensures c.if-over.false in
    g.few

pub is_useful-returns-then-rows-eq0 : goal.is_useful-returns-then-rows-eq0
is_useful-returns-then-rows-eq0 t c =
    let a = c.args in
    let b = a.b.now in
    let r = c.requires in
    let g = entered a.calls ((a.rows + 1) * a.n) a.room c.over.result c.over.ensures c.if-over.false in
    let low = arities-low c.arities_of-arities.ensures (search rules) in
    let m = matrix b.nodes.now b.left.now a.n (take a.rows a.s.now) in
    let v = new_row a.row.wilds a.row.rest.now in
    let len : length m ≡ a.rows = matrix-length b.nodes.now b.left.now a.n a.s.now a.rows (omega (arith, r.space)) in
    record { kept = refl; is = c.leaf.ensures ∙ is_none b.types.bytes.now b.types.counts.now b.types.arities.now low a.n m v a.calls a.room a.rows len g.fits g.few c.if-rows-eq0.true }

pub is_useful-leaf-requires-then-n-eq0 : goal.is_useful-leaf-requires-then-n-eq0
is_useful-leaf-requires-then-n-eq0 t c =
    let a = c.args in
    let g = entered a.calls ((a.rows + 1) * a.n) a.room c.over.result c.over.ensures c.if-over.false in
    g.few

pub is_useful-returns-then-n-eq0 : goal.is_useful-returns-then-n-eq0
is_useful-returns-then-n-eq0 t c =
    let a = c.args in
    let b = a.b.now in
    let r = c.requires in
    let g = entered a.calls ((a.rows + 1) * a.n) a.room c.over.result c.over.ensures c.if-over.false in
    let low = arities-low c.arities_of-arities.ensures (search rules) in
    let m = matrix b.nodes.now b.left.now a.n (take a.rows a.s.now) in
    let v = new_row a.row.wilds a.row.rest.now in
    let len : length m ≡ a.rows = matrix-length b.nodes.now b.left.now a.n a.s.now a.rows (omega (arith, r.space)) in
    let some : 0 < a.rows = omega (arith, c.if-rows-eq0.false) in
    record { kept = refl; is = c.leaf-then-n-eq0.ensures ∙ is_zero b.types.bytes.now b.types.counts.now b.types.arities.now low a.n m v a.calls a.room a.rows len g.fits g.few some c.if-n-eq0.true }

pub is_useful-overflow_add-calls : goal.is_useful-overflow_add-calls
is_useful-overflow_add-calls t c =
    let a = c.args in
    let g = entered a.calls ((a.rows + 1) * a.n) a.room c.over.result c.over.ensures c.if-over.false in
    omega (arith, g.few)

pub is_useful-overflow_sub-room : goal.is_useful-overflow_sub-room
is_useful-overflow_sub-room t c =
    let a = c.args in
    let g = entered a.calls ((a.rows + 1) * a.n) a.room c.over.result c.over.ensures c.if-over.false in
    g.fits

pub is_useful-split-h-requires : goal.is_useful-split-h-requires
is_useful-split-h-requires t c =
    let a = c.args in
    let b = a.b.now in
    split_some b.types.bytes.now b.nodes.now b.left.now b.types.counts.now b.types.arities.now a.row.rest.now a.row.wilds a.n a.s.now a.rows a.room c.requires (omega (arith, c.if-n-eq0.false))

pub is_useful-wildcard-requires : goal.is_useful-wildcard-requires
is_useful-wildcard-requires t c =
    let a = c.args in
    let b = a.b.now in
    let r = c.requires in
    let g = entered a.calls ((a.rows + 1) * a.n) a.room c.over.result c.over.ensures c.if-over.false in
    let pos : 0 < a.n = omega (arith, c.if-n-eq0.false) in
    (wild-falls b.types.bytes.now b.nodes.now b.left.now b.types.counts.now b.types.arities.now a.row.rest.now a.row.wilds a.n a.s.now a.rows a.room r pos c.split-h.result.0 c.split-h.result.1.wilds c.split-h.result.1.rest.now c.split-h.ensures c.if-h-eq0.true t c.decreases, (split-wild b.types.bytes.now b.nodes.now b.left.now b.types.counts.now b.types.arities.now a.row.rest.now a.row.wilds a.n a.s.now a.rows a.room r pos c.split-h.result.0 c.split-h.result.1.wilds c.split-h.result.1.rest.now c.split-h.ensures c.if-h-eq0.true g.fits, omega (arith, g.few)))

pub is_useful-returns-then-h-eq0 : goal.is_useful-returns-then-h-eq0
is_useful-returns-then-h-eq0 t c =
    let a = c.args in
    let b = a.b.now in
    let r = c.requires in
    let g = entered a.calls ((a.rows + 1) * a.n) a.room c.over.result c.over.ensures c.if-over.false in
    let low = arities-low c.arities_of-arities.ensures (search rules) in
    let m = matrix b.nodes.now b.left.now a.n (take a.rows a.s.now) in
    let v = new_row a.row.wilds a.row.rest.now in
    let len : length m ≡ a.rows = matrix-length b.nodes.now b.left.now a.n a.s.now a.rows (omega (arith, r.space)) in
    let pos : 0 < a.n = omega (arith, c.if-n-eq0.false) in
    let some : 0 < a.rows = omega (arith, c.if-rows-eq0.false) in
    let e = split-row b.types.bytes.now b.nodes.now b.left.now b.types.counts.now b.types.arities.now a.row.rest.now a.row.wilds a.n a.s.now a.rows a.room r pos c.split-h.result.0 c.split-h.result.1.wilds c.split-h.result.1.rest.now c.split-h.ensures in
    record { kept = c.wildcard.ensures.kept; is = is-wild b.types.bytes.now b.types.counts.now b.types.arities.now low a.n m v a.calls a.room a.rows len g.fits (new_row c.split-h.result.1.wilds c.split-h.result.1.rest.now) c.wildcard.result some pos (e ∙ ap (λ (h : ℕ). h ∷ (new_row c.split-h.result.1.wilds c.split-h.result.1.rest.now)) c.if-h-eq0.true) c.wildcard.ensures.is }

pub is_useful-into-requires : goal.is_useful-into-requires
is_useful-into-requires t c =
    let a = c.args in
    let b = a.b.now in
    let r = c.requires in
    let g = entered a.calls ((a.rows + 1) * a.n) a.room c.over.result c.over.ensures c.if-over.false in
    let pos : 0 < a.n = omega (arith, c.if-n-eq0.false) in
    let h = c.split-h.result.0 in
    let low = arities-low c.arities_of-arities.ensures (search rules) h in
    let e : c.arity-a.result ≡ ar_of b.types.arities.now h = c.arity-a.ensures ∙ ap (λ (x : List ℕ). ar_of x h) c.arities_of-arities.ensures in
    (own-falls b.types.bytes.now b.nodes.now b.left.now b.types.counts.now b.types.arities.now a.row.rest.now a.row.wilds a.n a.s.now a.rows a.room r pos c.split-h.result.0 c.split-h.result.1.wilds c.split-h.result.1.rest.now c.split-h.ensures c.if-h-eq0.false low t c.decreases, (split-work b.types.bytes.now b.nodes.now b.left.now b.types.counts.now b.types.arities.now a.row.rest.now a.row.wilds a.n a.s.now a.rows a.room r pos c.split-h.result.0 c.split-h.result.1.wilds c.split-h.result.1.rest.now c.split-h.ensures g.fits, (e, omega (arith, e, low))))

pub is_useful-returns : goal.is_useful-returns
is_useful-returns t c =
    let a = c.args in
    let b = a.b.now in
    let r = c.requires in
    let g = entered a.calls ((a.rows + 1) * a.n) a.room c.over.result c.over.ensures c.if-over.false in
    let low = arities-low c.arities_of-arities.ensures (search rules) in
    let m = matrix b.nodes.now b.left.now a.n (take a.rows a.s.now) in
    let v = new_row a.row.wilds a.row.rest.now in
    let len : length m ≡ a.rows = matrix-length b.nodes.now b.left.now a.n a.s.now a.rows (omega (arith, r.space)) in
    let pos : 0 < a.n = omega (arith, c.if-n-eq0.false) in
    let some : 0 < a.rows = omega (arith, c.if-rows-eq0.false) in
    let e = split-row b.types.bytes.now b.nodes.now b.left.now b.types.counts.now b.types.arities.now a.row.rest.now a.row.wilds a.n a.s.now a.rows a.room r pos c.split-h.result.0 c.split-h.result.1.wilds c.split-h.result.1.rest.now c.split-h.ensures in
    record { kept = c.into.ensures.kept; is = is-own b.types.bytes.now b.types.counts.now b.types.arities.now low a.n m v a.calls a.room a.rows len g.fits (new_row c.split-h.result.1.wilds c.split-h.result.1.rest.now) c.split-h.result.0 c.into.result some pos e c.if-h-eq0.false c.into.ensures.is }

pub try_each-loop-i-init : goal.try_each-loop-i-init
try_each-loop-i-init t c =
    let a = c.args in
    let b = a.b.now in
    (refl, tried-none b.types.bytes.now b.nodes.now b.left.now b.types.counts.now b.types.arities.now a.row.rest.now a.row.wilds a.n a.key a.more a.s.now a.rows a.room a.calls c.requires.calls_bound.0)

pub try_each-overflow_add-wilds : goal.try_each-overflow_add-wilds
try_each-overflow_add-wilds t c =
    let a = c.args in
    let b = a.b.now in
    let q = c.loop-i.invariant in
    let e : c.arity-a.result ≡ ar_of b.types.arities.now (a.key + c.loop-i.i) = c.arity-a.ensures ∙ ap (λ (x : List ℕ). ar_of x (a.key + c.loop-i.i)) c.arities_of-arities.ensures in
    let low = arities-low c.arities_of-arities.ensures (search rules) (a.key + c.loop-i.i) in
    let r = c.requires.work in
    omega (arith, e, low, r.inside, r.wide)

pub try_each-into-requires : goal.try_each-into-requires
try_each-into-requires t c =
    let a = c.args in
    let b = a.b.now in
    let q = c.loop-i.invariant in
    let e : c.arity-a.result ≡ ar_of b.types.arities.now (a.key + c.loop-i.i) = c.arity-a.ensures ∙ ap (λ (x : List ℕ). ar_of x (a.key + c.loop-i.i)) c.arities_of-arities.ensures in
    let low = arities-low c.arities_of-arities.ensures (search rules) (a.key + c.loop-i.i) in
    (each-falls b.types.bytes.now b.nodes.now b.left.now b.types.counts.now b.types.arities.now a.row.rest.now a.row.wilds a.n a.key a.more a.s.now a.rows a.room c.requires.work a.calls c.loop-i.i c.loop-i.calls c.loop-i.s q.1 c.loop-i-test.true c.arity-a.result e low c.requires.listed (omega (arith, c.requires.calls_bound.1)) t 400 c.decreases, (each_work b.types.bytes.now b.nodes.now b.left.now b.types.counts.now b.types.arities.now a.row.rest.now a.row.wilds a.n a.key a.more a.s.now a.rows a.room c.requires.work a.calls c.loop-i.i c.loop-i.calls c.loop-i.s q.1 c.loop-i-test.true c.arity-a.result e q.0, (e, omega (arith, e, low))))

pub try_each-returns-in_err-v : goal.try_each-returns-in_err-v
try_each-returns-in_err-v t c =
    let a = c.args in
    let b = a.b.now in
    let q = c.loop-i.invariant in
    let e : c.arity-a.result ≡ ar_of b.types.arities.now (a.key + c.loop-i.i) = c.arity-a.ensures ∙ ap (λ (x : List ℕ). ar_of x (a.key + c.loop-i.i)) c.arities_of-arities.ensures in
    let low = arities-low c.arities_of-arities.ensures (search rules) (a.key + c.loop-i.i) in
    each_over b.types.bytes.now b.nodes.now b.left.now b.types.counts.now b.types.arities.now a.row.rest.now a.row.wilds a.n a.key a.more a.s.now a.rows a.room c.requires.work a.calls c.loop-i.i c.loop-i.calls c.loop-i.s q.1 c.loop-i-test.true c.arity-a.result e c.into.result c.into.new.s c.into.ensures c.in_err-v.field-0.0 c.in_err-v.was c.from_residual.result c.from_residual.ensures.0

pub try_each-returns-then-last : goal.try_each-returns-then-last
try_each-returns-then-last t c =
    let a = c.args in
    let b = a.b.now in
    let q = c.loop-i.invariant in
    let e : c.arity-a.result ≡ ar_of b.types.arities.now (a.key + c.loop-i.i) = c.arity-a.ensures ∙ ap (λ (x : List ℕ). ar_of x (a.key + c.loop-i.i)) c.arities_of-arities.ensures in
    let low = arities-low c.arities_of-arities.ensures (search rules) (a.key + c.loop-i.i) in
    each_yes b.types.bytes.now b.nodes.now b.left.now b.types.counts.now b.types.arities.now a.row.rest.now a.row.wilds a.n a.key a.more a.s.now a.rows a.room c.requires.work a.calls c.loop-i.i c.loop-i.calls c.loop-i.s q.1 c.loop-i-test.true c.arity-a.result e c.into.result c.into.new.s c.into.ensures c.in_ok-v.v c.in_ok-v.was c.if-last.true

pub try_each-loop-i-preserved : goal.try_each-loop-i-preserved
try_each-loop-i-preserved t c =
    let a = c.args in
    let b = a.b.now in
    let q = c.loop-i.invariant in
    let e : c.arity-a.result ≡ ar_of b.types.arities.now (a.key + c.loop-i.i) = c.arity-a.ensures ∙ ap (λ (x : List ℕ). ar_of x (a.key + c.loop-i.i)) c.arities_of-arities.ensures in
    let low = arities-low c.arities_of-arities.ensures (search rules) (a.key + c.loop-i.i) in
    (c.into.auto.s ∙ q.0, each_no b.types.bytes.now b.nodes.now b.left.now b.types.counts.now b.types.arities.now a.row.rest.now a.row.wilds a.n a.key a.more a.s.now a.rows a.room c.requires.work a.calls c.loop-i.i c.loop-i.calls c.loop-i.s q.1 c.loop-i-test.true c.arity-a.result e c.into.result c.into.new.s c.into.ensures c.in_ok-v.v c.in_ok-v.was c.if-last.false)

pub try_each-returns : goal.try_each-returns
try_each-returns t c =
    let a = c.args in
    let b = a.b.now in
    let q = c.loop-i.invariant in
    each_none b.types.bytes.now b.nodes.now b.left.now b.types.counts.now b.types.arities.now a.row.rest.now a.row.wilds a.n a.key a.more a.s.now a.rows a.room a.calls c.loop-i.i c.loop-i.calls c.loop-i.s q.1 c.loop-i-test.false

pub wildcard-collect_ctors-requires : goal.wildcard-collect_ctors-requires
wildcard-collect_ctors-requires t c =
    let a = c.args in
    let b = a.b.now in
    let r = c.requires.work in
    few-places b.nodes.now b.left.now b.types.counts.now b.types.arities.now a.n (take a.rows a.s.now) r.places r.some

pub wildcard-try_each-requires : goal.wildcard-try_each-requires
wildcard-try_each-requires t c =
    let a = c.args in
    let b = a.b.now in
    let g = wild-seen b.types.bytes.now b.nodes.now b.left.now b.types.counts.now b.types.arities.now a.row.rest.now a.row.wilds a.n a.s.now a.rows a.room c.requires.work c.collect_ctors.result c.collect_ctors.ensures c.in-Complete.first c.in-Complete.count c.in-Complete.is in
    (wild-each-falls b.types.bytes.now b.nodes.now b.left.now b.types.counts.now b.types.arities.now a.row.rest.now a.row.wilds a.n a.s.now a.rows a.room c.requires.work t 400 (omega arith) c.decreases, (c.requires.work, (g.0.listed, (c.requires.calls_bound, g.0.positive, omega (arith, g.1, g.0.small)))))

pub wildcard-into-requires : goal.wildcard-into-requires
wildcard-into-requires t c =
    let a = c.args in
    let b = a.b.now in
    (wild-into-falls b.types.bytes.now b.nodes.now b.left.now b.types.counts.now b.types.arities.now a.row.rest.now a.row.wilds a.n a.s.now a.rows a.room c.requires.work t c.decreases, (wild_work b.types.bytes.now b.nodes.now b.left.now b.types.counts.now b.types.arities.now a.row.rest.now a.row.wilds a.n a.s.now a.rows a.room c.requires.work, (sym (arity_0 b.types.arities.now), omega arith)))

pub wildcard-returns-in-Complete : goal.wildcard-returns-in-Complete
wildcard-returns-in-Complete t c =
    let a = c.args in
    let b = a.b.now in
    wild-each b.types.bytes.now b.nodes.now b.left.now b.types.counts.now b.types.arities.now a.row.rest.now a.row.wilds a.n a.s.now a.rows a.room c.requires.work a.calls c.collect_ctors.result c.collect_ctors.ensures c.try_each.new.s c.try_each.result c.in-Complete.first c.in-Complete.count c.in-Complete.is c.try_each.ensures

pub wildcard-returns-in-Open : goal.wildcard-returns-in-Open
wildcard-returns-in-Open t c =
    let a = c.args in
    let b = a.b.now in
    wild-into b.types.bytes.now b.nodes.now b.left.now b.types.counts.now b.types.arities.now a.row.rest.now a.row.wilds a.n a.s.now a.rows a.room c.requires.work a.calls c.collect_ctors.result c.collect_ctors.ensures c.into.new.s c.into.result c.in-Open.node c.in-Open.set c.in-Open.is c.into.ensures
