-- `matrix::specialize_in` meets its contract: the steps of the first i rows are written.
use Rattle.matrix.proofs.Steps.{written_none, written_read, turn_at, turn-gone}
use Rattle.matrix.specs.Places.{steps, place_of}
use lib.Seq.{length-take-le}
use lib.ListN.{length, get_or, take}
use native.Mathlib.Omega.{arith}
use Prim.Native.Nat.{ℕ, ◌+◌, ◌≤◌, ◌<◌}
use mathlib.Core.Path.{◌≡◌, sym, ap, subst, ◌∙◌}
use Rattle.matrix.proofs.specialize_in.Goals as goal
use Rattle.matrix.proofs.specialize_in.Goals.{in-Some, in_default}

pub loop-i-init : goal.loop-i-init
unfolding steps
loop-i-init c = (written_none c.args.s.now c.args.rows c.requires.rows_in_bounds, omega arith)

pub onward-requires : goal.onward-requires
onward-requires c =
    let a = c.args in
    let p = c.loop-i in
    let rd : get_or p.s p.i 0 ≡ get_or (take a.rows a.s.now) p.i 0 = written_read a.s.now a.rows c.requires.rows_in_bounds (steps a.b.now.types.bytes.now a.b.now.nodes.now a.b.now.left.now a.n a.key (take p.i (take a.rows a.s.now))) p.k p.s p.invariant.0 (omega arith) p.i c.loop-i-test.true in
    let lt : p.i < length (take a.rows a.s.now) = omega (arith, length-take-le a.rows a.s.now (omega arith)) in
    subst (λ (x : ℕ). a.n ≤ get_or a.b.now.left.now x 0 → x + 1 < 65536) (sym rd) (c.requires.steady.next p.i lt)

pub loop-i-preserved : goal.loop-i-preserved
loop-i-preserved c =
    let a = c.args in
    let b = a.b.now in
    let p = c.loop-i in
    let ens = c.onward.ensures in
    elim c.match-onward.branch [
      | in-Some w ↦ turn_at b.types.bytes.now b.nodes.now b.left.now a.n a.key a.s.now a.rows c.requires.rows_in_bounds p.i p.k p.s c.loop-i-test.true p.invariant.1 p.invariant.0 w.in-Some.q c.match-onward.k c.match-onward.s (ap place_of (sym w.in-Some.is) ∙ ens) w.s-is w.k-is
      | in_default w ↦ turn-gone b.types.bytes.now b.nodes.now b.left.now a.n a.key a.s.now a.rows c.requires.rows_in_bounds p.i p.k p.s c.loop-i-test.true p.invariant.1 p.invariant.0 c.match-onward.k c.match-onward.s (ap place_of (sym w.in_default.is) ∙ ens) w.s-is w.k-is
    ]
