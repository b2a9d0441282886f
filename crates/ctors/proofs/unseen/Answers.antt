-- `ctors::unseen` meets its contract: the set is that of the flags from i on.
use Rattle.ctors.proofs.Flags.{down_next, down_none, down_small, byte-bit, bit-low}
use Rattle.ctors.specs.Sets.{down_set}
use native.Mathlib.Omega.{arith}
use mathlib.Core.Bool.{false, not}
use lib.ListN.{get_or}
use Prim.Native.Nat.{ℕ, ◌+◌, ◌-◌}
use mathlib.Core.Path.{◌≡◌, sym, ap}
use Rattle.ctors.proofs.unseen.Goals as goal

pub loop-i-init : goal.loop-i-init
loop-i-init c = sym (down_none c.args.flags c.args.k c.args.k (omega arith))

pub overflow_mul-set : goal.overflow_mul-set
overflow_mul-set c =
    let p = c.loop-i in
    omega (arith, down_small c.args.flags p.i (c.args.k - p.i) (omega arith))

pub overflow_add-set : goal.overflow_add-set
overflow_add-set c =
    let p = c.loop-i in
    let f = not (get_or c.args.flags (p.i - 1) false) in
    omega (arith, c.from.ensures, byte-bit f, bit-low f, down_small c.args.flags p.i (c.args.k - p.i) (omega arith))

pub loop-i-preserved : goal.loop-i-preserved
loop-i-preserved c =
    let a = c.args in
    let p = c.loop-i in
    let i : p.i - 1 + 1 ≡ p.i = omega arith in
    omega (arith, c.from.ensures, byte-bit (not (get_or a.flags (p.i - 1) false)), down_next a.flags (p.i - 1) a.k (omega arith), ap (λ (j : ℕ). down_set a.flags j (a.k - j)) i)
