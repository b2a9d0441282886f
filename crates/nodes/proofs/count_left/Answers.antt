-- `nodes::count_left` meets its contract: before i, `left` has what the nodes before i leave.
use mathlib.Core.Path.{◌≡◌, sym, ap, ◌∙◌}
use Prim.Native.Nat.{ℕ, ◌+◌, ◌-◌}
use native.Mathlib.Omega.{arith}
use mathlib.Core.List.{List, map}
use lib.ListN.{length, get_or, take, drop, set, length-drop}
use lib.Seq.{sets, get_or-take, get_or-drop, length-take-le}
use Rattle.nodes.specs.Keys.{low16}
use Rattle.nodes.specs.Lefts.{arity_of, lefts_of, left_after}
use Rattle.nodes.proofs.Lefts.{left-none, after_none, left-next, after_next}
use Rattle.nodes.proofs.count_left.Goals as goal

pub loop-i-init : goal.loop-i-init
loop-i-init c =
    (left-none c.args.arities.now c.args.left.now c.args.used (take c.args.count (drop c.args.used c.args.nodes.now)), after_none c.args.arities.now (take c.args.count (drop c.args.used c.args.nodes.now)), omega arith)

pub loop-i-preserved : goal.loop-i-preserved
loop-i-preserved c =
    let len : length (take c.args.count (drop c.args.used c.args.nodes.now)) ≡ c.args.count = length-take-le c.args.count (drop c.args.used c.args.nodes.now) (omega (arith, length-drop c.args.used c.args.nodes.now)) in
    let here : get_or (take c.args.count (drop c.args.used c.args.nodes.now)) c.loop-i.i 0 ≡ get_or c.args.nodes.now (c.args.used + c.loop-i.i) 0 = get_or-take c.args.count (drop c.args.used c.args.nodes.now) c.loop-i.i 0 (omega arith) ∙ get_or-drop c.args.used c.args.nodes.now c.loop-i.i 0 in
    let stored : c.put.new.s ≡ sets c.args.left.now c.args.used (map low16 (lefts_of c.args.arities.now 1 (take (c.loop-i.i + 1) (take c.args.count (drop c.args.used c.args.nodes.now))))) = c.put.ensures.s_after ∙ ap (λ (x : ℕ). set c.loop-i.left (c.args.used + c.loop-i.i) x) (c.low.ensures ∙ ap low16 c.loop-i.invariant.1) ∙ ap (λ (l : List ℕ). set l (c.args.used + c.loop-i.i) (low16 (left_after c.args.arities.now 1 (take c.loop-i.i (take c.args.count (drop c.args.used c.args.nodes.now)))))) c.loop-i.invariant.0 ∙ left-next c.args.arities.now c.args.left.now c.args.used c.loop-i.i (take c.args.count (drop c.args.used c.args.nodes.now)) (omega arith) in
    let next : c.saturating_sub.result + c.arity.result ≡ left_after c.args.arities.now 1 (take (c.loop-i.i + 1) (take c.args.count (drop c.args.used c.args.nodes.now))) = ap (λ (x : ℕ). x + c.arity.result) c.saturating_sub.ensures ∙ ap (λ (x : ℕ). x - 1 + c.arity.result) c.loop-i.invariant.1 ∙ ap (λ (x : ℕ). left_after c.args.arities.now 1 (take c.loop-i.i (take c.args.count (drop c.args.used c.args.nodes.now))) - 1 + x) (c.arity.ensures.0 ∙ ap (arity_of c.args.arities.now) (c.get.ensures ∙ sym here)) ∙ sym (after_next c.args.arities.now c.loop-i.i (take c.args.count (drop c.args.used c.args.nodes.now)) (omega arith)) in
    (stored, next, omega arith)
