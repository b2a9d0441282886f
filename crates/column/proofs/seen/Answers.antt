-- `column::seen` meets its contract: the flags are right of the rows so far.
use Rattle.column.proofs.Columns.{flags-start, flags-end, flags_miss, flags_hit}
use Rattle.matrix.specs.Places.{head_at}
use lib.ListN.{get_or}
use native.Mathlib.Omega.{arith}
use mathlib.Core.Path.{◌≡◌, ap, ◌∙◌}
use Rattle.column.proofs.seen.Goals as goal
use Rattle.column.proofs.seen.Goals.{then-from-h+then-h-from-lt32, else-from-h, else-from-h-via-then-from-h+else-h-from-lt32, else-from-h-via-else-from-h}

pub loop-p-init : goal.loop-p-init
loop-p-init c =
    let a = c.args in
    flags-start (head_at a.b.now.nodes.now a.b.now.left.now a.n) a.ps.now a.from

pub loop-p-preserved : goal.loop-p-preserved
loop-p-preserved c =
    let a = c.args in
    let i = c.loop-p.p-index in
    let lt = c.loop-p-test.true in
    let f = head_at a.b.now.nodes.now a.b.now.left.now a.n in
    let e : c.head-h.result ≡ f (get_or a.ps.now i 0) = c.head-h.ensures ∙ ap f c.from.ensures in
    let ok = c.loop-p.invariant in
    let old = c.loop-p.flags in
    let new = c.if-from-h.flags in
    elim c.if-from-h.branch [
      | then-from-h+then-h-from-lt32 w ↦ flags_hit f a.ps.now a.from i old new w.from-then-h-from-lt32.result lt ok w.flags-is (omega (arith, w.from-then-h-from-lt32.ensures, w.if-h-from-lt32.true)) (omega (arith, w.from-then-h-from-lt32.ensures, w.if-from-h.true))
      | else-from-h w ↦ elim w.else-from-h.branch [
        | else-from-h-via-then-from-h+else-h-from-lt32 v ↦ flags_miss f a.ps.now a.from i old new lt ok w.flags-is (λ k l q. omega (arith, v.if-from-h.true, v.if-h-from-lt32.false))
        | else-from-h-via-else-from-h v ↦ flags_miss f a.ps.now a.from i old new lt ok w.flags-is (λ k l q. omega (arith, v.if-from-h.false))
      ]
    ]

pub returns : goal.returns
returns c =
    let a = c.args in
    flags-end (head_at a.b.now.nodes.now a.b.now.left.now a.n) a.ps.now a.from c.loop-p.p-index c.loop-p.flags c.loop-p-test.false c.loop-p.invariant
