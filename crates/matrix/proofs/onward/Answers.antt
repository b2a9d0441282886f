-- `matrix::onward` meets its contract: a row that begins with a wildcard or with the key goes on.
use mathlib.Core.Path.{◌≡◌, sym, ap, ◌∙◌}
use Prim.Native.Nat.{ℕ, ◌≤◌}
use native.Mathlib.Omega.{arith}
use lib.ListN.{get_or}
use Rattle.heads.proofs.Nodes.{is_wild, no_wild}
use Rattle.matrix.specs.Numbers.{same_node}
use Rattle.matrix.proofs.Literals.{some-key}
use Rattle.matrix.proofs.Steps.{step-wild, step-key}
use Rattle.matrix.proofs.onward.Goals.{then-eq-via-then-eq, then-eq-via-else-eq+then-same_node}
use Rattle.matrix.proofs.onward.Goals as goal

pub returns-then-eq : goal.returns-then-eq
returns-then-eq c =
    let a = c.args in
    let b = a.b.now in
    let bytes = b.types.bytes.now in
    let h = get_or b.nodes.now a.p 0 in
    let reads : a.n ≤ get_or b.left.now a.p 0 = omega (arith, c.if-left-n.false, c.left.ensures ∙ ap (λ (j : ℕ). get_or b.left.now j 0) c.from-at.ensures) in
    let is : c.node-h.result ≡ h = c.node-h.ensures ∙ ap (λ (j : ℕ). get_or b.nodes.now j 0) c.from-at.ensures in
    elim c.then-eq.branch [
      | then-eq-via-then-eq w ↦ step-wild bytes b.nodes.now b.left.now a.n a.key a.p reads (sym is ∙ is_wild _ _ c.from.ensures w.if-eq.ensures)
      | then-eq-via-else-eq+then-same_node w ↦
          let some = λ (e : h ≡ 0). no_wild _ _ c.from.ensures w.if-eq.ensures (is ∙ e) in
          let same = ap (λ (k : ℕ). same_node bytes k a.key) (sym is) ∙ sym w.same_node.ensures ∙ w.if-same_node.true in
          step-key bytes b.nodes.now b.left.now a.n a.key a.p reads some (some-key bytes h a.key some same) same
    ]
