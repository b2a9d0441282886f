-- `patterns::row` meets its contract: the invariant is `Going`, what is left of the bytes falls.
use mathlib.Core.Path.{refl, sym, subst, ◌∙◌}
use Prim.Native.Nat.{ℕ}
use native.Mathlib.Omega.{arith}
use borrow.Author.Rules.{rules}
use Rattle.std.specs.Prelude.{Option as Answer, Ok}
use Rattle.patterns.specs.Rows.{turned_to, Turned}
use Rattle.patterns.proofs.Rounds.{Going, at-last, start, here, falls, round, wrong, last}
use Rattle.patterns.proofs.row.Goals as goal

pub loop-next-init : goal.loop-next-init
loop-next-init c =
    let a = c.args in
    let b = a.types.now in
    record { going = start b.bytes.now b.kinds.now b.counts.now b.arities.now b.starts.now b.fields.now a.from a.subject a.used a.nodes.now a.stack.now c.requires; kept = record { stack_ref = refl; stack_len = refl; nodes_ref = refl } }

pub turn-requires-clause-at_bound : goal.turn-requires-clause-at_bound
turn-requires-clause-at_bound c =
    let a = c.args in
    let b = a.types.now in
    let l = c.loop-next in
    let h = here b.bytes.now b.kinds.now b.counts.now b.arities.now b.starts.now b.fields.now a.from a.subject a.used a.nodes.now a.stack.now c.requires l.at l.t l.walk.depth l.walk.place l.walk.stack.now l.walk.nodes.now l.invariant.going in
    (h.0, h.4)

pub turn-requires-clause-depth_in_bounds : goal.turn-requires-clause-depth_in_bounds
turn-requires-clause-depth_in_bounds c =
    let a = c.args in
    let b = a.types.now in
    let l = c.loop-next in
    let h = here b.bytes.now b.kinds.now b.counts.now b.arities.now b.starts.now b.fields.now a.from a.subject a.used a.nodes.now a.stack.now c.requires l.at l.t l.walk.depth l.walk.place l.walk.stack.now l.walk.nodes.now l.invariant.going in
    omega (arith, h.2, l.invariant.kept.stack_len, c.requires.stack_long)

pub turn-requires-clause-depth_bound : goal.turn-requires-clause-depth_bound
turn-requires-clause-depth_bound c =
    let a = c.args in
    let b = a.types.now in
    let l = c.loop-next in
    (here b.bytes.now b.kinds.now b.counts.now b.arities.now b.starts.now b.fields.now a.from a.subject a.used a.nodes.now a.stack.now c.requires l.at l.t l.walk.depth l.walk.place l.walk.stack.now l.walk.nodes.now l.invariant.going).3

pub returns-in_err-next : goal.returns-in_err-next
returns-in_err-next c =
    let a = c.args in
    let b = a.types.now in
    let l = c.loop-next in
    let v = c.turn.new.walk in
    let same = sym (c.in_err-next.ensures.kept.nodes_ref ∙ l.invariant.kept.nodes_ref) in
    at-last b.bytes.now b.kinds.now b.counts.now b.arities.now b.starts.now b.fields.now a.from a.subject a.used a.nodes.now _ v.nodes.now c.from_residual.result (search rules) (wrong b.bytes.now b.kinds.now b.counts.now b.arities.now b.starts.now b.fields.now a.from a.subject a.used a.nodes.now a.stack.now c.requires l.at l.t l.walk.depth l.walk.place l.walk.stack.now l.walk.nodes.now l.invariant.going v.stack.now v.nodes.now c.in_err-next.field-0.0 c.from_residual.result c.from_residual.ensures.0 c.in_err-next.ensures.turned)

pub after-at-requires : goal.after-at-requires
after-at-requires c =
    let a = c.args in
    let b = a.types.now in
    let l = c.loop-next in
    let h = here b.bytes.now b.kinds.now b.counts.now b.arities.now b.starts.now b.fields.now a.from a.subject a.used a.nodes.now a.stack.now c.requires l.at l.t l.walk.depth l.walk.place l.walk.stack.now l.walk.nodes.now l.invariant.going in
    omega (arith, h.0)

pub loop-next-smaller : goal.loop-next-smaller
loop-next-smaller c =
    let a = c.args in
    let b = a.types.now in
    let l = c.loop-next in
    omega (arith, falls b.bytes.now b.kinds.now b.counts.now b.arities.now b.starts.now b.fields.now a.from a.subject a.used a.nodes.now a.stack.now c.requires l.at l.t l.walk.depth l.walk.place l.walk.stack.now l.walk.nodes.now l.invariant.going, c.after-at.ensures)

pub loop-next-preserved : goal.loop-next-preserved
loop-next-preserved c =
    let a = c.args in
    let b = a.types.now in
    let l = c.loop-next in
    let v = c.turn.new.walk in
    let k = c.in_ok-next.ensures.kept in
    record {
      going = subst (λ (k : ℕ). Going b.bytes.now b.kinds.now b.counts.now b.arities.now b.starts.now b.fields.now a.from a.subject a.used a.nodes.now k c.in-Some.next v.depth v.place v.stack.now v.nodes.now) (sym c.after-at.ensures) (round b.bytes.now b.kinds.now b.counts.now b.arities.now b.starts.now b.fields.now a.from a.subject a.used a.nodes.now a.stack.now c.requires l.at l.t l.walk.depth l.walk.place l.walk.stack.now l.walk.nodes.now l.invariant.going v.stack.now v.nodes.now c.in-Some.next v.depth v.place (subst (λ (o : Answer ℕ). Turned b.bytes.now b.kinds.now b.counts.now b.arities.now b.starts.now b.fields.now l.at l.t l.walk.depth l.walk.place l.walk.stack.now l.walk.nodes.now v.stack.now v.nodes.now (turned_to (Ok o) v.depth v.place)) c.in-Some.is c.in_ok-next.ensures.turned));
      kept = record { stack_ref = k.stack_ref ∙ l.invariant.kept.stack_ref; stack_len = k.stack_len ∙ l.invariant.kept.stack_len; nodes_ref = k.nodes_ref ∙ l.invariant.kept.nodes_ref };
    }

pub returns : goal.returns
returns c =
    let a = c.args in
    let b = a.types.now in
    let l = c.loop-next in
    let v = c.turn.new.walk in
    let same = sym (c.in_ok-next.ensures.kept.nodes_ref ∙ l.invariant.kept.nodes_ref) in
    at-last b.bytes.now b.kinds.now b.counts.now b.arities.now b.starts.now b.fields.now a.from a.subject a.used a.nodes.now _ v.nodes.now _ (search rules) (last b.bytes.now b.kinds.now b.counts.now b.arities.now b.starts.now b.fields.now a.from a.subject a.used a.nodes.now a.stack.now c.requires l.at l.t l.walk.depth l.walk.place l.walk.stack.now l.walk.nodes.now l.invariant.going v.stack.now v.nodes.now v.place (subst (λ (o : Answer ℕ). Turned b.bytes.now b.kinds.now b.counts.now b.arities.now b.starts.now b.fields.now l.at l.t l.walk.depth l.walk.place l.walk.stack.now l.walk.nodes.now v.stack.now v.nodes.now (turned_to (Ok o) v.depth v.place)) c.in_default.is c.in_ok-next.ensures.turned))
