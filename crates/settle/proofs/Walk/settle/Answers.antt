-- `settle::Walk::settle` meets its contract: the invariant is `Settling`, the stack is as it was, and its depth falls.
use mathlib.Core.Path.{◌≡◌, refl, sym, ap, subst, ◌∙◌}
use mathlib.Core.List.{List, [], ◌∷◌}
use Prim.Native.Nat.{ℕ, ◌+◌, ◌-◌, ◌≤◌, ◌<◌}
use native.Mathlib.Omega.{arith}
use borrow.Author.Tests.{ltb-true, ltb-false}
use Rattle.nodes.specs.Opens.{wanted, opens}
use Rattle.nodes.specs.declared.Open.{Open}
use Rattle.std.specs.Prelude.{Some}
use Rattle.settle.specs.Settled.{came_to}
use Rattle.settle.proofs.Settling.{next_open, Settling, settle-start, settle-end, settle-done, settle-more}
use Rattle.settle.proofs.Walk.settle.Goals as goal

zero_of : (n : ℕ) → n ≤ 0 → n ≡ 0
zero_of n h = omega arith

pub loop-o-init : goal.loop-o-init
loop-o-init c =
    let w = c.args.self.now in
    record {
      kept = record { stack_ref = refl; stack_len = refl; nodes_ref = refl };
      height = omega arith;
      same = refl;
      settling = λ bytes. settle-start bytes c.args.fields.now (opens w.stack.now w.depth) (w.depth - w.depth) w.place w.nodes.now;
    }

pub advance-requires-clause-at_bound : goal.advance-requires-clause-at_bound
advance-requires-clause-at_bound c =
    let s = c.loop-o.invariant.settling [] in
    omega (arith, s.few, s.at_is, c.loop-o.invariant.height, c.requires.height_bound)

pub advance-requires-clause-more_nonzero : goal.advance-requires-clause-more_nonzero
advance-requires-clause-more_nonzero c = ltb-true 0 (wanted c.in-Some.o.what c.in-Some.o.more) (sym c.wants.ensures ∙ c.if-wants.true)

pub returns-then-wants-clause-settled : goal.returns-then-wants-clause-settled
returns-then-wants-clause-settled c =
    let w = c.args.self.now in
    let l = c.loop-o in
    let v = c.advance.new.self in
    λ bytes. settle-more bytes c.args.fields.now (opens w.stack.now w.depth) (w.depth - l.self.depth) w.place w.nodes.now l.self.nodes.now l.self.place (opens w.stack.now l.self.depth) (c.in-Some.o ∷ opens l.self.stack.now (l.self.depth - 1)) w.depth (l.self.depth - 1 + 1) v.stack.now v.nodes.now (came_to (Some c.advance.result) v.depth v.place) (l.invariant.settling bytes)
    (next_open l.self.stack.now w.stack.now l.self.depth c.in-Some.o c.in-Some.ensures.0 l.invariant.same c.in-Some.ensures.1)
    (omega (arith, l.invariant.height, c.in-Some.ensures.0))
    (c.advance.ensures.settled bytes)

pub finish-self-requires : goal.finish-self-requires
finish-self-requires c =
    let s = c.loop-o.invariant.settling [] in
    omega (arith, s.few, s.at_is, c.loop-o.invariant.height, c.requires.height_bound)

pub loop-o-preserved : goal.loop-o-preserved
loop-o-preserved c =
    let w = c.args.self.now in
    let l = c.loop-o in
    let o = c.in-Some.o in
    let none : wanted o.what o.more ≡ 0 = zero_of (wanted o.what o.more) (ltb-false 0 (wanted o.what o.more) (sym c.wants.ensures ∙ c.if-wants.false)) in
    let small : o.what < 65536 = omega arith in
    record {
      kept = record { stack_ref = l.invariant.kept.stack_ref; stack_len = l.invariant.kept.stack_len; nodes_ref = l.invariant.kept.nodes_ref };
      height = omega (arith, l.invariant.height);
      same = l.invariant.same;
      settling = λ bytes. settle-end bytes c.args.fields.now (opens w.stack.now w.depth) (w.depth - l.self.depth) w.place w.nodes.now l.self.nodes.now l.self.place (opens w.stack.now l.self.depth) (opens w.stack.now (l.self.depth - 1)) o (w.depth - (l.self.depth - 1)) c.finish-self.result c.finish-self.new.nodes (l.invariant.settling bytes)
          (next_open l.self.stack.now w.stack.now l.self.depth o c.in-Some.ensures.0 l.invariant.same c.in-Some.ensures.1 ∙ ap (λ (s : List ℕ). o ∷ opens s (l.self.depth - 1)) l.invariant.same)
          (omega (arith, l.invariant.height, c.in-Some.ensures.0)) small none c.finish-self.ensures.value c.finish-self.ensures.nodes_after;
    }

pub returns-clause-settled : goal.returns-clause-settled
returns-clause-settled c =
    let w = c.args.self.now in
    let l = c.loop-o in
    λ bytes. settle-done bytes c.args.fields.now (opens w.stack.now w.depth) (w.depth - l.self.depth) w.place w.nodes.now l.self.nodes.now l.self.place w.depth l.self.stack.now (subst (λ (gs : List Open). Settling bytes c.args.fields.now (opens w.stack.now w.depth) gs (w.depth - l.self.depth) w.place w.nodes.now l.self.nodes.now l.self.place) (ap (opens w.stack.now) c.in_default.ensures ∙ ap (λ (s : List ℕ). opens s 0) (sym l.invariant.same)) (l.invariant.settling bytes)) (omega arith)
