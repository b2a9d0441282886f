-- `patterns::turn` meets its contract: each answer of `suits`.
use mathlib.Core.Path.{refl, sym, ap, subst, ◌∙◌}
use Prim.Native.Nat.{◌+◌, ◌*◌}
use native.Mathlib.Omega.{arith}
use lib.ListN.{get_or}
use Rattle.std.specs.Prelude.{Ok}
use Rattle.settle.specs.Settled.{came_to}
use Rattle.suits.specs.Suits.{Few}
use Rattle.suits.specs.declared.Suit.{Suit}
use Rattle.suits.specs.declared.Suit.TheVariants.{Args}
use Rattle.patterns.proofs.Turns.{turn_unfit, turn-again, turn-leaf, turn-cells, turn-args}
use Rattle.patterns.proofs.turn.Goals as goal

pub key-requires : goal.key-requires
key-requires c =
    let f : Few (Ok (Args c.in-Args.c c.in-Args.more c.in-Args.wilds)) = subst (λ (s : Suit). Few (Ok s)) c.in-Args.is c.in_ok-suits.ensures.few in
    (c.requires.at_bound.1, omega (arith, f))

pub ctor-o-requires : goal.ctor-o-requires
ctor-o-requires c =
    let f : Few (Ok (Args c.in-Args.c c.in-Args.more c.in-Args.wilds)) = subst (λ (s : Suit). Few (Ok s)) c.in-Args.is c.in_ok-suits.ensures.few in
    (c.requires.at_bound.1, omega (arith, f))

pub returns-in_err-suits-clause-turned : goal.returns-in_err-suits-clause-turned
returns-in_err-suits-clause-turned c =
    let a = c.args in
    let b = a.types.now in
    let w = a.walk.now in
    turn_unfit b.bytes.now b.kinds.now b.counts.now b.arities.now b.starts.now b.fields.now a.at a.t w.depth w.place w.stack.now w.nodes.now c.requires.at_bound.0 c.requires.at_bound.1 c.requires.fields_len_bound c.in_err-suits.field-0.0 c.from_residual.result c.from_residual.ensures.0 c.in_err-suits.ensures.suits

pub returns-in-Again-clause-turned : goal.returns-in-Again-clause-turned
returns-in-Again-clause-turned c =
    let a = c.args in
    let b = a.types.now in
    let w = a.walk.now in
    turn-again b.bytes.now b.kinds.now b.counts.now b.arities.now b.starts.now b.fields.now a.at a.t w.depth w.place w.stack.now w.nodes.now c.requires.at_bound.0 c.requires.at_bound.1 c.requires.fields_len_bound (ap Ok (sym c.in-Again.is) ∙ c.in_ok-suits.ensures.suits)

pub returns-in-Leaf-clause-turned : goal.returns-in-Leaf-clause-turned
returns-in-Leaf-clause-turned c =
    let a = c.args in
    let b = a.types.now in
    let w = a.walk.now in
    let v = c.leaf.new.self in
    turn-leaf b.bytes.now b.kinds.now b.counts.now b.arities.now b.starts.now b.fields.now a.at a.t w.depth w.place w.stack.now w.nodes.now c.requires.at_bound.0 c.requires.at_bound.1 c.requires.fields_len_bound c.in-Leaf.node v.stack.now v.nodes.now (came_to c.leaf.result v.depth v.place) (ap Ok (sym c.in-Leaf.is) ∙ c.in_ok-suits.ensures.suits) (c.leaf.ensures.settled b.bytes.now)

pub returns-in-Cells-clause-turned : goal.returns-in-Cells-clause-turned
returns-in-Cells-clause-turned c =
    let a = c.args in
    let b = a.types.now in
    let w = a.walk.now in
    let v = c.begin.new.self in
    turn-cells b.bytes.now b.kinds.now b.counts.now b.arities.now b.starts.now b.fields.now a.at a.t w.depth w.place w.stack.now w.nodes.now c.requires.at_bound.0 c.requires.at_bound.1 c.requires.fields_len_bound c.in-Cells.more (get_or b.starts.now (32 * a.t) 0) c.in-Cells.tail c.list-o.result v.stack.now v.nodes.now (came_to c.begin.result v.depth v.place) (subst (λ (s : Suit). Few (Ok s)) c.in-Cells.is c.in_ok-suits.ensures.few) (ap Ok (sym c.in-Cells.is) ∙ c.in_ok-suits.ensures.suits) refl c.list-o.ensures (c.begin.ensures.settled b.bytes.now)

pub returns-in-Args-clause-turned : goal.returns-in-Args-clause-turned
returns-in-Args-clause-turned c =
    let a = c.args in
    let b = a.types.now in
    let w = a.walk.now in
    let v = c.begin-in-Args.new.self in
    turn-args b.bytes.now b.kinds.now b.counts.now b.arities.now b.starts.now b.fields.now a.at a.t w.depth w.place w.stack.now w.nodes.now c.requires.at_bound.0 c.requires.at_bound.1 c.requires.fields_len_bound c.in-Args.c c.in-Args.more c.in-Args.wilds (get_or b.starts.now (32 * a.t + c.in-Args.c) 0) c.key.result c.put-walk.result c.ctor-o.result c.put-walk.new.s v.stack.now v.nodes.now (came_to c.begin-in-Args.result v.depth v.place) (subst (λ (s : Suit). Few (Ok s)) c.in-Args.is c.in_ok-suits.ensures.few) (ap Ok (sym c.in-Args.is) ∙ c.in_ok-suits.ensures.suits) refl c.key.ensures c.put-walk.ensures.s_after c.put-walk.ensures.value c.ctor-o.ensures (c.begin-in-Args.ensures.settled b.bytes.now)
