-- `pretty` and `pretty_tail`, with the functions between them, meet their contracts. Each call is on fewer nodes, or a step of the same node: 2,048 for each node that is left.
use mathlib.Core.Path.{refl, sym, subst, ◌∙◌}
use mathlib.Core.Bool.{Bool}
use native.Mathlib.Omega.{arith}
use Rattle.scope.specs.Text.{alone, in_tail}
use Rattle.looks.specs.Nodes.{mode_of}
use Rattle.writing.proofs.Writing.{writes_long}
use Rattle.text.specs.Rows.{held}
use Rattle.text.specs.Printing.{item_text, Many, Printed}
use Rattle.text.proofs.Printing.{around, items-none, items-next}
use Rattle.text.proofs.Patterns.{on-wild, tail-wild, spelled_none, spelled-with, ctor-round, ctor-square, ctor-spelled, wild-printed, lit-printed, pretty-con, tail-cell, tail-ctor, field-bare, field-full}
use Rattle.text.proofs.Cells.{cell-nil, cell-more}
use Rattle.text.proofs.pretty.Printer.+printer.Goals as goal

pub cell-returns-then-closes-clause-printed : goal.cell-returns-then-closes-clause-printed
cell-returns-then-closes-clause-printed t c =
    let a = c.args in
    cell-nil c.pretty-q.result c.node.result c.node.ensures a.first a.self.now.paste (sym c.if-closes.true ∙ c.closes.ensures) c.pretty-q.ensures.printed

pub cell-returns-clause-printed : goal.cell-returns-clause-printed
cell-returns-clause-printed t c =
    let a = c.args in
    cell-more c.pretty-q.result c.node.result c.node.ensures a.first a.self.now.paste (sym c.if-closes.false ∙ c.closes.ensures) c.pretty-q.ensures.printed c.comma.ensures c.pretty_tail.ensures.printed

pub ctor-returns-in-Round-clause-printed : goal.ctor-returns-in-Round-clause-printed
ctor-returns-in-Round-clause-printed t c =
    let a = c.args in
    ctor-round (mode_of a.self.now.paste) a.i c.look.result c.look.ensures c.in-Round.is c.arity.ensures.value c.enclosed.ensures.printed

pub ctor-returns-in-Square-clause-printed : goal.ctor-returns-in-Square-clause-printed
ctor-returns-in-Square-clause-printed t c =
    let a = c.args in
    ctor-square (mode_of a.self.now.paste) a.i c.look.result c.look.ensures c.in-Square.is c.square.ensures.printed

pub ctor-returns-in-Spelled-clause-printed : goal.ctor-returns-in-Spelled-clause-printed
ctor-returns-in-Spelled-clause-printed t c =
    let a = c.args in
    ctor-spelled (mode_of a.self.now.paste) a.i c.look.result c.look.ensures c.in-Spelled.is c.spelled.ensures.printed

pub enclosed-returns-clause-printed : goal.enclosed-returns-clause-printed
enclosed-returns-clause-printed t c =
    around c.put_open.ensures.wrote c.fields-q.ensures.printed c.put_close.ensures.wrote

pub field-returns-then-not-labelled-clause-moved : goal.field-returns-then-not-labelled-clause-moved
field-returns-then-not-labelled-clause-moved t c =
    let m = c.pretty.ensures.moved in
    record { forward = m.forward; places = m.places; texts = omega (arith, m.texts); same = m.same; long = m.long }

pub field-returns-then-not-labelled-clause-printed : goal.field-returns-then-not-labelled-clause-printed
field-returns-then-not-labelled-clause-printed t c =
    let a = c.args in
    let s = held a.self.now in
    subst (λ (b : Bool). Printed s (Many 1) a.p c.pretty.result a.w.now c.pretty.new.w (item_text (mode_of a.self.now.paste) s b a.i)) (sym c.if-not-labelled.true) c.pretty.ensures.printed

pub field-returns-then-is_bare-clause-moved : goal.field-returns-then-is_bare-clause-moved
field-returns-then-is_bare-clause-moved t c =
    let w = c.put_mark.ensures in
    record { forward = omega arith; places = omega arith; texts = omega (arith, w.upper_bound); same = w.wrote.same; long = writes_long w.wrote }

pub field-returns-then-is_bare-clause-printed : goal.field-returns-then-is_bare-clause-printed
field-returns-then-is_bare-clause-printed t c =
    let a = c.args in
    field-bare a.p a.i c.node-node.result c.node-node.ensures (mode_of a.self.now.paste) a.labelled (sym c.if-is_bare.true ∙ c.is_bare.ensures) c.put_mark.ensures.wrote

pub field-returns-clause-moved : goal.field-returns-clause-moved
field-returns-clause-moved t c =
    let w = c.put_mark.ensures in
    let m = c.pretty-2.ensures.moved in
    record { forward = m.forward; places = m.places; texts = omega (arith, w.upper_bound, m.texts); same = m.same ∙ w.wrote.same; long = m.long ∙ writes_long w.wrote }

pub field-returns-clause-printed : goal.field-returns-clause-printed
field-returns-clause-printed t c =
    let a = c.args in
    field-full a.p a.i c.node-node.result c.node-node.ensures (mode_of a.self.now.paste) a.labelled (sym c.if-is_bare.false ∙ c.is_bare.ensures) c.put_mark.ensures.wrote c.pretty-2.ensures.printed

pub fields-loop-k-init : goal.fields-loop-k-init
fields-loop-k-init t c =
    let a = c.args in
    record { moved = record { forward = omega arith; places = omega arith; texts = omega arith; same = refl; long = refl }; printed = items-none (mode_of a.self.now.paste) a.i a.labelled }

pub fields-loop-k-preserved : goal.fields-loop-k-preserved
fields-loop-k-preserved t c =
    let a = c.args in
    let m = c.loop-k.invariant.moved in
    let f = c.field-q.ensures.moved in
    record {
      moved = record {
        forward = omega (arith, m.forward, f.forward);
        places = omega (arith, m.places, f.places);
        texts = omega (arith, m.texts, c.put_between.ensures.upper_bound, f.texts);
        same = f.same ∙ c.put_between.ensures.wrote.same ∙ m.same;
        long = f.long ∙ writes_long c.put_between.ensures.wrote ∙ m.long;
      };
      printed = items-next (mode_of a.self.now.paste) a.i a.labelled c.loop-k.k c.loop-k.invariant.printed c.put_between.ensures.wrote c.field-q.ensures.printed;
    }

pub pretty-returns-in-Wildcard-clause-printed : goal.pretty-returns-in-Wildcard-clause-printed
pretty-returns-in-Wildcard-clause-printed t c =
    let a = c.args in
    wild-printed a.p c.node.result c.node.ensures c.in-Wildcard.ensures (λ table r. sym (on-wild (mode_of a.self.now.paste) table r)) c.byte.ensures

pub pretty-returns-in-Constructor-clause-printed : goal.pretty-returns-in-Constructor-clause-printed
pretty-returns-in-Constructor-clause-printed t c =
    let a = c.args in
    let e = c.in-Constructor.ensures in
    pretty-con a.p c.from-in-Constructor.result (c.from-in-Constructor.ensures ∙ sym e.0 ∙ c.node.ensures) (mode_of a.self.now.paste) (omega (arith, e.1, c.from-in-Constructor.ensures)) (omega (arith, e.2, c.from-in-Constructor.ensures)) c.ctor.ensures.printed

pub pretty-returns-in-Literal-clause-printed : goal.pretty-returns-in-Literal-clause-printed
pretty-returns-in-Literal-clause-printed t c =
    let a = c.args in
    lit-printed a.p c.node.result c.node.ensures (mode_of a.self.now.paste) alone (omega (arith, c.in-Literal.ensures))

pub pretty_tail-returns-in-Wildcard-clause-printed : goal.pretty_tail-returns-in-Wildcard-clause-printed
pretty_tail-returns-in-Wildcard-clause-printed t c =
    let a = c.args in
    wild-printed a.p c.node.result c.node.ensures c.in-Wildcard.ensures (λ table r. sym (tail-wild (mode_of a.self.now.paste) table r)) c.dots.ensures

pub pretty_tail-returns-in-Literal-clause-printed : goal.pretty_tail-returns-in-Literal-clause-printed
pretty_tail-returns-in-Literal-clause-printed t c =
    let a = c.args in
    lit-printed a.p c.node.result c.node.ensures (mode_of a.self.now.paste) in_tail (omega (arith, c.in-Literal.ensures))

pub pretty_tail-returns-in-Square-clause-printed : goal.pretty_tail-returns-in-Square-clause-printed
pretty_tail-returns-in-Square-clause-printed t c =
    let a = c.args in
    let e = c.in-Constructor.ensures in
    tail-cell a.p c.from-i.result (c.from-i.ensures ∙ sym e.0 ∙ c.node.ensures) (mode_of a.self.now.paste) c.look.result c.look.ensures (omega (arith, e.1, c.from-i.ensures)) (omega (arith, e.2, c.from-i.ensures)) c.in-Square.is c.cell.ensures.printed

pub pretty_tail-returns-in_default-clause-printed : goal.pretty_tail-returns-in_default-clause-printed
pretty_tail-returns-in_default-clause-printed t c =
    let a = c.args in
    let e = c.in-Constructor.ensures in
    tail-ctor a.p c.from-i.result (c.from-i.ensures ∙ sym e.0 ∙ c.node.ensures) (mode_of a.self.now.paste) c.look.result c.look.ensures (omega (arith, e.1, c.from-i.ensures)) (omega (arith, e.2, c.from-i.ensures)) c.in_default.not-Square c.ctor.ensures.printed

pub spelled-returns-then-n-eq0-clause-moved : goal.spelled-returns-then-n-eq0-clause-moved
spelled-returns-then-n-eq0-clause-moved t c =
    let w = c.put_name.ensures in
    record { forward = omega arith; places = omega arith; texts = omega (arith, w.upper_bound); same = w.wrote.same; long = writes_long w.wrote }

pub spelled-returns-then-n-eq0-clause-printed : goal.spelled-returns-then-n-eq0-clause-printed
spelled-returns-then-n-eq0-clause-printed t c =
    let a = c.args in
    spelled_none (mode_of a.self.now.paste) a.i c.arity-n.ensures.value c.if-n-eq0.true c.put_name.ensures.wrote

pub spelled-returns-clause-moved : goal.spelled-returns-clause-moved
spelled-returns-clause-moved t c =
    let w = c.put_name.ensures in
    let m = c.enclosed.ensures.moved in
    record { forward = m.forward; places = m.places; texts = omega (arith, w.upper_bound, m.texts); same = m.same ∙ w.wrote.same; long = m.long ∙ writes_long w.wrote }

pub spelled-returns-clause-printed : goal.spelled-returns-clause-printed
spelled-returns-clause-printed t c =
    let a = c.args in
    spelled-with (mode_of a.self.now.paste) a.i c.has_labels.result c.has_labels.ensures c.arity-n.ensures.value c.if-n-eq0.false c.start.ensures.value c.put_name.ensures.wrote c.enclosed.ensures.printed

pub square-returns-clause-printed : goal.square-returns-clause-printed
square-returns-clause-printed t c =
    around c.byte.ensures c.cell-q.ensures.printed c.byte-2.ensures
