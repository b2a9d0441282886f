-- `reading::file::read_lines` meets its contract. The loop's invariant: what is said so far, and that what is left of the file decides; the measure is what is left of it.
use mathlib.Core.Path.{refl, sym, ◌∙◌}
use native.Mathlib.Omega.{arith}
use borrow.Author.Tests.{ltb-true, ltb-false}
use lib.ListN.{length, take}
use Rattle.reading.specs.Said.{held_in}
use Rattle.reading.specs.Files.{says_fault}
use Rattle.reading.proofs.Lines.{taken, not_taken, within-start, line-bad, line_asks, line-says, line-stops, line-goes, at_last}
use Rattle.reading.proofs.Whole.{file-long}
use Rattle.reading.proofs.file.read_lines.Goals as goal

pub returns-then-is_long : goal.returns-then-is_long
returns-then-is_long c =
    says_fault (file-long c.args.file.now (ltb-true 49152 (length c.args.file.now) (sym c.is_long.ensures ∙ c.if-is_long.true)))

pub loop-i-init : goal.loop-i-init
loop-i-init c =
    let short = ltb-false 49152 (length c.args.file.now) (sym c.is_long.ensures ∙ c.if-is_long.false) in
    let t = c.args.store.now.tables in
    let r = c.args.store.now.rows in
    within-start c.args.file.now short c.start-s.result c.args.store.now.bytes t.kinds t.counts t.arities t.starts t.names t.fields t.labels r.nodes r.left r.starts c.start-s.ensures c.requires.labels_value c.requires.sized

pub returns-in_default : goal.returns-in_default
returns-in_default c =
    says_fault (line-bad c.loop-i.invariant (not_taken c.args.file.now c.loop-i.i c.loop-i.store.bytes c.loop-i.at c.read_line-l.result c.read_line-l.new.out c.read_line-l.ensures c.in_default.field-0 c.in_default.is))

pub enter_line-r-requires-clause-known : goal.enter_line-r-requires-clause-known
enter_line-r-requires-clause-known c =
    record { state = c.loop-i.invariant.state; says = line-says c.loop-i.invariant c.loop-i.store.bytes c.read_line-l.new.out c.in-Ok.line.next c.in-Ok.line.to (taken c.args.file.now c.loop-i.i c.loop-i.store.bytes c.loop-i.at c.read_line-l.result c.read_line-l.new.out c.read_line-l.ensures c.in-Ok.line c.in-Ok.is) refl (omega (arith, c.loop-i.invariant.short)) }

pub enter_line-r-requires-clause-at_in_bounds : goal.enter_line-r-requires-clause-at_in_bounds
enter_line-r-requires-clause-at_in_bounds c =
    (line_asks c.loop-i.invariant c.loop-i.store.bytes c.read_line-l.new.out c.in-Ok.line.next c.in-Ok.line.to (taken c.args.file.now c.loop-i.i c.loop-i.store.bytes c.loop-i.at c.read_line-l.result c.read_line-l.new.out c.read_line-l.ensures c.in-Ok.line c.in-Ok.is) refl (omega (arith, c.loop-i.invariant.short))).0

pub returns-in-Err : goal.returns-in-Err
returns-in-Err c =
    let w = line-says c.loop-i.invariant c.loop-i.store.bytes c.read_line-l.new.out c.in-Ok.line.next c.in-Ok.line.to (taken c.args.file.now c.loop-i.i c.loop-i.store.bytes c.loop-i.at c.read_line-l.result c.read_line-l.new.out c.read_line-l.ensures c.in-Ok.line c.in-Ok.is) refl (omega (arith, c.loop-i.invariant.short)) in
    says_fault (line-stops c.loop-i.invariant c.loop-i.store.bytes c.read_line-l.new.out c.in-Ok.line.next c.in-Ok.line.to (taken c.args.file.now c.loop-i.i c.loop-i.store.bytes c.loop-i.at c.read_line-l.result c.read_line-l.new.out c.read_line-l.ensures c.in-Ok.line c.in-Ok.is) refl (omega (arith, c.loop-i.invariant.short)) c.enter_line-r.result {h' = held_in (take c.in-Ok.line.to c.read_line-l.new.out) c.enter_line-r.new.t c.enter_line-r.new.rows} (c.enter_line-r.ensures c.loop-i.invariant.state w) c.in-Err.why c.in-Err.is)

pub loop-i-preserved : goal.loop-i-preserved
loop-i-preserved c =
    let w = line-says c.loop-i.invariant c.loop-i.store.bytes c.read_line-l.new.out c.in-Ok.line.next c.in-Ok.line.to (taken c.args.file.now c.loop-i.i c.loop-i.store.bytes c.loop-i.at c.read_line-l.result c.read_line-l.new.out c.read_line-l.ensures c.in-Ok.line c.in-Ok.is) refl (omega (arith, c.loop-i.invariant.short)) in
    line-goes c.loop-i.invariant c.loop-i.store.bytes c.read_line-l.new.out c.in-Ok.line.next c.in-Ok.line.to (taken c.args.file.now c.loop-i.i c.loop-i.store.bytes c.loop-i.at c.read_line-l.result c.read_line-l.new.out c.read_line-l.ensures c.in-Ok.line c.in-Ok.is) refl (omega (arith, c.loop-i.invariant.short)) c.enter_line-r.result {h' = held_in (take c.in-Ok.line.to c.read_line-l.new.out) c.enter_line-r.new.t c.enter_line-r.new.rows} (c.enter_line-r.ensures c.loop-i.invariant.state w) c.in-Ok-r.t c.in-Ok-r.is

pub returns : goal.returns
returns c =
    at_last c.loop-i.invariant c.loop-i-test.false c.loop-i.store.bytes refl c.ended.result c.ended.ensures
