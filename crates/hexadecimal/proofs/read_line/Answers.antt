-- `hexadecimal::read_line` meets its contract: where the line ends, then its tests, then its bytes.
use Rattle.hexadecimal.proofs.Hexadecimal.{end-most, line_refused, line_taken, line-good, line-hex, length_part}
use native.Mathlib.Omega.{arith}
use Rattle.hexadecimal.proofs.read_line.Goals as goal

pub is_line-requires : goal.is_line-requires
is_line-requires c =
    let a = c.args in
    (omega arith, end-most a.file.now a.from c.line_end-end.result c.requires.from_in_bounds c.line_end-end.ensures)

pub returns-then-not-is_line : goal.returns-then-not-is_line
returns-then-not-is_line c =
    let a = c.args in
    line_refused a.file.now a.from c.line_end-end.result c.requires.from_in_bounds c.line_end-end.ensures a.out.now c.is_line.result c.is_line.ensures c.if-not-is_line.true

pub decode-to-requires : goal.decode-to-requires
decode-to-requires c =
    let a = c.args in
    let l = line_taken a.file.now a.from c.line_end-end.result c.requires.from_in_bounds c.line_end-end.ensures c.is_line.result c.is_line.ensures c.if-not-is_line.false in
    record { ds_value = (line-hex _ l.1).2; ds_bound = omega (arith, c.requires, l.0, length_part a.file.now a.from c.line_end-end.result c.requires.from_in_bounds c.line_end-end.ensures) }

pub returns : goal.returns
returns c =
    let a = c.args in
    let l = line_taken a.file.now a.from c.line_end-end.result c.requires.from_in_bounds c.line_end-end.ensures c.is_line.result c.is_line.ensures c.if-not-is_line.false in
    line-good a.file.now a.from c.line_end-end.result c.requires.from_in_bounds c.line_end-end.ensures a.out.now _ a.at c.decode-to.result l.0 c.requires.at_bound l.1 c.decode-to.ensures.value c.decode-to.ensures.out_after
