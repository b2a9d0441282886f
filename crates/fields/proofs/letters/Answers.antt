-- `fields::letters` meets its contract: the bytes still to read from each place on reach what all reach.
use Prim.Native.Nat.{ℕ, ◌+◌, ◌-◌}
use mathlib.Core.Path.{◌≡◌, refl, sym, ap, ◌∙◌}
use mathlib.Core.Bool.{false}
use native.Mathlib.Omega.{arith}
use Rattle.std.specs.Prelude.{Ok}
use Rattle.scope.specs.Frames.{passing, times}
use Rattle.fields.specs.Places.{at_fault, read_at, letter_of}
use Rattle.fields.proofs.Readers.{read-stops, read-passes, passed-reached, times-stops, times_goes, times-done}
use Rattle.fields.proofs.Readings.{letter-zero}
use Rattle.fields.proofs.letters.Goals as goal

pub returns-then-not-is_letter : goal.returns-then-not-is_letter
returns-then-not-is_letter c =
    let a = c.args in
    let l = c.loop-i in
    let good = letter_of a.big false in
    let p = a.at + l.i in
    times-stops (passing good) a.bytes.now p (a.n - l.i) (at_fault p) p (omega (arith, c.loop-i-test.true)) (read-stops good (letter-zero a.big false) a.bytes.now p c.get.result c.get.ensures l.invariant.0 (sym c.is_letter.ensures ∙ c.if-not-is_letter.true)) refl ∙ l.invariant.1

pub loop-i-preserved : goal.loop-i-preserved
loop-i-preserved c =
    let a = c.args in
    let l = c.loop-i in
    let good = letter_of a.big false in
    let p = a.at + l.i in
    let next : a.at + (l.i + 1) ≡ p + 1 = omega arith in
    let fewer : a.n - (l.i + 1) ≡ a.n - l.i - 1 = omega arith in
    let x = read-passes good (letter-zero a.big false) a.bytes.now p c.get.result c.get.ensures (sym c.is_letter.ensures ∙ c.if-not-is_letter.false) in
    (omega (arith, x.inside), ap (λ (k : ℕ). read_at a.bytes.now k (times (a.n - (l.i + 1)) (passing good))) next ∙ ap (λ (k : ℕ). read_at a.bytes.now (p + 1) (times k (passing good))) fewer ∙ sym (times_goes (passing good) a.bytes.now p (a.n - l.i) (p + 1) (omega (arith, c.loop-i-test.true)) (passed-reached good a.bytes.now p (p + 1) x)) ∙ l.invariant.1)

pub returns : goal.returns
returns c =
    let a = c.args in
    let l = c.loop-i in
    let done : a.at + a.n ≡ a.at + l.i = omega (arith, c.loop-i-test.false, l.auto.i-end) in
    ap Ok done ∙ times-done (passing (letter_of a.big false)) a.bytes.now (a.at + l.i) (a.n - l.i) (omega (arith, c.loop-i-test.false)) l.invariant.0 ∙ l.invariant.1
