-- What a subject's byte gives, and the nodes of a clause that there is room for.
use mathlib.Core.Path.{◌≡◌, sym, ap, ◌∙◌}
use mathlib.Core.Bool.{Bool, true}
use mathlib.Core.List.{List}
use Prim.Native.Nat.{ℕ, ◌+◌, ◌*◌, ◌≤◌, ◌<◌}
use native.Mathlib.Omega.{arith}
use mir.Syntax.{w64}
use mir.Val.{Fits}
use borrow.Author.Tests.{leb-true}
use lib.Dec.{leb}
use Rattle.sound.specs.Sound.{is_sound_in}

-- the subject's byte, widened
pub subject-bit : (kinds counts arities starts fields : List ℕ) (used types t n : ℕ) {b : Bool} → t ≡ n → b ≡ is_sound_in kinds counts arities starts fields used types t → is_sound_in kinds counts arities starts fields used types n ≡ b
subject-bit kinds counts arities starts fields used types t n e f = sym (f ∙ ap (is_sound_in kinds counts arities starts fields used types) e)

-- the nodes that there is room for, and the cell after them
pub nodes-fit : (count n : ℕ) {b : Bool} → b ≡ leb (count + n) 4096 → b ≡ true → count + n ≤ 4096
nodes-fit count n e f = leb-true (count + n) 4096 (sym e ∙ f)

pub end_fits : (count n used clauses : ℕ) {b : Bool} → b ≡ leb (count + n) 4096 → b ≡ true → used ≡ count + clauses → clauses < 64 → used + n < 4160
end_fits count n used clauses e f p l = omega (arith, nodes-fit count n e f)

-- numbers below the limits, and twice them, fit
pub fits : (m : ℕ) → m < 4160 → Fits w64 m
fits m l = omega arith

pub twice-fits : (m : ℕ) → m < 4160 → Fits w64 (m * 2)
twice-fits m l = omega arith
