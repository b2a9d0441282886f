-- The digits, of decimal text or of a line.
use Rattle.std.specs.Prelude.{Bool, true, false, ℕ}
use Rattle.scope.specs.Lines.{is_hex}
use Rattle.scope.specs.Frames.{is_digit}

-- hexadecimal digits, or decimal ones
abbrev pub digit_of : Bool → ℕ → Bool
digit_of true = is_hex
digit_of false = is_digit
