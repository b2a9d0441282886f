-- Patterns as a clause writes them, as a flat list in prefix order.
use Rattle.std.specs.Prelude.{Bool, ℕ, ◌+◌}
use Rattle.scope.specs.Lists.{Text, bit}

-- A pattern as written, with all that was read; its inner patterns follow it
pub data Raw : Type 0 where
  discard pair_of : Raw
  variable assign integer_of byte_string_of : Text → Raw
  list_of : ℕ → Bool → Raw
  constructor : ℕ → ℕ → Bool → Raw
  tuple_of : ℕ → Raw

-- how many patterns follow it
abbrev pub inner : Raw → ℕ
inner discard = 0
inner (variable n) = 0
inner (assign n) = 1
inner (integer_of n) = 0
inner (byte_string_of s) = 0
inner (list_of k tail) = k + bit tail
inner (constructor c k spread) = k
inner pair_of = 2
inner (tuple_of k) = k
