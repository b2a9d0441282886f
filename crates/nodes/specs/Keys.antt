-- The numbers that nodes are stored by.
use Rattle.std.specs.Prelude.{ℕ, ◌+◌, ◌*◌, ◌%◌}

-- in 16 bits
abbrev pub low16 : ℕ → ℕ
low16 n = n % 65536

-- the node of constructor c of type t, in 15 bits
abbrev pub key_of : ℕ → ℕ → ℕ
key_of t c = (1 + 32 * t + c) % 32768

-- the node of the literal at a place, in 16 bits
abbrev pub literal_key : ℕ → ℕ
literal_key at = 32768 + at % 32768
