-- What a node's number says.
use Rattle.std.specs.Prelude.{◌≡◌, ℕ, ◌+◌, ◌<◌}
use Rattle.heads.specs.declared.Node.{Node}
use Rattle.heads.specs.declared.Node.TheVariants.{Wildcard, Constructor, Literal}

-- what a number says of its node: 0 is a wildcard, a constructor is itself, and from 32,768 on stand the literals
abbrev pub SaysNode : ℕ → Node → Type 0
SaysNode h Wildcard = h ≡ 0
SaysNode h (Constructor c) = (h ≡ c) × (0 < c) × (c < 32768)
SaysNode h (Literal p) = h ≡ 32768 + p
