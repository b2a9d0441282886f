-- Where a pattern's reader stands in a line's bytes, and how many patterns it leaves to be read.
use Rattle.std.specs.Prelude.{List, ℕ, ◌-◌, Result, Ok, Err, length, drop}
use Rattle.scope.specs.Patterns.{Raw, inner}
use Rattle.scope.specs.Frames as scope
use Rattle.scope.specs.Frames.{fault, found, Reader, ◌>>=◌, byte, within, times}
use Rattle.scope.specs.Blocks.{Step, ok, refuse}
use Rattle.fields.specs.declared.Fault.{Fault}
use Rattle.clause.specs.declared.Pattern.{Pattern}

-- n bytes, then 00 or 01
abbrev pub flagged : ℕ → Reader ℕ
flagged n = do bs ← times n byte; within 0 1

-- past the patterns that there are: a fault
abbrev pub nothing : Reader Raw
nothing bs = fault bs

-- document 01's number and values for each case: how many patterns follow, and the place after it; 4, and the place of the byte at fault
abbrev pub said_pattern : Result Pattern Fault → Step ℕ × ℕ
said_pattern (Ok p) = (ok p.inner, p.next)
said_pattern (Err e) = (refuse 4, e.at)

-- what a pattern's reader says, of n bytes: 4 for a fault, and the place that was reached
unfoldable pub said_pattern_of : ℕ → scope.Read Raw → Step ℕ × ℕ
said_pattern_of n (fault rest) = (refuse 4, n - length rest)
said_pattern_of n (found p rest) = (ok (inner p), n - length rest)

-- what a pattern's reader that begins at a place of the bytes says
abbrev pub said_pattern_at : List ℕ → ℕ → Reader Raw → Step ℕ × ℕ
said_pattern_at bytes at r = said_pattern_of (length bytes) (r (drop at bytes))

-- a pattern ends before a place, and leaves k to be read
abbrev pub ends_at : ℕ → ℕ → Result Pattern Fault
ends_at q k = Ok (record { next = q; inner = k })

-- the byte at a place is at fault
abbrev pub at_fault : ℕ → Result Pattern Fault
at_fault q = Err (record { at = q })

-- the place that was reached after a pattern as written, and the count of its inner ones
unfoldable pub placed_pattern : ℕ → scope.Read Raw → Result Pattern Fault
placed_pattern n (fault rest) = at_fault (n - length rest)
placed_pattern n (found p rest) = ends_at (n - length rest) (inner p)

-- what a pattern's reader that begins at a place of the bytes reaches
abbrev pub pattern_at : List ℕ → ℕ → Reader Raw → Result Pattern Fault
pattern_at bytes at r = placed_pattern (length bytes) (r (drop at bytes))

-- what was read leaves k inner patterns
abbrev pub leaving : ℕ → Result ℕ Fault → Result Pattern Fault
leaving k (Ok q) = ends_at q k
leaving k (Err e) = Err e

-- how many patterns a pattern leaves to be read
abbrev pub leaves : Result Pattern Fault → ℕ
leaves (Ok p) = p.inner
leaves (Err e) = 0
