-- `all` meets its contract: the bytes before the index are written.
use Rattle.std.proofs.Common.{take}
use Rattle.writing.specs.Writing.{Writes}
use Rattle.writing.proofs.Writer.all.Given as goal

abbrev pub invariant-loop-b : goal.invariant-loop-b
invariant-loop-b l = Writes l.fn.self l.self (take l.b-index l.text)
