-- `column::first` meets its contract: the column from a row on begins as the whole of it, and a constructor is found among its type's.
use Rattle.std.proofs.Common.{◌≡◌, map, ◌+◌, ◌≤◌, None, drop}
use Rattle.matrix.specs.Numbers.{first_of}
use Rattle.matrix.specs.Places.{head_at}
use Rattle.column.proofs.first.Given as goal

abbrev pub invariant-loop-c : goal.invariant-loop-c
invariant-loop-c l = (l.found ≡ None) × (l.from + l.c ≤ l.h)

abbrev pub invariant-search : goal.invariant-search
invariant-search l = let f = head_at l.b.nodes.now l.b.left.now l.n in (l.found ≡ None) × (first_of (map f (drop l.p-index l.ps)) ≡ first_of (map f l.ps))
