-- `table::put_fields` meets its contract: what is written and what is still to come are the whole run.
use mathlib.Core.Path.{◌≡◌}
use Prim.Native.Nat.{◌+◌, ◌-◌}
use lib.Seq.{sets}
use Rattle.layout.specs.Places.{places, reads}
use Rattle.table.proofs.put_fields.Given as goal

abbrev pub invariant-loop-k : goal.invariant-loop-k
invariant-loop-k l = sets l.fields (l.from + l.k) (reads l.bytes (places (l.at + l.k) (l.n - l.k))) ≡ sets l.initial.fields l.from (reads l.bytes (places l.at l.n))
