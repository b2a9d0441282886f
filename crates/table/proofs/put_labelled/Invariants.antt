-- `table::put_labelled` meets its contract: in both tables what is written and what is still to come are the whole run.
use mathlib.Core.Path.{◌≡◌}
use mathlib.Core.List.{map}
use Prim.Native.Nat.{◌+◌, ◌-◌, ◌*◌, ◌≤◌}
use lib.Seq.{sets}
use Rattle.layout.specs.Places.{labelled, reads}
use Rattle.table.specs.Build.{low}
use Rattle.table.proofs.put_labelled.Given as goal

abbrev pub invariant-loop-k : goal.invariant-loop-k
invariant-loop-k l = (l.p ≤ l.at + 257 * l.k) × (sets l.fields (l.from + l.k) (reads l.bytes (labelled l.bytes l.p (l.n - l.k))) ≡ sets l.initial.fields l.from (reads l.bytes (labelled l.bytes l.at l.n))) × (sets l.labels (l.from + l.k) (map (λ q. low (q + 1)) (labelled l.bytes l.p (l.n - l.k))) ≡ sets l.initial.labels l.from (map (λ q. low (q + 1)) (labelled l.bytes l.at l.n)))
