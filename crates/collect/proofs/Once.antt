-- What the contract of `collect_missing_patterns` determines: its answer, the rows and the path that the caller has, and the rows written where it is not over.
use mathlib.Core.Path.{◌≡◌, sym, ◌∙◌}
use mathlib.Core.List.{List}
use Prim.Native.Nat.{ℕ}
use lib.ListN.{take}
use Rattle.std.specs.Prelude.{Result, Ok}
use Rattle.scope.specs.Walks.{Walk}
use Rattle.matrix.specs.Numbers.{Rows}
use Rattle.outcomes.specs.declared.Seek.{Seek}
use Rattle.outcomes.specs.declared.TooMuch.{TooMuch}
use Rattle.outcomes.proofs.Tests.{same_seek}
use Rattle.paths.specs.declared.Steps.{Steps}
use Rattle.collect.specs.Ready.{Sought}

module _ {s e e' out o o' : List ℕ} {p q q' : Steps} {rows depth room : ℕ} {at : Seek} {r r' : Result Seek TooMuch} {w : Walk Rows} (h : Sought s rows e p q depth out o at room r w) (k : Sought s rows e' p q' depth out o' at room r' w) where
  pub one_seek : r ≡ r'
  one_seek = same_seek r r' (h.is ∙ sym k.is)

  pub one-front : (take rows e ≡ take rows e') × (take depth q.nodes ≡ take depth q'.nodes) × (take depth q.sets ≡ take depth q'.sets)
  one-front = (h.kept ∙ sym k.kept, h.kept_path ∙ sym k.kept_path, h.kept_alts ∙ sym k.kept_alts)

  pub one_output : (v : Seek) → r ≡ Ok v → o ≡ o'
  one_output v d = h.text v d ∙ sym (k.text v (sym one_seek ∙ d))
