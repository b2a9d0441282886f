-- `refusal` meets its contract: a word and a number, twice.
use mathlib.Core.Path.{ap}
use mathlib.Core.List.{◌++◌}
use Prim.Native.Nat.{ℕ}
use Rattle.scope.specs.Lists.{bytes}
use Rattle.scope.specs.Text.{decimal}
use Rattle.writing.proofs.Writing.{writes_as}
use Rattle.wording.proofs.Wording.{then-ended}
use Rattle.wording.proofs.refusal.Goals as goal

pub returns-clause-wrote : goal.returns-clause-wrote
returns-clause-wrote c =
    then-ended (bytes "refused " ++ decimal c.args.number) (bytes " line ") (decimal c.args.line) (writes_as (ap (λ (n : ℕ). bytes "refused " ++ decimal n) c.from.ensures) c.numbered.ensures.wrote) c.ended.ensures.wrote
