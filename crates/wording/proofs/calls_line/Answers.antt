-- `calls_line` meets its contract: a word and a number, twice.
use mathlib.Core.List.{◌++◌}
use Rattle.scope.specs.Lists.{bytes}
use Rattle.scope.specs.Text.{decimal}
use Rattle.wording.proofs.Wording.{then-ended}
use Rattle.wording.proofs.calls_line.Goals as goal

pub returns : goal.returns
returns c =
    then-ended (bytes "calls " ++ decimal c.args.first) (bytes " ") (decimal c.args.second) c.numbered.ensures.wrote c.ended.ensures.wrote
