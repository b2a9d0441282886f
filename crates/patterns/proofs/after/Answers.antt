-- `patterns::after` meets its contract: the size at the place.
use mathlib.Core.Path.{◌∙◌}
use Rattle.patterns.proofs.Scan.{size-at}
use Rattle.patterns.proofs.after.Goals as goal

pub returns : goal.returns
returns c =
    size-at c.args.bytes.now c.args.at c.get.result c.from.result c.size.result c.get.ensures (c.from.ensures ∙ c.get-2.ensures) c.size.ensures.0
