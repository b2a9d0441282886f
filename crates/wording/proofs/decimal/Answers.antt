-- `decimal` meets its contract: the library's text is the number's digits.
use mathlib.Core.Path.{◌∙◌}
use Rattle.writing.proofs.Writing.{writes_as}
use Rattle.wording.proofs.Decimals.{decimal-printed}
use Rattle.wording.proofs.decimal.Goals as goal

pub returns-clause-wrote : goal.returns-clause-wrote
returns-clause-wrote c =
    writes_as (c.as_bytes.ensures.value ∙ c.format.ensures.text ∙ decimal-printed c.args.n c.ranges.n.fits) c.all.ensures
