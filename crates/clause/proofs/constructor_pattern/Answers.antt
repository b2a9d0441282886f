-- `clause::constructor_pattern` meets its contract: two bytes, then the spread's flag.
use mathlib.Core.Path.{◌∙◌}
use Rattle.clause.proofs.Written.{ctor-read}
use Rattle.clause.proofs.constructor_pattern.Goals as goal

pub returns-clause-value : goal.returns-clause-value
returns-clause-value c =
    ctor-read c.args.bytes.now c.args.at c.from.result c.flagged-r.result c.leaving.result c.leaving.ensures (c.from.ensures ∙ c.get.ensures) c.flagged-r.ensures
