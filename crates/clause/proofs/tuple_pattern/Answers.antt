-- `clause::tuple_pattern` meets its contract: the count.
use mathlib.Core.Path.{◌∙◌}
use Rattle.clause.proofs.Written.{tuple-read}
use Rattle.fields.proofs.Readers.{told}
use Rattle.clause.proofs.tuple_pattern.Goals as goal

pub returns-clause-value : goal.returns-clause-value
returns-clause-value c =
    tuple-read c.args.bytes.now c.args.at c.from.result c.byte-r.result c.leaving.result c.leaving.ensures (c.from.ensures ∙ c.get.ensures) (told _ _ _ c.byte-r.ensures)
