-- `reading::file::ended` meets its contract: by the phase after the last line.
use mathlib.Core.Path.{sym, ◌∙◌}
use mathlib.Core.Bool.{true, false}
use Rattle.reading.proofs.Whole.{end_is}
use Rattle.reading.proofs.file.ended.Goals as goal

pub returns-then-not-closes : goal.returns-then-not-closes
returns-then-not-closes c =
    end_is c.args.s c.args.k false (sym c.closes.ensures ∙ c.if-not-closes.true)

pub returns : goal.returns
returns c =
    end_is c.args.s c.args.k true (sym c.closes.ensures ∙ c.if-not-closes.false)
