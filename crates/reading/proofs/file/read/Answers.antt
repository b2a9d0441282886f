-- `reading::file::read` meets its contract: what the lines answered, and after a refusal the store cleared.
use mathlib.Core.Path.{sym, ◌∙◌}
use Rattle.reading.proofs.Whole.{block_read, fault-read}
use Rattle.reading.proofs.file.read.Goals as goal

pub returns-then-is_err : goal.returns-then-is_err
returns-then-is_err c =
    fault-read {file = c.args.file.now} c.read_lines-r.result (sym c.is_err.ensures.value ∙ c.if-is_err.true) c.read_lines-r.ensures c.clear.ensures

pub returns-else-is_err : goal.returns-else-is_err
returns-else-is_err c =
    block_read {file = c.args.file.now} c.read_lines-r.result (sym c.is_err.ensures.value ∙ c.if-is_err.false) c.read_lines-r.ensures
