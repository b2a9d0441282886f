-- `report` meets its contract: all lines together.
use mathlib.Core.Path.{◌∙◌}
use Rattle.writing.proofs.Writing.{writes_long}
use Rattle.text.proofs.Reports.{report_law}
use Rattle.text.proofs.lines.report.Goals as goal

pub returns-clause-long : goal.returns-clause-long
returns-clause-long c = writes_long c.calls_line.ensures ∙ c.gap_lines.ensures.long ∙ writes_long c.head.ensures.wrote

pub returns-clause-reported : goal.returns-clause-reported
returns-clause-reported c = report_law c.head.ensures.wrote c.gap_lines.ensures.printed.1 c.calls_line.ensures
