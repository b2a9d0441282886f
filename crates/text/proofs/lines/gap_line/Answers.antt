-- `gap_line` meets its contract: the source's text, then the paste text.
use Rattle.text.proofs.Gaps.{gap_printed}
use Rattle.text.proofs.lines.gap_line.Goals as goal

pub returns-clause-printed : goal.returns-clause-printed
returns-clause-printed c = gap_printed c.gap_text.ensures.printed c.gap_text-2.ensures.printed
