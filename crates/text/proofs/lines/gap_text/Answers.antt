-- `gap_text` meets its contract: the word, the pattern's text, the line feed.
use Rattle.text.proofs.Gaps.{text-printed}
use Rattle.text.proofs.lines.gap_text.Goals as goal

pub returns-clause-printed : goal.returns-clause-printed
returns-clause-printed c = text-printed c.args.printer.now.paste c.either.ensures.wrote c.pretty-q.ensures.printed c.byte.ensures
