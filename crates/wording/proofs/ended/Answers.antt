-- `ended` meets its contract: the word with its number, then the line feed.
use Rattle.writing.proofs.Writing.{writes_more}
use Rattle.wording.proofs.ended.Goals as goal

pub returns-clause-wrote : goal.returns-clause-wrote
returns-clause-wrote c =
    writes_more c.numbered.ensures.wrote c.byte.ensures
