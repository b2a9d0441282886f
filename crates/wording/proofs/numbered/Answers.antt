-- `numbered` meets its contract: the word, then the number.
use Rattle.writing.proofs.Writing.{writes_more}
use Rattle.wording.proofs.numbered.Goals as goal

pub returns-clause-wrote : goal.returns-clause-wrote
returns-clause-wrote c =
    writes_more c.all.ensures c.decimal.ensures.wrote
