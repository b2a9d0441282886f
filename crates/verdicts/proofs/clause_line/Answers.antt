-- `clause_line` meets its contract: the clause with its number, then the word.
use Rattle.writing.proofs.Writing.{writes_more}
use Rattle.verdicts.proofs.Verdicts.{clause_law}
use Rattle.verdicts.proofs.clause_line.Goals as goal

pub returns-clause-wrote : goal.returns-clause-wrote
returns-clause-wrote c =
    clause_law c.args.k c.args.yes (writes_more c.numbered.ensures.wrote c.either.ensures.wrote)
