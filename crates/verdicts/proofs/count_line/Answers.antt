-- `count_line` meets its contract: each count after its word.
use Rattle.verdicts.proofs.Verdicts.{count_law}
use Rattle.verdicts.proofs.count_line.Goals as goal

pub returns-clause-wrote : goal.returns-clause-wrote
returns-clause-wrote c =
    count_law c.args.clauses c.args.yes c.numbered.ensures.wrote c.numbered-2.ensures.wrote c.ended.ensures.wrote
