-- `head` meets its contract: one text after another.
use Rattle.writing.proofs.Writing.{writes_more, writes_as}
use Rattle.verdicts.proofs.Verdicts.{count-is}
use Rattle.verdicts.proofs.head.Goals as goal

pub returns-clause-wrote : goal.returns-clause-wrote
returns-clause-wrote c =
    let counted = writes_as (count-is c.args.verdicts.now c.yeses.result c.yeses.ensures.value) c.count_line.ensures.wrote in
    writes_more (writes_more counted c.clause_lines.ensures.wrote) c.ended.ensures.wrote
