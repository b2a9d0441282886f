-- `suits::args` meets its contract: a number that the type has not is unsuited.
use Rattle.suits.proofs.Small.{args_none, args-some}
use mathlib.Core.Path.{◌∙◌}
use Rattle.suits.proofs.args.Goals as goal

pub returns-then-count-c-clause-args : goal.returns-then-count-c-clause-args
returns-then-count-c-clause-args c =
    let a = c.args in
    args_none a.types.now.counts.now a.types.now.arities.now a.t a.c a.k a.spread c.count.result c.count.ensures c.if-count-c.true

pub returns-clause-args : goal.returns-clause-args
returns-clause-args c =
    let a = c.args in
    args-some a.types.now.counts.now a.types.now.arities.now a.t a.c a.k a.spread c.count.result c.count.ensures c.from.result c.filled.result c.if-count-c.false (c.from.ensures ∙ c.get.ensures) c.filled.ensures.filled
