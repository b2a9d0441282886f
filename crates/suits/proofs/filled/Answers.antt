-- `suits::filled` meets its contract: enough arguments or not.
use mathlib.Core.Path.{sym, ◌∙◌}
use Rattle.suits.proofs.Small.{fill-some, fill_none}
use Rattle.suits.proofs.filled.Goals as goal

pub returns-then-not-is_enough-clause-filled : goal.returns-then-not-is_enough-clause-filled
returns-then-not-is_enough-clause-filled c =
    let a = c.args in
    fill_none a.c a.k a.spread a.n (sym c.if-not-is_enough.true ∙ c.is_enough.ensures)

pub returns-clause-filled : goal.returns-clause-filled
returns-clause-filled c =
    let a = c.args in
    fill-some a.c a.k a.spread a.n c.wilds.result (sym c.if-not-is_enough.false ∙ c.is_enough.ensures) c.wilds.ensures
