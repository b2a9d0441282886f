-- `judging::walk` meets its contract: both walks together, from the contracts of each.
use mathlib.Core.Path.{sym, subst}
use native.Mathlib.Omega.{arith}
use Rattle.judging.specs.Walks.{Walked}
use Rattle.judging.proofs.Walking.{first-over, second-over, both-done, said-over}
use Rattle.judging.proofs.walk.Goals as goal

pub returns-in_default-clause-by_index : goal.returns-in_default-clause-by_index
returns-in_default-clause-by_index c kinds b h = first-over c.args.b.now.types.bytes.now b c.args.verdicts.now _ (c.in_default.ensures.judges_all kinds b.table b.subject b.rows h)

pub returns-in_err-found-clause-by_index : goal.returns-in_err-found-clause-by_index
returns-in_err-found-clause-by_index c kinds b h = subst (Walked c.args.b.now.types.bytes.now b c.judge.new.verdicts c.missing.new.out) (sym (said-over c.from_residual.result c.from_residual.ensures.0)) (second-over c.args.b.now.types.bytes.now b c.args.verdicts.now _ (c.in_err-found.ensures.finds_all kinds b.table b.subject b.rows h))

pub returns-clause-by_index : goal.returns-clause-by_index
returns-clause-by_index c kinds b h = both-done c.args.b.now.types.bytes.now b c.args.verdicts.now _ (omega (arith, h.rows.many, c.requires.rows_len_bound.0, c.told-verdicts)) (c.in-Ok.ensures.judges_all kinds b.table b.subject b.rows h) (c.in_ok-found.ensures.finds_all kinds b.table b.subject b.rows h)
