-- `clause::flagged` meets its contract: the bytes, then the flag.
use mathlib.Core.Path.{◌∙◌}
use Rattle.fields.proofs.Readers.{passed_on, told, skipped}
use Rattle.clause.proofs.Written.{flagged-short, flagged-on}
use Rattle.clause.proofs.flagged.Goals as goal

pub returns-in_err-from : goal.returns-in_err-from
returns-in_err-from c =
    passed_on _ _ _ c.in_err-from.was c.from_residual.ensures
    ∙ flagged-short c.args.n c.args.bytes.now c.args.at c.skip.result c.in_err-from.field-0.0 (told _ _ _ c.skip.ensures) c.in_err-from.was

pub within-requires : goal.within-requires
within-requires c =
    (skipped c.args.n c.args.bytes.now c.args.at c.in_ok-from.from c.skip.result c.requires (told _ _ _ c.skip.ensures) c.in_ok-from.was).inside

pub returns : goal.returns
returns c =
    flagged-on c.args.n c.args.bytes.now c.args.at c.within.result c.in_ok-from.from (skipped c.args.n c.args.bytes.now c.args.at c.in_ok-from.from c.skip.result c.requires (told _ _ _ c.skip.ensures) c.in_ok-from.was) (told _ _ _ c.within.ensures)
