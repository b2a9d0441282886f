-- `fields::within` meets its contract: a byte that passes the test.
use mathlib.Core.Path.{sym, ◌∙◌}
use Rattle.scope.specs.Lists.{among}
use Rattle.fields.proofs.Readers.{tells, passing-ends, passing-stops, passing-goes}
use Rattle.fields.proofs.within.Goals.{else-at-bytes-via-then-at-bytes+else-among, else-at-bytes-via-else-at-bytes}
use Rattle.fields.proofs.within.Goals as goal

pub returns-then-among : goal.returns-then-among
returns-then-among c =
    tells _ _ _ (passing-goes (among c.args.lo c.args.hi) c.args.bytes.now c.args.at c.if-at-bytes.true (sym c.among.ensures ∙ c.if-among.true))

pub returns-else-at-bytes : goal.returns-else-at-bytes
returns-else-at-bytes c =
    let good = among c.args.lo c.args.hi in
    elim c.else-at-bytes.branch [
      | else-at-bytes-via-then-at-bytes+else-among w ↦ tells _ _ _ (passing-stops good c.args.bytes.now c.args.at w.if-at-bytes.true (sym w.among.ensures ∙ w.if-among.false))
      | else-at-bytes-via-else-at-bytes w ↦ tells _ _ _ (passing-ends good c.args.bytes.now c.args.at c.requires w.if-at-bytes.false)
    ]
