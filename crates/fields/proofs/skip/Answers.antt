-- `fields::skip` meets its contract: as many bytes as are there, or a fault at the end.
use Rattle.fields.proofs.Readers.{tells, bytes-stop, bytes-go}
use Rattle.fields.proofs.skip.Goals as goal

pub returns-then-n-bytes : goal.returns-then-n-bytes
returns-then-n-bytes c =
    tells _ _ _ (bytes-go c.args.n c.args.bytes.now c.args.at c.requires c.if-n-bytes.true)

pub returns-else-n-bytes : goal.returns-else-n-bytes
returns-else-n-bytes c =
    tells _ _ _ (bytes-stop c.args.n c.args.bytes.now c.args.at c.requires c.if-n-bytes.false)
