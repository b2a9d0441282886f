-- `frames::read_frame` meets its contract: at the line's first byte, its kind, past it, and the rest to the line's end.
use Rattle.frames.proofs.Framings.{line-holds}
use Rattle.frames.proofs.read_frame.Goals as goal

pub returns : goal.returns
returns c = line-holds c.args.line c.over-r.result c.over-r.ensures c.past.result c.past.ensures c.kind-kind.result c.rest.result c.kind-kind.ensures c.rest.ensures
