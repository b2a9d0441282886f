-- `nodes::Open::wants` meets its contract: a tail, or a pattern before it or before the end.
use Rattle.nodes.proofs.Marks.{wants-tail, wants-element, wants-argument}
use Rattle.nodes.proofs.Open.wants.Goals as goal

pub returns-then-tail : goal.returns-then-tail
returns-then-tail c = wants-tail c.args.self.now.what c.in-List.t c.in-List.tail c.in-List.ensures c.args.self.now.more c.if-tail.true

pub returns-else-tail : goal.returns-else-tail
returns-else-tail c = wants-element c.args.self.now.what c.in-List.t c.in-List.tail c.in-List.ensures c.args.self.now.more c.if-tail.false

pub returns-in-Ctor : goal.returns-in-Ctor
returns-in-Ctor c = wants-argument c.args.self.now.what c.in-Ctor.wilds c.in-Ctor.ensures c.args.self.now.more
