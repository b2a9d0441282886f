-- `nodes::Open::finish` meets its contract: the end of a list, or wildcards.
use Rattle.nodes.proofs.Marks.{finish-list, finish-ctor}
use Rattle.nodes.proofs.Open.finish.Goals as goal

pub returns-in-List : goal.returns-in-List
returns-in-List c =
    let both = finish-list c.args.self.now.what c.in-List.t c.in-List.tail c.in-List.ensures c.args.nodes.now c.put.new.s c.args.at c.key.result c.put.result c.put.ensures.value c.put.ensures.s_after c.key.ensures in
    record { value = both.0; nodes_after = both.1 }

pub returns-in-Ctor : goal.returns-in-Ctor
returns-in-Ctor c =
    let both = finish-ctor c.args.self.now.what c.in-Ctor.wilds c.in-Ctor.ensures c.args.nodes.now c.put_many.new.s c.args.at c.put_many.result c.put_many.ensures.value c.put_many.ensures.s_after in
    record { value = both.0; nodes_after = both.1 }
