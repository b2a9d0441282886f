-- `nodes::Open::cell` meets its contract: a cell at a list, else nothing.
use Rattle.nodes.proofs.Marks.{cell-list, cell_none}
use Rattle.nodes.proofs.Open.cell.Goals as goal

pub returns-in-List : goal.returns-in-List
returns-in-List c =
    let both = cell-list c.args.self.now.what c.in-List.t c.in-List.tail c.in-List.ensures c.args.nodes.now c.put.new.s c.args.at c.key.result c.put.result c.put.ensures.value c.put.ensures.s_after c.key.ensures in
    record { value = both.0; nodes_after = both.1 }

pub returns-in-Ctor : goal.returns-in-Ctor
returns-in-Ctor c =
    let both = cell_none c.args.self.now.what c.in-Ctor.wilds c.in-Ctor.ensures c.args.nodes.now c.args.nodes.now c.args.at in
    record { value = both.0; nodes_after = both.1 }
