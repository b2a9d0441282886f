-- `nodes::Open::take_one` meets its contract: a list keeps its field, a constructor goes on to the next.
use mathlib.Core.Path.{refl}
use Rattle.nodes.proofs.Marks.{taken-list, taken-ctor}
use Rattle.nodes.proofs.Open.take_one.Goals as goal
use Rattle.nodes.proofs.Open.take_one.Goals.{in-List, in-Ctor}

pub returns : goal.returns
returns c =
    elim c.match-from.branch [
      | in-List w ↦ taken-list c.args.self.what w.in-List.t w.in-List.tail w.in-List.ensures c.args.self c.match-from.field refl w.field-is
      | in-Ctor w ↦ taken-ctor c.args.self.what w.in-Ctor.wilds w.in-Ctor.ensures c.args.self c.match-from.field refl w.field-is
    ]
