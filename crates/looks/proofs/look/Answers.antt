-- `looks::look` meets its contract: by the kind in the paste text, by the name in the source's.
use mathlib.Core.Path.{ap, ◌∙◌}
use mathlib.Core.Bool.{cond}
use Prim.Native.Nat.{ℕ, ◌/◌, ◌%◌}
use lib.ListN.{get_or}
use Rattle.scope.specs.Text.{look_by_name, look_by_kind}
use Rattle.naming.specs.Naming.{look_of}
use Rattle.looks.proofs.Nodes.{look_is}
use Rattle.looks.proofs.look.Goals as goal

pub returns : goal.returns
returns c =
    let a = c.args in
    let t = a.types.now in
    let name = c.ctor_name-name.result.now in
    c.look_in.ensures ∙ ap look_of (ap (λ (k : ℕ). cond a.paste (look_by_kind k (a.i % 32)) (look_by_name name)) c.kind.ensures ∙ look_is t.bytes.now (get_or t.kinds.now (a.i / 32) 0) (a.i % 32) (get_or t.names.now a.i 0) a.paste name c.ctor_name-name.ensures.result_value)
