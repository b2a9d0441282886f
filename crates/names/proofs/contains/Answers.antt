-- `names::contains` meets its contract: nothing stands everywhere, and else each part of t that is as long as s is compared with it.
use mathlib.Core.Path.{◌≡◌, sym, ◌∙◌}
use mathlib.Core.Bool.{true, false}
use lib.ListN.{length}
use Rattle.std.specs.Prelude.{MatchBool, nat_eq}
use Rattle.std.specs.Cmp.Lexicographic.{pointwise}
use Rattle.std.specs.Iterator.Runs.{AnyItem, AllItems, IsWindowsRun}
use Rattle.std.proofs.Common.{rules}
use Rattle.std.proofs.iter.runs.Made.{chains}
use Rattle.names.proofs.Laws.{contains-nothing, contains-windows}
use Rattle.names.proofs.contains.Goals as goal

pub returns-then-is_empty : goal.returns-then-is_empty
returns-then-is_empty c = c.if-is_empty.true ∙ sym (contains-nothing c.args.s.now c.args.t.now (search rules))

pub returns-else-is_empty : goal.returns-else-is_empty
returns-else-is_empty c =
    let s = c.args.s.now in
    let p = c.any.ensures.runs.0 in
    let told : MatchBool c.any.result (AnyItem p (λ x. pointwise nat_eq s x.now ≡ true)) ((p.whole ≡ true) × AllItems p (λ x. pointwise nat_eq s x.now ≡ false)) = search (rules, chains) in
    let parts : IsWindowsRun p (length s) c.args.t.now = search (rules, chains) in
    contains-windows p s c.args.t.now parts (search rules) c.any.result told
