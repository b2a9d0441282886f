-- `fresh::name_there` meets its contract: each name is asked in turn.
use mathlib.Core.Path.{◌≡◌, refl}
use mathlib.Core.Bool.{true, false}
use Prim.Native.Nat.{◌+◌}
use lib.ListN.{get_or}
use Rattle.std.specs.Prelude.{MatchBool}
use Rattle.std.specs.Iterator.Runs.{AnyItem, AllItems, ItemsCountUp}
use Rattle.std.proofs.Common.{rules}
use Rattle.std.proofs.iter.runs.Sources.{ranges}
use Rattle.scope.specs.Lists.{same as same_text}
use Rattle.layout.specs.Types.{text_at}
use Rattle.layout.proofs.Chains.{any-read}
use Rattle.fresh.specs.Fresh.{name_there}
use Rattle.fresh.proofs.name_there.Goals as goal

pub returns : goal.returns
unfolding name_there
returns c =
    let a = c.args in
    let bytes = a.types.now.bytes.now in
    let names = a.types.now.names.now in
    let p = c.any.ensures.runs.0 in
    let up : ItemsCountUp p a.from (a.from + a.n) = search (rules, ranges) in
    let told : MatchBool c.any.result (AnyItem p (λ i. same_text (text_at bytes a.at) (text_at bytes (get_or names i 0)) ≡ true)) ((p.whole ≡ true) × AllItems p (λ i. same_text (text_at bytes a.at) (text_at bytes (get_or names i 0)) ≡ false)) = search (rules, ranges) in
    any-read (λ q. same_text (text_at bytes a.at) (text_at bytes q)) names p a.from (a.from + a.n) a.n up refl c.any.result told
