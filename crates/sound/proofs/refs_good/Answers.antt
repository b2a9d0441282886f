-- `sound::refs_good` meets its contract: each field is asked in turn.
use mathlib.Core.Path.{◌≡◌}
use mathlib.Core.Bool.{true, false}
use native.Mathlib.Omega.{arith}
use lib.ListN.{get_or}
use lib.Dec.{ltb}
use Rattle.std.specs.Prelude.{MatchBool}
use Rattle.std.specs.Iterator.Runs.{AnyItem, AllItems, ItemsCountUp}
use Rattle.std.proofs.Common.{rules}
use Rattle.std.proofs.iter.runs.Sources.{ranges}
use Rattle.layout.proofs.Chains.{all-read}
use Rattle.sound.proofs.refs_good.Goals as goal

pub returns : goal.returns
returns c =
    let a = c.args in
    let fields = a.types.now.fields.now in
    let p = c.all.ensures.runs.0 in
    let up : ItemsCountUp p 0 a.n = search (rules, ranges) in
    let told : MatchBool c.all.result ((p.whole ≡ true) × AllItems p (λ i. ltb (get_or fields i 0) a.count ≡ true)) (AnyItem p (λ i. ltb (get_or fields i 0) a.count ≡ false)) = search (rules, ranges) in
    all-read (λ f. ltb f a.count) fields p 0 a.n a.n up (omega arith) c.all.result told
