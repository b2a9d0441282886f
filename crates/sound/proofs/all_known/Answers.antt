-- `sound::all_known` meets its contract: each field is asked in turn.
use mathlib.Core.Path.{◌≡◌, refl}
use mathlib.Core.Bool.{true, false}
use Prim.Native.Nat.{◌+◌}
use lib.ListN.{get_or}
use Rattle.std.specs.Prelude.{MatchBool}
use Rattle.std.specs.Iterator.Runs.{AnyItem, AllItems, ItemsCountUp}
use Rattle.std.proofs.Common.{rules}
use Rattle.std.proofs.iter.runs.Sources.{ranges}
use Rattle.scope.specs.Finite.{is_known}
use Rattle.layout.proofs.Chains.{all-read}
use Rattle.sound.specs.Sound.{fields_known}
use Rattle.sound.proofs.all_known.Goals as goal

pub returns : goal.returns
unfolding fields_known
returns c =
    let a = c.args in
    let fields = a.types.now.fields.now in
    let p = c.all.ensures.runs.0 in
    let from = get_or a.types.now.starts.now a.i 0 in
    let n = get_or a.types.now.arities.now a.i 0 in
    let up : ItemsCountUp p from (from + n) = search (rules, ranges) in
    let told : MatchBool c.all.result ((p.whole ≡ true) × AllItems p (λ i. is_known a.known.now (get_or fields i 0) ≡ true)) (AnyItem p (λ i. is_known a.known.now (get_or fields i 0) ≡ false)) = search (rules, ranges) in
    all-read (is_known a.known.now) fields p from (from + n) n up refl c.all.result told
