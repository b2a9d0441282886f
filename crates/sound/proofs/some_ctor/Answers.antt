-- `sound::some_ctor` meets its contract: each constructor is asked in turn.
use mathlib.Core.Path.{◌≡◌, refl}
use mathlib.Core.Bool.{true, false}
use Prim.Native.Nat.{◌+◌, ◌*◌}
use lib.ListN.{get_or}
use Rattle.std.specs.Prelude.{MatchBool}
use Rattle.std.specs.Iterator.Runs.{AnyItem, AllItems, ItemsCountUp}
use Rattle.std.proofs.Common.{rules}
use Rattle.std.proofs.iter.runs.Sources.{ranges}
use Rattle.layout.proofs.Chains.{any-places}
use Rattle.sound.specs.Sound.{fields_known}
use Rattle.sound.proofs.some_ctor.Goals as goal

pub returns : goal.returns
returns c =
    let a = c.args in
    let p = c.any.ensures.runs.0 in
    let n = get_or a.types.now.counts.now a.t 0 in
    let q = fields_known a.types.now.arities.now a.types.now.starts.now a.types.now.fields.now a.known.now in
    let up : ItemsCountUp p (32 * a.t) (32 * a.t + n) = search (rules, ranges) in
    let told : MatchBool c.any.result (AnyItem p (λ i. q i ≡ true)) ((p.whole ≡ true) × AllItems p (λ i. q i ≡ false)) = search (rules, ranges) in
    any-places q p (32 * a.t) (32 * a.t + n) n up refl c.any.result told
