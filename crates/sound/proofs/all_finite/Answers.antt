-- `sound::all_finite` meets its contract: after so many rounds the flags are what so many rounds know.
use mathlib.Core.Path.{◌≡◌, ◌∙◌}
use mathlib.Core.Bool.{true, false}
use native.Mathlib.Omega.{arith}
use Rattle.std.specs.Prelude.{MatchBool}
use Rattle.std.specs.Iterator.Runs.{AnyItem, AllItems, ItemsCountUp}
use Rattle.std.proofs.Common.{rules}
use Rattle.std.proofs.iter.runs.Sources.{ranges}
use Rattle.layout.proofs.Chains.{all-places}
use Rattle.sound.specs.Sound.{value_in}
use Rattle.sound.proofs.Known.{known_start, known_next, known-last}
use Rattle.sound.proofs.all_finite.Goals as goal

pub loop-init : goal.loop-init
loop-init c =
    let a = c.args in
    known_start a.types.now.kinds.now a.types.now.counts.now a.types.now.arities.now a.types.now.starts.now a.types.now.fields.now a.n

pub loop-preserved : goal.loop-preserved
loop-preserved c =
    let a = c.args in
    let l = c.loop in
    known_next a.types.now.kinds.now a.types.now.counts.now a.types.now.arities.now a.types.now.starts.now a.types.now.fields.now a.n l.counter l.known _ c.requires l.invariant c.round-known.ensures

pub returns : goal.returns
returns c =
    let a = c.args in
    let l = c.loop in
    let p = c.all.ensures.runs.0 in
    let q = value_in a.types.now.kinds.now a.types.now.counts.now a.types.now.arities.now a.types.now.starts.now a.types.now.fields.now l.known in
    let up : ItemsCountUp p 0 a.n = search (rules, ranges) in
    let told : MatchBool c.all.result ((p.whole ≡ true) × AllItems p (λ t. q t ≡ true)) (AnyItem p (λ t. q t ≡ false)) = search (rules, ranges) in
    all-places q p 0 a.n a.n up (omega arith) c.all.result told
    ∙ known-last a.types.now.kinds.now a.types.now.counts.now a.types.now.arities.now a.types.now.starts.now a.types.now.fields.now a.n l.counter l.known c.requires (omega arith) l.invariant
