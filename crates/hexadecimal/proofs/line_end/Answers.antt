-- `hexadecimal::line_end` meets its contract: the first line feed's place, or the end.
use Prim.Native.Nat.{◌+◌, ◌-◌}
use mathlib.Core.Path.{ap, ◌∙◌}
use native.Mathlib.Omega.{arith}
use lib.Dec.{eqb}
use lib.ListN.{drop, length, length-drop}
use lib.Seq.{take_all}
use Rattle.std.proofs.Common.{rules, tests}
use Rattle.std.proofs.lemmas.Iterator.{YieldsList-from_slice}
use Rattle.std.proofs.lemmas.Iterator.Search.{position_from_yields_List}
use Rattle.hexadecimal.proofs.Hexadecimal.{feed-found, feed_none}
use Rattle.hexadecimal.proofs.line_end.Goals as goal

pub returns-in-Some : goal.returns-in-Some
returns-in-Some c =
    let a = c.args in
    let s = drop a.from a.file.now in
    let rest = c.iter.ensures.rest ∙ take_all (length a.file.now - a.from) s (omega (arith, length-drop a.from a.file.now)) in
    let sought = position_from_yields_List (λ b. eqb b 10) _ _ c.position.result c.position.ensures.ran (YieldsList-from_slice s rest) (λ x b q k. search (rules, tests)) in
    ap (λ n. a.from + n) (feed-found s c.position.result sought c.in-Some.n c.in-Some.is)

pub returns-in-None : goal.returns-in-None
returns-in-None c =
    let a = c.args in
    let s = drop a.from a.file.now in
    let rest = c.iter.ensures.rest ∙ take_all (length a.file.now - a.from) s (omega (arith, length-drop a.from a.file.now)) in
    let sought = position_from_yields_List (λ b. eqb b 10) _ _ c.position.result c.position.ensures.ran (YieldsList-from_slice s rest) (λ x b q k. search (rules, tests)) in
    omega (arith, feed_none s c.position.result sought c.in-None.is, length-drop a.from a.file.now)
