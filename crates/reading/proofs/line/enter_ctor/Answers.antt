-- `reading::line::enter_ctor` meets its contract: a fresh constructor in the tables, or 7.
use mathlib.Core.Path.{refl, ◌∙◌}
use Prim.Native.Nat.{◌-◌}
use Rattle.reading.specs.Enters.{stale, fresh}
use Rattle.reading.proofs.Relent.{fresh-lent}
use Rattle.reading.proofs.line.enter_ctor.Goals as goal

pub returns-then-not-is_fresh : goal.returns-then-not-is_fresh
returns-then-not-is_fresh c =
    let l = c.lend.ensures in
    record { entered = stale (fresh-lent c.args.at (c.args.s.types - 1) l.bytes l.names l.counts c.is_fresh.ensures ∙ c.if-not-is_fresh.true); kinds_stay = refl }

pub returns : goal.returns
returns c =
    let l = c.lend.ensures in
    let e = c.add_ctor.ensures in
    record { entered = fresh (fresh-lent c.args.at (c.args.s.types - 1) l.bytes l.names l.counts c.is_fresh.ensures ∙ c.if-not-is_fresh.false) e.numbers e.with_ctor; kinds_stay = e.kinds_stay }
