-- `judge::clause` meets its contract: the clauses before k stand at the front of the scratch.
use Rattle.judge.proofs.Clauses.{clause-ready, clause-is}
use Rattle.matrix.proofs.Specialised.{runs-inside}
use Rattle.useful.specs.Ready.{limited}
use lib.ListN.{length}
use native.Mathlib.Omega.{arith}
use Prim.Native.Nat.{◌<◌}
use mathlib.Core.Path.{ap, ◌∙◌}
use Rattle.judge.proofs.clause.Goals as goal

pub slice_bounds-row-count : goal.slice_bounds-row-count
slice_bounds-row-count c =
    let a = c.args in
    let lt : c.from-p.result < length a.b.now.nodes.now = omega (arith, c.from-p.ensures, runs-inside a.b.now.nodes.now a.b.now.left.now a.b.now.types.counts.now a.b.now.types.arities.now (c.requires.starts.each a.k c.requires.k_in_bounds.0).runs) in
    omega arith

pub slice_bounds-row-start : goal.slice_bounds-row-start
slice_bounds-row-start c =
    let a = c.args in
    let lt : c.from-p.result < length a.b.now.nodes.now = omega (arith, c.from-p.ensures, runs-inside a.b.now.nodes.now a.b.now.left.now a.b.now.types.counts.now a.b.now.types.arities.now (c.requires.starts.each a.k c.requires.k_in_bounds.0).runs) in
    omega arith

pub is_useful-requires : goal.is_useful-requires
is_useful-requires c =
    let a = c.args in
    clause-ready a.b.now.types.bytes.now a.b.now.nodes.now a.b.now.left.now a.b.now.types.counts.now a.b.now.types.arities.now a.starts.now c.requires.sizes c.requires.starts a.k c.from-p.result a.s.now c.copy.new.s c.requires.k_in_bounds.0 c.requires.k_in_bounds.1 c.requires.k_in_bounds.2 c.from-p.ensures c.copy.ensures

pub returns : goal.returns
returns c =
    let a = c.args in
    c.is_useful.ensures.is ∙ ap (limited a.calls 16384) (clause-is a.b.now.types.bytes.now a.b.now.nodes.now a.b.now.left.now a.b.now.types.counts.now a.b.now.types.arities.now a.starts.now c.requires.sizes c.requires.starts a.k c.from-p.result a.s.now c.copy.new.s c.requires.k_in_bounds.0 c.requires.k_in_bounds.1 c.requires.k_in_bounds.2 c.from-p.ensures c.copy.ensures)
