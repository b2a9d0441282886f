-- `ctors::collect_ctors_in` meets its contract: no constructor, all, or some.
use Rattle.ctors.proofs.Found.{ctors-none, ctors-all, ctors-some}
use Rattle.matrix.proofs.Seen.{first-few}
use Rattle.matrix.specs.Places.{head_at}
use native.Mathlib.Omega.{arith}
use mathlib.Core.List.{map}
use Rattle.ctors.proofs.collect_ctors_in.Goals as goal

pub returns-in_default : goal.returns-in_default
returns-in_default c =
    let b = c.args.b.now in
    ctors-none b.types.counts.now (map (head_at b.nodes.now b.left.now c.args.n) c.args.ps.now) c.in_default.ensures

pub all-requires : goal.all-requires
all-requires c =
    let b = c.args.b.now in
    let f = c.in-Some.ensures in
    first-few b.types.counts.now (map (head_at b.nodes.now b.left.now c.args.n) c.args.ps.now) c.requires c.in-Some.h c.base-c.result c.count-k.result f.0 (λ z. omega (arith, f.1)) c.base-c.ensures c.count-k.ensures

pub returns-then-all : goal.returns-then-all
returns-then-all c =
    let b = c.args.b.now in
    let hs = map (head_at b.nodes.now b.left.now c.args.n) c.args.ps.now in
    let f = c.in-Some.ensures in
    let le = first-few b.types.counts.now hs c.requires c.in-Some.h c.base-c.result c.count-k.result f.0 (λ z. omega (arith, f.1)) c.base-c.ensures c.count-k.ensures in
    ctors-all b.types.counts.now hs c.in-Some.h c.base-c.result c.count-k.result c.seen-flags.result f.0 (λ z. omega (arith, f.1)) c.base-c.ensures c.count-k.ensures le c.seen-flags.ensures c.all.result c.all.ensures c.if-all.true

pub unseen-set-requires : goal.unseen-set-requires
unseen-set-requires c =
    let b = c.args.b.now in
    let f = c.in-Some.ensures in
    first-few b.types.counts.now (map (head_at b.nodes.now b.left.now c.args.n) c.args.ps.now) c.requires c.in-Some.h c.base-c.result c.count-k.result f.0 (λ z. omega (arith, f.1)) c.base-c.ensures c.count-k.ensures

pub returns : goal.returns
returns c =
    let b = c.args.b.now in
    let hs = map (head_at b.nodes.now b.left.now c.args.n) c.args.ps.now in
    let f = c.in-Some.ensures in
    let le = first-few b.types.counts.now hs c.requires c.in-Some.h c.base-c.result c.count-k.result f.0 (λ z. omega (arith, f.1)) c.base-c.ensures c.count-k.ensures in
    ctors-some b.types.counts.now hs c.in-Some.h c.base-c.result c.count-k.result c.seen-flags.result f.0 (λ z. omega (arith, f.1)) c.base-c.ensures c.count-k.ensures le c.seen-flags.ensures c.all.result c.all.ensures c.if-all.false c.unseen-set.result c.unseen-set.ensures
