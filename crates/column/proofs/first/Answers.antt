-- `column::first` meets its contract: the column from a row on begins as the whole of it, and a constructor is found among its type's.
use Rattle.std.proofs.Common.{ℕ, ◌≡◌, ◌<◌, Option, MatchOption, List, map, get_or, sym, ap, subst, ◌∙◌, arith}
use lib.ListN.{drop_of_length-le}
use Rattle.matrix.specs.Places.{head_at}
use Rattle.matrix.specs.Numbers.{first_of}
use Rattle.column.proofs.Columns.{first-skip, first-here, head-among}
use Rattle.heads.specs.Heads.{SaysNode}
use Rattle.column.proofs.first.Goals as goal
use Rattle.column.proofs.first.Goals.{in-Constructor+else-loop-c-test, in_default}

pub search-preserved : goal.search-preserved
search-preserved c =
    let a = c.args in
    let i = c.search.p-index in
    let lt = c.search-test.true in
    let f = head_at a.b.now.nodes.now a.b.now.left.now a.n in
    let e : c.head.result ≡ f (get_or a.ps.now i 0) = c.head.ensures ∙ ap f c.from.ensures in
    let inv = c.search.invariant in
    elim c.match-from.branch [
      | in-Constructor+else-loop-c-test w ↦ absurd (omega (arith, head-among a.b.now.types.counts.now f a.ps.now c.requires i w.in-Constructor.h w.base-from.result w.count-c-end.result lt (sym w.in-Constructor.ensures.0 ∙ e) w.in-Constructor.ensures.1 w.in-Constructor.ensures.2 w.base-from.ensures w.count-c-end.ensures, w.loop-c.invariant.1, w.loop-c-test.false))
      | in_default w ↦ (w.found-is ∙ inv.0, sym (first-skip f a.ps.now i lt c.from-in-search.result (subst (λ (x : ℕ). SaysNode x c.from-in-search.result) e c.from-in-search.ensures) w.in_default.not-Constructor) ∙ inv.1)
    ]

pub returns-after-search : goal.returns-after-search
unfolding first_of
returns-after-search c =
    let a = c.args in
    let f = head_at a.b.now.nodes.now a.b.now.left.now a.n in
    let none = subst (λ (l : List ℕ). first_of (map f l) ≡ first_of (map f a.ps.now)) (drop_of_length-le a.ps.now c.search-test.false) c.search.invariant.1 in
    subst (λ (o : Option ℕ). MatchOption o (first_of (map f a.ps.now) ≡ 0) (λ h. (h ≡ first_of (map f a.ps.now)) × (0 < h))) (sym c.search.invariant.0) (sym none)

pub returns-then-from-c : goal.returns-then-from-c
returns-then-from-c c =
    let a = c.args in
    let i = c.search.p-index in
    let f = head_at a.b.now.nodes.now a.b.now.left.now a.n in
    let s = c.in-Constructor.ensures in
    let e : c.in-Constructor.h ≡ f (get_or a.ps.now i 0) = sym s.0 ∙ c.head.ensures ∙ ap f c.from.ensures in
    (e ∙ sym (first-here f a.ps.now i c.search-test.true (omega (arith, e, s.1)) (omega (arith, e, s.2))) ∙ c.search.invariant.1, s.1)
