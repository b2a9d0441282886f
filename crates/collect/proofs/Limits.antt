-- The limits along the walk of missing rows: entering a call, ending it, one walk after another.
use mathlib.Core.Path.{◌≡◌, sym, ap, ap₂, ◌∙◌}
use mathlib.Core.Logic.{⊎_elim}
use mathlib.Core.List.{[], ◌++◌}
use Prim.Native.Nat.{ℕ, suc, ◌+◌, ◌-◌, ◌≤◌, ◌<◌}
use native.Mathlib.Nat.{add-zero}
use native.Mathlib.Omega.{arith}
use lib.ListN.{length, length-append}
use borrow.Author.Tests.{le-leb, lt-leb}
use Rattle.scope.specs.Walks.{Walk, plain, holding, joined}
use Rattle.scope.proofs.Tests.{clash}
use Rattle.matrix.specs.Numbers.{Rows}
use Rattle.paths.specs.Spread.{nodes_of, fitted}
use Rattle.collect.specs.Ready.{sought}
use Rattle.scope.specs.Blocks.{Step, ok, refuse}
use Rattle.matrix.proofs.Orders.{le_or, and-false}
use Rattle.walks.proofs.Limits.{within_both, past-calls, past-cells}
use Rattle.paths.proofs.PathSpread.{nodes_append, fitted-done, fitted-over}

module _ (c room written found : ℕ) (w : Walk Rows) where
  sought_in : c + w.calls ≤ 65536 → w.peak ≤ room → written + nodes_of w.result ≤ 4096 → sought c room written found w ≡ ok (written + nodes_of w.result, (found + length w.result, c + w.calls))
  unfolding sought
  sought_in p q l = simp (within_both c room w p q, le-leb (written + nodes_of w.result) 4096 l)

  past-calls-is : 65536 < c + w.calls → sought c room written found w ≡ refuse 10
  unfolding sought
  past-calls-is p = simp (past-calls c room w p)

  past-cells-is : room < w.peak → sought c room written found w ≡ refuse 10
  unfolding sought
  past-cells-is p = simp (past-cells c room w p)

  past-nodes-is : 4096 < written + nodes_of w.result → sought c room written found w ≡ refuse 10
  unfolding sought
  past-nodes-is p = simp (lt-leb (written + nodes_of w.result) 4096 p, and-false)

  -- within all limits, or past one
  cases : {B : Type 0} → (c + w.calls ≤ 65536 → w.peak ≤ room → written + nodes_of w.result ≤ 4096 → B) → (65536 < c + w.calls → B) → (room < w.peak → B) → (4096 < written + nodes_of w.result → B) → B
  cases f g h i = ⊎_elim (λ p. ⊎_elim (λ q. ⊎_elim (f p q) i (le_or (written + nodes_of w.result) 4096)) h (le_or w.peak room)) g (le_or (c + w.calls) 65536)

  no_done : {A : Type 0} (a b d : ℕ) → ◌≡◌ {A = Step (ℕ × (ℕ × ℕ))} (refuse 10) (ok (a, (b, d))) → A
  no_done a b d e = clash (cc)

  -- a walk that is done: its nodes, rows and calls, and that they are within the limits
  pub record IsDone (n k d : ℕ) : Type 0 where
    pub nodes : n ≡ written + nodes_of w.result
    pub rows : k ≡ found + length w.result
    pub called : d ≡ c + w.calls
    pub low : n ≤ 4096
    pub few : d ≤ 65536
    pub fits : w.peak ≤ room

  pub done-is : (n k d : ℕ) → ok (n, (k, d)) ≡ sought c room written found w → IsDone n k d
  done-is n k d e = cases
      (λ p q l.
      let f : ◌≡◌ {A = Step (ℕ × (ℕ × ℕ))} (ok (n, (k, d))) (ok (written + nodes_of w.result, (found + length w.result, c + w.calls))) = e ∙ sought_in p q l in
      let i : ◌≡◌ {A = ℕ × (ℕ × ℕ)} (n, (k, d)) (written + nodes_of w.result, (found + length w.result, c + w.calls)) = cc in
      let x : n ≡ written + nodes_of w.result = ap (λ (u : ℕ × (ℕ × ℕ)). u.0) i in
      let y : k ≡ found + length w.result = ap (λ (u : ℕ × (ℕ × ℕ)). u.1.0) i in
      let z : d ≡ c + w.calls = ap (λ (u : ℕ × (ℕ × ℕ)). u.1.1) i in
      record { nodes = x; rows = y; called = z; low = omega arith; few = omega arith; fits = q })
      (λ p. no_done n k d (sym (e ∙ past-calls-is p)))
      (λ p. no_done n k d (sym (e ∙ past-cells-is p)))
      (λ p. no_done n k d (sym (e ∙ past-nodes-is p)))

module _ (c room written found cells : ℕ) where
  pub over-cells : (w : Walk Rows) → room < cells → refuse 10 ≡ sought c room written found (holding cells w)
  over-cells w l = sym (past-cells-is c room written found (holding cells w) (omega arith))

  pub over-calls : (w : Walk Rows) → 65536 ≤ c → refuse 10 ≡ sought c room written found (holding cells w)
  over-calls w l = sym (past-calls-is c room written found (holding cells w) (omega arith))

  -- a call that is entered counts, and its cells leave the room
  pub enter : (w : Walk Rows) → cells ≤ room → sought (c + 1) (room - cells) written found w ≡ sought c room written found (holding cells w)
  enter w l = cases (c + 1) (room - cells) written found w
      (λ p q k. sought_in (c + 1) (room - cells) written found w p q k ∙ ap (λ (k : ℕ). ok (written + nodes_of w.result, (found + length w.result, k))) (shift w.calls) ∙ sym (sought_in c room written found (holding cells w) (omega arith) (omega arith) k))
      (λ p. past-calls-is (c + 1) (room - cells) written found w p ∙ sym (past-calls-is c room written found (holding cells w) (omega arith)))
      (λ p. past-cells-is (c + 1) (room - cells) written found w p ∙ sym (past-cells-is c room written found (holding cells w) (omega arith)))
      (λ p. past-nodes-is (c + 1) (room - cells) written found w p ∙ sym (past-nodes-is c room written found (holding cells w) p))
    where
      shift : (k : ℕ) → c + 1 + k ≡ c + suc k
      shift k = omega arith

  -- a leaf: its rows fit, or they do not
  module _ (m : Rows) (l : cells ≤ room) (h : c < 65536) where
    pub done-leaf : (n k : ℕ) → ok (n, k) ≡ fitted written found m → ok (n, (k, c + 1)) ≡ sought c room written found (holding cells (plain m))
    done-leaf n k e =
        let f = fitted-done written found m n k e in
        let x : n ≡ written + nodes_of m = f.nodes in
        let y : k ≡ found + length m = f.count in
        ap₂ (λ (u v : ℕ). ok (u, (v, c + 1))) x y ∙ sym (sought_in c room written found (holding cells (plain m)) (omega arith) (omega arith) (omega (arith, f.inside)))

    pub over-leaf : refuse 10 ≡ fitted written found m → refuse 10 ≡ sought c room written found (holding cells (plain m))
    over-leaf e = sym (past-nodes-is c room written found (holding cells (plain m)) (fitted-over written found m e))

pub none_done : (c room written found : ℕ) → c ≤ 65536 → written ≤ 4096 → ok (written, (found, c)) ≡ sought c room written found (plain [])
none_done c room written found l k = zeros ∙ sym (sought_in c room written found (plain []) (omega arith) (omega arith) (omega arith))
  where
    zeros : ◌≡◌ {A = Step (ℕ × (ℕ × ℕ))} (ok (written, (found, c))) (ok (written + 0, (found + 0, c + 0)))
    zeros = ap₂ (λ (x y : ℕ). ok (x, (y, c))) (sym (add-zero written)) (sym (add-zero found)) ∙ ap (λ (k : ℕ). ok (written + 0, (found + 0, k))) (sym (add-zero c))

-- one walk, then another
module _ (c room written found : ℕ) (a b : Walk Rows) where
  pub join-over : refuse 10 ≡ sought c room written found a → refuse 10 ≡ sought c room written found (joined ◌++◌ a b)
  join-over e = cases c room written found a
      (λ p q l. no_done c room written found a (written + nodes_of a.result) (found + length a.result) (c + a.calls) (e ∙ sought_in c room written found a p q l))
      (λ p. sym (past-calls-is c room written found (joined ◌++◌ a b) (omega arith)))
      (λ p. sym (past-cells-is c room written found (joined ◌++◌ a b) (omega arith)))
      (λ p. sym (past-nodes-is c room written found (joined ◌++◌ a b) (omega (arith, nodes_append a.result b.result))))

  pub join-then : (n k d : ℕ) → ok (n, (k, d)) ≡ sought c room written found a → sought d room n k b ≡ sought c room written found (joined ◌++◌ a b)
  join-then n k d e =
      let i = done-is c room written found a n k d e in
      let o : Walk Rows = joined ◌++◌ a b in
      let x : n + nodes_of b.result ≡ written + nodes_of o.result = omega (arith, i.nodes, nodes_append a.result b.result) in
      let y : k + length b.result ≡ found + length o.result = omega (arith, i.rows, length-append a.result b.result) in
      let z : d + b.calls ≡ c + (a.calls + b.calls) = omega (arith, i.called) in
      cases d room n k b
      (λ p q l. sought_in d room n k b p q l ∙ ap₂ (λ (u v : ℕ). ok (u, (v, d + b.calls))) x y ∙ ap (λ (k : ℕ). ok (written + nodes_of o.result, (found + length o.result, k))) z ∙ sym (sought_in c room written found o (omega arith) (omega (arith, i.fits)) (omega arith)))
      (λ p. past-calls-is d room n k b p ∙ sym (past-calls-is c room written found o (omega arith)))
      (λ p. past-cells-is d room n k b p ∙ sym (past-cells-is c room written found o (omega arith)))
      (λ p. past-nodes-is d room n k b p ∙ sym (past-nodes-is c room written found o (omega arith)))
