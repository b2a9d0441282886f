-- Rows written out one after another: what is written, and when the nodes are over.
use mathlib.Core.Path.{◌≡◌, refl, sym, ap, ap₂, subst, ◌∙◌}
use mathlib.Core.Bool.{cond}
use mathlib.Core.Logic.{⊎_elim}
use mathlib.Core.List.{List, [], ◌∷◌, ◌++◌, append_assoc, append-nil}
use Prim.Native.Nat.{ℕ, ◌+◌, ◌≤◌, ◌<◌}
use native.Mathlib.Nat.{add-zero}
use native.Mathlib.Omega.{arith}
use lib.ListN.{length, length-append}
use Rattle.std.specs.Prelude.{Result, Ok, Err, IsErr}
use lib.Seq.{sets, length-sets}
use lib.Dec.{leb}
use borrow.Author.Tests.{le-leb, lt-leb}
use Rattle.cells.proofs.Laws.{sets-sets}
use Rattle.scope.specs.Lists.{flatten}
use Rattle.scope.proofs.Tests.{clash}
use Rattle.matrix.specs.Numbers.{Rows}
use Rattle.scope.specs.Blocks.{Step, ok, refuse}
use Rattle.outcomes.specs.Past.{said_spelt, fitting}
use Rattle.outcomes.specs.declared.Spelt.{Spelt}
use Rattle.outcomes.specs.declared.TooMuch.{TooMuch}
use Rattle.paths.specs.Spread.{nodes_of, Put, fitted, Spread}
use Rattle.matrix.proofs.Orders.{le_or}

pub nodes_append : (a b : Rows) → nodes_of (a ++ b) ≡ nodes_of a + nodes_of b
nodes_append [] b = omega arith
nodes_append (r ∷ a) b = omega (arith, nodes_append a b)

pub flatten_append : (a b : Rows) → flatten (a ++ b) ≡ flatten a ++ flatten b
flatten_append [] b = refl
flatten_append (r ∷ a) b = ap (λ (x : List ℕ). r ++ x) (flatten_append a b) ∙ sym (append_assoc r (flatten a) (flatten b))

pub flatten-length : (m : Rows) → length (flatten m) ≡ nodes_of m
flatten-length [] = refl
flatten-length (r ∷ m) = length-append r (flatten m) ∙ omega (arith, flatten-length m)

module _ (written rows : ℕ) (m : Rows) where
  pub fitted_in : written + nodes_of m ≤ 4096 → fitted written rows m ≡ ok (written + nodes_of m, rows + length m)
  unfolding fitted
  fitted_in l = rw (le-leb (written + nodes_of m) 4096 l)

  pub fitted_out : 4096 < written + nodes_of m → fitted written rows m ≡ refuse 10
  unfolding fitted
  fitted_out l = rw (lt-leb (written + nodes_of m) 4096 l)

  -- rows that fit: how many nodes and rows there are then
  pub record Fit (w k : ℕ) : Type 0 where
    pub nodes : w ≡ written + nodes_of m
    pub count : k ≡ rows + length m
    pub inside : w ≤ 4096

  not-over : {A : Type 0} (w k : ℕ) → ◌≡◌ {A = Step (ℕ × ℕ)} (refuse 10) (ok (w, k)) → A
  not-over w k e = clash (cc)

  pub fitted-done : (w k : ℕ) → ok (w, k) ≡ fitted written rows m → Fit w k
  fitted-done w k e = ⊎_elim
      (λ l. let f : ◌≡◌ {A = Step (ℕ × ℕ)} (ok (w, k)) (ok (written + nodes_of m, rows + length m)) = e ∙ fitted_in l in
      let i : ◌≡◌ {A = ℕ × ℕ} (w, k) (written + nodes_of m, rows + length m) = cc in
      let n : w ≡ written + nodes_of m = ap (λ (x : ℕ × ℕ). x.0) i in
      let c : k ≡ rows + length m = ap (λ (x : ℕ × ℕ). x.1) i in
      record { nodes = n; count = c; inside = omega arith })
      (λ l. not-over w k (sym (e ∙ fitted_out l)))
      (le_or (written + nodes_of m) 4096)

  pub fitted-over : refuse 10 ≡ fitted written rows m → 4096 < written + nodes_of m
  fitted-over e = ⊎_elim (λ l. not-over (written + nodes_of m) (rows + length m) (e ∙ fitted_in l)) (λ l. l) (le_or (written + nodes_of m) 4096)

-- one list of rows, then another
module _ (written rows : ℕ) (a b : Rows) where
  pub over_first : refuse 10 ≡ fitted written rows a → refuse 10 ≡ fitted written rows (a ++ b)
  over_first e = sym (fitted_out written rows (a ++ b) (omega (arith, fitted-over written rows a e, nodes_append a b)))

  pub fitted-then : (w k : ℕ) → ok (w, k) ≡ fitted written rows a → fitted w k b ≡ fitted written rows (a ++ b)
  fitted-then w k e =
      let f = fitted-done written rows a w k e in
      let n : w + nodes_of b ≡ written + nodes_of (a ++ b) = omega (arith, f.nodes, nodes_append a b) in
      let c : k + length b ≡ rows + length (a ++ b) = omega (arith, f.count, length-append a b) in
      ⊎_elim
      (λ l. fitted_in w k b l ∙ ap₂ (λ (x y : ℕ). ok (x, y)) n c ∙ sym (fitted_in written rows (a ++ b) (omega arith)))
      (λ l. fitted_out w k b l ∙ sym (fitted_out written rows (a ++ b) (omega arith)))
      (le_or (w + nodes_of b) 4096)

pub spread_none : (d : List ℕ) (v : Spelt) (m : Rows) → m ≡ [] → v.written ≤ 4096 → v.rows ≤ v.written → Spread d v.written v.rows m (Ok v) d
spread_none d v m e l f = subst (λ (x : Rows). Spread d v.written v.rows x (Ok v) d) (sym e)
    (record {
      is = ap₂ (λ (x y : ℕ). ok (x, y)) (sym (add-zero v.written)) (sym (add-zero v.rows)) ∙ sym (fitted_in v.written v.rows [] (omega arith));
      long = refl;
      text = λ w q. let x : v ≡ w = cc in refl;
      few = λ w q. let x : v ≡ w = cc in subst (λ (y : Spelt). y.rows ≤ y.written) x f;
    })

-- one row
module _ (d : List ℕ) (written rows : ℕ) (row : List ℕ) (at : ℕ) (e : List ℕ) (p : Put d written row at e) where
  one-fits : fitting at rows ≡ fitted written rows (row ∷ [])
  unfolding fitting fitted
  one-fits =
      let n : at ≡ written + nodes_of (row ∷ []) = omega (arith, p.place) in
      let c : rows + 1 ≡ rows + length (row ∷ []) = omega arith in
      ap₂ (λ (x y : ℕ). cond (leb x 4096) (ok (x, y)) (refuse 10)) n c

  pub spread-one : (r : Result Spelt TooMuch) → said_spelt r ≡ fitting at rows → rows ≤ written → 0 < length row → Spread d written rows (row ∷ []) r e
  spread-one r q f z = record {
    is = q ∙ one-fits;
    long = ap length p.text ∙ length-sets d written row;
    text = λ v e. p.text ∙ ap (sets d written) (sym (append-nil row));
    few = λ v e. let i = fitted-done written rows (row ∷ []) v.written v.rows (sym (ap said_spelt e) ∙ q ∙ one-fits) in omega (arith, i.nodes, i.count);
  }

-- one list of rows, then another
module _ (d : List ℕ) (written rows : ℕ) (a b m : Rows) (same : m ≡ a ++ b) (r : Result Spelt TooMuch) (e : List ℕ) (f : Spread d written rows a r e) where
  pub spread-stop : (t : TooMuch) → r ≡ Err t → (u : Result Spelt TooMuch) → IsErr u → Spread d written rows m u e
  spread-stop t q (Ok v) i = clash (cc)
  spread-stop t q (Err u) i = subst (λ (x : Rows). Spread d written rows x (Err u) e) (sym same) (record {
    is = over_first written rows a b (sym (ap said_spelt q) ∙ f.is);
    long = f.long;
    text = λ v z. clash (cc);
    few = λ v z. clash (cc);
  })

  module _ (v : Spelt) (q : r ≡ Ok v) where
    fit : Fit written rows a v.written v.rows
    fit = fitted-done written rows a v.written v.rows (sym (ap said_spelt q) ∙ f.is)

    pub spread-fit : (v.written ≤ 4096) × (v.rows ≤ v.written)
    spread-fit = (fit.inside, f.few v q)

    pub spread-then : (r₂ : Result Spelt TooMuch) (e₂ : List ℕ) → Spread e v.written v.rows b r₂ e₂ → Spread d written rows m r₂ e₂
    spread-then r₂ e₂ g = subst (λ (x : Rows). Spread d written rows x r₂ e₂) (sym same) (record {
      is = g.is ∙ fitted-then written rows a b v.written v.rows (sym (ap said_spelt q) ∙ f.is);
      long = g.long ∙ f.long;
      text = λ w z.
          let n : v.written ≡ written + length (flatten a) = fit.nodes ∙ ap (λ (x : ℕ). written + x) (sym (flatten-length a)) in
          g.text w z ∙ ap₂ (λ (x : List ℕ) (y : ℕ). sets x y (flatten b)) (f.text v q) n ∙ sets-sets (flatten a) (flatten b) d written ∙ ap (sets d written) (sym (flatten_append a b));
      few = g.few;
    })
