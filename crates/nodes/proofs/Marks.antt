-- One open pattern: what its cell says, and what each arm of its methods gives by its definition.
use mathlib.Core.Path.{◌≡◌, refl, ap, ap₂, ◌∙◌}
use mathlib.Core.Bool.{Bool, true, false, cond, ◌&&◌}
use mathlib.Core.List.{List, [], ◌∷◌}
use Prim.Native.Nat.{ℕ, suc, ◌+◌, ◌*◌, ◌-◌, ◌/◌, ◌%◌, ◌≤◌, ◌<◌}
use native.Mathlib.Omega.{arith}
use lib.ListN.{length, set, replicate, length-replicate}
use lib.Seq.{sets}
use lib.Dec.{ltb, leb, eqb}
use native.Mathlib.Nat.{add-zero}
use borrow.Author.Tests.{le-leb, lt-leb, lt-ltb, leb-true, leb-false}
use Rattle.scope.proofs.Tests.{clash}
use Rattle.nodes.specs.Keys.{low16, key_of}
use Rattle.nodes.specs.Opens.{opening, mark_of, what_of, wanted, taken, cell_of, end_of}
use Rattle.nodes.specs.declared.Open.{Open}
use Rattle.nodes.specs.declared.What.TheVariants as what

-- cells that are equal
pub same_open : {a b c x y z : ℕ} → a ≡ x → b ≡ y → c ≡ z → opening a b c ≡ opening x y z
same_open e f g = rw (e, f, g)

-- three stores, one after another
pub three-stores : (s s₁ s₂ s₃ : List ℕ) (i j k w m f : ℕ) → j ≡ i + 1 → k ≡ j + 1 → s₁ ≡ set s i w → s₂ ≡ set s₁ j m → s₃ ≡ set s₂ k f → s₃ ≡ sets s i (w ∷ m ∷ f ∷ [])
three-stores s s₁ s₂ s₃ i j k w m f j_is k_is e₁ e₂ e₃ =
    let j' : j ≡ suc i = omega arith in
    let k' : k ≡ suc (suc i) = omega arith in
    e₃ ∙ ap (λ (l : List ℕ). set l k f) (e₂ ∙ ap (λ (l : List ℕ). set l j m) e₁) ∙ ap₂ (λ (a b : ℕ). set (set (set s i w) a m) b f) j' k'

pub mark-tail : (t r : ℕ) (tail : Bool) → t < 16384 → tail ≡ true → r ≡ low16 (32769 + 2 * t) → r ≡ mark_of t tail
mark-tail t r tail l e h = rw e (omega arith)

pub mark-end : (t r : ℕ) (tail : Bool) → t < 16384 → tail ≡ false → r ≡ low16 (32768 + 2 * t) → r ≡ mark_of t tail
mark-end t r tail l e h = rw e (omega arith)

pub no_list : (what : ℕ) → what < 32768 → false ≡ (leb 32768 what && eqb (what % 2) 1)
no_list what l = rw (lt-leb 32768 what l)

pub some-list : (what : ℕ) → 32768 ≤ what → eqb (what % 2) 1 ≡ (leb 32768 what && eqb (what % 2) 1)
some-list what l = rw (le-leb 32768 what l)

-- a cell that says a list, and one that says wildcards
pub what-list : (w t : ℕ) (tail : Bool) → what.List t tail ≡ what_of w → (32768 ≤ w) × (t ≡ (w - 32768) / 2) × (tail ≡ eqb (w % 2) 1)
what-list w t tail e = go (leb 32768 w) refl e
  where
    go : (b : Bool) → leb 32768 w ≡ b → what.List t tail ≡ cond b (what.List ((w - 32768) / 2) (eqb (w % 2) 1)) (what.Ctor w) → (32768 ≤ w) × (t ≡ (w - 32768) / 2) × (tail ≡ eqb (w % 2) 1)
    go true h i = (leb-true 32768 w h, cc, cc)
    go false h i = clash (cc)

pub what_ctor : (w k : ℕ) → what.Ctor k ≡ what_of w → (w < 32768) × (k ≡ w)
what_ctor w k e = go (leb 32768 w) refl e
  where
    go : (b : Bool) → leb 32768 w ≡ b → what.Ctor k ≡ cond b (what.List ((w - 32768) / 2) (eqb (w % 2) 1)) (what.Ctor w) → (w < 32768) × (k ≡ w)
    go true h i = clash (cc)
    go false h i = (leb-false 32768 w h, cc)

-- a list and what it has
module _ (w t : ℕ) (tail : Bool) (says : what.List t tail ≡ what_of w) where
  pub wants-tail : (more : ℕ) → tail ≡ true → tail ≡ ltb 0 (wanted w more)
  unfolding wanted
  wants-tail more e =
      let h = what-list w t tail says in
      rw (e, le-leb 32768 w h.0, ← h.2, e, lt-ltb 0 (more + 1) (omega arith))

  pub wants-element : (more : ℕ) → tail ≡ false → ltb 0 more ≡ ltb 0 (wanted w more)
  unfolding wanted
  wants-element more e =
      let h = what-list w t tail says in
      rw (le-leb 32768 w h.0, ← h.2, e, add-zero more)

  pub taken-list : (o : Open) (f : ℕ) → o.what ≡ w → f ≡ o.field → opening o.what (o.more - 1) f ≡ taken o
  unfolding taken
  taken-list o f e i = rw (e, le-leb 32768 w (what-list w t tail says).0, i)

  module _ (nodes nodes' : List ℕ) (at node r : ℕ) (r_is : r ≡ at + 1) (e : nodes' ≡ set nodes at node) where
    pub cell-list : node ≡ key_of t 0 → (r ≡ at + length (cell_of w)) × (nodes' ≡ sets nodes at (cell_of w))
    unfolding cell_of
    cell-list node_is =
        let h = what-list w t tail says in
        rw (le-leb 32768 w h.0, ← h.1, ← node_is) (r_is, e)

    pub finish-list : node ≡ key_of t 1 → (r ≡ at + length (end_of w)) × (nodes' ≡ sets nodes at (end_of w))
    unfolding end_of
    finish-list node_is =
        let h = what-list w t tail says in
        rw (le-leb 32768 w h.0, ← h.1, ← node_is) (r_is, e)

-- a constructor and its wildcards
module _ (w k : ℕ) (says : what.Ctor k ≡ what_of w) where
  pub wants-argument : (more : ℕ) → ltb 0 more ≡ ltb 0 (wanted w more)
  unfolding wanted
  wants-argument more = rw (lt-leb 32768 w (what_ctor w k says).0)

  pub taken-ctor : (o : Open) (f : ℕ) → o.what ≡ w → f ≡ (o.field + 1) % 65536 → opening o.what (o.more - 1) f ≡ taken o
  unfolding taken
  taken-ctor o f e i = rw (e, lt-leb 32768 w (what_ctor w k says).0, i)

  module _ (nodes nodes' : List ℕ) (at : ℕ) where
    pub cell_none : (at ≡ at + length (cell_of w)) × (nodes ≡ sets nodes at (cell_of w))
    unfolding cell_of
    cell_none = rw (lt-leb 32768 w (what_ctor w k says).0) (omega arith, refl)

    pub finish-ctor : (r : ℕ) → r ≡ at + k → nodes' ≡ sets nodes at (replicate k 0) → (r ≡ at + length (end_of w)) × (nodes' ≡ sets nodes at (end_of w))
    unfolding end_of
    finish-ctor r r_is e =
        let h = what_ctor w k says in
        rw (lt-leb 32768 w h.0, length-replicate {A = ℕ} w 0, ← h.1) (r_is, e)
