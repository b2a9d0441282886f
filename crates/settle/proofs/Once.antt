-- What the contracts of `leaf` and `begin` determine: the nodes, and of the answer all but the depth; from the items and the numbers of nodes.
use mathlib.Core.Path.{◌≡◌, refl, sym, ap, ap₂, subst, ◌∙◌}
use mathlib.Core.List.{List, [], ◌∷◌, ◌++◌, map}
use Prim.Native.Nat.{ℕ, ◌+◌}
use lib.ListN.{length}
use lib.Seq.{sets}
use Rattle.scope.proofs.Tests.{clash}
use Rattle.scope.specs.Simplify.{Row, Item, put, pat}
use Rattle.layout.specs.Nodes.{row_of}
use Rattle.nodes.proofs.Numbers.{same_nodes}
use Rattle.nodes.specs.Opens.{due}
use Rattle.nodes.specs.declared.Open.{Open}
use Rattle.settle.specs.Settled.{Next, Read, Done, rest_of, Due, Ends, Settled}

-- items that do not begin with a node
abbrev Stops : List Item → Type 0
Stops [] = Unit {0}
Stops (pat t ∷ is) = Unit {0}
Stops (put n ∷ is) = ⊥

-- nodes in front of such items are one run
same-run : (xs ys : Row) (is js : List Item) → Stops is → Stops js → map put xs ++ is ≡ map put ys ++ js → (xs ≡ ys) × (is ≡ js)
same-run [] [] is js s t e = (refl, e)
same-run [] (y ∷ ys) is js s t e = absurd (subst Stops e s)
same-run (x ∷ xs) [] is js s t e = absurd (subst Stops (sym e) t)
same-run (x ∷ xs) (y ∷ ys) is js s t e =
    let head : x ≡ y = cc in
    let tail : map put xs ++ is ≡ map put ys ++ js = cc in
    let r = same-run xs ys is js s t tail in
    (ap₂ ◌∷◌ head r.0, r.1)

-- two answers that say the same but for the depth of the stack
abbrev pub Alike : Next → Next → Type 0
Alike (Read t depth place) (Read u height from) = (t ≡ u) × (place ≡ from)
Alike (Read t depth place) (Done from) = ⊥
Alike (Done place) (Read u height from) = ⊥
Alike (Done place) (Done from) = place ≡ from

module _ {bytes fields : List ℕ} {fs : List Open} {height at : ℕ} {nodes s a u b : List ℕ} {q r : Next} (h : Settled bytes fields fs height at nodes s a q) (k : Settled bytes fields fs height at nodes u b r) where
  stops : (stack : List ℕ) (x : Next) → Due (due fs) stack x → Stops (rest_of bytes fields stack x)
  stops stack (Read t depth place) d = tt
  stops stack (Done place) d = tt

  run : (row_of bytes h.new ≡ row_of bytes k.new) × (rest_of bytes fields s q ≡ rest_of bytes fields u r)
  run = same-run (row_of bytes h.new) (row_of bytes k.new) (rest_of bytes fields s q) (rest_of bytes fields u r) (stops s q h.due_is) (stops u r k.due_is) (sym h.items ∙ k.items)

  same_new : h.new ≡ k.new
  same_new = same_nodes bytes h.new k.new run.0 (h.plain ∙ sym k.plain)

  pub one-nodes : a ≡ b
  one-nodes = h.nodes_are ∙ ap (λ (l : List ℕ). sets nodes at l) same_new ∙ sym k.nodes_are

  pub one-next : Alike q r
  one-next = go q r h.ends k.ends h.due_is k.due_is run.1
    where
      go : (x y : Next) → Ends (at + length h.new) height x → Ends (at + length k.new) height y → Due (due fs) s x → Due (due fs) u y → rest_of bytes fields s x ≡ rest_of bytes fields u y → Alike x y
      go (Read t d p) (Read v e f) i j c w o = (same-type o, i.0 ∙ ap (λ (l : List ℕ). at + length l) same_new ∙ sym j.0)
        where
          same-type : {is js : List Item} → ◌≡◌ {A = List Item} (pat t ∷ is) (pat v ∷ js) → t ≡ v
          same-type z = cc
      go (Read t d p) (Done f) i j c w o = clash (cc)
      go (Done p) (Read v e f) i j c w o = clash (cc)
      go (Done p) (Done f) i j c w o = i ∙ ap (λ (l : List ℕ). at + length l) same_new ∙ sym j
