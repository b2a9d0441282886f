-- A tree takes a value exactly when its patterns as a clause writes them, one after another, take it: by induction on the tree.
use mathlib.Core.Path.{◌≡◌, refl, ap, sym, subst}
use mathlib.Core.List.{List, [], ◌++◌, append_assoc, append-nil}
use mathlib.Core.Bool.{true, false}
use mathlib.Core.Logic.{◌↔◌}
use Prim.Native.Nat.{suc}
use native.Mathlib.Omega.{arith}
use Rattle.scope.specs.Patterns.{Raw}
use Rattle.meaning.specs.Values.{Val, vcon, Vals, []ᵛ, ◌∷ᵛ◌, ◌++ᵛ◌, lengthᵛ}
use Rattle.agreement.specs.Trees.{TypedPattern, TypedPatterns, []ᵗ, ◌∷ᵗ◌}
use Rattle.agreement.specs.Trees as tree
use Rattle.agreement.specs.Agreement.{written, written_each}
use Rattle.written.specs.Takes.{Elements, Opens, TakesEach, Takes}
use Rattle.written.specs.Trees.{TakesTree, TakesAll, TakesFront}
use Rattle.written.specs.Fitting.{TakesFits}
use Rattle.written.proofs.Fits.{fits-written, fits-suited}

-- taken by the pattern, and the rest by the rest
record After (P : Type 0) (ps : List Raw) (vs : Vals) : Type 0 where
  this : P
  rest : TakesEach ps vs

mutual
  unfolding written written_each

  tree_of : (p : TypedPattern) (ps : List Raw) (v : Val) (vs : Vals) → TakesEach (written p ++ ps) (v ∷ᵛ vs) → After (TakesTree p v) ps vs
  tree_of (tree.var n) ps v vs (TakesEach.also Opens.variable t) = record { this = TakesTree.var; rest = t }
  tree_of tree.discard ps v vs (TakesEach.also Opens.discard t) = record { this = TakesTree.discard; rest = t }
  tree_of (tree.int n) ps v vs (TakesEach.also (Opens.integer_of m) t) = record { this = TakesTree.int n; rest = t }
  tree_of (tree.byte_array s) ps v vs (TakesEach.also (Opens.byte_string_of m) t) = record { this = TakesTree.byte_array s; rest = t }
  tree_of (tree.assign n p) ps v vs (TakesEach.also Opens.assign t) = let r = tree_of p ps v vs t in record { this = TakesTree.assign r.this; rest = r.rest }
  tree_of (tree.ctor c args false) ps v vs (TakesEach.also (Opens.constructor {us = us} e) t) = let r = all_of args ps us vs e t in record { this = TakesTree.ctor r.this; rest = r.rest }
  tree_of (tree.ctor c args true) ps v vs (TakesEach.also (Opens.with_spread us others i e) t) = let r = all_of args ps us vs e t in record { this = TakesTree.spread us others i r.this; rest = r.rest }
  tree_of (tree.tuple args) ps v vs (TakesEach.also (Opens.tuple_of {us = us} e) t) = let r = all_of args ps us vs e t in record { this = TakesTree.tuple r.this; rest = r.rest }
  tree_of (tree.pair p q) ps v vs (TakesEach.also (Opens.pair_of {v = a} {w = b}) t) =
      let r = tree_of p (written q ++ ps) a (b ∷ᵛ vs) (subst (λ (x : List Raw). TakesEach x (a ∷ᵛ b ∷ᵛ vs)) (append_assoc (written p) (written q) ps) t) in
      let s = tree_of q ps b vs r.rest in
      record { this = TakesTree.pair r.this s.this; rest = s.rest }
  tree_of (tree.list els) ps v vs (TakesEach.also (Opens.list_of {us = us} m) t) = let r = ends_of els ps v us vs m t in record { this = TakesTree.list r.this; rest = r.rest }
  tree_of (tree.list_to els p) ps v vs (TakesEach.also (Opens.list_of {us = us} m) t) =
      let r = front_of els (written p ++ ps) v us vs m (subst (λ (x : List Raw). TakesEach x (us ++ᵛ vs)) (append_assoc (written_each els) (written p) ps) t) in
      let s = tree_of p ps r.0 vs r.2 in
      record { this = TakesTree.list_to r.0 r.1 s.this; rest = s.rest }

  all_of : (qs : TypedPatterns) (ps : List Raw) (us vs : Vals) → lengthᵛ us ≡ tree.count qs → TakesEach (written_each qs ++ ps) (us ++ᵛ vs) → After (TakesAll qs us) ps vs
  all_of []ᵗ ps []ᵛ vs e t = record { this = TakesAll.none; rest = t }
  all_of []ᵗ ps (u ∷ᵛ us) vs e t = absurd (omega arith)
  all_of (q ∷ᵗ qs) ps []ᵛ vs e t = absurd (omega arith)
  all_of (q ∷ᵗ qs) ps (u ∷ᵛ us) vs e t =
      let r = tree_of q (written_each qs ++ ps) u (us ++ᵛ vs) (subst (λ (x : List Raw). TakesEach x (u ∷ᵛ (us ++ᵛ vs))) (append_assoc (written q) (written_each qs) ps) t) in
      let s = all_of qs ps us vs (omega arith) r.rest in
      record { this = TakesAll.also r.this s.this; rest = s.rest }

  ends_of : (qs : TypedPatterns) (ps : List Raw) (v : Val) (us vs : Vals) → Elements (tree.count qs) false v us → TakesEach (written_each qs ++ ps) (us ++ᵛ vs) → After (TakesFront qs v (vcon 1 []ᵛ)) ps vs
  ends_of []ᵗ ps v us vs Elements.ends t = record { this = TakesFront.all_left; rest = t }
  ends_of (q ∷ᵗ qs) ps v us vs (Elements.element {v = a} {w = w} {us = us'} m) t =
      let r = tree_of q (written_each qs ++ ps) a (us' ++ᵛ vs) (subst (λ (x : List Raw). TakesEach x (a ∷ᵛ (us' ++ᵛ vs))) (append_assoc (written q) (written_each qs) ps) t) in
      let s = ends_of qs ps w us' vs m r.rest in
      record { this = TakesFront.element r.this s.this; rest = s.rest }

  front_of : (qs : TypedPatterns) (ps : List Raw) (v : Val) (us vs : Vals) → Elements (tree.count qs) true v us → TakesEach (written_each qs ++ ps) (us ++ᵛ vs) → (w : Val) × TakesFront qs v w × TakesEach ps (w ∷ᵛ vs)
  front_of []ᵗ ps v us vs Elements.rest t = (v, TakesFront.all_left, t)
  front_of (q ∷ᵗ qs) ps v us vs (Elements.element {v = a} {w = w} {us = us'} m) t =
      let r = tree_of q (written_each qs ++ ps) a (us' ++ᵛ vs) (subst (λ (x : List Raw). TakesEach x (a ∷ᵛ (us' ++ᵛ vs))) (append_assoc (written q) (written_each qs) ps) t) in
      let s = front_of qs ps w us' vs m r.rest in
      (s.0, TakesFront.element r.this s.1, s.2)

all-count : {qs : TypedPatterns} {us : Vals} → TakesAll qs us → lengthᵛ us ≡ tree.count qs
all-count TakesAll.none = refl
all-count (TakesAll.also t a) = ap suc (all-count a)

mutual
  unfolding written written_each

  of_tree : (p : TypedPattern) (ps : List Raw) (v : Val) (vs : Vals) → TakesTree p v → TakesEach ps vs → TakesEach (written p ++ ps) (v ∷ᵛ vs)
  of_tree tree.discard ps v vs h t = TakesEach.also Opens.discard t
  of_tree (tree.var n) ps v vs h t = TakesEach.also Opens.variable t
  of_tree (tree.assign n p) ps v vs (TakesTree.assign h) t = TakesEach.also Opens.assign (of_tree p ps v vs h t)
  of_tree (tree.int n) ps v vs (TakesTree.int m) t = TakesEach.also (Opens.integer_of n) t
  of_tree (tree.byte_array s) ps v vs (TakesTree.byte_array m) t = TakesEach.also (Opens.byte_string_of s) t
  of_tree (tree.list qs) ps v vs (TakesTree.list f) t = let r = of_ends qs ps v vs f t in TakesEach.also (Opens.list_of r.1) r.2
  of_tree (tree.list_to qs p) ps v vs (TakesTree.list_to w f h) t =
      let r = of_front qs (written p ++ ps) v w vs f (of_tree p ps w vs h t) in
      TakesEach.also (Opens.list_of r.1) (subst (λ (x : List Raw). TakesEach x (r.0 ++ᵛ vs)) (sym (append_assoc (written_each qs) (written p) ps)) r.2)
  of_tree (tree.ctor c qs false) ps v vs (TakesTree.ctor {vs = us} a) t = TakesEach.also (Opens.constructor (all-count a)) (of_all qs ps us vs a t)
  of_tree (tree.ctor c qs true) ps v vs (TakesTree.spread us others i a) t = TakesEach.also (Opens.with_spread us others i (all-count a)) (of_all qs ps us vs a t)
  of_tree (tree.pair p q) ps v vs (TakesTree.pair {v = a} {w = b} h k) t =
      TakesEach.also Opens.pair_of (subst (λ (x : List Raw). TakesEach x (a ∷ᵛ b ∷ᵛ vs)) (sym (append_assoc (written p) (written q) ps)) (of_tree p (written q ++ ps) a (b ∷ᵛ vs) h (of_tree q ps b vs k t)))
  of_tree (tree.tuple qs) ps v vs (TakesTree.tuple {vs = us} a) t = TakesEach.also (Opens.tuple_of (all-count a)) (of_all qs ps us vs a t)

  of_all : (qs : TypedPatterns) (ps : List Raw) (us vs : Vals) → TakesAll qs us → TakesEach ps vs → TakesEach (written_each qs ++ ps) (us ++ᵛ vs)
  of_all []ᵗ ps us vs TakesAll.none t = t
  of_all (q ∷ᵗ qs) ps us vs (TakesAll.also {v = u} {vs = us'} h a) t =
      subst (λ (x : List Raw). TakesEach x (u ∷ᵛ (us' ++ᵛ vs))) (sym (append_assoc (written q) (written_each qs) ps)) (of_tree q (written_each qs ++ ps) u (us' ++ᵛ vs) h (of_all qs ps us' vs a t))

  of_ends : (qs : TypedPatterns) (ps : List Raw) (v : Val) (vs : Vals) → TakesFront qs v (vcon 1 []ᵛ) → TakesEach ps vs → (us : Vals) × Elements (tree.count qs) false v us × TakesEach (written_each qs ++ ps) (us ++ᵛ vs)
  of_ends []ᵗ ps v vs TakesFront.all_left t = ([]ᵛ, Elements.ends, t)
  of_ends (q ∷ᵗ qs) ps v vs (TakesFront.element {v = a} {u = u} h f) t =
      let r = of_ends qs ps u vs f t in
      (a ∷ᵛ r.0, Elements.element r.1, subst (λ (x : List Raw). TakesEach x (a ∷ᵛ (r.0 ++ᵛ vs))) (sym (append_assoc (written q) (written_each qs) ps)) (of_tree q (written_each qs ++ ps) a (r.0 ++ᵛ vs) h r.2))

  of_front : (qs : TypedPatterns) (ps : List Raw) (v w : Val) (vs : Vals) → TakesFront qs v w → TakesEach ps (w ∷ᵛ vs) → (us : Vals) × Elements (tree.count qs) true v us × TakesEach (written_each qs ++ ps) (us ++ᵛ vs)
  of_front []ᵗ ps v w vs TakesFront.all_left t = (v ∷ᵛ []ᵛ, Elements.rest, t)
  of_front (q ∷ᵗ qs) ps v w vs (TakesFront.element {v = a} {u = u} h f) t =
      let r = of_front qs ps u w vs f t in
      (a ∷ᵛ r.0, Elements.element r.1, subst (λ (x : List Raw). TakesEach x (a ∷ᵛ (r.0 ++ᵛ vs))) (sym (append_assoc (written q) (written_each qs) ps)) (of_tree q (written_each qs ++ ps) a (r.0 ++ᵛ vs) h r.2))

-- a clause takes what its tree takes
takes-tree : (p : TypedPattern) (v : Val) → Takes (written p) v ↔ TakesTree p v
takes-tree p v = (
  λ t. (tree_of p [] v []ᵛ (subst (λ (x : List Raw). TakesEach x (v ∷ᵛ []ᵛ)) (sym (append-nil (written p))) t)).this,
  λ h. subst (λ (x : List Raw). TakesEach x (v ∷ᵛ []ᵛ)) (append-nil (written p)) (of_tree p [] v []ᵛ h TakesEach.none),
)

pub takes-fits : TakesFits
takes-fits = record { row = fits-written; suited = fits-suited; tree = takes-tree }
