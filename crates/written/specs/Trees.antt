-- The same on pattern trees: which values a pattern takes, by its form alone.
use Rattle.std.specs.Prelude.{◌≡◌, true, false, ℕ}
use Rattle.scope.specs.Lists.{Text}
use Rattle.meaning.specs.Values.{denotes, Val, vint, vbytes, vcon, Vals, []ᵛ, ◌∷ᵛ◌, ◌++ᵛ◌}
use Rattle.agreement.specs.Trees.{TypedPattern, TypedPatterns, []ᵗ, ◌∷ᵗ◌}
use Rattle.agreement.specs.Trees as tree

mutual
  -- a pattern takes a value
  pub data TakesTree : TypedPattern → Val → Type 0 where
    discard : {v : Val} → TakesTree tree.discard v
    var : {n : Text} {v : Val} → TakesTree (tree.var n) v
    assign : {n : Text} {p : TypedPattern} {v : Val} → TakesTree p v → TakesTree (tree.assign n p) v
    int : (n : Text) → TakesTree (tree.int n) (vint (denotes n))
    byte_array : (s : Text) → TakesTree (tree.byte_array s) (vbytes s)
    -- a list without a tail: its elements in order, then "[]"; with a tail: its elements in order, then what the tail takes
    list : {ps : TypedPatterns} {v : Val} → TakesFront ps v (vcon 1 []ᵛ) → TakesTree (tree.list ps) v
    list_to : {ps : TypedPatterns} {p : TypedPattern} {v : Val} (w : Val) → TakesFront ps v w → TakesTree p w → TakesTree (tree.list_to ps p) v
    -- a constructor's arguments in order; with spread the other fields are anything
    ctor : {c : ℕ} {ps : TypedPatterns} {vs : Vals} → TakesAll ps vs → TakesTree (tree.ctor c ps false) (vcon c vs)
    spread : {c : ℕ} {ps : TypedPatterns} {fields : Vals} (us others : Vals) → fields ≡ us ++ᵛ others → TakesAll ps us
        → TakesTree (tree.ctor c ps true) (vcon c fields)
    pair : {p q : TypedPattern} {v w : Val} → TakesTree p v → TakesTree q w → TakesTree (tree.pair p q) (vcon 0 (v ∷ᵛ w ∷ᵛ []ᵛ))
    tuple : {ps : TypedPatterns} {vs : Vals} → TakesAll ps vs → TakesTree (tree.tuple ps) (vcon 0 vs)

  -- patterns take values, one each
  pub data TakesAll : TypedPatterns → Vals → Type 0 where
    none : TakesAll []ᵗ []ᵛ
    also : {p : TypedPattern} {ps : TypedPatterns} {v : Val} {vs : Vals} → TakesTree p v → TakesAll ps vs → TakesAll (p ∷ᵗ ps) (v ∷ᵛ vs)

  -- patterns take the first elements of the list v, one each, and the list w is left
  pub data TakesFront : TypedPatterns → Val → Val → Type 0 where
    all_left : {w : Val} → TakesFront []ᵗ w w
    element : {p : TypedPattern} {ps : TypedPatterns} {v u w : Val} → TakesTree p v → TakesFront ps u w
        → TakesFront (p ∷ᵗ ps) (vcon 0 (v ∷ᵛ u ∷ᵛ []ᵛ)) w
