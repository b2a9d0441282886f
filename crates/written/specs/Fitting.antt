-- A written clause takes just the values that its simplified row fits, and so does its tree: what is to be proved.
use Rattle.std.specs.Prelude.{List, [], ◌∷◌, ◌≡◌, ◌↔◌, true}
use Rattle.std.proofs.Math.Option.{some}
use Rattle.scope.specs.Types.{Ref, Table}
use Rattle.scope.specs.Patterns.{Raw}
use Rattle.scope.specs.Simplify.{Row, simplify}
use Rattle.meaning.specs.Values.{Val, []ᵛ, ◌∷ᵛ◌, HasTypes, fits}
use Rattle.agreement.specs.Trees.{TypedPattern}
use Rattle.agreement.specs.Agreement.{written}
use Rattle.refusals.specs.Suits.{Suits}
use Rattle.written.specs.Takes.{Takes}
use Rattle.written.specs.Trees.{TakesTree}

-- of every value of the type
pub record TakesFits : Type 0 where
  -- a clause that `simplify` makes a row of
  pub row : (table : Table) (t : Ref) (ps : List Raw) (r : Row) (v : Val) → simplify table t ps ≡ some r → HasTypes table (t ∷ []) (v ∷ᵛ []ᵛ)
      → (fits r (v ∷ᵛ []ᵛ) ≡ true) ↔ Takes ps v
  -- and it makes one of every clause that suits its type
  pub suited : (table : Table) (t : Ref) (ps : List Raw) → Suits table (t ∷ []) ps
      → (r : Row) × (simplify table t ps ≡ some r) × ((v : Val) → HasTypes table (t ∷ []) (v ∷ᵛ []ᵛ) → (fits r (v ∷ᵛ []ᵛ) ≡ true) ↔ Takes ps v)
  -- the tree that the source's own `simplify` is given
  pub tree : (p : TypedPattern) (v : Val) → Takes (written p) v ↔ TakesTree p v
