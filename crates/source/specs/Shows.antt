-- What it means that flat rows and walks show the source's own trees and walks.
use Rattle.std.specs.Prelude.{List, [], ◌∷◌, ◌++◌, ◌≡◌, ℕ, ◌<◌, length}
use Rattle.scope.specs.Lists.{Text}
use Rattle.scope.specs.Types.{Ref, Table, type_at, kind}
use Rattle.scope.specs.Constructors.{ctors, ctor_at, fields_at, arity}
use Rattle.scope.specs.Simplify.{Literal, wild, lit, con, Row, Matrix}
use Rattle.laws.specs.Typed.{literal_kind}
use Rattle.scope.specs.Walks.{Walk}
use Rattle.source.specs.Source.{ValueConstructor, wildcard, literal, constructor, Patterns, []ᵖ, ◌∷ᵖ◌, ◌++ᵖ◌, len, constructors_for}
use Rattle.source.specs.Source as rust

-- constructor c of type t as the source has it: its name, the constructors of its type, as many arguments as its arity
pub record Made (table : Table) (t : Ref) (c : ℕ) (name : Text) (alts : List ValueConstructor) (args : Patterns) : Type 0 where
  pub known : c < length (ctors table t)
  pub named : name ≡ (ctor_at table t c).name
  pub listed : alts ≡ constructors_for table t
  pub filled : len args ≡ arity table t c

-- a flat row of patterns of these types shows the same patterns as trees
pub data Shows (table : Table) : List Ref → Row → Patterns → Type 0 where
  done : Shows table [] [] []ᵖ
  wilds : {t : Ref} {ts : List Ref} {r : Row} {ps : Patterns} → Shows table ts r ps → Shows table (t ∷ ts) (wild ∷ r) (wildcard ∷ᵖ ps)
  lits : {t : Ref} {ts : List Ref} {l : Literal} {r : Row} {ps : Patterns} → kind (type_at table t) ≡ literal_kind l → Shows table ts r ps
      → Shows table (t ∷ ts) (lit l ∷ r) (literal l ∷ᵖ ps)
  cons : {t : Ref} {ts : List Ref} {c : ℕ} {name : Text} {alts : List ValueConstructor} {args : Patterns} {r : Row} {ps : Patterns}
      → Made table t c name alts args → Shows table (fields_at table t c ++ ts) r (args ++ᵖ ps)
      → Shows table (t ∷ ts) (con t c ∷ r) (constructor name alts args ∷ᵖ ps)

-- rows show rows, in order
pub data ShowsRows (table : Table) (ts : List Ref) : Matrix → rust.Matrix → Type 0 where
  no_rows : ShowsRows table ts [] []
  also : {r : Row} {p : Patterns} {m : Matrix} {ps : rust.Matrix} → Shows table ts r p → ShowsRows table ts m ps → ShowsRows table ts (r ∷ m) (p ∷ ps)

-- a walk shows a walk: its rows do, after as many calls, with as many cells held
pub record ShowsWalk (table : Table) (ts : List Ref) (w : Walk Matrix) (v : Walk rust.Matrix) : Type 0 where
  pub rows : ShowsRows table ts w.result v.result
  pub calls : w.calls ≡ v.calls
  pub peak : w.peak ≡ v.peak
