-- The phases of a file, what may stand in each and where it may end, how much of each frame there may be, and the numbers before any clause.
use Rattle.std.specs.Prelude.{◌≡◌, Bool, true, false, ◌&&◌, List, [], ◌∷◌, ℕ, zero, suc, get_or, ltb, eqb}
use Rattle.std.proofs.Math.Option.{Option, none, some}
use Rattle.scope.specs.Lists.{any}
use Rattle.scope.specs.Blocks.{Phase, types, constructors, clauses, closed, standing}
use Rattle.order.specs.declared.State.{State}

-- the phase of a number: 0 types, 1 constructors, 2 clauses, 3 closed; a number past those is no phase
abbrev pub phase_of : ℕ → Option Phase
phase_of zero = some types
phase_of (suc zero) = some constructors
phase_of (suc (suc zero)) = some clauses
phase_of (suc (suc (suc zero))) = some closed
phase_of (suc (suc (suc (suc n)))) = none

-- the kinds that may stand in a phase; in none, none
abbrev pub standing_at : Option Phase → List ℕ
standing_at none = []
standing_at (some p) = standing p

-- 5: may a frame of kind k stand in this phase
unfoldable pub stands_in : ℕ → ℕ → Bool
stands_in phase k = any (eqb k) (standing_at (phase_of phase))

-- the end is there
abbrev pub is_closed : Option Phase → Bool
is_closed none = false
is_closed (some types) = false
is_closed (some constructors) = false
is_closed (some clauses) = false
is_closed (some closed) = true

-- 5: may a file end in this phase
unfoldable pub closes_in : ℕ → Bool
closes_in phase = is_closed (phase_of phase)

-- 6: is there room for one more frame of kind k, where the last type has `last` constructors
unfoldable pub room_in : State → ℕ → ℕ → Bool
room_in s last k = get_or (true ∷ ltb s.types 64 ∷ (ltb s.ctors 256 && ltb last 32) ∷ true ∷ ltb s.clauses 64 ∷ []) k true

-- before any clause: the phase and the sizes of the table; the subject
pub record Numbers (r : State) (phase types ctors fields subject : ℕ) : Type 0 where
  pub phase_is : r.phase ≡ phase
  pub types_are : r.types ≡ types
  pub ctors_are : r.ctors ≡ ctors
  pub fields_are : r.fields ≡ fields
  pub subject_is : r.subject ≡ subject
  pub clauses_are : r.clauses ≡ 0
  pub used_is : r.used ≡ 0
  pub count_is : r.count ≡ 0
