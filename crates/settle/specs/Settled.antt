-- The open patterns settled: the nodes up to the next pattern to read, and the items that are left.
use Rattle.std.specs.Prelude.{Option, Some, None, ◌≡◌, List, [], ◌∷◌, ◌++◌, map, ℕ, suc, ◌+◌, ◌*◌, ◌≤◌, ◌<◌, length}
use Rattle.std.proofs.lemmas.List.Edits.{sets}
use Rattle.scope.specs.Simplify.{Item, put, pat}
use Rattle.layout.specs.Nodes.{row_of, Literals, places_in}
use Rattle.nodes.specs.Opens.{opens, pending, due}
use Rattle.nodes.specs.declared.Open.{Open}
use Rattle.settle.specs.declared.Walk.{Walk}

-- the same slices, as long as they were
pub record Kept (old new : Walk) : Type 0 where
  pub stack_ref : new.stack.ghost_name ≡ old.stack.ghost_name
  pub stack_len : length new.stack.now ≡ length old.stack.now
  pub nodes_ref : new.nodes.ghost_name ≡ old.nodes.ghost_name

-- where a step has come to: the type of the next pattern to read, the depth of the stack and the place after the last node, or only that place where no pattern is left
pub data Next : Type 0 where
  Read : (t depth place : ℕ) → Next
  Done : (place : ℕ) → Next

-- what a step answers, by the walk after it
abbrev pub came_to : Option ℕ → ℕ → ℕ → Next
came_to (Some t) depth place = Read t depth place
came_to None depth place = Done place

-- the items that are left after a step: the next pattern's type and the open patterns
abbrev pub rest_of : List ℕ → List ℕ → List ℕ → Next → List Item
rest_of bytes fields stack (Read t depth place) = pat t ∷ pending bytes fields (opens stack depth)
rest_of bytes fields stack (Done place) = []

-- of n patterns one is next and the others are due, or none is left
abbrev pub Due : ℕ → List ℕ → Next → Type 0
Due n stack (Read t depth place) = n ≡ suc (due (opens stack depth))
Due n stack (Done place) = n ≡ 0

-- the place after the last node, a type that two of can be stored, a stack no higher than `most`
abbrev pub Ends : ℕ → ℕ → Next → Type 0
Ends end most (Read t depth place) = (place ≡ end) × (t < 16384) × (depth ≤ most)
Ends end most (Done place) = place ≡ end

-- the nodes of the open patterns up to the next pattern to read, put from `at` on
pub record Settled (bytes fields : List ℕ) (fs : List Open) (height at : ℕ) (nodes stack' nodes' : List ℕ) (r : Next) : Type 0 where
  pub new : List ℕ
  pub nodes_are : nodes' ≡ sets nodes at new
  pub whole : Literals bytes new
  pub plain : places_in new ≡ []
  pub few : length new ≤ 65536 * height + 1
  pub ends : Ends (at + length new) height r
  pub due_is : Due (due fs) stack' r
  pub items : pending bytes fields fs ≡ map put (row_of bytes new) ++ rest_of bytes fields stack' r
