-- What an outcome is in the code.
use Rattle.std.specs.Prelude.{◌≡◌, List, ◌++◌, ℕ, length, drop}
use Rattle.scope.specs.declared.Answer.{Answer}
use Rattle.scope.specs.Answer.{Outcome}

-- its answer, and its text at the front of the report buffer, the rest unchanged
pub record Given (o : Outcome) (r : Answer) (entry exit : List ℕ) : Type 0 where
  pub answer_is : r ≡ o.answer
  pub buffer_is : exit ≡ o.text ++ drop (length o.text) entry
