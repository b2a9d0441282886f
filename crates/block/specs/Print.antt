-- What `print` promises.
use Rattle.std.specs.Prelude.{◌≡◌, List, ℕ, length}
use Rattle.std.proofs.lemmas.List.Edits.{sets}
use Rattle.scope.specs.Answer.{printed, scratch_after}

-- what is printed for a file, the report or `refused N line K`, was put at the front of the buffer, cut at its end; its length r
pub record Prints (file scratch out : List ℕ) (r : ℕ) (out' scratch' : List ℕ) : Type 0 where
  pub long : r ≡ length (printed file (length scratch) (length out))
  pub holds : out' ≡ sets out 0 (printed file (length scratch) (length out))
  pub scratch_is : scratch' ≡ scratch_after scratch
