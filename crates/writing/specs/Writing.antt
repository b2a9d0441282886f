-- What every writer promises of the buffer.
use Rattle.std.specs.Prelude.{◌≡◌, List, ℕ, ◌+◌, length}
use Rattle.std.proofs.lemmas.List.Edits.{sets}
use Rattle.scope.specs.Lists.{Text}
use Rattle.writing.specs.declared.Writer.{Writer}

-- the text stands in the buffer from its place on, cut at the buffer's end, and the rest is as it was; after is where the text ends
pub record Wrote (entry exit : List ℕ) (at after : ℕ) (text : Text) : Type 0 where
  pub ends : after ≡ at + length text
  pub holds : exit ≡ sets entry at text

-- a writer writes a text: it keeps its buffer, where the text stands at the writer's place, and goes to where the text ends
pub record Writes (before after : Writer) (text : Text) : Type 0 where
  pub same : after.out.ghost_name ≡ before.out.ghost_name
  pub wrote : Wrote before.out.now after.out.now before.at after.at text
