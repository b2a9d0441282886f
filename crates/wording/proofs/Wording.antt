-- A word with its number after other text is one text, from how texts are joined.
use mathlib.Core.Path.{ap, sym, ◌∙◌}
use mathlib.Core.List.{[], ◌∷◌, ◌++◌, append_assoc}
use Rattle.scope.specs.Lists.{Text}
use Rattle.scope.specs.Report.{as_line}
use Rattle.writing.specs.declared.Writer.{Writer}
use Rattle.writing.specs.Writing.{Writes}
use Rattle.writing.proofs.Writing.{writes_more, writes_as}

module _ {a b c : Writer} (t u v : Text) (h : Writes a b t) where
  pub then-numbered : Writes b c (u ++ v) → Writes a c (t ++ u ++ v)
  then-numbered k = writes_as (sym (append_assoc t u v)) (writes_more h k)

  pub then-ended : Writes b c (as_line (u ++ v)) → Writes a c (as_line (t ++ u ++ v))
  then-ended k = writes_as (sym (append_assoc t (u ++ v) (10 ∷ [])) ∙ ap as_line (sym (append_assoc t u v))) (writes_more h k)
