-- The verdicts that bytes say, and the line that counts them.
use Rattle.std.specs.Prelude.{List, map, ◌++◌, Bool, ℕ, ◌-◌, eqb}
use Rattle.scope.specs.Lists.{Text, bytes}
use Rattle.scope.specs.Text.{decimal}
use Rattle.scope.specs.Report.{as_line}

-- 1 is yes
abbrev pub said : List ℕ → List Bool
said verdicts = map (λ v. eqb v 1) verdicts

-- the counts in a line: so many clauses, of which so many are reached
abbrev pub counts_text : ℕ → ℕ → Text
counts_text n k = as_line (bytes "clauses " ++ decimal n ++ bytes " reached " ++ decimal k ++ bytes " never " ++ decimal (n - k))
