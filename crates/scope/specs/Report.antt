-- The report, whole: the words that say the driver's findings.
use Rattle.std.specs.Prelude.{List, [], ◌∷◌, ◌++◌, map, Bool, true, false, not, ℕ, suc, length}
use Rattle.scope.specs.Lists.{Text, bytes, bit, sum, flatten}
use Rattle.scope.specs.Types.{Table}
use Rattle.scope.specs.Simplify.{Row}
use Rattle.scope.specs.Driver.{Findings}
use Rattle.scope.specs.Text.{decimal, source, paste, pretty}

-- how many verdicts are yes
abbrev pub yeses : List Bool → ℕ
yeses vs = sum (map bit vs)

-- how many are no
abbrev pub noes : List Bool → ℕ
noes vs = sum (map (λ v. bit (not v)) vs)

-- a line of the report
abbrev pub as_line : Text → Text
as_line t = t ++ 10 ∷ []

-- Line 1 counts clauses and both verdicts
abbrev pub count_line : List Bool → Text
count_line vs = as_line (bytes "clauses " ++ decimal (length vs) ++ bytes " reached " ++ decimal (yeses vs) ++ bytes " never " ++ decimal (noes vs))

-- a verdict in a word
abbrev pub verdict_word : Bool → Text
verdict_word true = bytes " reached"
verdict_word false = bytes " never"

-- One line a clause, from number k on
abbrev pub clause_lines : ℕ → List Bool → Text
clause_lines k [] = []
clause_lines k (v ∷ vs) = as_line (bytes "clause " ++ decimal k ++ verdict_word v) ++ clause_lines (suc k) vs

-- each missing row gives a line of the Rust's text and a line of paste text
abbrev pub gap_lines : Table → Row → Text
gap_lines table r = as_line (bytes "missing " ++ pretty source table r) ++ as_line (bytes "paste " ++ pretty paste table r)

-- the report, whole; `gaps` counts missing rows, `calls` counts both kinds
unfoldable pub report : Table → Findings → Text
report table f =
    count_line f.reached.result ++
    clause_lines 1 f.reached.result ++
    as_line (bytes "gaps " ++ decimal (length f.missing.result)) ++
    flatten (map (gap_lines table) f.missing.result) ++
    as_line (bytes "calls " ++ decimal f.reached.calls ++ bytes " " ++ decimal f.missing.calls)
