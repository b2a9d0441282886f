-- The report's words: its bytes line by line, and what demand 3 says of them.
use Rattle.std.specs.Prelude.{List, [], ◌∷◌, ◌++◌, map, ◌≡◌, ◌↔◌, ℕ, suc, ◌<◌, length, get_or}
use Rattle.scope.specs.Lists.{Text, bytes}
use Rattle.scope.specs.Lines.{ended}
use Rattle.scope.specs.Types.{Table}
use Rattle.scope.specs.Patterns.{Raw}
use Rattle.scope.specs.Simplify.{Matrix}
use Rattle.scope.specs.Text.{decimal, source, paste, pretty}
use Rattle.scope.specs.Blocks.{Block}
use Rattle.scope.specs.Driver.{findings, gaps}
use Rattle.refusals.specs.Cut.{Cuts}
use Rattle.promises.specs.Clauses.{Reached}

-- Line 1 counts clauses and both verdicts
abbrev pub count_text : ℕ → ℕ → ℕ → Text
count_text all reached never = bytes "clauses " ++ decimal all ++ bytes " reached " ++ decimal reached ++ bytes " never " ++ decimal never

-- the line that lists clause k as reached
abbrev pub reached_text : ℕ → Text
reached_text k = bytes "clause " ++ decimal k ++ bytes " reached"

-- the line that lists it as never reached
abbrev pub never_text : ℕ → Text
never_text k = bytes "clause " ++ decimal k ++ bytes " never"

-- no value reaches clause i
pub record Unreached (clauses : List (List Raw)) (b : Block) (i : ℕ) : Type 0 where
  pub within : i < length clauses
  pub none : Reached clauses b i → ⊥

-- One line a clause, in order, from clause i on (numbered from 1): so many that some value reaches, so many that no value reaches
pub data Verdicts (clauses : List (List Raw)) (b : Block) : ℕ → ℕ → ℕ → List Text → Type 0 where
  done : Verdicts clauses b (length clauses) 0 0 []
  reached : {i r n : ℕ} {ls : List Text} → Reached clauses b i → Verdicts clauses b (suc i) r n ls
      → Verdicts clauses b i (suc r) n (reached_text (suc i) ∷ ls)
  never : {i r n : ℕ} {ls : List Text} → Unreached clauses b i → Verdicts clauses b (suc i) r n ls
      → Verdicts clauses b i r (suc n) (never_text (suc i) ∷ ls)

-- `gaps` counts missing rows
abbrev pub gaps_text : ℕ → Text
gaps_text n = bytes "gaps " ++ decimal n

-- each gives a line of the Rust's text and a line of paste text
abbrev pub pair_texts : Table → Matrix → List Text
pair_texts table [] = []
pair_texts table (r ∷ m) = (bytes "missing " ++ pretty source table r) ∷ (bytes "paste " ++ pretty paste table r) ∷ pair_texts table m

-- `calls` counts both kinds
abbrev pub calls_text : ℕ → ℕ → Text
calls_text m n = bytes "calls " ++ decimal m ++ bytes " " ++ decimal n

-- What the bytes of a report say of the clauses and of their block
pub record Words (clauses : List (List Raw)) (b : Block) (text : Text) : Type 0 where
  pub texts : List Text
  pub reached : ℕ
  pub never : ℕ
  pub verdict_texts : List Text
  -- the bytes are these lines, each ended by one line feed
  pub cuts : Cuts text (map ended texts)
  -- the lines about clauses: `never` stands there once, in order, for exactly the clauses that no value reaches
  pub each : Verdicts clauses b 0 reached never verdict_texts
  -- line 1, the lines about clauses, `gaps` with as many pairs of lines after it, and the calls last
  pub whole : texts ≡ count_text (length clauses) reached never ∷ (verdict_texts ++ gaps_text (length (gaps b))
      ∷ (pair_texts b.table (gaps b) ++ calls_text (findings b).reached.calls (findings b).missing.calls ∷ []))

-- What the words come to, for every text that has them
pub record WordsSay : Type 0 where
  -- line j, counted from 0, is `clause k + 1 never` exactly when j is k + 1 and no value reaches clause k
  pub never : (clauses : List (List Raw)) (b : Block) (text : Text) (w : Words clauses b text) (k j : ℕ)
      → (get_or w.texts j [] ≡ never_text (suc k)) ↔ ((j ≡ suc k) × Unreached clauses b k)
  -- and two texts with these words are the same bytes
  pub one_text : (clauses : List (List Raw)) (b : Block) (s t : Text) → Words clauses b s → Words clauses b t → s ≡ t
