-- Request 7, "What costs nothing to ask", over rows: how many calls a walk takes at most, by what its rows hold.
use Rattle.std.specs.Prelude.{[], ◌∷◌, ◌≡◌, ℕ, suc, ◌+◌, ◌≤◌, ◌<◌, length, get_or}
use Rattle.scope.specs.Types.{Ref, Table, type_at, data_kind, kind}
use Rattle.scope.specs.Constructors.{ctors, arity}
use Rattle.scope.specs.Simplify.{Literal, wild, lit, con, Row, Matrix}
use Rattle.scope.specs.Walks.{is_useful, collect_missing_patterns}

-- a row holds so many wildcards, and so many constructors and literals
pub data Counts : ℕ → ℕ → Row → Type 0 where
  nothing : Counts 0 0 []
  a_wildcard : {w n : ℕ} {r : Row} → Counts w n r → Counts (suc w) n (wild ∷ r)
  a_literal : {w n : ℕ} {l : Literal} {r : Row} → Counts w n r → Counts w (suc n) (lit l ∷ r)
  a_constructor : {w n : ℕ} {t : Ref} {c : ℕ} {r : Row} → Counts w n r → Counts w (suc n) (con t c ∷ r)

-- type t is a data type with k constructors, all of arity 0
pub record Flat (table : Table) (t : Ref) (k : ℕ) : Type 0 where
  pub is_data : kind (type_at table t) ≡ data_kind
  pub many : length (ctors table t) ≡ k
  pub bare : (c : ℕ) → c < k → arity table t c ≡ 0

-- a row begins as one of a data type t does: with a wildcard, or with a constructor of t
pub data Begins (t : Ref) : Row → Type 0 where
  with_wildcard : {r : Row} → Begins t (wild ∷ r)
  with_constructor : {c : ℕ} {r : Row} → Begins t (con t c ∷ r)

-- every row does
abbrev pub AllBegin : Ref → Matrix → Type 0
AllBegin t m = (i : ℕ) → i < length m → Begins t (get_or m i [])

-- The bounds
pub record FewCalls : Type 0 where
  -- "no wildcard and N constructors and literals takes at most N + 1 calls", whatever the table and whatever rows m stand before
  pub solid : (table : Table) (n N : ℕ) (m : Matrix) (q : Row) → Counts 0 N q → (is_useful table n m q).calls ≤ N + 1
  -- "a data type with k constructors, all of arity 0, takes at most k + 1 calls for each row"
  pub flat_row : (table : Table) (t : Ref) (k : ℕ) → Flat table t k → 0 < k → (m : Matrix) (q : Row) → AllBegin t m → Begins t q
      → (is_useful table 1 m q).calls ≤ k + 1
  -- "and for the missing walk"
  pub flat_missing : (table : Table) (t : Ref) (k : ℕ) → Flat table t k → 0 < k → (m : Matrix) → AllBegin t m
      → (collect_missing_patterns table 1 m).calls ≤ k + 1
