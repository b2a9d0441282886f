-- The walks of `scope` on rows of numbers; nothing here asks for types.
use Rattle.std.specs.Prelude.{List, [], ◌∷◌, ◌++◌, map, Bool, true, false, cond, ◌||◌, ℕ, zero, suc, ◌+◌, ◌*◌, length, replicate}
use Rattle.scope.specs.Lists.{sum}
use Rattle.scope.specs.Walks.{Walk, plain, holding, turned, joined}
use Rattle.matrix.specs.Numbers.{Rows, Seen, ar_of, bare, count_of, each_row, full, head_of, mem, part, recover, rows_by, seen_of}

-- the constructors b, b + 1, .., k of them, up to the first yes
unfoldable pub any_from : (ℕ → Walk Bool) → ℕ → ℕ → Walk Bool
any_from g b zero = plain false
any_from g b (suc k) =
    let w = g b in
    let more = joined ◌||◌ w (any_from g (suc b) k) in
    cond w.result w more

-- One call of `is_useful`; `again` is the call that it makes
module _ (bytes cs ars : List ℕ) (again : ℕ → Rows → List ℕ → Walk Bool) where
  -- the call on the rows specialised by key, n patterns besides its arguments
  abbrev pub useful_by : ℕ → Rows → List ℕ → ℕ → Walk Bool
  useful_by n m q key = again (n + ar_of ars key) (rows_by bytes key (ar_of ars key) m) q

  -- the same for a wildcard at the head of the new row
  abbrev pub useful_alt : ℕ → Rows → List ℕ → ℕ → Walk Bool
  useful_alt n m q key = useful_by n m (replicate (ar_of ars key) 0 ++ q) key

  -- a head wildcard, by what is seen in the column
  abbrev pub useful_seen : Seen → ℕ → Rows → List ℕ → Walk Bool
  useful_seen bare n m q = useful_by n m q 0
  useful_seen (part b) n m q = useful_by n m q 0
  useful_seen (full b) n m q = any_from (useful_alt n m q) b (count_of cs b)

  -- by the head of the new row
  abbrev pub useful_head : ℕ → Rows → List ℕ → Walk Bool
  useful_head n m [] = useful_seen (seen_of cs (map head_of m)) n m []
  useful_head n m (zero ∷ q) = useful_seen (seen_of cs (map head_of m)) n m q
  useful_head n m (suc h ∷ q) = useful_by n m q (suc h)

  -- the two ends, then the head
  abbrev pub useful_body : ℕ → Rows → List ℕ → Walk Bool
  useful_body n [] q = plain true
  useful_body zero (r ∷ m) q = plain false
  useful_body (suc n) (r ∷ m) q = useful_head n (r ∷ m) q

  -- one call, with its cells
  unfoldable pub useful_step : ℕ → Rows → List ℕ → Walk Bool
  useful_step n m q = holding ((length m + 1) * n) (useful_body n m q)

-- of the constructors b, b + 1, .., k of them, those not in the column, each with wildcards, in front of the row r
unfoldable pub unseen_from : List ℕ → List ℕ → ℕ → ℕ → List ℕ → Rows
unseen_from ars hs b zero r = []
unseen_from ars hs b (suc k) r = cond (mem b hs) [] ((b ∷ replicate (ar_of ars b) 0 ++ r) ∷ []) ++ unseen_from ars hs (suc b) k r

-- the missing rows of the constructors b, b + 1, .., k of them
unfoldable pub gather_from : (ℕ → Walk Rows) → ℕ → ℕ → Walk Rows
gather_from g b zero = plain []
gather_from g b (suc k) = joined ◌++◌ (turned (recover b) (g b)) (gather_from g (suc b) k)

-- One call of `collect_missing_patterns`; `again` is the call that it makes
module _ (bytes cs ars : List ℕ) (again : ℕ → Rows → Walk Rows) where
  -- the call on the rows specialised by key, n patterns besides its arguments
  abbrev pub missing_by : ℕ → Rows → ℕ → Walk Rows
  missing_by n m key = again (n + ar_of ars key) (rows_by bytes key (ar_of ars key) m)

  -- by what is seen in the column
  abbrev pub missing_seen : Seen → ℕ → Rows → Walk Rows
  missing_seen bare n m = turned (recover 0) (missing_by n m 0)
  missing_seen (part b) n m = turned (each_row (unseen_from ars (map head_of m) b (count_of cs b))) (missing_by n m 0)
  missing_seen (full b) n m = gather_from (missing_by n m) b (count_of cs b)

  -- no rows, then n = 0, then the column
  abbrev pub missing_body : ℕ → Rows → Walk Rows
  missing_body n [] = plain (replicate n 0 ∷ [])
  missing_body zero (r ∷ m) = plain []
  missing_body (suc n) (r ∷ m) = missing_seen (seen_of cs (map head_of (r ∷ m))) n (r ∷ m)

  -- one call, with its cells
  unfoldable pub missing_step : ℕ → Rows → Walk Rows
  missing_step n m = holding (length m * n) (missing_body n m)

-- 1 for a node that is no wildcard
abbrev pub nonzero : ℕ → ℕ
nonzero zero = 0
nonzero (suc h) = 1

-- the nodes of a row that are no wildcards
abbrev pub nz : List ℕ → ℕ
nz r = sum (map nonzero r)

-- of rows
abbrev pub nzs : Rows → ℕ
nzs m = sum (map nz m)

-- What falls: 256 for each node that is no wildcard, and 1 for each pattern left; no arity is over 255
unfoldable pub size : ℕ → Rows → ℕ
size n m = 256 * nzs m + n

-- `is_useful` on numbers, as deep as the fuel goes
unfoldable pub useful_in : List ℕ → List ℕ → List ℕ → ℕ → ℕ → Rows → List ℕ → Walk Bool
useful_in bytes cs ars zero n m q = plain false
useful_in bytes cs ars (suc fuel) n m q = useful_step bytes cs ars (λ n' m' q'. useful_in bytes cs ars fuel n' m' q') n m q

-- `collect_missing_patterns` on numbers, as deep as the fuel goes
unfoldable pub missing_in : List ℕ → List ℕ → List ℕ → ℕ → ℕ → Rows → Walk Rows
missing_in bytes cs ars zero n m = plain []
missing_in bytes cs ars (suc fuel) n m = missing_step bytes cs ars (λ n' m'. missing_in bytes cs ars fuel n' m') n m

-- is the row q useful to the rows m, all of n patterns
unfoldable pub useful_of : List ℕ → List ℕ → List ℕ → ℕ → Rows → List ℕ → Walk Bool
useful_of bytes cs ars n m q = useful_in bytes cs ars (suc (size n (q ∷ m))) n m q

-- the rows that are missing from m, all of n patterns
unfoldable pub missing_of : List ℕ → List ℕ → List ℕ → ℕ → Rows → Walk Rows
missing_of bytes cs ars n m = missing_in bytes cs ars (suc (size n m)) n m
