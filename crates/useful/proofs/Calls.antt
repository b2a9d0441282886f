-- The walks' calls of one another, over plain lists: what each call asks, that the measure falls, and what each answer gives.
use mathlib.Core.Path.{◌≡◌, refl, sym, ap, ap₂, subst, subst₂, ◌∙◌}
use mathlib.Core.Logic.{⊎_elim}
use mathlib.Core.Bool.{Bool, true, false}
use mathlib.Core.List.{List, ◌∷◌, ◌++◌, map}
use Prim.Native.Nat.{ℕ, suc, ◌+◌, ◌*◌, ◌-◌, ◌≤◌, ◌<◌}
use native.Mathlib.Nat.{add-zero, sub-zero, mul-le-mul, mul-one, one-mul}
use native.Mathlib.Omega.{arith}
use lib.ListN.{length, get_or, take, drop, replicate, length-drop}
use Rattle.scope.specs.Walks.{Walk}
use Rattle.matrix.specs.Numbers.{Rows, ar_of, rows_by, head_of, mem, Seen, seen_of, matrix}
use Rattle.walks.specs.Walks.{any_from, useful_by, useful_alt, useful_seen, useful_of, size}
use Rattle.matrix.specs.Places.{head_at, steps, Places, Patterned, Written, Listed}
use Rattle.useful.specs.Ready.{limited, new_row, Splits, Ready, Work, Walked}
use Rattle.scope.specs.Blocks.{ok}
use Rattle.outcomes.specs.Past.{said_verdict}
use Rattle.std.specs.Prelude.{Result, Ok, Err, IsErr}
use Rattle.outcomes.specs.declared.TooMuch.{TooMuch}
use Rattle.outcomes.specs.declared.Verdict.{Verdict}
use Rattle.ctors.specs.declared.Ctors.{Ctors}
use Rattle.ctors.specs.declared.Ctors.TheVariants.{Complete, Open}
use Rattle.ctors.specs.Sets.{ctors_of}
use Rattle.ctors.proofs.Found.{AllSeen, complete-is, open_is, complete-seen}
use Rattle.matrix.proofs.Arities.{arity_0}
use Rattle.matrix.proofs.Orders.{same_or}
use Rattle.matrix.proofs.Specialised.{heads, few-places}
use Rattle.matrix.proofs.Seen.{seen-few}
use Rattle.matrix.proofs.Behind.{Behind, behind}
use Rattle.walks.proofs.Measure.{size_default, size_alt, size-own, size-wild}
use Rattle.useful.proofs.Limits.{done-is}
use Rattle.useful.proofs.Turns.{row-suc, row_real, row_add, patterned-some, patterned-next, any_none_lem, any_over, any_yes, any_no}
use Rattle.matrix.proofs.Fronts.{part}

-- a product that is at least each of its factors
pub at_least : (a n : ℕ) → 0 < n → (a + 1 ≤ (a + 1) * n) × (n ≤ (a + 1) * n)
at_least a n p =
    let x : (a + 1) * 1 ≤ (a + 1) * n = mul-le-mul (omega arith) (omega arith) in
    let y : 1 * n ≤ (a + 1) * n = mul-le-mul (omega arith) (omega arith) in
    (omega (arith, mul-one (a + 1)), omega (arith, one-mul n))

-- the measure of a walk: what falls, and how far a call is in its cycle
pub height : ℕ → Rows → List ℕ → ℕ → ℕ
height n m q k = 1024 * size n (q ∷ m) + k

module _ (bytes nodes left counts ars : List ℕ) where
  -- into `wildcard` and `into` from `is_useful`
  ready_work : (row : List ℕ) (w n : ℕ) (s : List ℕ) (rows room : ℕ) → Ready nodes left counts ars row w n s rows room → 0 < n → (rows + 1) * n ≤ room
      → (row' : List ℕ) (w' k : ℕ) → w' ≤ k → Patterned ars row' (k - w') → Work nodes left counts ars row' w' k n s rows (room - (rows + 1) * n)
  ready_work row w n s rows room r pos fit row' w' k le p =
      let g = at_least rows n pos in
      record { sizes = r.sizes; places = r.places; pats = p; inside = le; low = r.low; space = omega (arith, r.space); cap = omega (arith, r.cap); wide = omega (arith, r.cap); some = pos }

  -- the same work with another new row
  work_row : (row : List ℕ) (w k n : ℕ) (s : List ℕ) (rows room : ℕ) → Work nodes left counts ars row w k n s rows room
      → (row' : List ℕ) (w' k' : ℕ) → w' ≤ k' → Patterned ars row' (k' - w') → Work nodes left counts ars row' w' k' n s rows room
  work_row row w k n s rows room r row' w' k' le p =
      record { sizes = r.sizes; places = r.places; pats = p; inside = le; low = r.low; space = r.space; cap = r.cap; wide = r.wide; some = r.some }

  -- the same work on a scratch with the same matrix
  pub work_kept : (row : List ℕ) (w k n : ℕ) (s : List ℕ) (rows room : ℕ) → Work nodes left counts ars row w k n s rows room
      → (e : List ℕ) → take rows e ≡ take rows s → length e ≡ length s → Work nodes left counts ars row w k n e rows room
  work_kept row w k n s rows room r e q l =
      record { sizes = r.sizes; places = subst (Places nodes left counts ars n) (sym q) r.places; pats = r.pats; inside = r.inside; low = r.low; space = omega (arith, r.space); cap = r.cap; wide = r.wide; some = r.some }

  -- `into`: the specialised matrix stands after the rows
  module _ (row : List ℕ) (w n key : ℕ) (s : List ℕ) (rows room : ℕ) (r : Work nodes left counts ars row w (n - 1 + ar_of ars key) n s rows room) (k : ℕ) (e : List ℕ) (wr : Written s rows (steps bytes nodes left n key (take rows s)) k e) (a : ℕ) (ae : a ≡ ar_of ars key) (low : a ≤ 255) where
    stands : Behind bytes nodes left counts ars n key s rows k e a
    stands = behind bytes nodes left counts ars r.sizes.low n key r.some s rows r.places (omega (arith, r.space, r.low)) k e wr a ae

    pub into-ready : Ready nodes left counts ars row w (n - 1 + a) (take (length e - rows) (drop rows e)) k room
    into-ready =
        record {
          sizes = r.sizes;
          places = stands.places;
          pats = subst (λ (x : ℕ). Patterned ars row (n - 1 + x - w)) (sym ae) r.pats;
          inside = omega (arith, r.inside);
          low = omega (arith, stands.few, r.low);
          space = omega (arith, ap length (part e rows), length-drop rows e, stands.same, stands.few, r.space);
          cap = r.cap;
          wide = omega (arith, r.wide);
        }

    pub into-falls : (t : ℕ) → height (n - 1 + ar_of ars key) (rows_by bytes key (ar_of ars key) (matrix nodes left n (take rows s))) (new_row w row) 700 ≡ t
        → height (n - 1 + a) (matrix nodes left (n - 1 + a) (take k (take (length e - rows) (drop rows e)))) (new_row w row) 600 < t
    unfolding height
    into-falls t q =
        let z : size (n - 1 + a) (new_row w row ∷ matrix nodes left (n - 1 + a) (take k (take (length e - rows) (drop rows e)))) ≡ size (n - 1 + ar_of ars key) (new_row w row ∷ rows_by bytes key (ar_of ars key) (matrix nodes left n (take rows s)))
        = ap₂ (λ (x : ℕ) (y : Rows). size (n - 1 + x) (new_row w row ∷ y)) ae stands.is in
        omega arith

    pub into-walked : (calls : ℕ) (e₂ : List ℕ) (v : Result Verdict TooMuch)
        → Walked (take (length e - rows) (drop rows e)) k e₂ v calls room (useful_of bytes counts ars (n - 1 + a) (matrix nodes left (n - 1 + a) (take k (take (length e - rows) (drop rows e)))) (new_row w row))
        → Walked s rows (take rows e ++ (e₂ ++ drop (length e - rows) (drop rows e))) v calls room (useful_by bytes counts ars (useful_of bytes counts ars) (n - 1) (matrix nodes left n (take rows s)) (new_row w row) key)
    into-walked calls e₂ v h = record { kept = stands.kept e₂; is = h.is ∙ ap₂ (λ (x : ℕ) (y : Rows). limited calls room (useful_of bytes counts ars (n - 1 + x) y (new_row w row))) ae stands.is }

  -- `try_each`: the constructors at rows that are those of s
  module _ (row : List ℕ) (w n key more : ℕ) (s : List ℕ) (rows room : ℕ) where
    -- the walk into one constructor
    abbrev pub each : ℕ → Walk Bool
    each = useful_alt bytes counts ars (useful_of bytes counts ars) (n - 1) (matrix nodes left n (take rows s)) (new_row w row)

    -- where the walks into the constructors stand before that of key + i
    pub record Tried (calls₀ i calls : ℕ) (e : List ℕ) : Type 0 where
      pub few : calls ≤ 65536
      pub kept : take rows e ≡ take rows s
      pub is : limited calls room (any_from each (key + i) (more - i)) ≡ limited calls₀ room (any_from each key more)

    pub tried-none : (calls : ℕ) → calls ≤ 65536 → Tried calls 0 calls s
    tried-none calls le = record { few = le; kept = refl; is = ap₂ (λ (x y : ℕ). limited calls room (any_from each x y)) (add-zero key) (sub-zero more) }

    -- one more constructor, which is in the column
    module _ (r : Work nodes left counts ars row w (n - 1) n s rows room) (calls₀ i calls : ℕ) (e : List ℕ) (g : Tried calls₀ i calls e) (lt : i < more) (a : ℕ) (ae : a ≡ ar_of ars (key + i)) where
      pub each_work : length e ≡ length s → Work nodes left counts ars row (w + a) (n - 1 + ar_of ars (key + i)) n e rows room
      each_work l =
          let same : n - 1 - w ≡ n - 1 + ar_of ars (key + i) - (w + a) = omega arith in
          work_row row w (n - 1) n e rows room (work_kept row w (n - 1) n s rows room r e g.kept l) row (w + a) (n - 1 + ar_of ars (key + i)) (omega (arith, r.inside)) (subst (Patterned ars row) same r.pats)

      widened : new_row (w + a) row ≡ replicate (ar_of ars (key + i)) 0 ++ new_row w row
      widened = row_add w a row ∙ ap (λ (x : ℕ). replicate x 0 ++ new_row w row) ae

      pub each-falls : (low : ar_of ars (key + i) ≤ 255) → Listed (map (head_at nodes left n) (take rows s)) key more → 0 < key → (t j : ℕ)
          → height n (matrix nodes left n (take rows s)) (new_row w row) j ≡ t
          → height (n - 1 + ar_of ars (key + i)) (rows_by bytes (key + i) (ar_of ars (key + i)) (matrix nodes left n (take rows e))) (new_row (w + a) row) 700 < t
      unfolding height
      each-falls low sn z t j q =
          let m = matrix nodes left n (take rows s) in
          let less : suc (n - 1) ≡ n = omega (arith, r.some) in
          let seen : mem (key + i) (map head_of m) ≡ true = subst (λ (y : List ℕ). mem (key + i) y ≡ true) (sym (heads nodes left counts ars n r.places)) (sn.each i lt) in
          let child : size (n - 1 + ar_of ars (key + i)) (new_row (w + a) row ∷ rows_by bytes (key + i) (ar_of ars (key + i)) (matrix nodes left n (take rows e))) < size n (new_row w row ∷ m)
          = subst₂ (λ (x : Rows) (k : ℕ). size (n - 1 + ar_of ars (key + i)) x < size k (new_row w row ∷ m)) (ap₂ (λ (v : List ℕ) (y : List ℕ). v ∷ rows_by bytes (key + i) (ar_of ars (key + i)) (matrix nodes left n y)) (sym widened) (sym g.kept)) less (size_alt bytes ars (n - 1) m (new_row w row) (key + i) (omega arith) low seen) in
          omega (arith, child)

      -- the answer of the walk into it
      module _ (v : Result Verdict TooMuch) (e₂ : List ℕ)
          (h : Walked e rows e₂ v calls room (useful_by bytes counts ars (useful_of bytes counts ars) (n - 1) (matrix nodes left n (take rows e)) (new_row (w + a) row) (key + i))) where
        first : said_verdict v ≡ limited calls room (each (key + i))
        first = h.is ∙ ap₂ (λ (x y : List ℕ). limited calls room (useful_by bytes counts ars (useful_of bytes counts ars) (n - 1) (matrix nodes left n x) y (key + i))) g.kept widened

        kept₂ : take rows e₂ ≡ take rows s
        kept₂ = h.kept ∙ g.kept

        pub each_over : (x : TooMuch) → v ≡ Err x → (v₂ : Result Verdict TooMuch) → IsErr v₂ → Walked s rows e₂ v₂ calls₀ room (any_from each key more)
        each_over x q (Ok y) z = cc
        each_over x q (Err y) z = record { kept = kept₂; is = any_over each (key + i) calls room (more - i) (omega arith) (sym (ap said_verdict q) ∙ first) ∙ g.is }

        pub each_yes : (x : Verdict) → v ≡ Ok x → x.yes ≡ true → Walked s rows e₂ (Ok x) calls₀ room (any_from each key more)
        each_yes x q z =
            let o : ok (true, x.calls) ≡ limited calls room (each (key + i)) = ap (λ (b : Bool). ok (b, x.calls)) (sym z) ∙ sym (ap said_verdict q) ∙ first in
            record { kept = kept₂; is = ap (λ (b : Bool). ok (b, x.calls)) z ∙ any_yes each (key + i) calls room (more - i) x.calls (omega arith) o ∙ g.is }

        pub each_no : (x : Verdict) → v ≡ Ok x → x.yes ≡ false → Tried calls₀ (i + 1) x.calls e₂
        each_no x q z =
            let o : ok (false, x.calls) ≡ limited calls room (each (key + i)) = ap (λ (b : Bool). ok (b, x.calls)) (sym z) ∙ sym (ap said_verdict q) ∙ first in
            let up : key + (i + 1) ≡ key + i + 1 = omega arith in
            let down : more - (i + 1) ≡ more - i - 1 = omega arith in
            record {
              few = (done-is calls room (each (key + i)) false x.calls o).few;
              kept = kept₂;
              is = ap₂ (λ (x' y' : ℕ). limited x.calls room (any_from each x' y')) up down ∙ any_no each (key + i) calls room (more - i) x.calls (omega arith) o ∙ g.is;
            }

    pub each_none : (calls₀ i calls : ℕ) (e : List ℕ) → Tried calls₀ i calls e → more ≤ i → Walked s rows e (Ok (record { yes = false; calls = calls })) calls₀ room (any_from each key more)
    each_none calls₀ i calls e g le = record { kept = g.kept; is = any_none_lem each (key + i) calls room (more - i) (omega arith) g.few ∙ g.is }

  -- `wildcard`
  module _ (row : List ℕ) (w n : ℕ) (s : List ℕ) (rows room : ℕ) (r : Work nodes left counts ars row w (n - 1) n s rows room) where
    pub wild_work : Work nodes left counts ars row w (n - 1 + ar_of ars 0) n s rows room
    wild_work =
        let same : n - 1 - w ≡ n - 1 + ar_of ars 0 - w = omega (arith, arity_0 ars) in
        work_row row w (n - 1) n s rows room r row w (n - 1 + ar_of ars 0) (omega (arith, r.inside)) (subst (Patterned ars row) same r.pats)

    pub wild-into-falls : (t : ℕ) → height n (matrix nodes left n (take rows s)) (new_row w row) 500 ≡ t
        → height (n - 1 + ar_of ars 0) (rows_by bytes 0 (ar_of ars 0) (matrix nodes left n (take rows s))) (new_row w row) 700 < t
    unfolding height
    wild-into-falls t q =
        let m = matrix nodes left n (take rows s) in
        let less : suc (n - 1) ≡ n = omega (arith, r.some) in
        omega (arith, size_default bytes ars (n - 1) m (new_row w row), ap (λ (j : ℕ). size j (new_row w row ∷ m)) less)

    pub wild-each-falls : (t k : ℕ) → k < 500 → height n (matrix nodes left n (take rows s)) (new_row w row) 500 ≡ t → height n (matrix nodes left n (take rows s)) (new_row w row) k < t
    unfolding height
    wild-each-falls t k l q = omega arith

    hd : map head_of (matrix nodes left n (take rows s)) ≡ map (head_at nodes left n) (take rows s)
    hd = heads nodes left counts ars n r.places

    -- all constructors that are tried, where all are seen
    pub wild-seen : (x : Ctors) → x ≡ ctors_of counts (map (head_at nodes left n) (take rows s)) (seen_of counts (map (head_at nodes left n) (take rows s))) → (b k : ℕ) → x ≡ Complete b k → AllSeen counts (map (head_at nodes left n) (take rows s)) b k × (k ≤ 32)
    wild-seen x xe b k q =
        let hs = map (head_at nodes left n) (take rows s) in
        let f = complete-is counts hs x b k q (seen_of counts hs) xe in
        (complete-seen counts hs x b k q xe, omega (arith, f.1, seen-few counts hs (few-places nodes left counts ars n (take rows s) r.places r.some) b f.0))

    module _ (calls : ℕ) (x : Ctors) (xe : x ≡ ctors_of counts (map (head_at nodes left n) (take rows s)) (seen_of counts (map (head_at nodes left n) (take rows s)))) (e : List ℕ) (v : Result Verdict TooMuch) where
      found : x ≡ ctors_of counts (map head_of (matrix nodes left n (take rows s))) (seen_of counts (map head_of (matrix nodes left n (take rows s))))
      found = xe ∙ ap (λ (hs : List ℕ). ctors_of counts hs (seen_of counts hs)) (sym hd)

      pub wild-into : (b g : ℕ) → x ≡ Open b g
          → Walked s rows e v calls room (useful_by bytes counts ars (useful_of bytes counts ars) (n - 1) (matrix nodes left n (take rows s)) (new_row w row) 0)
          → Walked s rows e v calls room (useful_seen bytes counts ars (useful_of bytes counts ars) (seen_of counts (map head_of (matrix nodes left n (take rows s)))) (n - 1) (matrix nodes left n (take rows s)) (new_row w row))
      wild-into b g q h = open_is counts (map head_of (matrix nodes left n (take rows s))) x b g q
          (λ y. Walked s rows e v calls room (useful_seen bytes counts ars (useful_of bytes counts ars) y (n - 1) (matrix nodes left n (take rows s)) (new_row w row)))
          h (λ c. h) (seen_of counts (map head_of (matrix nodes left n (take rows s)))) found

      pub wild-each : (b k : ℕ) → x ≡ Complete b k
          → Walked s rows e v calls room (any_from (useful_alt bytes counts ars (useful_of bytes counts ars) (n - 1) (matrix nodes left n (take rows s)) (new_row w row)) b k)
          → Walked s rows e v calls room (useful_seen bytes counts ars (useful_of bytes counts ars) (seen_of counts (map head_of (matrix nodes left n (take rows s)))) (n - 1) (matrix nodes left n (take rows s)) (new_row w row))
      wild-each b k q h =
          let f = complete-is counts (map head_of (matrix nodes left n (take rows s))) x b k q (seen_of counts (map head_of (matrix nodes left n (take rows s)))) found in
          subst (λ (y : Seen). Walked s rows e v calls room (useful_seen bytes counts ars (useful_of bytes counts ars) y (n - 1) (matrix nodes left n (take rows s)) (new_row w row))) (sym f.0)
          (subst (λ (j : ℕ). Walked s rows e v calls room (any_from (useful_alt bytes counts ars (useful_of bytes counts ars) (n - 1) (matrix nodes left n (take rows s)) (new_row w row)) b j)) f.1 h)

  -- `is_useful`
  module _ (row : List ℕ) (w n : ℕ) (s : List ℕ) (rows room : ℕ) (r : Ready nodes left counts ars row w n s rows room) (pos : 0 < n) where
    -- a row of one pattern or more has a head
    pub split_some : 0 < w + length row
    split_some = ⊎_elim (λ e. omega (arith, patterned-some ars r.pats (omega arith))) (λ z. omega arith) (same_or w 0)

    module _ (h w' : ℕ) (row' : List ℕ) (sp : Splits w row h w' row') where
      pub split-row : new_row w row ≡ h ∷ new_row w' row'
      split-row = ⊎_elim
          (λ i. row-suc w row i.0 ∙ ap₂ (λ (x y : ℕ). x ∷ new_row y row) (sym i.1) (sym i.2) ∙ ap (λ (x : List ℕ). h ∷ new_row w' x) (sym i.3))
          (λ i. row_real w row i.0 (patterned-some ars r.pats (omega (arith, i.0))) ∙ ap₂ (λ (x : ℕ) (y : List ℕ). x ∷ y) (sym i.1) (sym i.3) ∙ ap (λ (j : ℕ). h ∷ new_row j row') (sym i.2))
          sp

      split-pats : Patterned ars row' (n - 1 + ar_of ars h - w')
      split-pats = ⊎_elim
          (λ i.
          let same : n - w ≡ n - 1 + ar_of ars h - w' = omega (arith, r.inside, i.0, i.2, ap (ar_of ars) i.1, arity_0 ars) in
          subst₂ (Patterned ars) (sym i.3) same r.pats)
          (λ i.
          let same : n - w - 1 + ar_of ars (get_or row 0 0) ≡ n - 1 + ar_of ars h - w' = omega (arith, i.0, i.2, ap (ar_of ars) i.1) in
          subst₂ (Patterned ars) (sym i.3) same (patterned-next ars r.pats (omega (arith, i.0))))
          sp

      split-inside : w' ≤ n - 1
      split-inside = ⊎_elim (λ i. omega (arith, r.inside, i.2)) (λ i. omega (arith, i.2)) sp

      pub split-work : (rows + 1) * n ≤ room → Work nodes left counts ars row' w' (n - 1 + ar_of ars h) n s rows (room - (rows + 1) * n)
      split-work fit = ready_work row w n s rows room r pos fit row' w' (n - 1 + ar_of ars h) (omega (arith, split-inside)) split-pats

      -- below a wildcard
      pub split-wild : h ≡ 0 → (rows + 1) * n ≤ room → Work nodes left counts ars row' w' (n - 1) n s rows (room - (rows + 1) * n)
      split-wild z fit =
          let same : n - 1 + ar_of ars h ≡ n - 1 = omega (arith, ap (ar_of ars) z, arity_0 ars) in
          subst (λ (k : ℕ). Work nodes left counts ars row' w' k n s rows (room - (rows + 1) * n)) same (split-work fit)

      pub wild-falls : h ≡ 0 → (t : ℕ) → height n (matrix nodes left n (take rows s)) (new_row w row) 600 ≡ t → height n (matrix nodes left n (take rows s)) (new_row w' row') 500 < t
      unfolding height
      wild-falls z t q =
          let v = new_row w' row' in
          let m = matrix nodes left n (take rows s) in
          let e : new_row w row ≡ 0 ∷ v = split-row ∙ ap (◌∷ v) z in
          omega (arith, size-wild n m v, ap (λ (x : List ℕ). size n (x ∷ m)) e)

      -- below a constructor or a literal
      pub own-falls : (h ≡ 0 → ⊥) → ar_of ars h ≤ 255 → (t : ℕ) → height n (matrix nodes left n (take rows s)) (new_row w row) 600 ≡ t
          → height (n - 1 + ar_of ars h) (rows_by bytes h (ar_of ars h) (matrix nodes left n (take rows s))) (new_row w' row') 700 < t
      unfolding height
      own-falls nz low t q =
          let m = matrix nodes left n (take rows s) in
          let v = new_row w' row' in
          let less : suc (n - 1) ≡ n = omega arith in
          omega (arith, size-own bytes ars (n - 1) m v h nz low, ap (λ (x : List ℕ). size n (x ∷ m)) split-row, ap (λ (j : ℕ). size j ((h ∷ v) ∷ m)) less)
