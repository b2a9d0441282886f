-- Clauses that write no discard, no variable and no spread have rows without wildcards, by the steps of `simplified`.
use mathlib.Core.Path.{◌≡◌, refl}
use mathlib.Core.List.{List, [], ◌∷◌, ◌++◌, map, append-nil}
use mathlib.Core.Bool.{Bool, true, false, ◌&&◌}
use mathlib.Core.Option
use mathlib.Core.Option.{Option, none, some}
use Prim.Native.Nat.{ℕ, zero, suc, ◌+◌, ◌-◌}
use native.Mathlib.Nat.{add-zero, suc-add, zero-add}
use native.Mathlib.Omega.{arith}
use lib.ListN.{length, get_or, take}
use lib.Dec.{ltb, eqb}
use Rattle.scope.specs.Types.{Ref, Table, integer_kind, byte_string_kind, list_kind, tuple_kind, pair_kind, data_kind}
use Rattle.scope.specs.Constructors.{cons_number, tuple_number, ctors, fields_at}
use Rattle.scope.specs.Patterns.{Raw}
use Rattle.scope.specs.Simplify.{Literal, int, byte_array, Node, lit, con, Row, Item, put, pat, is_of, suiting, element_items, enough, arguments, whole, opened, putting, all_put, ◌>>=◌, simplified, simplify}
use Rattle.refusals.specs.Suits.{Enough}
use Rattle.scope.specs.Calls.{Counts, nothing, a_literal, a_constructor}
use Rattle.written.specs.Solid.{Brings, assign, integer_of, byte_string_of, list_of, list_to, constructor, pair_of, tuple_of, Solid, SolidRows}
use Rattle.scope.proofs.Tests.{clash, both}
use Rattle.refusals.proofs.Suiting.{enough-is}

-- items that put no wildcard, and so many constructors and literals
data Puts : ℕ → List Item → Type 0 where
  done : Puts 0 []
  literal : {n : ℕ} {l : Literal} {is : List Item} → Puts n is → Puts (suc n) (put (lit l) ∷ is)
  node : {n : ℕ} {t : Ref} {c : ℕ} {is : List Item} → Puts n is → Puts (suc n) (put (con t c) ∷ is)
  pattern : {n : ℕ} {t : Ref} {is : List Item} → Puts n is → Puts n (pat t ∷ is)

puts_append : {a b : ℕ} {is js : List Item} → Puts a is → Puts b js → Puts (a + b) (is ++ js)
puts_append done q = rw zero-add q
puts_append (literal p) q = rw suc-add (literal (puts_append p q))
puts_append (node p) q = rw suc-add (node (puts_append p q))
puts_append (pattern p) q = pattern (puts_append p q)

patterns-put : (ts : List Ref) → Puts 0 (map pat ts)
patterns-put [] = done
patterns-put (t ∷ ts) = pattern (patterns-put ts)

cells-put : (t e : Ref) (k : ℕ) → Puts k (element_items t e k true)
cells-put t e zero = pattern done
cells-put t e (suc k) = node (pattern (cells-put t e k))

closed-put : (t e : Ref) (k : ℕ) → Puts (k + 1) (element_items t e k false)
closed-put t e zero = node done
closed-put t e (suc k) = rw suc-add (node (pattern (closed-put t e k)))

-- what is there is such
abbrev Given : {A : Type 0} → (A → Type 0) → Option A → Type 0
Given P none = Unit {0}
Given P (some a) = P a

suiting-puts : {n : ℕ} (b : Bool) (is : List Item) → (b ≡ true → Puts n is) → Given (Puts n) (suiting b is)
suiting-puts true is h = h refl
suiting-puts false is h = tt

-- without spread there are as many arguments as fields
all-given : {k n : ℕ} → Enough k n false → k ≡ n
all-given (Enough.all e) = e

arguments-put : (k : ℕ) (fields : List Ref) → k ≡ length fields → Puts 0 (arguments k fields)
arguments-put k fields e =
    let none_left : length fields - k ≡ 0 = omega arith in
    rw (none_left, append-nil (map pat (take k fields))) (patterns-put (take k fields))

opened-puts : (table : Table) (t : Ref) {n : ℕ} {p : Raw} → Brings n p → Given (Puts n) (opened table t p)
opened-puts table t assign = pattern done
opened-puts table t (integer_of {n = n}) = suiting-puts (is_of table t integer_kind) (put (lit (int n)) ∷ []) (λ _. literal done)
opened-puts table t (byte_string_of {s = s}) = suiting-puts (is_of table t byte_string_kind) (put (lit (byte_array s)) ∷ []) (λ _. literal done)
opened-puts table t (list_of {k = k}) = let e = get_or (fields_at table t cons_number) 0 0 in suiting-puts (is_of table t list_kind) (element_items t e k false) (λ _. closed-put t e k)
opened-puts table t (list_to {k = k}) = let e = get_or (fields_at table t cons_number) 0 0 in suiting-puts (is_of table t list_kind) (element_items t e k true) (λ _. cells-put t e k)
opened-puts table t (constructor {c = c} {k = k}) =
    let fs = fields_at table t c in
    suiting-puts (is_of table t data_kind && ltb c (length (ctors table t)) && enough k false fs) (put (con t c) ∷ arguments k fs)
    (λ h. node (arguments-put k fs (all-given (enough-is k false fs (both (is_of table t data_kind && ltb c (length (ctors table t))) (enough k false fs) h).1))))
opened-puts table t pair_of = let fs = fields_at table t tuple_number in suiting-puts (is_of table t pair_kind) (whole t fs) (λ _. node (patterns-put fs))
opened-puts table t (tuple_of {k = k}) = let fs = fields_at table t tuple_number in suiting-puts (is_of table t tuple_kind && eqb k (length fs)) (whole t fs) (λ _. node (patterns-put fs))

-- a node in front of a row
in_front : (n : ℕ) (x : Node) → ((r : Row) → Counts 0 n r → Counts 0 (suc n) (x ∷ r)) → (o : Option Row) → Given (Counts 0 n) o → Given (Counts 0 (suc n)) (Option.map (x ∷◌) o)
in_front n x f none h = tt
in_front n x f (some r) h = f r h

all_put-counts : {n : ℕ} {is : List Item} → Puts n is → Given (Counts 0 n) (all_put is)
all_put-counts done = nothing
all_put-counts (literal {n = n} {l = l} {is = is} p) = in_front n (lit l) (λ r h. a_literal h) (all_put is) (all_put-counts p)
all_put-counts (node {n = n} {t = t} {c = c} {is = is} p) = in_front n (con t c) (λ r h. a_constructor h) (all_put is) (all_put-counts p)
all_put-counts (pattern p) = tt

putting-counts : (go : Ref → List Item → Option Row) (m : ℕ) → ((n : ℕ) (t : Ref) (rest : List Item) → Puts n rest → Given (Counts 0 (n + m)) (go t rest))
    → {n : ℕ} {is : List Item} → Puts n is → Given (Counts 0 (n + m)) (putting is go)
putting-counts go m k done = tt
putting-counts go m k (literal {n = n} {l = l} {is = is} p) = rw suc-add (in_front (n + m) (lit l) (λ r h. a_literal h) (putting is go) (putting-counts go m k p))
putting-counts go m k (node {n = n} {t = t} {c = c} {is = is} p) = rw suc-add (in_front (n + m) (con t c) (λ r h. a_constructor h) (putting is go) (putting-counts go m k p))
putting-counts go m k (pattern {n = n} {t = t} {is = is} p) = k n t is p

simplified-counts : (table : Table) {N : ℕ} {ps : List Raw} → Solid N ps → (n : ℕ) (is : List Item) → Puts n is → Given (Counts 0 (n + N)) (simplified table is ps)
unfolding simplified
simplified-counts table Solid.none n is h = rw add-zero (all_put-counts h)
simplified-counts table (Solid.also {a = a} {N = N} {p = p} {ps = ps} b s) n is h =
    putting-counts (λ t rest. opened table t p >>= λ new. simplified table (new ++ rest) ps) (a + N) (λ i t rest k. next i rest k (opened table t p) (opened-puts table t b) (λ j js g. simplified-counts table s j js g)) h
  where
    next : (i : ℕ) (rest : List Item) → Puts i rest → (o : Option (List Item)) → Given (Puts a) o
        → ((n : ℕ) (js : List Item) → Puts n js → Given (Counts 0 (n + N)) (simplified table js ps)) → Given (Counts 0 (i + (a + N))) (o >>= λ new. simplified table (new ++ rest) ps)
    next i rest k none u more = tt
    next i rest k (some new) u more =
        let same : a + i + N ≡ i + (a + N) = omega arith in
        rw (← same) (more (a + i) (new ++ rest) (puts_append u k))

pub solid-rows : SolidRows
unfolding simplify
solid-rows table t ps r N e s = go (simplified table (pat t ∷ []) ps) (simplified-counts table s 0 (pat t ∷ []) (pattern done)) e
  where
    go : (o : Option Row) → Given (Counts 0 (0 + N)) o → o ≡ some r → Counts 0 N r
    go none u i = clash (cc)
    go (some q) u i = let j : q ≡ r = cc in rw (← j) (rw (zero-add N) at u)
