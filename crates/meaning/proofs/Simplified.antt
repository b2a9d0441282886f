-- `simplify` keeps the literals of a clause: a test that asks only of literals passes for the row where it passes for the pattern as written, by the steps of `simplified`.
use mathlib.Core.Path.{◌≡◌, refl}
use mathlib.Core.List.{List, [], ◌∷◌, ◌++◌, map}
use mathlib.Core.Bool.{Bool, true, false, ◌&&◌}
use mathlib.Core.Option
use mathlib.Core.Option.{Option, none, some}
use Prim.Native.Nat.{ℕ, zero, suc, ◌-◌}
use lib.ListN.{length, get_or, take, replicate}
use lib.Dec.{ltb, eqb}
use Rattle.scope.specs.Lists.{Text, all}
use Rattle.scope.specs.Types.{Ref, Table}
use Rattle.scope.specs.Constructors.{ctors, fields_at}
use Rattle.scope.specs.Patterns.{Raw, discard, variable, assign, pair_of, integer_of, byte_string_of, list_of, constructor, tuple_of}
use Rattle.scope.specs.Simplify.{int, byte_array, Node, wild, lit, con, Row, Item, put, pat, is_of, suiting, element_items, enough, arguments, whole, opened, putting, all_put, ◌>>=◌, simplified, simplify}
use Rattle.meaning.specs.Values.{admits}
use Rattle.scope.proofs.Tests.{clash, both, and-true}
use Rattle.meaning.proofs.Literals.{good_raw}

-- what is there passes the test
abbrev Given : {A : Type 0} → (A → Bool) → Option (List A) → Type 0
Given p none = Unit {0}
Given p (some l) = all p l ≡ true

-- a test of nodes and one of patterns as written, which ask the same of literals and nothing of others
pub record Asks (node : Node → Bool) (raw : Raw → Bool) : Type 0 where
  pub wilds : node wild ≡ true
  pub cons : (t c : ℕ) → node (con t c) ≡ true
  pub ints : (n : Text) → raw (integer_of n) ≡ true → node (lit (int n)) ≡ true
  pub strings : (s : Text) → raw (byte_string_of s) ≡ true → node (lit (byte_array s)) ≡ true

module _ (node : Node → Bool) (raw : Raw → Bool) (asks : Asks node raw) where
  -- a node to put passes
  abbrev item : Item → Bool
  item (put n) = node n
  item (pat t) = true

  put-good : (n : Node) (o : Option Row) → node n ≡ true → Given node o → Given node (Option.map (n ∷◌) o)
  put-good n none h k = tt
  put-good n (some r) h k = and-true h k

  all_put-good : (is : List Item) → all item is ≡ true → Given node (all_put is)
  all_put-good [] h = refl
  all_put-good (put n ∷ is) h = let p = both (node n) (all item is) h in put-good n (all_put is) p.0 (all_put-good is p.1)
  all_put-good (pat t ∷ is) h = tt

  putting-good : (go : Ref → List Item → Option Row) → ((t : Ref) (rest : List Item) → all item rest ≡ true → Given node (go t rest)) → (is : List Item) → all item is ≡ true → Given node (putting is go)
  putting-good go k [] h = tt
  putting-good go k (put n ∷ is) h = let p = both (node n) (all item is) h in put-good n (putting is go) p.0 (putting-good go k is p.1)
  putting-good go k (pat t ∷ is) h = k t is h

  append_good : (a b : List Item) → all item a ≡ true → all item b ≡ true → all item (a ++ b) ≡ true
  append_good [] b h k = k
  append_good (i ∷ a) b h k = let p = both (item i) (all item a) h in and-true p.0 (append_good a b p.1 k)

  pats-good : (ts : List Ref) → all item (map pat ts) ≡ true
  pats-good [] = refl
  pats-good (t ∷ ts) = pats-good ts

  wilds-good : (n : ℕ) → all item (replicate n (put wild)) ≡ true
  wilds-good zero = refl
  wilds-good (suc n) = and-true asks.wilds (wilds-good n)

  cells-good : (t e : Ref) (k : ℕ) (tail : Bool) → all item (element_items t e k tail) ≡ true
  cells-good t e zero true = refl
  cells-good t e zero false = and-true (asks.cons t 1) refl
  cells-good t e (suc k) tail = and-true (asks.cons t 0) (cells-good t e k tail)

  whole-good : (t : Ref) (fs : List Ref) → all item (whole t fs) ≡ true
  whole-good t fs = and-true (asks.cons t 0) (pats-good fs)

  suiting-good : (b : Bool) (is : List Item) → all item is ≡ true → Given item (suiting b is)
  suiting-good true is h = h
  suiting-good false is h = tt

  opened-good : (table : Table) (t : Ref) (p : Raw) → raw p ≡ true → Given item (opened table t p)
  opened-good table t discard h = and-true asks.wilds refl
  opened-good table t (variable n) h = and-true asks.wilds refl
  opened-good table t (assign n) h = refl
  opened-good table t (integer_of n) h = suiting-good (is_of table t 0) (put (lit (int n)) ∷ []) (and-true (asks.ints n h) refl)
  opened-good table t (byte_string_of s) h = suiting-good (is_of table t 1) (put (lit (byte_array s)) ∷ []) (and-true (asks.strings s h) refl)
  opened-good table t (list_of k tail) h = let e = get_or (fields_at table t 0) 0 0 in suiting-good (is_of table t 3) (element_items t e k tail) (cells-good t e k tail)
  opened-good table t pair_of h = suiting-good (is_of table t 5) (whole t (fields_at table t 0)) (whole-good t (fields_at table t 0))
  opened-good table t (tuple_of k) h = suiting-good (is_of table t 4 && eqb k (length (fields_at table t 0))) (whole t (fields_at table t 0)) (whole-good t (fields_at table t 0))
  opened-good table t (constructor c k spread) h =
      let fs = fields_at table t c in
      suiting-good (is_of table t 6 && ltb c (length (ctors table t)) && enough k spread fs) (put (con t c) ∷ arguments k fs)
      (and-true (asks.cons t c) (append_good (map pat (take k fs)) (replicate (length fs - k) (put wild)) (pats-good (take k fs)) (wilds-good (length fs - k))))

  simplified-good : (table : Table) (ps : List Raw) (is : List Item) → all raw ps ≡ true → all item is ≡ true → Given node (simplified table is ps)
  unfolding simplified
  simplified-good table [] is g h = all_put-good is h
  simplified-good table (p ∷ ps) is g h =
      let w = both (raw p) (all raw ps) g in
      putting-good (λ t rest. opened table t p >>= λ new. simplified table (new ++ rest) ps) (λ t rest k. next t rest (opened table t p) k (opened-good table t p w.0) (λ js x. simplified-good table ps js w.1 x)) is h
    where
      next : (t : Ref) (rest : List Item) (o : Option (List Item)) → all item rest ≡ true → Given item o → ((js : List Item) → all item js ≡ true → Given node (simplified table js ps))
          → Given node (o >>= λ new. simplified table (new ++ rest) ps)
      next t rest none k u more = tt
      next t rest (some new) k u more = more (new ++ rest) (append_good new rest u k)

  pub simplify-keeps : (table : Table) (t : Ref) (ps : List Raw) (r : Row) → all raw ps ≡ true → simplify table t ps ≡ some r → all node r ≡ true
  unfolding simplify
  simplify-keeps table t ps r g e = go (simplified table (pat t ∷ []) ps) (simplified-good table ps (pat t ∷ []) g refl) e
    where
      go : (o : Option Row) → Given node o → o ≡ some r → all node r ≡ true
      go none u i = clash (cc)
      go (some q) u i = let j : q ≡ r = cc in rw (← j) u

-- a simplified clause has literals as a file has them
pub simplify-good : (table : Table) (t : Ref) (ps : List Raw) (r : Row) → all good_raw ps ≡ true → simplify table t ps ≡ some r → all admits r ≡ true
simplify-good = simplify-keeps admits good_raw (record { wilds = refl; cons = λ t c. refl; ints = λ n h. h; strings = λ s h. h })
