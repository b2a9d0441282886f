-- Laws of the definitions: nodes that are put stand in front of the row, and what a pattern becomes refers to types of the table.
use mathlib.Core.Path.{◌≡◌, refl, sym, ap, subst, ◌∙◌}
use mathlib.Core.Bool.{Bool, true, false, ◌&&◌}
use mathlib.Core.List.{List, [], ◌∷◌, ◌++◌, map, append_assoc, map-append}
use mathlib.Core.Option
use mathlib.Core.Option.{Option, none, some}
use Prim.Native.Nat.{ℕ, zero, suc, ◌-◌, ◌<◌}
use native.Mathlib.Omega.{arith}
use lib.ListN.{length, get_or, take, replicate}
use lib.Dec.{ltb, eqb}
use borrow.Author.Tests.{ltb-true, ltb-false, eqb-true}
use Rattle.scope.proofs.Tests.{clash, both}
use Rattle.scope.specs.Lists.{all, flatten}
use Rattle.scope.specs.Types.{Ref, Ctor, Ty, integer, byte_string, opaque, list, tuple, pair, dat, Table, type_at, kind, fields_of}
use Rattle.scope.specs.Finite.{refs, is_ref, refs_good}
use Rattle.scope.specs.Constructors.{built, ctors_at, ctors, fields_at, arity}
use Rattle.scope.specs.Patterns.{Raw, discard, variable, assign, pair_of, integer_of, byte_string_of, list_of, constructor, tuple_of}
use Rattle.scope.specs.Simplify.{int, byte_array, Node, wild, lit, con, Row, Item, put, pat, suiting, element_items, enough, arguments, whole, opened, simplified}
use Rattle.layout.specs.Nodes.{node_of, row_of}
use Rattle.suits.proofs.Facts.{list_facts}

-- nodes in front of what is still to come
abbrev pub onto : Row → Option Row → Option Row
onto r o = Option.map (λ (s : Row). r ++ s) o

pub onto-none : (o : Option Row) → o ≡ onto [] o
onto-none none = refl
onto-none (some r) = refl

pub onto-onto : (bytes xs ys : List ℕ) (o : Option Row) → onto (row_of bytes xs) (onto (row_of bytes ys) o) ≡ onto (row_of bytes (xs ++ ys)) o
onto-onto bytes xs ys none = refl
onto-onto bytes xs ys (some r) = ap some (sym (append_assoc (row_of bytes xs) (row_of bytes ys) r) ∙ ap (λ (s : Row). s ++ r) (sym (map-append (node_of bytes) xs ys)))

-- one node is put
put_one : (table : Table) (n : Node) (is : List Item) (ps : List Raw) → simplified table (put n ∷ is) ps ≡ Option.map (n ∷◌) (simplified table is ps)
unfolding simplified
put_one table n is [] = refl
put_one table n is (p ∷ ps) = refl

cons-onto : (n : Node) (r : Row) (o : Option Row) → Option.map (n ∷◌) (onto r o) ≡ onto (n ∷ r) o
cons-onto n r none = refl
cons-onto n r (some s) = refl

-- a run of nodes is put
pub put_all : (table : Table) (bytes xs : List ℕ) (is : List Item) (ps : List Raw) → simplified table (map put (row_of bytes xs) ++ is) ps ≡ onto (row_of bytes xs) (simplified table is ps)
put_all table bytes [] is ps = onto-none (simplified table is ps)
put_all table bytes (x ∷ xs) is ps = put_one table (node_of bytes x) (map put (row_of bytes xs) ++ is) ps ∙ ap (Option.map (node_of bytes x ∷◌)) (put_all table bytes xs is ps) ∙ cons-onto (node_of bytes x) (row_of bytes xs) (simplified table is ps)

-- one pattern is read and suits its type
pub read_one : (table : Table) (t : Ref) (is new : List Item) (p : Raw) (ps : List Raw) → opened table t p ≡ some new → simplified table (pat t ∷ is) (p ∷ ps) ≡ simplified table (new ++ is) ps
unfolding simplified
read_one table t is new p ps e = rw e

-- or it does not
pub read_none : (table : Table) (t : Ref) (is : List Item) (p : Raw) (ps : List Raw) → opened table t p ≡ none → simplified table (pat t ∷ is) (p ∷ ps) ≡ none
unfolding simplified
read_none table t is p ps e = rw e

-- nothing is left
pub read-end : (table : Table) → simplified table [] [] ≡ some []
unfolding simplified
read-end table = refl

-- the types of the patterns among the items are of the table
pub data Refs (n : ℕ) : List Item → Type 0 where
  nothing : Refs n []
  puts : {x : Node} {is : List Item} → Refs n is → Refs n (put x ∷ is)
  pats : {t : Ref} {is : List Item} → t < n → Refs n is → Refs n (pat t ∷ is)

pub refs_append : {n : ℕ} {is : List Item} (js : List Item) → Refs n is → Refs n js → Refs n (is ++ js)
refs_append js nothing q = q
refs_append js (puts p) q = puts (refs_append js p q)
refs_append js (pats l p) q = pats l (refs_append js p q)

-- after a run of nodes
pub refs-after : {n : ℕ} (bytes xs : List ℕ) (is : List Item) → Refs n (map put (row_of bytes xs) ++ is) → Refs n is
refs-after bytes [] is r = r
refs-after bytes (x ∷ xs) is (puts r) = refs-after bytes xs is r

-- the next pattern's type
pub refs-next : {n : ℕ} {t : Ref} {is : List Item} → Refs n (pat t ∷ is) → (t < n) × Refs n is
refs-next (pats l r) = (l, r)

refs-wilds : (n k : ℕ) → Refs n (replicate k (put wild))
refs-wilds n zero = nothing
refs-wilds n (suc k) = puts (refs-wilds n k)

module _ (table : Table) where
  abbrev Good : List Ref → Type 0
  Good l = all (is_ref table) l ≡ true

  refs-pats : (l : List Ref) → Good l → Refs (length table) (map pat l)
  refs-pats [] g = nothing
  refs-pats (t ∷ l) g = let b = both (is_ref table t) (all (is_ref table) l) g in pats (ltb-true t (length table) b.0) (refs-pats l b.1)

  good-take : (k : ℕ) (l : List Ref) → Good l → Good (take k l)
  good-take zero l g = refl
  good-take (suc k) [] g = refl
  good-take (suc k) (t ∷ l) g = let b = both (is_ref table t) (all (is_ref table) l) g in rw b.0 (good-take k l b.1)

  good-both : (l m : List Ref) → Good (l ++ m) → Good l × Good m
  good-both [] m g = (refl, g)
  good-both (t ∷ l) m g = let b = both (is_ref table t) (all (is_ref table) (l ++ m)) g in let w = good-both l m b.1 in (rw b.0 w.0, w.1)

  good-ctor : (cs : List Ctor) (c : ℕ) → Good (flatten (map fields_of cs)) → Good (fields_of (get_or cs c (built [] [])))
  good-ctor [] c g = refl
  good-ctor (x ∷ cs) zero g = (good-both (fields_of x) (flatten (map fields_of cs)) g).0
  good-ctor (x ∷ cs) (suc c) g = good-ctor cs c (good-both (fields_of x) (flatten (map fields_of cs)) g).1

  good-here : (t : Ref) → t < length table → Good (t ∷ [])
  good-here t h = go (is_ref table t) refl
    where
      go : (b : Bool) → is_ref table t ≡ b → Good (t ∷ [])
      go true e = rw e
      go false e = absurd (omega (arith, ltb-false t (length table) e))

  good-type : (t : Ref) (ty : Ty) (c : ℕ) → t < length table → Good (refs ty) → Good (fields_of (get_or (ctors_at t ty) c (built [] [])))
  good-type t integer c h g = refl
  good-type t byte_string c h g = refl
  good-type t opaque c h g = refl
  good-type t (list e) zero h g = let b = both (is_ref table e) true g in rw b.0 (good-here t h)
  good-type t (list e) (suc zero) h g = refl
  good-type t (list e) (suc (suc c)) h g = refl
  good-type t (tuple ts) zero h g = g
  good-type t (tuple ts) (suc c) h g = refl
  good-type t (pair a b) zero h g = g
  good-type t (pair a b) (suc c) h g = refl
  good-type t (dat cs) c h g = good-ctor cs c g

  good-at : (l : Table) (t : Ref) → all (λ ty. all (is_ref table) (refs ty)) l ≡ true → Good (refs (get_or l t opaque))
  good-at [] t g = refl
  good-at (ty ∷ l) zero g = (both (all (is_ref table) (refs ty)) (all (λ x. all (is_ref table) (refs x)) l) g).0
  good-at (ty ∷ l) (suc t) g = good-at l t (both (all (is_ref table) (refs ty)) (all (λ x. all (is_ref table) (refs x)) l) g).1

  module _ (good : refs_good table ≡ true) (t : Ref) (here : t < length table) where
    good-fields : (c : ℕ) → Good (fields_at table t c)
    unfolding refs_good
    good-fields c = good-type t (type_at table t) c here (good-at table t good)

    first_good : (l : List Ref) → 0 < length l → Good l → get_or l 0 0 < length table
    first_good [] h g = absurd (omega arith)
    first_good (x ∷ l) h g = ltb-true x (length table) (both (is_ref table x) (all (is_ref table) l) g).0

    cells-refs : (e : Ref) (k : ℕ) (tail : Bool) → e < length table → Refs (length table) (element_items t e k tail)
    cells-refs e zero true l = pats here nothing
    cells-refs e zero false l = puts nothing
    cells-refs e (suc k) tail l = puts (pats l (cells-refs e k tail l))

    suiting-refs : (b : Bool) (is new : List Item) → suiting b is ≡ some new → (b ≡ true → Refs (length table) is) → Refs (length table) new
    suiting-refs true is new e f = let h : is ≡ new = cc in subst (λ (x : List Item). Refs (length table) x) h (f refl)
    suiting-refs false is new e f = clash (cc)

    given : (is new : List Item) → some is ≡ some new → Refs (length table) is → Refs (length table) new
    given is new e r = let h : is ≡ new = cc in subst (λ (x : List Item). Refs (length table) x) h r

    -- what a pattern becomes
    pub opened-refs : (p : Raw) (new : List Item) → opened table t p ≡ some new → Refs (length table) new
    opened-refs discard new e = given (put wild ∷ []) new e (puts nothing)
    opened-refs (variable n) new e = given (put wild ∷ []) new e (puts nothing)
    opened-refs (assign n) new e = given (pat t ∷ []) new e (pats here nothing)
    opened-refs pair_of new e = suiting-refs (eqb (kind (type_at table t)) 5) (whole t (fields_at table t 0)) new e (λ h. puts (refs-pats (fields_at table t 0) (good-fields 0)))
    opened-refs (integer_of n) new e = suiting-refs (eqb (kind (type_at table t)) 0) (put (lit (int n)) ∷ []) new e (λ h. puts nothing)
    opened-refs (byte_string_of s) new e = suiting-refs (eqb (kind (type_at table t)) 1) (put (lit (byte_array s)) ∷ []) new e (λ h. puts nothing)
    opened-refs (list_of k tail) new e =
        suiting-refs (eqb (kind (type_at table t)) 3) (element_items t (get_or (fields_at table t 0) 0 0) k tail) new e
        (λ h. cells-refs (get_or (fields_at table t 0) 0 0) k tail (first_good (fields_at table t 0) (omega (arith, (list_facts t (type_at table t) (eqb-true (kind (type_at table t)) 3 h)).1)) (good-fields 0)))
    opened-refs (constructor c k spread) new e =
        suiting-refs (eqb (kind (type_at table t)) 6 && ltb c (length (ctors table t)) && enough k spread (fields_at table t c)) (put (con t c) ∷ arguments k (fields_at table t c)) new e
        (λ h. puts (refs_append (replicate (arity table t c - k) (put wild)) (refs-pats (take k (fields_at table t c)) (good-take k (fields_at table t c) (good-fields c))) (refs-wilds (length table) (arity table t c - k))))
    opened-refs (tuple_of k) new e =
        suiting-refs (eqb (kind (type_at table t)) 4 && eqb k (arity table t 0)) (whole t (fields_at table t 0)) new e (λ h. puts (refs-pats (fields_at table t 0) (good-fields 0)))
