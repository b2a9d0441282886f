-- What `simplify` gives is of the subject's type: the Rust's `unreachable!` arms are shut out by refusal 8.
use mathlib.Core.Path.{◌≡◌, refl, subst, sym}
use mathlib.Core.List.{List, [], ◌∷◌, ◌++◌, map}
use mathlib.Core.Bool.{Bool, true, false, ◌&&◌, ◌||◌}
use mathlib.Core.Option
use mathlib.Core.Option.{Option, none, some}
use Prim.Native.Nat.{ℕ, zero, suc, ◌+◌, ◌-◌, ◌≤◌, ◌<◌}
use native.Mathlib.Omega.{arith}
use lib.ListN.{length, get_or, take, replicate}
use lib.Dec.{ltb, leb, eqb}
use borrow.Author.Tests.{ltb-true, leb-true, eqb-true}
use Rattle.scope.specs.Types.{Ref, Ty, integer, byte_string, opaque, list, tuple, pair, dat, Table, type_at, fields_of, kind}
use Rattle.scope.specs.Constructors.{fields_at, built, ctors_at, ctors}
use Rattle.scope.specs.Patterns.{Raw, discard, variable, assign, pair_of, integer_of, byte_string_of, list_of, constructor, tuple_of}
use Rattle.scope.specs.Simplify.{Literal, int, byte_array, Node, wild, lit, con, Row, Item, put, pat, suiting, element_items, enough, arguments, whole, opened, putting, all_put, ◌>>=◌, simplified, simplify}
use Rattle.laws.specs.Typed.{literal_kind, Typed}
use Rattle.scope.proofs.Tests.{clash, both}

module _ (table : Table) where
  -- the items will be patterns of these types
  pub data Fit : List Ref → List Item → Type 0 where
    done : Fit [] []
    pats : {t : Ref} {ts : List Ref} {is : List Item} → Fit ts is → Fit (t ∷ ts) (pat t ∷ is)
    wilds : {t : Ref} {ts : List Ref} {is : List Item} → Fit ts is → Fit (t ∷ ts) (put wild ∷ is)
    lits : {t : Ref} {ts : List Ref} {l : Literal} {is : List Item} → kind (type_at table t) ≡ literal_kind l → Fit ts is → Fit (t ∷ ts) (put (lit l) ∷ is)
    cons : {t : Ref} {ts : List Ref} {c : ℕ} {is : List Item} → c < length (ctors table t) → Fit (fields_at table t c ++ ts) is → Fit (t ∷ ts) (put (con t c) ∷ is)

  -- one node in front, of the items and of the row alike
  step : {ts : List Ref} {n : Node} {is : List Item} (o : Option Row) (r : Row) → Option.map (n ∷◌) o ≡ some r → Fit ts (put n ∷ is)
      → ((us : List Ref) (q : Row) → Fit us is → o ≡ some q → Typed table us q) → Typed table ts r
  step none r e f k = clash (cc)
  step {ts} {n} {is} (some q) r e f k = subst (λ (s : Row). Typed table ts s) (some_inj e) (go f)
    where
      some_inj : some (n ∷ q) ≡ some r → (n ∷ q) ≡ r
      some_inj p = cc

      go : {us : List Ref} {x : Node} → Fit us (put x ∷ is) → Typed table us (x ∷ q)
      go (wilds g) = Typed.wilds (k _ q g refl)
      go (lits h g) = Typed.lits h (k _ q g refl)
      go (cons h g) = Typed.cons h (k _ q g refl)

  all_put-typed : {ts : List Ref} (is : List Item) (r : Row) → Fit ts is → all_put is ≡ some r → Typed table ts r
  all_put-typed [] r done e = subst (λ (s : Row). Typed table [] s) (some_inj e) Typed.done
    where
      some_inj : some [] ≡ some r → [] ≡ r
      some_inj p = cc
  all_put-typed (put n ∷ is) r f e = step (all_put is) r e f (λ us q g h. all_put-typed is q g h)
  all_put-typed (pat t ∷ is) r f e = clash (cc)

  putting-typed : (go : Ref → List Item → Option Row)
      → ((t : Ref) (rest : List Item) (ts : List Ref) (q : Row) → Fit ts rest → go t rest ≡ some q → Typed table (t ∷ ts) q)
      → {ts : List Ref} (is : List Item) (r : Row) → Fit ts is → putting is go ≡ some r → Typed table ts r
  putting-typed go k [] r f e = clash (cc)
  putting-typed go k (put n ∷ is) r f e = step (putting is go) r e f (λ us q g h. putting-typed go k is q g h)
  putting-typed go k (pat t ∷ is) r (pats f) e = k t is _ r f e

-- what a kind says of the constructors: a list has two
list_facts : (t : Ref) (ty : Ty) → kind ty ≡ 3 → (length (ctors_at t ty) ≡ 2) × (fields_of (get_or (ctors_at t ty) 0 (built [] [])) ≡ get_or (fields_of (get_or (ctors_at t ty) 0 (built [] []))) 0 0 ∷ t ∷ []) × (fields_of (get_or (ctors_at t ty) 1 (built [] [])) ≡ [])
list_facts t integer h = absurd (omega arith)
list_facts t byte_string h = absurd (omega arith)
list_facts t opaque h = absurd (omega arith)
list_facts t (list e) h = (refl, refl, refl)
list_facts t (tuple ts) h = absurd (omega arith)
list_facts t (pair a b) h = absurd (omega arith)
list_facts t (dat cs) h = absurd (omega arith)

-- a tuple and a pair have one
one-ctor : (t : Ref) (ty : Ty) (k : ℕ) → 4 ≤ k → k ≤ 5 → kind ty ≡ k → 0 < length (ctors_at t ty)
one-ctor t integer k l u h = absurd (omega arith)
one-ctor t byte_string k l u h = absurd (omega arith)
one-ctor t opaque k l u h = absurd (omega arith)
one-ctor t (list e) k l u h = absurd (omega arith)
one-ctor t (tuple ts) k l u h = omega arith
one-ctor t (pair a b) k l u h = omega arith
one-ctor t (dat cs) k l u h = absurd (omega arith)

pub enough_le : (k : ℕ) (spread : Bool) (fs : List Ref) → enough k spread fs ≡ true → k ≤ length fs
enough_le k spread fs h = go (eqb k (length fs)) refl h
  where
    go : (b : Bool) → eqb k (length fs) ≡ b → (b || (spread && leb k (length fs))) ≡ true → k ≤ length fs
    go true e g = omega (arith, eqb-true k (length fs) e)
    go false e g = leb-true k (length fs) (both spread (leb k (length fs)) g).1

pub suiting-some : (b : Bool) (is new : List Item) → suiting b is ≡ some new → (b ≡ true) × (is ≡ new)
suiting-some true is new e = (refl, cc)
suiting-some false is new e = clash (cc)

module _ (table : Table) (rest : List Item) (ts : List Ref) (f : Fit table ts rest) where
  pats-fit : (fs : List Ref) → Fit table (fs ++ ts) (map pat fs ++ rest)
  pats-fit [] = f
  pats-fit (x ∷ fs) = pats (pats-fit fs)

  wilds-fit : (n : ℕ) (fs : List Ref) → n ≡ length fs → Fit table (fs ++ ts) (replicate n (put wild) ++ rest)
  wilds-fit zero [] h = f
  wilds-fit zero (x ∷ fs) h = absurd (omega arith)
  wilds-fit (suc n) [] h = absurd (omega arith)
  wilds-fit (suc n) (x ∷ fs) h = wilds (wilds-fit n fs (omega arith))

  arguments-fit : (k n : ℕ) (fs : List Ref) → n + k ≡ length fs → Fit table (fs ++ ts) ((map pat (take k fs) ++ replicate n (put wild)) ++ rest)
  arguments-fit zero n fs h = wilds-fit n fs (omega arith)
  arguments-fit (suc k) n [] h = absurd (omega arith)
  arguments-fit (suc k) n (x ∷ fs) h = pats (arguments-fit k n fs (omega arith))

  two-ctors : (t : Ref) (c : ℕ) → kind (type_at table t) ≡ 3 → c < 2 → c < length (ctors table t)
  two-ctors t c h l = omega (arith, (list_facts t (type_at table t) h).0)

  cells_fit : (t : Ref) (k : ℕ) (tail : Bool) → kind (type_at table t) ≡ 3 → Fit table (t ∷ ts) (element_items t (get_or (fields_at table t 0) 0 0) k tail ++ rest)
  cells_fit t zero true h = pats f
  cells_fit t zero false h = let l = list_facts t (type_at table t) h in cons {c = 1} (two-ctors t 1 h (omega arith)) (subst (λ (fs : List Ref). Fit table (fs ++ ts) rest) (sym l.2) f)
  cells_fit t (suc k) tail h =
      let l = list_facts t (type_at table t) h in
      let e = get_or (fields_at table t 0) 0 0 in
      cons {c = 0} (two-ctors t 0 h (omega arith)) (subst (λ (fs : List Ref). Fit table (fs ++ ts) (pat e ∷ (element_items t e k tail ++ rest))) (sym l.1) (pats (cells_fit t k tail h)))

  ctor-fits : (t : Ref) (c k : ℕ) → c < length (ctors table t) → k ≤ length (fields_at table t c) → Fit table (t ∷ ts) ((put (con t c) ∷ arguments k (fields_at table t c)) ++ rest)
  ctor-fits t c k h l = cons h (arguments-fit k (length (fields_at table t c) - k) (fields_at table t c) (omega arith))

  whole-fits : (t : Ref) (k : ℕ) → 4 ≤ k → k ≤ 5 → kind (type_at table t) ≡ k → Fit table (t ∷ ts) (whole t (fields_at table t 0) ++ rest)
  whole-fits t k l u h = cons (one-ctor t (type_at table t) k l u h) (pats-fit (fields_at table t 0))

  given : (us : List Ref) (is new : List Item) → some is ≡ some new → Fit table us (is ++ rest) → Fit table us (new ++ rest)
  given us is new e g = let h : is ≡ new = cc in subst (λ (x : List Item). Fit table us (x ++ rest)) h g

  tested : (us : List Ref) (b : Bool) (is new : List Item) → suiting b is ≡ some new → (b ≡ true → Fit table us (is ++ rest)) → Fit table us (new ++ rest)
  tested us b is new e g = let w = suiting-some b is new e in subst (λ (x : List Item). Fit table us (x ++ rest)) w.1 (g w.0)

  -- what a pattern becomes is of the type that it was read at
  pub opened-fits : (t : Ref) (p : Raw) (new : List Item) → opened table t p ≡ some new → Fit table (t ∷ ts) (new ++ rest)
  opened-fits t discard new e = given (t ∷ ts) (put wild ∷ []) new e (wilds f)
  opened-fits t (variable n) new e = given (t ∷ ts) (put wild ∷ []) new e (wilds f)
  opened-fits t (assign n) new e = given (t ∷ ts) (pat t ∷ []) new e (pats f)
  opened-fits t pair_of new e = tested (t ∷ ts) _ _ new e (λ h. whole-fits t 5 (omega arith) (omega arith) (eqb-true _ _ h))
  opened-fits t (integer_of n) new e = tested (t ∷ ts) _ (put (lit (int n)) ∷ []) new e (λ h. lits (eqb-true _ _ h) f)
  opened-fits t (byte_string_of s) new e = tested (t ∷ ts) _ (put (lit (byte_array s)) ∷ []) new e (λ h. lits (eqb-true _ _ h) f)
  opened-fits t (list_of k tail) new e = tested (t ∷ ts) _ _ new e (λ h. cells_fit t k tail (eqb-true _ _ h))
  opened-fits t (constructor c k spread) new e =
      let small = ltb c (length (ctors table t)) in
      let full = enough k spread (fields_at table t c) in
      tested (t ∷ ts) (eqb (kind (type_at table t)) 6 && small && full) (put (con t c) ∷ arguments k (fields_at table t c)) new e
      (λ h.
      let w = both (eqb (kind (type_at table t)) 6 && small) full h in
      let v = both (eqb (kind (type_at table t)) 6) small w.0 in
      ctor-fits t c k (ltb-true c (length (ctors table t)) v.1) (enough_le k spread (fields_at table t c) w.1))
  opened-fits t (tuple_of k) new e =
      tested (t ∷ ts) (eqb (kind (type_at table t)) 4 && eqb k (length (fields_at table t 0))) (whole t (fields_at table t 0)) new e
      (λ h. whole-fits t 4 (omega arith) (omega arith) (eqb-true (kind (type_at table t)) 4 (both (eqb (kind (type_at table t)) 4) (eqb k (length (fields_at table t 0))) h).0))

simplified-typed : (table : Table) (ps : List Raw) {ts : List Ref} (is : List Item) (r : Row) → Fit table ts is → simplified table is ps ≡ some r → Typed table ts r
unfolding simplified
simplified-typed table [] is r f e = all_put-typed table is r f e
simplified-typed table (p ∷ ps) is r f e =
    putting-typed table (λ t rest. opened table t p >>= λ new. simplified table (new ++ rest) ps) (λ t rest us q g h. next t rest us q g h (λ vs js s k l. simplified-typed table ps {ts = vs} js s k l)) is r f e
  where
    next : (t : Ref) (rest : List Item) (us : List Ref) (q : Row) → Fit table us rest → (opened table t p >>= λ new. simplified table (new ++ rest) ps) ≡ some q
        → ((vs : List Ref) (js : List Item) (s : Row) → Fit table vs js → simplified table js ps ≡ some s → Typed table vs s) → Typed table (t ∷ us) q
    next t rest us q g h deeper = go (opened table t p) refl h
      where
        go : (o : Option (List Item)) → opened table t p ≡ o → (o >>= λ new. simplified table (new ++ rest) ps) ≡ some q → Typed table (t ∷ us) q
        go none i j = clash (cc)
        go (some new) i j = deeper (t ∷ us) (new ++ rest) q (opened-fits table rest us g t p new i) j

-- a simplified clause is one pattern of the subject's type
pub simplify-typed : (table : Table) (t : Ref) (ps : List Raw) (r : Row) → simplify table t ps ≡ some r → Typed table (t ∷ []) r
unfolding simplify
simplify-typed table t ps r e = simplified-typed table ps (pat t ∷ []) r (pats done) e
