-- `simplify` gives a row exactly where the pattern suits its type: item by item, from what each pattern leaves to suit.
use mathlib.Core.Path.{◌≡◌, refl, ap, sym, subst, ◌∙◌}
use mathlib.Core.List.{List, [], ◌∷◌, ◌++◌, map, append-nil}
use mathlib.Core.Bool.{Bool, true, false, ◌&&◌}
use mathlib.Core.Option
use mathlib.Core.Option.{Option, none, some}
use mathlib.Core.Logic.{◌⊎◌, inl, inr}
use Prim.Native.Nat.{ℕ, zero, suc, ◌-◌, ◌<◌}
use native.Mathlib.Omega.{arith}
use lib.ListN.{length, get_or, take, replicate}
use lib.Dec.{ltb, leb, eqb}
use borrow.Author.Tests.{ltb-true, lt-ltb, leb-true, le-leb, eqb-true, eq-eqb}
use Rattle.scope.specs.Types.{Ref, Ty, integer, byte_string, opaque, list, tuple, pair, dat, Table, type_at, kind, fields_of, declared}
use Rattle.scope.specs.Finite.{refs}
use Rattle.scope.specs.Constructors.{built, ctors_at, ctors, fields_at}
use Rattle.scope.specs.Patterns.{Raw, discard, variable, assign, pair_of, integer_of, byte_string_of, list_of, constructor, tuple_of}
use Rattle.scope.specs.Simplify.{int, byte_array, Node, wild, lit, con, Row, Item, put, pat, suiting, element_items, enough, arguments, whole, opened, putting, all_put, ◌>>=◌, simplified, simplify}
use Rattle.refusals.specs.Suits.{Enough, tail_at, SuitsType, Suits}
use Rattle.scope.proofs.Tests.{clash, both, and-true, either, or_left, or_right}
use Rattle.laws.proofs.Typing.{suiting-some}

-- the types that the items' patterns are still to suit
abbrev pub wants : List Item → List Ref
wants [] = []
wants (put n ∷ is) = wants is
wants (pat t ∷ is) = t ∷ wants is

pub wants_append : (is js : List Item) → wants (is ++ js) ≡ wants is ++ wants js
wants_append [] js = refl
wants_append (put n ∷ is) js = wants_append is js
wants_append (pat t ∷ is) js = ap (t ∷◌) (wants_append is js)

wants-pats : (ts : List Ref) → wants (map pat ts) ≡ ts
wants-pats [] = refl
wants-pats (t ∷ ts) = ap (t ∷◌) (wants-pats ts)

wants-wilds : (n : ℕ) → wants (replicate n (put wild)) ≡ []
wants-wilds zero = refl
wants-wilds (suc n) = wants-wilds n

wants-arguments : (k : ℕ) (fs : List Ref) → wants (arguments k fs) ≡ take k fs
wants-arguments k fs = wants_append (map pat (take k fs)) (replicate (length fs - k) (put wild)) ∙ rw (wants-pats, wants-wilds, append-nil)

wants-cells : (t e : Ref) (k : ℕ) (tail : Bool) → wants (element_items t e k tail) ≡ replicate k e ++ tail_at tail t
wants-cells t e zero true = refl
wants-cells t e zero false = refl
wants-cells t e (suc k) tail = ap (e ∷◌) (wants-cells t e k tail)

-- the type of kind k that has the parts of ty: where ty is of that kind, ty itself
abbrev pub of_kind : ℕ → Ty → Ty
of_kind k ty = get_or (integer ∷ byte_string ∷ opaque ∷ list first ∷ tuple (refs ty) ∷ pair first (get_or (refs ty) 1 0) ∷ dat (declared ty) ∷ []) k opaque
  where
    first : Ref
    first = get_or (refs ty) 0 0

kinded : (ty : Ty) → of_kind (kind ty) ty ≡ ty
kinded integer = refl
kinded byte_string = refl
kinded opaque = refl
kinded (list e) = refl
kinded (tuple ts) = refl
kinded (pair a b) = refl
kinded (dat cs) = refl

pub by_kind : (k : ℕ) (ty : Ty) → eqb (kind ty) k ≡ true → ty ≡ of_kind k ty
by_kind k ty h = sym (kinded ty) ∙ ap (λ (n : ℕ). of_kind n ty) (eqb-true (kind ty) k h)

pub enough-is : (k : ℕ) (spread : Bool) (fs : List Ref) → enough k spread fs ≡ true → Enough k (length fs) spread
enough-is k spread fs h = go spread (either (eqb k (length fs)) (spread && leb k (length fs)) h)
  where
    go : (s : Bool) → (eqb k (length fs) ≡ true) ⊎ ((s && leb k (length fs)) ≡ true) → Enough k (length fs) s
    go s (inl e) = Enough.all (omega (arith, eqb-true k (length fs) e))
    go true (inr e) = Enough.with_spread (omega (arith, leb-true k (length fs) e))
    go false (inr e) = clash (cc)

is-enough : {k : ℕ} {spread : Bool} (fs : List Ref) → Enough k (length fs) spread → enough k spread fs ≡ true
is-enough {k} fs (Enough.all {spread = s} e) = or_left (s && leb k (length fs)) (eq-eqb k (length fs) e)
is-enough {k} fs (Enough.with_spread h) = or_right (eqb k (length fs)) (le-leb k (length fs) h)

module _ (table : Table) where
  -- the fields of the one constructor, or of a list's cell
  first-fields : Ref → Ty → List Ref
  first-fields t ty = fields_of (get_or (ctors_at t ty) 0 (built [] []))

  given : {t : Ref} {p : Raw} (new : List Item) (us : List Ref) (is : List Item) → is ≡ new → wants is ≡ us → SuitsType table t p us
      → SuitsType table t p (wants new)
  given {t} {p} new us is e w s = subst (λ (x : List Item). SuitsType table t p (wants x)) e (rw w s)

  opened-suits : (t : Ref) (p : Raw) (new : List Item) → opened table t p ≡ some new → SuitsType table t p (wants new)
  unfolding first-fields
  opened-suits t discard new e = given new [] (put wild ∷ []) (cc) refl SuitsType.discard
  opened-suits t (variable n) new e = given new [] (put wild ∷ []) (cc) refl SuitsType.variable
  opened-suits t (assign n) new e = given new (t ∷ []) (pat t ∷ []) (cc) refl SuitsType.assign
  opened-suits t (integer_of n) new e =
      let w = suiting-some _ (put (lit (int n)) ∷ []) new e in
      given new [] _ w.1 refl (SuitsType.integer_of (by_kind 0 (type_at table t) w.0))
  opened-suits t (byte_string_of s) new e =
      let w = suiting-some _ (put (lit (byte_array s)) ∷ []) new e in
      given new [] _ w.1 refl (SuitsType.byte_string_of (by_kind 1 (type_at table t) w.0))
  opened-suits t (list_of k tail) new e =
      let x = get_or (refs (type_at table t)) 0 0 in
      let w = suiting-some _ (element_items t (get_or (fields_at table t 0) 0 0) k tail) new e in
      let v : type_at table t ≡ list x = by_kind 3 (type_at table t) w.0 in
      let y : get_or (fields_at table t 0) 0 0 ≡ x = ap (λ (ty : Ty). get_or (first-fields t ty) 0 0) v in
      let c = wants-cells t (get_or (fields_at table t 0) 0 0) k tail ∙ ap (λ (z : Ref). replicate k z ++ tail_at tail t) y in
      given new (replicate k x ++ tail_at tail t) _ w.1 c (SuitsType.list_of v)
  opened-suits t (constructor c k spread) new e =
      let fs = fields_at table t c in
      let data6 = eqb (kind (type_at table t)) 6 in
      let small = ltb c (length (ctors table t)) in
      let w = suiting-some (data6 && small && enough k spread fs) (put (con t c) ∷ arguments k fs) new e in
      let a = both (data6 && small) (enough k spread fs) w.0 in
      let b = both data6 small a.0 in
      let v : type_at table t ≡ dat (declared (type_at table t)) = by_kind 6 (type_at table t) b.0 in
      let l = subst (λ (ty : Ty). c < length (ctors_at t ty)) v (ltb-true c (length (ctors table t)) b.1) in
      given new (take k fs) _ w.1 (wants-arguments k fs) (SuitsType.constructor v l (enough-is k spread fs a.1))
  opened-suits t pair_of new e =
      let x = get_or (refs (type_at table t)) 0 0 in
      let y = get_or (refs (type_at table t)) 1 0 in
      let w = suiting-some _ (whole t (fields_at table t 0)) new e in
      let v : type_at table t ≡ pair x y = by_kind 5 (type_at table t) w.0 in
      given new (x ∷ y ∷ []) _ w.1 (wants-pats (fields_at table t 0) ∙ ap (first-fields t) v) (SuitsType.pair_of v)
  opened-suits t (tuple_of k) new e =
      let ts = refs (type_at table t) in
      let counted = eqb k (length (fields_at table t 0)) in
      let w = suiting-some (eqb (kind (type_at table t)) 4 && counted) (whole t (fields_at table t 0)) new e in
      let a = both (eqb (kind (type_at table t)) 4) counted w.0 in
      let v : type_at table t ≡ tuple ts = by_kind 4 (type_at table t) a.0 in
      let x : fields_at table t 0 ≡ ts = ap (first-fields t) v in
      given new ts _ w.1 (wants-pats (fields_at table t 0) ∙ x) (SuitsType.tuple_of v (eqb-true k _ a.1 ∙ ap length x))

  -- what it becomes
  record Opened (t : Ref) (p : Raw) (us : List Ref) : Type 0 where
    new : List Item
    is : opened table t p ≡ some new
    left : wants new ≡ us

  suits-opened : {t : Ref} {p : Raw} {us : List Ref} → SuitsType table t p us → Opened t p us
  suits-opened SuitsType.discard = record { new = put wild ∷ []; is = refl; left = refl }
  suits-opened SuitsType.variable = record { new = put wild ∷ []; is = refl; left = refl }
  suits-opened {t} SuitsType.assign = record { new = pat t ∷ []; is = refl; left = refl }
  suits-opened (SuitsType.integer_of {n = n} e) = record { new = put (lit (int n)) ∷ []; is = rw e; left = refl }
  suits-opened (SuitsType.byte_string_of {s = s} e) = record { new = put (lit (byte_array s)) ∷ []; is = rw e; left = refl }
  suits-opened {t} (SuitsType.list_of {e = x} {k = k} {tail = tail} e) = record { new = element_items t x k tail; is = rw e; left = wants-cells t x k tail }
  suits-opened {t} (SuitsType.pair_of {a = a} {b = b} e) = record { new = whole t (a ∷ b ∷ []); is = rw e; left = refl }
  suits-opened {t} (SuitsType.tuple_of {ts = ts} {k = k} e h) = record { new = whole t ts; is = rw (e, eq-eqb k (length ts) h); left = wants-pats ts }
  suits-opened {t} (SuitsType.constructor {cs = cs} {c = c} {k = k} {spread = spread} e l h) =
      let fs = fields_at table t c in
      let new = put (con t c) ∷ arguments k fs in
      let a : eqb (kind (type_at table t)) 6 ≡ true = rw e in
      let b : ltb c (length (ctors table t)) ≡ true = lt-ltb c (length (ctors table t)) (subst (λ (ty : Ty). c < length (ctors_at t ty)) (sym e) l) in
      let g = and-true (and-true a b) (is-enough fs h) in
      record { new = new; is = ap (λ (x : Bool). suiting x new) g; left = wants-arguments k fs }

  -- a row is made
  record Made (o : Option Row) : Type 0 where
    row : Row
    is : o ≡ some row

  put-made : (n : Node) {o : Option Row} → Made o → Made (Option.map (n ∷◌) o)
  put-made n m = record { row = n ∷ m.row; is = ap (λ (o : Option Row). Option.map (n ∷◌) o) m.is }

  made-put : (n : Node) (o : Option Row) → Made (Option.map (n ∷◌) o) → Made o
  made-put n none m = let i = m.is in clash (cc)
  made-put n (some r) m = record { row = r; is = refl }

  all_put-suits : (is : List Item) → Made (all_put is) → Suits table (wants is) []
  all_put-suits [] m = Suits.none
  all_put-suits (put n ∷ is) m = all_put-suits is (made-put n (all_put is) m)
  all_put-suits (pat t ∷ is) m = let i = m.is in clash (cc)

  suits-all_put : (is : List Item) → Suits table (wants is) [] → Made (all_put is)
  suits-all_put [] s = record { row = []; is = refl }
  suits-all_put (put n ∷ is) s = put-made n (suits-all_put is s)
  suits-all_put (pat _ ∷ is) s = elim s [ ]

  putting-suits : (go : Ref → List Item → Option Row) (p : Raw) (ps : List Raw)
      → ((t : Ref) (rest : List Item) → Made (go t rest) → Suits table (t ∷ wants rest) (p ∷ ps))
      → (is : List Item) → Made (putting is go) → Suits table (wants is) (p ∷ ps)
  putting-suits go p ps k [] m = let i = m.is in clash (cc)
  putting-suits go p ps k (put n ∷ is) m = putting-suits go p ps k is (made-put n (putting is go) m)
  putting-suits go p ps k (pat t ∷ is) m = k t is m

  suits-putting : (go : Ref → List Item → Option Row) (p : Raw) (ps : List Raw)
      → ((t : Ref) (rest : List Item) → Suits table (t ∷ wants rest) (p ∷ ps) → Made (go t rest))
      → (is : List Item) → Suits table (wants is) (p ∷ ps) → Made (putting is go)
  suits-putting go p ps k [] s = elim s [ ]
  suits-putting go p ps k (put n ∷ is) s = put-made n (suits-putting go p ps k is s)
  suits-putting go p ps k (pat t ∷ is) s = k t is s

  simplified-suits : (ps : List Raw) (is : List Item) → Made (simplified table is ps) → Suits table (wants is) ps
  unfolding simplified
  simplified-suits [] is m = all_put-suits is m
  simplified-suits (p ∷ ps) is m =
      putting-suits (λ t rest. opened table t p >>= λ new. simplified table (new ++ rest) ps) p ps
      (λ t rest. next t rest (opened table t p) refl (simplified-suits ps)) is m
    where
      next : (t : Ref) (rest : List Item) (o : Option (List Item)) → opened table t p ≡ o
          → ((js : List Item) → Made (simplified table js ps) → Suits table (wants js) ps)
          → Made (o >>= λ new. simplified table (new ++ rest) ps) → Suits table (t ∷ wants rest) (p ∷ ps)
      next t rest none e deeper x = let i = x.is in clash (cc)
      next t rest (some new) e deeper x = Suits.also (opened-suits t p new e) (rw wants_append at (deeper (new ++ rest) x))

  suits-simplified : (ps : List Raw) (is : List Item) → Suits table (wants is) ps → Made (simplified table is ps)
  unfolding simplified
  suits-simplified [] is s = suits-all_put is s
  suits-simplified (p ∷ ps) is s =
      suits-putting (λ t rest. opened table t p >>= λ new. simplified table (new ++ rest) ps) p ps (λ t rest. next t rest (suits-simplified ps)) is s
    where
      next : (t : Ref) (rest : List Item) → ((js : List Item) → Suits table (wants js) ps → Made (simplified table js ps))
          → Suits table (t ∷ wants rest) (p ∷ ps) → Made (opened table t p >>= λ new. simplified table (new ++ rest) ps)
      next t rest deeper (Suits.also {us = us} k d) =
          let o = suits-opened k in
          let w : wants (o.new ++ rest) ≡ us ++ wants rest = wants_append o.new rest ∙ ap (◌++ wants rest) o.left in
          let m = deeper (o.new ++ rest) (rw w d) in
          record { row = m.row; is = rw o.is m.is }

pub simplify-suits : (table : Table) (t : Ref) (ps : List Raw) (r : Row) → simplify table t ps ≡ some r → Suits table (t ∷ []) ps
unfolding simplify
simplify-suits table t ps r e = simplified-suits table ps (pat t ∷ []) (record { row = r; is = e })

pub suits-simplify : (table : Table) (t : Ref) (ps : List Raw) → Suits table (t ∷ []) ps → (r : Row) × (simplify table t ps ≡ some r)
unfolding simplify
suits-simplify table t ps s = let m = suits-simplified table ps (pat t ∷ []) s in (m.row, m.is)
