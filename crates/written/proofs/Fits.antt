-- A value of its type is taken by a clause as written exactly when the simplified row fits it: by induction on the patterns, as `simplified` reads them.
use mathlib.Core.Path.{◌≡◌, refl, ap, sym, subst, ◌∙◌}
use mathlib.Core.List.{List, [], ◌∷◌, ◌++◌, map}
use mathlib.Core.Bool.{Bool, true, false, ◌&&◌}
use mathlib.Core.Option
use mathlib.Core.Option.{Option, none, some}
use mathlib.Core.Logic.{◌↔◌}
use Prim.Native.Nat.{ℕ, zero, suc, ◌+◌, ◌-◌, ◌≤◌}
use native.Mathlib.Omega.{arith}
use lib.ListN.{length, get_or, take, replicate}
use lib.Dec.{ltb, eqb}
use borrow.Author.Tests.{eqb-true, eq-eqb}
use Rattle.scope.specs.Types.{Ref, Ty, list, pair, Table, type_at, kind, fields_of}
use Rattle.scope.specs.Constructors.{built, ctors_at, ctors, fields_at}
use Rattle.scope.specs.Patterns.{Raw, discard, variable, assign, pair_of, integer_of, byte_string_of, list_of, constructor, tuple_of}
use Rattle.scope.specs.Simplify.{Literal, int, byte_array, Node, wild, lit, con, Row, Item, put, pat, element_items, enough, arguments, whole, opened, putting, all_put, ◌>>=◌, simplified, simplify}
use Rattle.meaning.specs.Values.{Val, vint, vbytes, vopaque, vcon, Vals, []ᵛ, ◌∷ᵛ◌, ◌++ᵛ◌, lengthᵛ, HasTypes, made, literal_fits, fits}
use Rattle.written.specs.Takes.{Elements, Opens, TakesEach, Takes}
use Rattle.scope.proofs.Tests.{clash, both, and-true}
use Rattle.laws.proofs.Typing.{Fit, opened-fits, suiting-some, enough_le}
use Rattle.refusals.specs.Suits.{Enough, Suits}
use Rattle.refusals.proofs.Suiting.{by_kind, enough-is, suits-simplify}
use Rattle.meaning.proofs.Fitting.{literal-is, literal_self, types-length, types_append, tail-typed}

-- the values that the items leave to the patterns: us, of the row vs
data Leaves : List Item → Vals → Vals → Type 0 where
  empty : Leaves [] []ᵛ []ᵛ
  wilds : {is : List Item} {v : Val} {vs us : Vals} → Leaves is vs us → Leaves (put wild ∷ is) (v ∷ᵛ vs) us
  lits : {is : List Item} {l : Literal} {v : Val} {vs us : Vals} → literal_fits l v ≡ true → Leaves is vs us → Leaves (put (lit l) ∷ is) (v ∷ᵛ vs) us
  cons : {is : List Item} {t : Ref} {c : ℕ} {args vs us : Vals} → Leaves is (args ++ᵛ vs) us → Leaves (put (con t c) ∷ is) (vcon c args ∷ᵛ vs) us
  pats : {is : List Item} {t : Ref} {v : Val} {vs us : Vals} → Leaves is vs us → Leaves (pat t ∷ is) (v ∷ᵛ vs) (v ∷ᵛ us)

-- what the items new make of v, in front of rest: the parts ws of v, and then what rest leaves of vs
record Through (p : Raw) (v : Val) (rest : List Item) (vs us : Vals) : Type 0 where
  parts : Vals
  left : Vals
  opens : Opens p v parts
  after : Leaves rest vs left
  is : us ≡ parts ++ᵛ left

module _ (rest : List Item) (vs : Vals) where
  -- all fields are to be taken
  record Split (args us : Vals) : Type 0 where
    left : Vals
    after : Leaves rest vs left
    is : us ≡ args ++ᵛ left

  pats_leave : (fs : List Ref) (args us : Vals) → lengthᵛ args ≡ length fs → Leaves (map pat fs ++ rest) (args ++ᵛ vs) us → Split args us
  pats_leave [] []ᵛ us e h = record { left = us; after = h; is = refl }
  pats_leave [] (a ∷ᵛ args) us e h = absurd (omega arith)
  pats_leave (f ∷ fs) []ᵛ us e h = absurd (omega arith)
  pats_leave (f ∷ fs) (a ∷ᵛ args) us e (pats h) = let r = pats_leave fs args _ (omega arith) h in record { left = r.left; after = r.after; is = ap (a ∷ᵛ◌) r.is }

  leave_pats : (fs : List Ref) (args left : Vals) → lengthᵛ args ≡ length fs → Leaves rest vs left → Leaves (map pat fs ++ rest) (args ++ᵛ vs) (args ++ᵛ left)
  leave_pats [] []ᵛ left e h = h
  leave_pats [] (a ∷ᵛ args) left e h = absurd (omega arith)
  leave_pats (f ∷ fs) []ᵛ left e h = absurd (omega arith)
  leave_pats (f ∷ fs) (a ∷ᵛ args) left e h = pats (leave_pats fs args left (omega arith) h)

  -- the others are anything
  wilds_leave : (n : ℕ) (args us : Vals) → lengthᵛ args ≡ n → Leaves (replicate n (put wild) ++ rest) (args ++ᵛ vs) us → Leaves rest vs us
  wilds_leave zero []ᵛ us e h = h
  wilds_leave zero (a ∷ᵛ args) us e h = absurd (omega arith)
  wilds_leave (suc n) []ᵛ us e h = absurd (omega arith)
  wilds_leave (suc n) (a ∷ᵛ args) us e (wilds h) = wilds_leave n args us (omega arith) h

  leave_wilds : (n : ℕ) (args us : Vals) → lengthᵛ args ≡ n → Leaves rest vs us → Leaves (replicate n (put wild) ++ rest) (args ++ᵛ vs) us
  leave_wilds zero []ᵛ us e h = h
  leave_wilds zero (a ∷ᵛ args) us e h = absurd (omega arith)
  leave_wilds (suc n) []ᵛ us e h = absurd (omega arith)
  leave_wilds (suc n) (a ∷ᵛ args) us e h = wilds (leave_wilds n args us (omega arith) h)

  record Some (k : ℕ) (args us : Vals) : Type 0 where
    taken : Vals
    others : Vals
    left : Vals
    cut : args ≡ taken ++ᵛ others
    long : lengthᵛ taken ≡ k
    after : Leaves rest vs left
    is : us ≡ taken ++ᵛ left

  args_leave : (k n : ℕ) (fs : List Ref) (args us : Vals) → n + k ≡ length fs → lengthᵛ args ≡ length fs → Leaves ((map pat (take k fs) ++ replicate n (put wild)) ++ rest) (args ++ᵛ vs) us → Some k args us
  args_leave zero n fs args us e i h = record { taken = []ᵛ; others = args; left = us; cut = refl; long = refl; after = wilds_leave n args us (omega arith) h; is = refl }
  args_leave (suc k) n [] args us e i h = absurd (omega arith)
  args_leave (suc k) n (f ∷ fs) []ᵛ us e i h = absurd (omega arith)
  args_leave (suc k) n (f ∷ fs) (a ∷ᵛ args) us e i (pats h) =
      let r = args_leave k n fs args _ (omega arith) (omega arith) h in
      record { taken = a ∷ᵛ r.taken; others = r.others; left = r.left; cut = ap (a ∷ᵛ◌) r.cut; long = ap suc r.long; after = r.after; is = ap (a ∷ᵛ◌) r.is }

  leave_args : (k n : ℕ) (fs : List Ref) (taken others left : Vals) → n + k ≡ length fs → lengthᵛ (taken ++ᵛ others) ≡ length fs → lengthᵛ taken ≡ k → Leaves rest vs left
      → Leaves ((map pat (take k fs) ++ replicate n (put wild)) ++ rest) ((taken ++ᵛ others) ++ᵛ vs) (taken ++ᵛ left)
  leave_args zero n fs []ᵛ others left e i l h = leave_wilds n others left (omega arith) h
  leave_args zero n fs (a ∷ᵛ taken) others left e i l h = absurd (omega arith)
  leave_args (suc k) n [] taken others left e i l h = absurd (omega arith)
  leave_args (suc k) n (f ∷ fs) []ᵛ others left e i l h = absurd (omega arith)
  leave_args (suc k) n (f ∷ fs) (a ∷ᵛ taken) others left e i l h = pats (leave_args k n fs taken others left (omega arith) (omega arith) (omega arith) h)

-- one item taken off
un-wild : {is : List Item} {v : Val} {vs us : Vals} → Leaves (put wild ∷ is) (v ∷ᵛ vs) us → Leaves is vs us
un-wild (wilds h) = h

un-lit : {is : List Item} {l : Literal} {v : Val} {vs us : Vals} → Leaves (put (lit l) ∷ is) (v ∷ᵛ vs) us → (literal_fits l v ≡ true) × Leaves is vs us
un-lit (lits e h) = (e, h)

un-con : {is : List Item} {t : Ref} {c : ℕ} {v : Val} {vs us : Vals} → Leaves (put (con t c) ∷ is) (v ∷ᵛ vs) us → (args : Vals) × (v ≡ vcon c args) × Leaves is (args ++ᵛ vs) us
un-con (cons {args = args} h) = (args, refl, h)

un-pat : {is : List Item} {t : Ref} {v : Val} {vs us : Vals} → Leaves (pat t ∷ is) (v ∷ᵛ vs) us → (left : Vals) × (us ≡ v ∷ᵛ left) × Leaves is vs left
un-pat (pats {us = us} h) = (us, refl, h)

opens_at : {p : Raw} {v w : Val} {parts : Vals} → v ≡ w → Opens p w parts → Opens p v parts
opens_at {p} {v} {w} {parts} e o = subst (λ (y : Val). Opens p y parts) (sym e) o

-- values have as many fields as their types say
fields-typed : {table : Table} {t : Ref} {ts : List Ref} {c : ℕ} {args vs : Vals} → HasTypes table (t ∷ ts) (vcon c args ∷ᵛ vs) → HasTypes table (fields_at table t c) args
fields-typed (made l a h) = a

none_left : (vs : Vals) → lengthᵛ vs ≡ 0 → vs ≡ []ᵛ
none_left []ᵛ e = refl
none_left (v ∷ᵛ vs) e = absurd (omega arith)

append_none : (vs : Vals) → vs ++ᵛ []ᵛ ≡ vs
append_none []ᵛ = refl
append_none (v ∷ᵛ vs) = ap (v ∷ᵛ◌) (append_none vs)

length-append : (us vs : Vals) → lengthᵛ (us ++ᵛ vs) ≡ lengthᵛ us + lengthᵛ vs
length-append []ᵛ vs = omega arith
length-append (u ∷ᵛ us) vs = omega (arith, length-append us vs)

two-left : (vs : Vals) → lengthᵛ vs ≡ 2 → (a : Val) × (b : Val) × (vs ≡ a ∷ᵛ b ∷ᵛ []ᵛ)
two-left []ᵛ e = absurd (omega arith)
two-left (a ∷ᵛ []ᵛ) e = absurd (omega arith)
two-left (a ∷ᵛ b ∷ᵛ []ᵛ) e = (a, b, refl)
two-left (a ∷ᵛ b ∷ᵛ c ∷ᵛ vs) e = absurd (omega arith)

module _ (table : Table) where
  -- the fields of a list's two constructors
  list-fields : (t x : Ref) → type_at table t ≡ list x → (fields_at table t 0 ≡ x ∷ t ∷ []) × (fields_at table t 1 ≡ [])
  list-fields t x e = (ap (λ (ty : Ty). fields_of (get_or (ctors_at t ty) 0 (built [] []))) e, ap (λ (ty : Ty). fields_of (get_or (ctors_at t ty) 1 (built [] []))) e)

  -- a cell's fields: an element, and a list of the same type
  cell-fields : {t x : Ref} {ts : List Ref} {args vs : Vals} → type_at table t ≡ list x → HasTypes table (t ∷ ts) (vcon 0 args ∷ᵛ vs) → (a : Val) × (w : Val) × (args ≡ a ∷ᵛ w ∷ᵛ []ᵛ) × HasTypes table (t ∷ []) (w ∷ᵛ []ᵛ)
  cell-fields {t} {x} {args = args} e h =
      let f : HasTypes table (x ∷ t ∷ []) args = subst (λ (fs : List Ref). HasTypes table fs args) (list-fields t x e).0 (fields-typed h) in
      let w = two-left args (types-length f) in
      (w.0, w.1, w.2, tail-typed (subst (HasTypes table (x ∷ t ∷ [])) w.2 f))

  cells_leave : (rest : List Item) (vs : Vals) (t x e : Ref) → type_at table t ≡ list x → (k : ℕ) (tail : Bool) {ts : List Ref} (v : Val) (ws us : Vals) → HasTypes table (t ∷ ts) (v ∷ᵛ ws)
      → Leaves (element_items t e k tail ++ rest) (v ∷ᵛ vs) us → Through (list_of k tail) v rest vs us
  cells_leave rest vs t x e i zero true v ws us h l = let w = un-pat l in record { parts = v ∷ᵛ []ᵛ; left = w.0; opens = Opens.list_of Elements.rest; after = w.2; is = w.1 }
  cells_leave rest vs t x e i zero false {ts} v ws us h l =
      let w = un-con l in
      let f = fields-typed (subst (λ (y : Val). HasTypes table (t ∷ ts) (y ∷ᵛ ws)) w.1 h) in
      let n : w.0 ≡ []ᵛ = none_left w.0 (types-length f ∙ ap length (list-fields t x i).1) in
      record {
        parts = []ᵛ;
        left = us;
        opens = opens_at (w.1 ∙ ap (vcon 1) n) (Opens.list_of Elements.ends);
        after = subst (λ (xs : Vals). Leaves rest (xs ++ᵛ vs) us) n w.2;
        is = refl;
      }
  cells_leave rest vs t x e i (suc k) tail {ts} v ws us h l =
      let w = un-con l in
      let f = cell-fields i (subst (λ (y : Val). HasTypes table (t ∷ ts) (y ∷ᵛ ws)) w.1 h) in
      let m : Leaves (pat e ∷ (element_items t e k tail ++ rest)) (f.0 ∷ᵛ f.1 ∷ᵛ vs) us = subst (λ (xs : Vals). Leaves (pat e ∷ (element_items t e k tail ++ rest)) (xs ++ᵛ vs) us) f.2 w.2 in
      let u = un-pat m in
      let r = cells_leave rest vs t x e i k tail f.1 []ᵛ u.0 f.3 u.2 in
      record {
        parts = f.0 ∷ᵛ r.parts;
        left = r.left;
        opens = opens_at (w.1 ∙ ap (vcon 0) f.2) (one_more f.0 f.1 r.parts r.opens);
        after = r.after;
        is = u.1 ∙ ap (f.0 ∷ᵛ◌) r.is;
      }
    where
      one_more : (a y : Val) (ps : Vals) → Opens (list_of k tail) y ps → Opens (list_of (suc k) tail) (vcon 0 (a ∷ᵛ y ∷ᵛ []ᵛ)) (a ∷ᵛ ps)
      one_more a y ps (Opens.list_of m) = Opens.list_of (Elements.element m)

  leave_cells : (rest : List Item) (vs left : Vals) (t e : Ref) {k : ℕ} {tail : Bool} {v : Val} {parts : Vals} → Elements k tail v parts → Leaves rest vs left → Leaves (element_items t e k tail ++ rest) (v ∷ᵛ vs) (parts ++ᵛ left)
  leave_cells rest vs left t e Elements.ends h = cons h
  leave_cells rest vs left t e Elements.rest h = pats h
  leave_cells rest vs left t e (Elements.element m) h = cons (pats (leave_cells rest vs left t e m h))

  -- what a suited pattern's items leave, and back
  module _ (t : Ref) (ts : List Ref) (rest : List Item) (v : Val) (vs : Vals) (h : HasTypes table (t ∷ ts) (v ∷ᵛ vs)) where
    -- the items are these
    given : (us : Vals) (p : Raw) (is new : List Item) → is ≡ new → (Leaves (is ++ rest) (v ∷ᵛ vs) us → Through p v rest vs us) → Leaves (new ++ rest) (v ∷ᵛ vs) us → Through p v rest vs us
    given us p is new e k l = k (subst (λ (x : List Item). Leaves (x ++ rest) (v ∷ᵛ vs) us) (sym e) l)

    lit-leaves : (us : Vals) (p : Raw) (x : Literal) → (literal_fits x v ≡ true → Opens p v []ᵛ) → Leaves (put (lit x) ∷ rest) (v ∷ᵛ vs) us → Through p v rest vs us
    lit-leaves us p x k l = let w = un-lit l in record { parts = []ᵛ; left = us; opens = k w.0; after = w.1; is = refl }

    fields-count : (c : ℕ) (args : Vals) → v ≡ vcon c args → lengthᵛ args ≡ length (fields_at table t c)
    fields-count c args e = types-length (fields-typed (subst (λ (y : Val). HasTypes table (t ∷ ts) (y ∷ᵛ vs)) e h))

    whole-leaves : (us : Vals) (p : Raw) → ((args : Vals) → v ≡ vcon 0 args → Opens p v args) → Leaves (whole t (fields_at table t 0) ++ rest) (v ∷ᵛ vs) us → Through p v rest vs us
    whole-leaves us p k l =
        let w = un-con l in
        let s = pats_leave rest vs (fields_at table t 0) w.0 us (fields-count 0 w.0 w.1) w.2 in
        record { parts = w.0; left = s.left; opens = k w.0 w.1; after = s.after; is = s.is }

    ctor-leaves : (us : Vals) (c k : ℕ) (spread : Bool) → Enough k (length (fields_at table t c)) spread → k ≤ length (fields_at table t c)
        → Leaves ((put (con t c) ∷ arguments k (fields_at table t c)) ++ rest) (v ∷ᵛ vs) us → Through (constructor c k spread) v rest vs us
    ctor-leaves us c k spread g m l =
        let fs = fields_at table t c in
        let w = un-con l in
        let n = fields-count c w.0 w.1 in
        let s = args_leave rest vs k (length fs - k) fs w.0 us (omega arith) n w.2 in
        record { parts = s.taken; left = s.left; opens = opens_at w.1 (go spread g w.0 s.taken s.others s.cut s.long n); after = s.after; is = s.is }
      where
        go : (b : Bool) → Enough k (length (fields_at table t c)) b → (args taken others : Vals) → args ≡ taken ++ᵛ others → lengthᵛ taken ≡ k → lengthᵛ args ≡ length (fields_at table t c) → Opens (constructor c k b) (vcon c args) taken
        go true x args taken others e i n = Opens.with_spread taken others e i
        go false (Enough.all x) args taken others e i n =
            let z : others ≡ []ᵛ = none_left others (omega (arith, length-append taken others, ap lengthᵛ e)) in
            let q : args ≡ taken = e ∙ ap (taken ++ᵛ◌) z ∙ append_none taken in
            rw q (Opens.constructor i)

    opened-leaves : (us : Vals) (p : Raw) (new : List Item) → opened table t p ≡ some new → Leaves (new ++ rest) (v ∷ᵛ vs) us → Through p v rest vs us
    opened-leaves us discard new e = given us discard (put wild ∷ []) new (cc) (λ l. record { parts = []ᵛ; left = us; opens = Opens.discard; after = un-wild l; is = refl })
    opened-leaves us (variable n) new e = given us (variable n) (put wild ∷ []) new (cc) (λ l. record { parts = []ᵛ; left = us; opens = Opens.variable; after = un-wild l; is = refl })
    opened-leaves us (assign n) new e = given us (assign n) (pat t ∷ []) new (cc) (λ l. let w = un-pat l in record { parts = v ∷ᵛ []ᵛ; left = w.0; opens = Opens.assign; after = w.2; is = w.1 })
    opened-leaves us (integer_of n) new e = given us (integer_of n) (put (lit (int n)) ∷ []) new (suiting-some (eqb (kind (type_at table t)) 0) _ new e).1 (lit-leaves us (integer_of n) (int n) (λ f. rw (literal-is (int n) v f) (Opens.integer_of n)))
    opened-leaves us (byte_string_of s) new e = given us (byte_string_of s) (put (lit (byte_array s)) ∷ []) new (suiting-some (eqb (kind (type_at table t)) 1) _ new e).1 (lit-leaves us (byte_string_of s) (byte_array s) (λ f. rw (literal-is (byte_array s) v f) (Opens.byte_string_of s)))
    opened-leaves us (list_of k tail) new e =
        let is = element_items t (get_or (fields_at table t 0) 0 0) k tail in
        let w = suiting-some (eqb (kind (type_at table t)) 3) is new e in
        given us (list_of k tail) is new w.1 (cells_leave rest vs t _ _ (by_kind 3 (type_at table t) w.0) k tail v vs us h)
    opened-leaves us (constructor c k spread) new e =
        let fs = fields_at table t c in
        let small = eqb (kind (type_at table t)) 6 && ltb c (length (ctors table t)) in
        let w = suiting-some (small && enough k spread fs) (put (con t c) ∷ arguments k fs) new e in
        let a = both small (enough k spread fs) w.0 in
        given us (constructor c k spread) (put (con t c) ∷ arguments k fs) new w.1 (ctor-leaves us c k spread (enough-is k spread fs a.1) (enough_le k spread fs a.1))
    opened-leaves us pair_of new e =
        let w = suiting-some (eqb (kind (type_at table t)) 5) (whole t (fields_at table t 0)) new e in
        given us pair_of (whole t (fields_at table t 0)) new w.1 (whole-leaves us pair_of (two (_, _, by_kind 5 (type_at table t) w.0)))
      where
        two : (a : Ref) × (b : Ref) × (type_at table t ≡ pair a b) → (args : Vals) → v ≡ vcon 0 args → Opens pair_of v args
        two x args i =
            let n : length (fields_at table t 0) ≡ 2 = ap (λ (ty : Ty). length (fields_of (get_or (ctors_at t ty) 0 (built [] [])))) x.2 in
            let u = two-left args (fields-count 0 args i ∙ n) in
            rw (i, u.2) Opens.pair_of
    opened-leaves us (tuple_of k) new e =
        let w = suiting-some (eqb (kind (type_at table t)) 4 && eqb k (length (fields_at table t 0))) (whole t (fields_at table t 0)) new e in
        let a = both (eqb (kind (type_at table t)) 4) (eqb k (length (fields_at table t 0))) w.0 in
        given us (tuple_of k) (whole t (fields_at table t 0)) new w.1 (whole-leaves us (tuple_of k) (λ args i. rw i (Opens.tuple_of (fields-count 0 args i ∙ sym (eqb-true k _ a.1)))))

  -- and back: what the parts leave, the items leave
  module _ (t : Ref) (ts : List Ref) (rest : List Item) (vs left : Vals) (after : Leaves rest vs left) where
    as_given : {v : Val} {us : Vals} (is new : List Item) → is ≡ new → Leaves (is ++ rest) (v ∷ᵛ vs) us → Leaves (new ++ rest) (v ∷ᵛ vs) us
    as_given {v} {us} is new e l = subst (λ (x : List Item). Leaves (x ++ rest) (v ∷ᵛ vs) us) e l

    leaves-whole : (args : Vals) → HasTypes table (t ∷ ts) (vcon 0 args ∷ᵛ vs) → Leaves (whole t (fields_at table t 0) ++ rest) (vcon 0 args ∷ᵛ vs) (args ++ᵛ left)
    leaves-whole args h = cons (leave_pats rest vs (fields_at table t 0) args left (types-length (fields-typed h)) after)

    leaves-ctor : (c k : ℕ) (args taken others : Vals) → args ≡ taken ++ᵛ others → lengthᵛ taken ≡ k → k ≤ length (fields_at table t c) → HasTypes table (t ∷ ts) (vcon c args ∷ᵛ vs)
        → Leaves ((put (con t c) ∷ arguments k (fields_at table t c)) ++ rest) (vcon c args ∷ᵛ vs) (taken ++ᵛ left)
    leaves-ctor c k args taken others e i m h =
        let fs = fields_at table t c in
        let n : lengthᵛ (taken ++ᵛ others) ≡ length fs = sym (ap lengthᵛ e) ∙ types-length (fields-typed h) in
        cons (subst (λ (xs : Vals). Leaves (arguments k fs ++ rest) (xs ++ᵛ vs) (taken ++ᵛ left)) (sym e) (leave_args rest vs k (length fs - k) fs taken others left (omega arith) n i after))

    leaves-opened : {p : Raw} {v : Val} {parts : Vals} (new : List Item) → opened table t p ≡ some new → HasTypes table (t ∷ ts) (v ∷ᵛ vs) → Opens p v parts → Leaves (new ++ rest) (v ∷ᵛ vs) (parts ++ᵛ left)
    leaves-opened new e h Opens.discard = as_given (put wild ∷ []) new (cc) (wilds after)
    leaves-opened new e h Opens.variable = as_given (put wild ∷ []) new (cc) (wilds after)
    leaves-opened new e h Opens.assign = as_given (pat t ∷ []) new (cc) (pats after)
    leaves-opened new e h (Opens.integer_of n) = as_given (put (lit (int n)) ∷ []) new (suiting-some (eqb (kind (type_at table t)) 0) _ new e).1 (lits (literal_self (int n)) after)
    leaves-opened new e h (Opens.byte_string_of s) = as_given (put (lit (byte_array s)) ∷ []) new (suiting-some (eqb (kind (type_at table t)) 1) _ new e).1 (lits (literal_self (byte_array s)) after)
    leaves-opened new e h (Opens.list_of {k = k} {tail = tail} m) =
        as_given (element_items t (get_or (fields_at table t 0) 0 0) k tail) new (suiting-some (eqb (kind (type_at table t)) 3) _ new e).1 (leave_cells rest vs left t (get_or (fields_at table t 0) 0 0) m after)
    leaves-opened new e h (Opens.constructor {c = c} {k = k} {us = us} i) =
        let fs = fields_at table t c in
        let w = suiting-some (eqb (kind (type_at table t)) 6 && ltb c (length (ctors table t)) && enough k false fs) (put (con t c) ∷ arguments k fs) new e in
        let a = both (eqb (kind (type_at table t)) 6 && ltb c (length (ctors table t))) (enough k false fs) w.0 in
        as_given (put (con t c) ∷ arguments k fs) new w.1 (leaves-ctor c k us us []ᵛ (sym (append_none us)) i (enough_le k false fs a.1) h)
    leaves-opened new e h (Opens.with_spread {c = c} {k = k} {fields = fields} us others j i) =
        let fs = fields_at table t c in
        let w = suiting-some (eqb (kind (type_at table t)) 6 && ltb c (length (ctors table t)) && enough k true fs) (put (con t c) ∷ arguments k fs) new e in
        let a = both (eqb (kind (type_at table t)) 6 && ltb c (length (ctors table t))) (enough k true fs) w.0 in
        as_given (put (con t c) ∷ arguments k fs) new w.1 (leaves-ctor c k fields us others j i (enough_le k true fs a.1) h)
    leaves-opened new e h (Opens.pair_of {v = v} {w = w}) = as_given (whole t (fields_at table t 0)) new (suiting-some (eqb (kind (type_at table t)) 5) _ new e).1 (leaves-whole (v ∷ᵛ w ∷ᵛ []ᵛ) h)
    leaves-opened new e h (Opens.tuple_of {k = k} {us = us} i) =
        as_given (whole t (fields_at table t 0)) new (suiting-some (eqb (kind (type_at table t)) 4 && eqb k (length (fields_at table t 0))) _ new e).1 (leaves-whole us h)

  -- the items, with the patterns ps, take the row vs
  record Found (is : List Item) (ps : List Raw) (vs : Vals) : Type 0 where
    left : Vals
    leaves : Leaves is vs left
    takes : TakesEach ps left

  -- a row q says what the items and the patterns take
  record Right (is : List Item) (ps : List Raw) (q : Row) (vs : Vals) : Type 0 where
    to : fits q vs ≡ true → Found is ps vs
    back : Found is ps vs → fits q vs ≡ true

  map-some : (n : Node) (o : Option Row) (r : Row) → Option.map (n ∷◌) o ≡ some r → (q : Row) × (o ≡ some q) × (r ≡ n ∷ q)
  map-some n none r e = clash (cc)
  map-some n (some q) r e = (q, refl, cc)

  module _ (q : Row) (is : List Item) (ps : List Raw) (k : (us : List Ref) (ws : Vals) → Fit table us is → HasTypes table us ws → Right is ps q ws) where
    con-typed : {t : Ref} {ts : List Ref} {c : ℕ} {args vs : Vals} → HasTypes table (t ∷ ts) (vcon c args ∷ᵛ vs) → HasTypes table (fields_at table t c ++ ts) (args ++ᵛ vs)
    con-typed h = types_append (fields-typed h) (tail-typed h)

    node-to : {n : Node} {ts : List Ref} (ws : Vals) → HasTypes table ts ws → Fit table ts (put n ∷ is) → fits (n ∷ q) ws ≡ true → Found (put n ∷ is) ps ws
    node-to []ᵛ a b e = clash (cc)
    node-to (v ∷ᵛ vs) a (Fit.wilds g) e = let r = (k _ vs g (tail-typed a)).to e in record { left = r.left; leaves = wilds r.leaves; takes = r.takes }
    node-to (v ∷ᵛ vs) a (Fit.lits {l = l} i g) e =
        let w = both (literal_fits l v) (fits q vs) e in
        let r = (k _ vs g (tail-typed a)).to w.1 in
        record { left = r.left; leaves = lits w.0 r.leaves; takes = r.takes }
    node-to (vint n ∷ᵛ vs) a (Fit.cons {c = c} i g) e = clash (cc)
    node-to (vbytes n ∷ᵛ vs) a (Fit.cons {c = c} i g) e = clash (cc)
    node-to (vopaque n ∷ᵛ vs) a (Fit.cons {c = c} i g) e = clash (cc)
    node-to (vcon d args ∷ᵛ vs) a (Fit.cons {t = t} {ts = ts} {c = c} i g) e =
        let w = both (eqb c d) (fits q (args ++ᵛ vs)) e in
        let j : c ≡ d = eqb-true c d w.0 in
        let h : HasTypes table (t ∷ ts) (vcon c args ∷ᵛ vs) = subst (λ (x : ℕ). HasTypes table (t ∷ ts) (vcon x args ∷ᵛ vs)) (sym j) a in
        let r = (k _ (args ++ᵛ vs) g (con-typed h)).to w.1 in
        subst (λ (x : ℕ). Found (put (con t c) ∷ is) ps (vcon x args ∷ᵛ vs)) j (record { left = r.left; leaves = cons r.leaves; takes = r.takes })

    node-back : {n : Node} {ts : List Ref} {ws left : Vals} → HasTypes table ts ws → Fit table ts (put n ∷ is) → Leaves (put n ∷ is) ws left → TakesEach ps left → fits (n ∷ q) ws ≡ true
    node-back a (Fit.wilds g) (wilds {vs = vs} l) x = (k _ vs g (tail-typed a)).back (record { left = _; leaves = l; takes = x })
    node-back a (Fit.lits i g) (lits {vs = vs} e l) x = and-true e ((k _ vs g (tail-typed a)).back (record { left = _; leaves = l; takes = x }))
    node-back a (Fit.cons i g) (cons {c = c} {args = args} {vs = vs} l) x = and-true (eq-eqb c c refl) ((k _ (args ++ᵛ vs) g (con-typed a)).back (record { left = _; leaves = l; takes = x }))

    node-right : (n : Node) {ts : List Ref} (vs : Vals) → Fit table ts (put n ∷ is) → HasTypes table ts vs → Right (put n ∷ is) ps (n ∷ q) vs
    node-right n vs f h = record { to = node-to vs h f; back = λ x. node-back h f x.leaves x.takes }

  -- no pattern is left
  all_put-right : (is : List Item) (r : Row) {ts : List Ref} (vs : Vals) → Fit table ts is → HasTypes table ts vs → all_put is ≡ some r → Right is [] r vs
  all_put-right [] r vs f h e = let i : [] ≡ r = cc in rw (← i) (record { to = to vs; back = λ x. back x.leaves })
    where
      to : (ws : Vals) → fits [] ws ≡ true → Found [] [] ws
      to []ᵛ g = record { left = []ᵛ; leaves = empty; takes = TakesEach.none }
      to (w ∷ᵛ ws) g = clash (cc)

      back : {ws left : Vals} → Leaves [] ws left → fits [] ws ≡ true
      back empty = refl
  all_put-right (put n ∷ is) r vs f h e =
      let w = map-some n (all_put is) r e in
      subst (λ (x : Row). Right (put n ∷ is) [] x vs) (sym w.2) (node-right w.0 is [] (λ us ws g i. all_put-right is w.0 ws g i w.1) n vs f h)
  all_put-right (pat t ∷ is) r vs f h e = clash (cc)

  putting-right : (go : Ref → List Item → Option Row) (ps : List Raw)
      → ((t : Ref) (rest : List Item) (ts : List Ref) (q : Row) (vs : Vals) → Fit table ts rest → HasTypes table (t ∷ ts) vs → go t rest ≡ some q → Right (pat t ∷ rest) ps q vs)
      → (is : List Item) (r : Row) {ts : List Ref} (vs : Vals) → Fit table ts is → HasTypes table ts vs → putting is go ≡ some r → Right is ps r vs
  putting-right go ps k [] r vs f h e = clash (cc)
  putting-right go ps k (put n ∷ is) r vs f h e =
      let w = map-some n (putting is go) r e in
      subst (λ (x : Row). Right (put n ∷ is) ps x vs) (sym w.2) (node-right w.0 is ps (λ us ws g i. putting-right go ps k is w.0 ws g i w.1) n vs f h)
  putting-right go ps k (pat t ∷ is) r vs (Fit.pats f) h e = k t is _ r vs f h e

  -- one pattern is read
  read_right : (t : Ref) (rest : List Item) (ts : List Ref) (p : Raw) (ps : List Raw) (q : Row) (vs : Vals) (new : List Item) → opened table t p ≡ some new → HasTypes table (t ∷ ts) vs → Right (new ++ rest) ps q vs → Right (pat t ∷ rest) (p ∷ ps) q vs
  read_right t rest ts p ps q vs new e h r = record { to = λ g. to vs h (r.to g); back = λ x. r.back (back h x.leaves x.takes) }
    where
      to : (ws : Vals) → HasTypes table (t ∷ ts) ws → Found (new ++ rest) ps ws → Found (pat t ∷ rest) (p ∷ ps) ws
      to []ᵛ a x = elim a [ ]
      to (v ∷ᵛ ws) a x =
          let o = opened-leaves t ts rest v ws a x.left p new e x.leaves in
          record { left = v ∷ᵛ o.left; leaves = pats o.after; takes = TakesEach.also o.opens (subst (TakesEach ps) o.is x.takes) }

      back : {ws left : Vals} → HasTypes table (t ∷ ts) ws → Leaves (pat t ∷ rest) ws left → TakesEach (p ∷ ps) left → Found (new ++ rest) ps ws
      back a (pats {vs = ws} {us = us} l) (TakesEach.also {us = parts} o x) = record { left = parts ++ᵛ us; leaves = leaves-opened t ts rest ws us l new e a o; takes = x }

  simplified-right : (ps : List Raw) (is : List Item) (r : Row) {ts : List Ref} (vs : Vals) → Fit table ts is → HasTypes table ts vs → simplified table is ps ≡ some r → Right is ps r vs
  unfolding simplified
  simplified-right [] is r vs f h e = all_put-right is r vs f h e
  simplified-right (p ∷ ps) is r vs f h e =
      putting-right (λ t rest. opened table t p >>= λ new. simplified table (new ++ rest) ps) (p ∷ ps)
      (λ t rest ts q ws g i j. next t rest ts q ws g i (λ js s us xs a b c. simplified-right ps js s {ts = us} xs a b c) (opened table t p) refl j) is r vs f h e
    where
      next : (t : Ref) (rest : List Item) (ts : List Ref) (q : Row) (ws : Vals) → Fit table ts rest → HasTypes table (t ∷ ts) ws
          → ((js : List Item) (s : Row) (us : List Ref) (xs : Vals) → Fit table us js → HasTypes table us xs → simplified table js ps ≡ some s → Right js ps s xs)
          → (o : Option (List Item)) → opened table t p ≡ o → (o >>= λ new. simplified table (new ++ rest) ps) ≡ some q → Right (pat t ∷ rest) (p ∷ ps) q ws
      next t rest ts q ws g i deeper none x j = clash (cc)
      next t rest ts q ws g i deeper (some new) x j = read_right t rest ts p ps q ws new x i (deeper (new ++ rest) q (t ∷ ts) ws (opened-fits table rest ts g t p new x) i j)

-- a clause that became a row takes what the row fits
pub fits-written : (table : Table) (t : Ref) (ps : List Raw) (r : Row) (v : Val) → simplify table t ps ≡ some r → HasTypes table (t ∷ []) (v ∷ᵛ []ᵛ) → (fits r (v ∷ᵛ []ᵛ) ≡ true) ↔ Takes ps v
unfolding simplify
fits-written table t ps r v e h = (λ g. one (w.to g).leaves (w.to g).takes, λ x. w.back (record { left = v ∷ᵛ []ᵛ; leaves = pats empty; takes = x }))
  where
    w : Right table (pat t ∷ []) ps r (v ∷ᵛ []ᵛ)
    w = simplified-right table ps (pat t ∷ []) r (v ∷ᵛ []ᵛ) (Fit.pats Fit.done) h e

    one : {left : Vals} → Leaves (pat t ∷ []) (v ∷ᵛ []ᵛ) left → TakesEach ps left → Takes ps v
    one (pats empty) x = x

-- so every clause that suits its type becomes a row that fits what it takes
pub fits-suited : (table : Table) (t : Ref) (ps : List Raw) → Suits table (t ∷ []) ps
    → (r : Row) × (simplify table t ps ≡ some r) × ((v : Val) → HasTypes table (t ∷ []) (v ∷ᵛ []ᵛ) → (fits r (v ∷ᵛ []ᵛ) ≡ true) ↔ Takes ps v)
fits-suited table t ps h = let s = suits-simplify table t ps h in (s.0, s.1, λ v g. fits-written table t ps s.0 v s.1 g)
