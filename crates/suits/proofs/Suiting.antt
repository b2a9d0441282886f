-- The answer of `suits` means what `opened` makes of the pattern: from the table's shape in the slices, kind by kind.
use mathlib.Core.Path.{◌≡◌, refl, sym, ap, ◌∙◌}
use mathlib.Core.Bool.{Bool, true, false, cond, ◌&&◌, ◌||◌}
use mathlib.Core.Logic.{◌⊎◌, inl, inr}
use mathlib.Core.List.{List, [], ◌∷◌, map, append-nil}
use mathlib.Core.Option.{Option, none, some}
use Prim.Native.Nat.{ℕ, zero, suc, ◌+◌, ◌*◌, ◌-◌, ◌%◌, ◌≤◌, ◌<◌}
use native.Mathlib.Omega.{arith}
use lib.ListN.{length, get_or}
use lib.Seq.{take_all}
use lib.Dec.{ltb, leb, eqb}
use borrow.Author.Tests.{ltb-true, leb-true, eqb-true, eq-eqb}
use Rattle.std.specs.Prelude.{Result, Ok, Err}
use Rattle.scope.proofs.Tests.{both}
use Rattle.scope.specs.Lists.{bit}
use Rattle.scope.specs.Types.{Ref, Table, type_at, kind}
use Rattle.scope.specs.Constructors.{ctors, fields_at, arity}
use Rattle.scope.specs.Patterns.{Raw, pair_of, integer_of, byte_string_of, list_of, constructor, tuple_of, inner}
use Rattle.scope.specs.Simplify.{Literal, int, byte_array, Node, lit, con, Item, put, pat, suiting, element_items, enough, arguments, whole, opened}
use Rattle.layout.specs.Types.{text_at, Shape}
use Rattle.layout.specs.Nodes.{literal_at, node_of, places_in}
use Rattle.nodes.specs.Keys.{literal_key}
use Rattle.rules.specs.Kinds.{suits_kind}
use Rattle.nodes.proofs.Runs.{plain-one}
use Rattle.nodes.proofs.Numbers.{literal-place, literal-node}
use Rattle.suits.specs.Raws.{raw_at, size_at, own_place}
use Rattle.suits.specs.Suits.{unsuited, on_kind, filled_by, args_of, form_of, suit_at, meant, Sound}
use Rattle.suits.specs.declared.Unsuited.{Unsuited}
use Rattle.suits.specs.declared.Suit.{Suit}
use Rattle.suits.specs.declared.Suit.TheVariants.{Leaf, Again, Cells, Args}
use Rattle.suits.proofs.Facts.{pair_facts, tuple_facts}

-- how many patterns an answer reads; a literal has its own place, kind and length
abbrev pub Counted : List ℕ → ℕ → Result Suit Unsuited → Raw → Type 0
Counted bytes at (Ok (Leaf n)) p = (inner p ≡ 0) × (places_in (n ∷ []) ≡ own_place (at % 32768) p) × (32768 ≤ n → (n ≡ literal_key at) × (size_at bytes at ≡ 2 + get_or bytes (at + 1) 0) × ((get_or bytes at 0 ≡ 3) ⊎ (get_or bytes at 0 ≡ 4)))
Counted bytes at (Ok Again) p = (inner p ≡ 1) × (own_place at p ≡ [])
Counted bytes at (Ok (Cells k tail)) p = (inner p ≡ k + bit tail) × (own_place at p ≡ [])
Counted bytes at (Ok (Args c k w)) p = (inner p ≡ k) × (own_place at p ≡ [])
Counted bytes at (Err e) p = Unit {0}

module _ (bytes kinds counts arities : List ℕ) (at t : ℕ) where
  on-kind : (ok : Bool) (s : Result Suit Unsuited) (p : Raw) → Counted bytes at s p → Counted bytes at (on_kind ok s) p
  on-kind true s p h = h
  on-kind false s p h = tt

  args-counted : (c k : ℕ) (spread : Bool) (p : Raw) → inner p ≡ k → own_place at p ≡ [] → Counted bytes at (args_of counts arities t c k spread) p
  unfolding args_of filled_by
  args-counted c k spread p e o = go (ltb c (get_or counts t 0)) (eqb k n || (spread && leb k n))
    where
      n : ℕ
      n = get_or arities (32 * t + c) 0

      go : (a b : Bool) → Counted bytes at (cond a (cond b (Ok (Args c k (n - k))) unsuited) unsuited) p
      go true true = (e, o)
      go true false = tt
      go false b = tt

  -- of the pattern's own bytes
  pub counted : Counted bytes at (suit_at bytes at kinds counts arities t) (raw_at bytes at)
  unfolding suit_at form_of suits_kind raw_at size_at
  counted = go (get_or bytes at 0) refl
    where
      go : (w : ℕ) → get_or bytes at 0 ≡ w → Counted bytes at (suit_at bytes at kinds counts arities t) (raw_at bytes at)
      go zero e = rw e (refl, plain-one 0 (omega arith), λ h. absurd (omega arith))
      go (suc zero) e = rw e (refl, plain-one 0 (omega arith), λ h. absurd (omega arith))
      go (suc (suc zero)) e = rw e (refl, refl)
      go (suc (suc (suc zero))) e = rw e (on-kind (eqb (get_or kinds t 0) 0) (Ok (Leaf (literal_key at))) (integer_of (text_at bytes (suc at))) (refl, literal-place at, λ h. (refl, rw e refl, inl e)))
      go (suc (suc (suc (suc zero)))) e = rw e (on-kind (eqb (get_or kinds t 0) 1) (Ok (Leaf (literal_key at))) (byte_string_of (text_at bytes (suc at))) (refl, literal-place at, λ h. (refl, rw e refl, inr e)))
      go (suc (suc (suc (suc (suc zero))))) e = rw e (on-kind (eqb (get_or kinds t 0) 3) (Ok (Cells (get_or bytes (at + 1) 0) (eqb (get_or bytes (at + 2) 0) 1))) (list_of (get_or bytes (at + 1) 0) (eqb (get_or bytes (at + 2) 0) 1)) (refl, refl))
      go (suc (suc (suc (suc (suc (suc zero)))))) e =
          let p = constructor (get_or bytes (at + 1) 0) (get_or bytes (at + 2) 0) (eqb (get_or bytes (at + 3) 0) 1) in
          rw e (on-kind (eqb (get_or kinds t 0) 6) (args_of counts arities t (get_or bytes (at + 1) 0) (get_or bytes (at + 2) 0) (eqb (get_or bytes (at + 3) 0) 1)) p (args-counted (get_or bytes (at + 1) 0) (get_or bytes (at + 2) 0) (eqb (get_or bytes (at + 3) 0) 1) p refl refl))
      go (suc (suc (suc (suc (suc (suc (suc zero))))))) e = rw e (on-kind (eqb (get_or kinds t 0) 5) (args_of counts arities t 0 2 false) pair_of (args-counted 0 2 false pair_of refl refl))
      go (suc (suc (suc (suc (suc (suc (suc (suc x)))))))) e = rw e (on-kind (eqb (get_or kinds t 0) 4) (args_of counts arities t 0 (get_or bytes (at + 1) 0) false) (tuple_of (get_or bytes (at + 1) 0)) (args-counted 0 (get_or bytes (at + 1) 0) false (tuple_of (get_or bytes (at + 1) 0)) refl refl))

-- all arguments and no wildcard
all-arguments : (t : Ref) (k : ℕ) (fields : List Ref) → k ≡ length fields → (put (con t 0) ∷ arguments k fields) ≡ whole t fields
all-arguments t k fields e =
    let z : length fields - k ≡ 0 = omega arith in
    rw (z, take_all k fields (omega arith), append-nil (map pat fields))

module _ (bytes kinds counts arities : List ℕ) (at t : ℕ) (table : Table) (shape : Shape kinds counts arities table) (here : t < length table) (low : at < 32768) where
  -- an answer and what a pattern becomes
  record Agree (s : Result Suit Unsuited) (o : Option (List Item)) : Type 0 where
    is : meant table bytes t s ≡ o
    sound : Sound table t s

  when_kind : (k : ℕ) (s : Result Suit Unsuited) (o : Option (List Item)) → (kind (type_at table t) ≡ k → Agree s o) → (eqb (kind (type_at table t)) k ≡ false → none ≡ o) → Agree (on_kind (eqb (get_or kinds t 0) k) s) o
  when_kind k s o f g = rw (shape.kind_at t here) (go (eqb (kind (type_at table t)) k) refl)
    where
      go : (b : Bool) → eqb (kind (type_at table t)) k ≡ b → Agree (on_kind b s) o
      go true e = f (eqb-true (kind (type_at table t)) k e)
      go false e = record { is = g e; sound = tt }

  enough_le : (k : ℕ) (spread : Bool) (n : ℕ) → (eqb k n || (spread && leb k n)) ≡ true → k ≤ n
  enough_le k spread n h = go (eqb k n) refl h
    where
      go : (b : Bool) → eqb k n ≡ b → (b || (spread && leb k n)) ≡ true → k ≤ n
      go true e g = omega (arith, eqb-true k n e)
      go false e g = leb-true k n (both spread (leb k n) g).1

  -- constructor c with k arguments
  args-agree : (c k : ℕ) (spread : Bool) → Agree (args_of counts arities t c k spread) (suiting (ltb c (length (ctors table t)) && enough k spread (fields_at table t c)) (put (con t c) ∷ arguments k (fields_at table t c)))
  unfolding args_of filled_by
  args-agree c k spread = rw (shape.count_at t here) (go (ltb c (length (ctors table t))) refl)
    where
      go : (a : Bool) → ltb c (length (ctors table t)) ≡ a → Agree (cond a (filled_by c k spread (get_or arities (32 * t + c) 0)) unsuited) (suiting (a && enough k spread (fields_at table t c)) (put (con t c) ∷ arguments k (fields_at table t c)))
      go false e = record { is = refl; sound = tt }
      go true e = rw (shape.arity_at t c here (ltb-true c (length (ctors table t)) e)) (in_all (enough k spread (fields_at table t c)) refl)
        where
          in_all : (b : Bool) → enough k spread (fields_at table t c) ≡ b → Agree (cond b (Ok (Args c k (arity table t c - k))) unsuited) (suiting b (put (con t c) ∷ arguments k (fields_at table t c)))
          in_all true i = record { is = refl; sound = (ltb-true c (length (ctors table t)) e, omega (arith, enough_le k spread (arity table t c) i)) }
          in_all false i = record { is = refl; sound = tt }

  suiting-false : (b : Bool) (is : List Item) → b ≡ false → none ≡ suiting b is
  suiting-false b is e = rw e

  suiting-left : (a b : Bool) (is : List Item) → a ≡ false → none ≡ suiting (a && b) is
  suiting-left a b is e = rw e

  literal-agree : (k : ℕ) (l : Literal) → literal_at bytes at ≡ l → Agree (on_kind (eqb (get_or kinds t 0) k) (Ok (Leaf (literal_key at)))) (suiting (eqb (kind (type_at table t)) k) (put (lit l) ∷ []))
  literal-agree k l e =
      when_kind k (Ok (Leaf (literal_key at))) (suiting (eqb (kind (type_at table t)) k) (put (lit l) ∷ []))
      (λ h. record { is = rw (eq-eqb (kind (type_at table t)) k h) (ap (λ (x : Node). some (put x ∷ [])) (literal-node bytes at low ∙ ap lit e)); sound = tt })
      (λ h. suiting-false (eqb (kind (type_at table t)) k) (put (lit l) ∷ []) h)

  list-agree : (k : ℕ) (tail : Bool) → Agree (on_kind (eqb (get_or kinds t 0) 3) (Ok (Cells k tail))) (opened table t (list_of k tail))
  list-agree k tail =
      let is = element_items t (get_or (fields_at table t 0) 0 0) k tail in
      when_kind 3 (Ok (Cells k tail)) (suiting (eqb (kind (type_at table t)) 3) is)
      (λ h. record { is = rw (eq-eqb (kind (type_at table t)) 3 h); sound = h })
      (λ h. suiting-false (eqb (kind (type_at table t)) 3) is h)

  ctor-agree : (c k : ℕ) (spread : Bool) → Agree (on_kind (eqb (get_or kinds t 0) 6) (args_of counts arities t c k spread)) (opened table t (constructor c k spread))
  ctor-agree c k spread =
      when_kind 6 (args_of counts arities t c k spread) (opened table t (constructor c k spread))
      (λ h. rw (eq-eqb (kind (type_at table t)) 6 h) (args-agree c k spread))
      (λ h. rw h refl)

  -- a pair or a tuple, whose one constructor has k fields
  one-agree : (k : ℕ) (full : Bool) → length (ctors table t) ≡ 1 → eqb k (arity table t 0) ≡ full → Agree (args_of counts arities t 0 k false) (suiting full (whole t (fields_at table t 0)))
  one-agree k full n e = go full e
    where
      a : Agree (args_of counts arities t 0 k false) (suiting (ltb 0 (length (ctors table t)) && enough k false (fields_at table t 0)) (put (con t 0) ∷ arguments k (fields_at table t 0)))
      a = args-agree 0 k false

      go : (b : Bool) → eqb k (arity table t 0) ≡ b → Agree (args_of counts arities t 0 k false) (suiting b (whole t (fields_at table t 0)))
      go true i = record { is = a.is ∙ rw (n, i) (ap some (all-arguments t k (fields_at table t 0) (eqb-true k (arity table t 0) i))); sound = a.sound }
      go false i = record { is = a.is ∙ rw (n, i) refl; sound = a.sound }

  pair-agree : Agree (on_kind (eqb (get_or kinds t 0) 5) (args_of counts arities t 0 2 false)) (opened table t pair_of)
  pair-agree =
      when_kind 5 (args_of counts arities t 0 2 false) (suiting (eqb (kind (type_at table t)) 5) (whole t (fields_at table t 0)))
      (λ h. let f = pair_facts t (type_at table t) h in rw (eq-eqb (kind (type_at table t)) 5 h) (one-agree 2 true f.0 (eq-eqb 2 (arity table t 0) (sym f.1))))
      (λ h. suiting-false (eqb (kind (type_at table t)) 5) (whole t (fields_at table t 0)) h)

  tuple-agree : (k : ℕ) → Agree (on_kind (eqb (get_or kinds t 0) 4) (args_of counts arities t 0 k false)) (opened table t (tuple_of k))
  tuple-agree k =
      when_kind 4 (args_of counts arities t 0 k false) (suiting (eqb (kind (type_at table t)) 4 && eqb k (arity table t 0)) (whole t (fields_at table t 0)))
      (λ h. rw (eq-eqb (kind (type_at table t)) 4 h) (one-agree k (eqb k (arity table t 0)) (tuple_facts t (type_at table t) h) refl))
      (λ h. suiting-left (eqb (kind (type_at table t)) 4) (eqb k (arity table t 0)) (whole t (fields_at table t 0)) h)

  number_is : get_or bytes at 0 ≡ 3 → literal_at bytes at ≡ int (text_at bytes (suc at))
  unfolding literal_at
  number_is e = rw e

  string_is : get_or bytes at 0 ≡ 4 → literal_at bytes at ≡ byte_array (text_at bytes (suc at))
  unfolding literal_at
  string_is e = rw e

  every-agree : Agree (suit_at bytes at kinds counts arities t) (opened table t (raw_at bytes at))
  unfolding suit_at form_of suits_kind raw_at node_of
  every-agree = go (get_or bytes at 0) refl
    where
      go : (w : ℕ) → get_or bytes at 0 ≡ w → Agree (suit_at bytes at kinds counts arities t) (opened table t (raw_at bytes at))
      go zero e = rw e (record { is = refl; sound = tt })
      go (suc zero) e = rw e (record { is = refl; sound = tt })
      go (suc (suc zero)) e = rw e (record { is = refl; sound = tt })
      go (suc (suc (suc zero))) e = rw e (literal-agree 0 (int (text_at bytes (suc at))) (number_is e))
      go (suc (suc (suc (suc zero)))) e = rw e (literal-agree 1 (byte_array (text_at bytes (suc at))) (string_is e))
      go (suc (suc (suc (suc (suc zero))))) e = rw e (list-agree (get_or bytes (at + 1) 0) (eqb (get_or bytes (at + 2) 0) 1))
      go (suc (suc (suc (suc (suc (suc zero)))))) e = rw e (ctor-agree (get_or bytes (at + 1) 0) (get_or bytes (at + 2) 0) (eqb (get_or bytes (at + 3) 0) 1))
      go (suc (suc (suc (suc (suc (suc (suc zero))))))) e = rw e pair-agree
      go (suc (suc (suc (suc (suc (suc (suc (suc x)))))))) e = rw e (tuple-agree (get_or bytes (at + 1) 0))

  -- the pattern at a place
  pub agree : (meant table bytes t (suit_at bytes at kinds counts arities t) ≡ opened table t (raw_at bytes at)) × Sound table t (suit_at bytes at kinds counts arities t)
  agree = (every-agree.is, every-agree.sound)
