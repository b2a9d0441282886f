-- The one-step law of `pretty` and `pretty_tail`: each is one step whose calls are the two themselves. No law mentions fuel.
use mathlib.Core.Path.{◌≡◌, refl, ap, ap₂, sym, ◌∙◌}
use mathlib.Core.List.{List, [], ◌∷◌, ◌++◌}
use Prim.Native.Nat.{ℕ, zero, suc, ◌+◌, ◌≤◌}
use native.Mathlib.Omega.{arith}
use lib.ListN.{length}
use Rattle.scope.specs.Lists.{Text, bytes}
use Rattle.scope.specs.Types.{Table}
use Rattle.scope.specs.Constructors.{arity, ctor_at}
use Rattle.scope.specs.Simplify.{wild, lit, con, Row}
use Rattle.scope.specs.Text.{commas, skip, Look, round, square, spelled, look, Mode, Place, alone, in_tail, texts, field_text, field_texts, argument_text, after_first, after_next, pretty_ctor, tail_ctor, pretty_step, pretty_in, pretty_at}

skip-shorter : (table : Table) (r : Row) (n : ℕ) → length (skip table r n) ≤ length r
skip-shorter table [] n = omega arith
skip-shorter table (x ∷ r) zero = omega arith
skip-shorter table (wild ∷ r) (suc n) = omega (arith, skip-shorter table r n)
skip-shorter table (lit l ∷ r) (suc n) = omega (arith, skip-shorter table r n)
skip-shorter table (con t c ∷ r) (suc n) = omega (arith, skip-shorter table r (arity table t c + n))

module _ (mode : Mode) (table : Table) (f g : Place → Row → Text) where
  -- f and g agree on rows of at most n nodes
  abbrev Agree : ℕ → Type 0
  Agree n = (place : Place) (r : Row) → length r ≤ n → f place r ≡ g place r

  texts-agree : (n : ℕ) (r : Row) → Agree (length r) → texts mode table f n r ≡ texts mode table g n r
  texts-agree zero r h = refl
  texts-agree (suc n) r h = rw (h alone r (omega arith), texts-agree n (skip table r 1) (λ place q l. h place q (omega (arith, skip-shorter table r 1))))

  field-agrees : (label : Text) (r : Row) → Agree (length r) → field_text mode table f label r ≡ field_text mode table g label r
  field-agrees label [] h = refl
  field-agrees label (wild ∷ r) h = refl
  field-agrees label (lit l ∷ r) h = rw (h alone (lit l ∷ r) (omega arith))
  field-agrees label (con t c ∷ r) h = rw (h alone (con t c ∷ r) (omega arith))

  fields-agree : (labels : List Text) (r : Row) → Agree (length r) → field_texts mode table f labels r ≡ field_texts mode table g labels r
  fields-agree [] r h = refl
  fields-agree (label ∷ labels) r h = rw (field-agrees label r h, fields-agree labels (skip table r 1) (λ place q l. h place q (omega (arith, skip-shorter table r 1))))

  arguments-agree : (labels : List Text) (n : ℕ) (r : Row) → Agree (length r) → argument_text mode table f labels n r ≡ argument_text mode table g labels n r
  arguments-agree [] zero r h = refl
  arguments-agree [] (suc n) r h = ap (λ ts. bytes "(" ++ commas ts ++ bytes ")") (texts-agree (suc n) r h)
  arguments-agree (label ∷ labels) n r h = ap (λ ts. bytes " { " ++ commas ts ++ bytes " }") (fields-agree (label ∷ labels) r h)

  ctor-agrees : (k : Look) (t c : ℕ) (r : Row) → Agree (length r) → pretty_ctor mode table f k t c r ≡ pretty_ctor mode table g k t c r
  ctor-agrees round t c r h = rw (texts-agree (arity table t c) r h)
  ctor-agrees square t c r h =
      ap₂
      (λ (x y : Text). bytes "[" ++ commas (x ∷ after_first mode table (skip table r 1) y) ++ bytes "]")
      (h alone r (omega arith))
      (h in_tail (skip table r 1) (skip-shorter table r 1))
  ctor-agrees spelled t c r h = rw (arguments-agree (ctor_at table t c).labels (arity table t c) r h)

  tail-agrees : (k : Look) (t c : ℕ) (r : Row) → Agree (length r) → tail_ctor mode table f k t c r ≡ tail_ctor mode table g k t c r
  tail-agrees round t c r h = ctor-agrees round t c r h
  tail-agrees square t c r h =
      ap₂
      (λ (x y : Text). commas (x ∷ after_next mode table (skip table r 1) y))
      (h alone r (omega arith))
      (h in_tail (skip table r 1) (skip-shorter table r 1))
  tail-agrees spelled t c r h = ctor-agrees spelled t c r h

  -- a step asks only about shorter rows
  pretty-agrees : (n : ℕ) → Agree n → (place : Place) (r : Row) → length r ≤ suc n → pretty_step mode table f place r ≡ pretty_step mode table g place r
  unfolding pretty_step
  pretty-agrees n h alone [] l = refl
  pretty-agrees n h alone (wild ∷ r) l = refl
  pretty-agrees n h alone (lit x ∷ r) l = refl
  pretty-agrees n h alone (con t c ∷ r) l = ctor-agrees (look mode table t c) t c r (λ place q k. h place q (omega arith))
  pretty-agrees n h in_tail [] l = refl
  pretty-agrees n h in_tail (wild ∷ r) l = refl
  pretty-agrees n h in_tail (lit x ∷ r) l = refl
  pretty-agrees n h in_tail (con t c ∷ r) l = tail-agrees (look mode table t c) t c r (λ place q k. h place q (omega arith))

pretty-nil : (mode : Mode) (table : Table) (f : Place → Row → Text) (place : Place) → pretty_step mode table f place [] ≡ []
unfolding pretty_step
pretty-nil mode table f alone = refl
pretty-nil mode table f in_tail = refl

pretty_fuel : (mode : Mode) (table : Table) (k j : ℕ) (place : Place) (r : Row) → length r ≤ k → length r ≤ j → pretty_in mode table k place r ≡ pretty_in mode table j place r
unfolding pretty_in
pretty_fuel mode table zero zero place r h i = refl
pretty_fuel mode table zero (suc j) place [] h i = sym (pretty-nil mode table (pretty_in mode table j) place)
pretty_fuel mode table zero (suc j) place (x ∷ r) h i = absurd (omega arith)
pretty_fuel mode table (suc k) zero place [] h i = pretty-nil mode table (pretty_in mode table k) place
pretty_fuel mode table (suc k) zero place (x ∷ r) h i = absurd (omega arith)
pretty_fuel mode table (suc k) (suc j) place [] h i = pretty-nil mode table (pretty_in mode table k) place ∙ sym (pretty-nil mode table (pretty_in mode table j) place)
pretty_fuel mode table (suc k) (suc j) place (x ∷ r) h i = pretty-agrees mode table (pretty_in mode table k) (pretty_in mode table j) (length r) (λ place' q l. pretty_fuel mode table k j place' q (omega arith) (omega arith)) place (x ∷ r) (omega arith)

pub pretty_law : (mode : Mode) (table : Table) (place : Place) (r : Row) → pretty_at mode table place r ≡ pretty_step mode table (pretty_at mode table) place r
unfolding pretty_at pretty_in
pretty_law mode table place [] = sym (pretty-nil mode table (pretty_at mode table) place)
pretty_law mode table place (x ∷ r) = pretty-agrees mode table (pretty_in mode table (length r)) (pretty_at mode table) (length r) (λ place' q l. pretty_fuel mode table (length r) (length q) place' q l (omega arith)) place (x ∷ r) (omega arith)
