-- No line feed stands in a name, a number or the text of a row, from how names are read.
use mathlib.Core.Path.{◌≡◌, refl, ap}
use mathlib.Core.List.{List, [], ◌∷◌, ◌++◌}
use mathlib.Core.Bool.{Bool, true, false, not, cond, ◌&&◌, ◌||◌}
use mathlib.Core.Logic.{◌⊎◌, inl, inr}
use Prim.Native.Nat.{ℕ, zero, suc, ◌-◌}
use native.Mathlib.Omega.{arith}
use lib.ListN.{length, get_or}
use lib.Dec.{leb, eqb}
use borrow.Author.Tests.{leb-true, eqb-true, ne_eqb}
use Rattle.scope.specs.Lists.{Text, bytes, bit, all, same}
use Rattle.scope.specs.Lines.{ended, lines, into_first}
use Rattle.scope.specs.Types.{Ref, Ctor, Ty, integer, byte_string, opaque, list, tuple, pair, dat, Table, type_at, declared}
use Rattle.scope.specs.Constructors.{ctors_at, ctor_at, arity, built, nil_name}
use Rattle.scope.specs.Simplify.{wild, lit, con, Row}
use Rattle.scope.specs.Frames.{is_upper, is_lower, is_digit, is_small, is_big, passing, within, times, byte, flag, name_by, big_name, small_name, fields_for, constructor_frame}
use Rattle.scope.specs.Text.{decimal, commas, Mode, source, paste, Look, round, square, spelled, look, skip, is_nil, text_unless, after_first, after_next, Place, alone, in_tail, texts, field_text, field_texts, argument_text, pretty_ctor, tail_ctor, pretty_step, pretty_in, pretty_at, pretty}
use Rattle.scope.specs.Report.{as_line}
use Rattle.scope.proofs.Tests.{clash, both, and-true, either}
use Rattle.meaning.proofs.Decimals.{decimal-all-digits}
use Rattle.agreement.proofs.Tables.{Yields, give_yields, any_yields, bind_yields, passing_yields}

-- no line feed in a text
abbrev pub no_feed : Text → Bool
no_feed t = all (λ b. not (eqb b 10)) t

pub not_feed : (b : ℕ) → (b ≡ 10 → ⊥) → not (eqb b 10) ≡ true
not_feed b h = rw (ne_eqb b 10 h)

pub append_clean : (a b : Text) → no_feed a ≡ true → no_feed b ≡ true → no_feed (a ++ b) ≡ true
append_clean [] b h k = k
append_clean (x ∷ a) b h k = let w = both (not (eqb x 10)) (no_feed a) h in and-true w.0 (append_clean a b w.1 k)

-- a line in front of a text is its first line
pub lines-line : (t rest : Text) → no_feed t ≡ true → lines (as_line t ++ rest) ≡ ended t ∷ lines rest
unfolding lines
lines-line [] rest h = refl
lines-line (b ∷ t) rest h =
    let w = both (not (eqb b 10)) (no_feed t) h in
    go (eqb b 10) w.0 (lines-line t rest w.1)
  where
    go : (x : Bool) → not x ≡ true → lines (as_line t ++ rest) ≡ ended t ∷ lines rest → cond x (ended [] ∷ lines (as_line t ++ rest)) (into_first b (lines (as_line t ++ rest))) ≡ ended (b ∷ t) ∷ lines rest
    go true e k = clash (cc)
    go false e k = ap (into_first b) k

-- numbers
digits_clean : (t : Text) → all is_digit t ≡ true → no_feed t ≡ true
digits_clean [] h = refl
digits_clean (b ∷ t) h =
    let w = both (is_digit b) (all is_digit t) h in
    and-true (not_feed b (λ e. omega (arith, leb-true 48 b (both (leb 48 b) (leb b 57) w.0).0))) (digits_clean t w.1)

pub decimal_clean : (n : ℕ) → no_feed (decimal n) ≡ true
decimal_clean n = digits_clean (decimal n) (decimal-all-digits n)

-- names and labels without line feeds
abbrev pub clean_ctor : Ctor → Bool
clean_ctor c = no_feed c.name && all no_feed c.labels

abbrev pub clean_table : Table → Bool
clean_table table = all (λ ty. all clean_ctor (declared ty)) table

get_clean : (p : Ctor → Bool) (cs : List Ctor) (c : ℕ) → all p cs ≡ true → p (built [] []) ≡ true → p (get_or cs c (built [] [])) ≡ true
get_clean p [] c h d = d
get_clean p (x ∷ cs) zero h d = (both (p x) (all p cs) h).0
get_clean p (x ∷ cs) (suc c) h d = get_clean p cs c (both (p x) (all p cs) h).1 d

at_clean : (table : Table) (t : ℕ) → clean_table table ≡ true → all clean_ctor (declared (type_at table t)) ≡ true
at_clean [] t h = refl
at_clean (ty ∷ table) zero h = (both (all clean_ctor (declared ty)) (clean_table table) h).0
at_clean (ty ∷ table) (suc t) h = at_clean table t (both (all clean_ctor (declared ty)) (clean_table table) h).1

ctors_clean : (t : Ref) (ty : Ty) → all clean_ctor (declared ty) ≡ true → all clean_ctor (ctors_at t ty) ≡ true
ctors_clean t integer h = refl
ctors_clean t byte_string h = refl
ctors_clean t opaque h = refl
ctors_clean t (list e) h = refl
ctors_clean t (tuple ts) h = refl
ctors_clean t (pair a b) h = refl
ctors_clean t (dat cs) h = h

pub ctor_clean : (table : Table) (t c : ℕ) → clean_table table ≡ true → clean_ctor (ctor_at table t c) ≡ true
ctor_clean table t c h = get_clean clean_ctor (ctors_at t (type_at table t)) c (ctors_clean t (type_at table t) (at_clean table t h)) refl

-- the texts of missing rows
commas_clean : (ts : List Text) → all no_feed ts ≡ true → no_feed (commas ts) ≡ true
commas_clean [] h = refl
commas_clean (t ∷ []) h = (both (no_feed t) true h).0
commas_clean (t ∷ u ∷ ts) h =
    let w = both (no_feed t) (all no_feed (u ∷ ts)) h in
    append_clean (t ++ bytes ", ") (commas (u ∷ ts)) (append_clean t (bytes ", ") w.0 refl) (commas_clean (u ∷ ts) w.1)

unless_clean : (b : Bool) (t : Text) → no_feed t ≡ true → all no_feed (text_unless b t) ≡ true
unless_clean true t h = refl
unless_clean false t h = and-true h refl

first_clean : (mode : Mode) (table : Table) (r : Row) (t : Text) → no_feed t ≡ true → all no_feed (after_first mode table r t) ≡ true
first_clean source table r t h = unless_clean (same t nil_name) t h
first_clean paste table r t h = unless_clean (is_nil table r) t h

next_clean : (mode : Mode) (table : Table) (r : Row) (t : Text) → no_feed t ≡ true → all no_feed (after_next mode table r t) ≡ true
next_clean source table r t h = and-true h refl
next_clean paste table r t h = unless_clean (is_nil table r) t h

around : (a b c : Text) → no_feed a ≡ true → no_feed b ≡ true → no_feed c ≡ true → no_feed (a ++ b ++ c) ≡ true
around a b c h i j = append_clean (a ++ b) c (append_clean a b h i) j

module _ (mode : Mode) (table : Table) (clean : clean_table table ≡ true) (again : Place → Row → Text) (k : (p : Place) (r : Row) → no_feed (again p r) ≡ true) where
  texts_clean : (n : ℕ) (r : Row) → all no_feed (texts mode table again n r) ≡ true
  texts_clean zero r = refl
  texts_clean (suc n) r = and-true (k alone r) (texts_clean n (skip table r 1))

  field_clean : (label : Text) (r : Row) → no_feed label ≡ true → no_feed (field_text mode table again label r) ≡ true
  field_clean label [] h = h
  field_clean label (wild ∷ r) h = h
  field_clean label (lit l ∷ r) h = around label (bytes ": ") (again alone (lit l ∷ r)) h refl (k alone (lit l ∷ r))
  field_clean label (con t c ∷ r) h = around label (bytes ": ") (again alone (con t c ∷ r)) h refl (k alone (con t c ∷ r))

  fields_clean : (labels : List Text) (r : Row) → all no_feed labels ≡ true → all no_feed (field_texts mode table again labels r) ≡ true
  fields_clean [] r h = refl
  fields_clean (label ∷ labels) r h = let w = both (no_feed label) (all no_feed labels) h in and-true (field_clean label r w.0) (fields_clean labels (skip table r 1) w.1)

  arguments_clean : (labels : List Text) (n : ℕ) (r : Row) → all no_feed labels ≡ true → no_feed (argument_text mode table again labels n r) ≡ true
  arguments_clean [] zero r h = refl
  arguments_clean [] (suc n) r h = around (bytes "(") (commas (texts mode table again (suc n) r)) (bytes ")") refl (commas_clean (texts mode table again (suc n) r) (texts_clean (suc n) r)) refl
  arguments_clean (label ∷ labels) n r h = around (bytes " { ") (commas (field_texts mode table again (label ∷ labels) r)) (bytes " }") refl (commas_clean (field_texts mode table again (label ∷ labels) r) (fields_clean (label ∷ labels) r h)) refl

  made_clean : (l : Look) (t : Ref) (c : ℕ) (r : Row) → no_feed (pretty_ctor mode table again l t c r) ≡ true
  made_clean round t c r = around (bytes "(") (commas (texts mode table again (arity table t c) r)) (bytes ")") refl (commas_clean (texts mode table again (arity table t c) r) (texts_clean (arity table t c) r)) refl
  made_clean square t c r =
      let rest = again alone r ∷ after_first mode table (skip table r 1) (again in_tail (skip table r 1)) in
      around (bytes "[") (commas rest) (bytes "]") refl (commas_clean rest (and-true (k alone r) (first_clean mode table (skip table r 1) (again in_tail (skip table r 1)) (k in_tail (skip table r 1))))) refl
  made_clean spelled t c r =
      let w = both (no_feed (ctor_at table t c).name) (all no_feed (ctor_at table t c).labels) (ctor_clean table t c clean) in
      append_clean (ctor_at table t c).name (argument_text mode table again (ctor_at table t c).labels (arity table t c) r) w.0 (arguments_clean (ctor_at table t c).labels (arity table t c) r w.1)

  tail_clean : (l : Look) (t : Ref) (c : ℕ) (r : Row) → no_feed (tail_ctor mode table again l t c r) ≡ true
  tail_clean round t c r = made_clean round t c r
  tail_clean square t c r =
      commas_clean (again alone r ∷ after_next mode table (skip table r 1) (again in_tail (skip table r 1)))
      (and-true (k alone r) (next_clean mode table (skip table r 1) (again in_tail (skip table r 1)) (k in_tail (skip table r 1))))
  tail_clean spelled t c r = made_clean spelled t c r

  step_clean : (p : Place) (r : Row) → no_feed (pretty_step mode table again p r) ≡ true
  unfolding pretty_step
  step_clean alone [] = refl
  step_clean alone (wild ∷ r) = refl
  step_clean alone (lit l ∷ r) = refl
  step_clean alone (con t c ∷ r) = made_clean (look mode table t c) t c r
  step_clean in_tail [] = refl
  step_clean in_tail (wild ∷ r) = refl
  step_clean in_tail (lit l ∷ r) = refl
  step_clean in_tail (con t c ∷ r) = tail_clean (look mode table t c) t c r

pretty_in_clean : (mode : Mode) (table : Table) → clean_table table ≡ true → (fuel : ℕ) (p : Place) (r : Row) → no_feed (pretty_in mode table fuel p r) ≡ true
unfolding pretty_in
pretty_in_clean mode table h zero p r = refl
pretty_in_clean mode table h (suc fuel) p r = step_clean mode table h (λ q s. pretty_in mode table fuel q s) (pretty_in_clean mode table h fuel) p r

pub pretty_clean : (mode : Mode) (table : Table) → clean_table table ≡ true → (r : Row) → no_feed (pretty mode table r) ≡ true
unfolding pretty_at
pretty_clean mode table h r = pretty_in_clean mode table h (length r) alone r

-- Names as frames give them
small_clean : (b : ℕ) → is_small b ≡ true → not (eqb b 10) ≡ true
unfolding is_small
small_clean b h = not_feed b (λ e. absurd (go (either (is_lower b || is_digit b) (eqb b 95) h) e))
  where
    two : (is_lower b ≡ true) ⊎ (is_digit b ≡ true) → b ≡ 10 → ⊥
    two (inl x) e = omega (arith, leb-true 97 b (both (leb 97 b) (leb b 122) x).0)
    two (inr x) e = omega (arith, leb-true 48 b (both (leb 48 b) (leb b 57) x).0)

    go : ((is_lower b || is_digit b) ≡ true) ⊎ (eqb b 95 ≡ true) → b ≡ 10 → ⊥
    go (inl x) e = two (either (is_lower b) (is_digit b) x) e
    go (inr x) e = omega (arith, eqb-true b 95 x)

upper_clean : (b : ℕ) → is_upper b ≡ true → not (eqb b 10) ≡ true
upper_clean b x = not_feed b (λ e. omega (arith, leb-true 65 b (both (leb 65 b) (leb b 90) x).0))

lower_clean : (b : ℕ) → is_lower b ≡ true → not (eqb b 10) ≡ true
lower_clean b x = not_feed b (λ e. omega (arith, leb-true 97 b (both (leb 97 b) (leb b 122) x).0))

big_clean : (b : ℕ) → is_big b ≡ true → not (eqb b 10) ≡ true
unfolding is_big
big_clean b h = go (either (is_upper b) (is_small b) h)
  where
    go : (is_upper b ≡ true) ⊎ (is_small b ≡ true) → not (eqb b 10) ≡ true
    go (inl x) = upper_clean b x
    go (inr x) = small_clean b x

times_clean : (good : ℕ → Bool) → ((b : ℕ) → good b ≡ true → not (eqb b 10) ≡ true) → (n : ℕ) → Yields (λ t. no_feed t ≡ true) (times n (passing good))
times_clean good h zero = give_yields refl
times_clean good h (suc n) = bind_yields (passing_yields good) (λ b e. bind_yields (times_clean good h n) (λ t i. give_yields (and-true (h b e) i)))

name_clean : (first other : ℕ → Bool) → ((b : ℕ) → first b ≡ true → not (eqb b 10) ≡ true) → ((b : ℕ) → other b ≡ true → not (eqb b 10) ≡ true) → Yields (λ t. no_feed t ≡ true) (name_by first other)
name_clean first other h i = bind_yields (any_yields (within 1 32)) (λ n u. bind_yields (passing_yields first) (λ b e. bind_yields (times_clean other i (n - 1)) (λ t j. give_yields (and-true (h b e) j))))

big_name_clean : Yields (λ t. no_feed t ≡ true) big_name
unfolding big_name
big_name_clean = name_clean is_upper is_big upper_clean big_clean

small-name_clean : Yields (λ t. no_feed t ≡ true) small_name
unfolding small_name
small-name_clean = name_clean is_lower is_small lower_clean small_clean

fields_for_clean : (labelled : Bool) (n : ℕ) → Yields (λ (r : List Ref × List Text). all no_feed r.1 ≡ true) (fields_for labelled n)
fields_for_clean false n = bind_yields (any_yields (times n byte)) (λ ts i. give_yields refl)
fields_for_clean true zero = give_yields refl
fields_for_clean true (suc n) = bind_yields (any_yields byte) (λ t i. bind_yields small-name_clean (λ l e. bind_yields (fields_for_clean true n) (λ r j. give_yields (and-true e j))))

pub constructor_clean : Yields (λ c. clean_ctor c ≡ true) constructor_frame
unfolding constructor_frame
constructor_clean = bind_yields big_name_clean (λ n e. bind_yields (any_yields flag) (λ labelled u. bind_yields (any_yields (within (bit labelled) 16)) (λ k v. bind_yields (fields_for_clean labelled k) (λ r j. give_yields (and-true e j)))))
