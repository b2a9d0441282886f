-- The text of a missing row: the source's, by `pretty` and `pretty_tail`, and the paste text.
use Rattle.std.specs.Prelude.{List, [], ◌∷◌, ◌++◌, Bool, true, false, cond, ◌&&◌, ◌||◌, ℕ, zero, suc, ◌+◌, ◌/◌, ◌%◌, length, ltb, eqb}
use Rattle.scope.specs.Lists.{Text, bytes, same}
use Rattle.scope.specs.Types.{Ref, Table, type_at, list_kind, tuple_kind, pair_kind, kind}
use Rattle.scope.specs.Constructors.{cons_name, nil_name, cons_number, nil_number, tuple_name, ctor_at, arity}
use Rattle.scope.specs.Simplify.{wild, lit, con, Row}

-- the decimal digits of n, as far as the fuel goes
abbrev pub decimal_in : ℕ → ℕ → Text
decimal_in zero n = (48 + n) ∷ []
decimal_in (suc fuel) n = let more = decimal_in fuel (n / 10) ++ (48 + n % 10) ∷ [] in cond (ltb n 10) ((48 + n) ∷ []) more

-- a number in decimal; it is fuel enough for its own digits
unfoldable pub decimal : ℕ → Text
decimal n = decimal_in n n

-- texts with ", " between them
abbrev pub commas : List Text → Text
commas [] = []
commas (t ∷ []) = t
commas (t ∷ u ∷ ts) = t ++ bytes ", " ++ commas (u ∷ ts)

-- does t begin with s
abbrev pub starts_with : Text → Text → Bool
starts_with [] t = true
starts_with (a ∷ s) [] = false
starts_with (a ∷ s) (b ∷ t) = eqb a b && starts_with s t

-- does s stand anywhere in t
unfoldable pub contains : Text → Text → Bool
contains s [] = starts_with s []
contains s (b ∷ t) = starts_with s (b ∷ t) || contains s t

-- the row after its first n patterns
abbrev pub skip : Table → Row → ℕ → Row
skip table [] n = []
skip table (x ∷ r) zero = x ∷ r
skip table (wild ∷ r) (suc n) = skip table r n
skip table (lit l ∷ r) (suc n) = skip table r n
skip table (con t c ∷ r) (suc n) = skip table r (arity table t c + n)

-- The source's text or the paste text
pub data Mode : Type 0 where
  source paste : Mode

-- How a constructor looks: (a, b); [a, ..]; or its name and fields
pub data Look : Type 0 where
  round square spelled : Look

-- The source's text goes by the name: `__Tuple` anywhere in it, then "::"
abbrev pub look_by_name : Text → Look
look_by_name name = cond (contains tuple_name name) round (cond (same name cons_name) square spelled)

-- The paste text goes by the type's kind, and writes pairs as tuples
abbrev pub look_by_kind : ℕ → ℕ → Look
look_by_kind k c = cond (eqb k tuple_kind || eqb k pair_kind) round (cond (eqb k list_kind && eqb c cons_number) square spelled)

-- how constructor c of type t looks
unfoldable pub look : Mode → Table → Ref → ℕ → Look
look source table t c = look_by_name (ctor_at table t c).name
look paste table t c = look_by_kind (kind (type_at table t)) c

-- is a row's first pattern the constructor "[]" of a list
abbrev pub is_nil : Table → Row → Bool
is_nil table [] = false
is_nil table (wild ∷ r) = false
is_nil table (lit l ∷ r) = false
is_nil table (con t c ∷ r) = eqb (kind (type_at table t)) list_kind && eqb c nil_number

-- a text, if the test does not leave it out
abbrev pub text_unless : Bool → Text → List Text
text_unless true t = []
text_unless false t = t ∷ []

-- the tail after a list's first element: the source's text leaves it out where its text is "[]", the paste text where it is "[]"
abbrev pub after_first : Mode → Table → Row → Text → List Text
after_first source table r t = text_unless (same t nil_name) t
after_first paste table r t = text_unless (is_nil table r) t

-- the tail after a further element: the source's text keeps "[]", the paste text ends with a plain bracket
abbrev pub after_next : Mode → Table → Row → Text → List Text
after_next source table r t = t ∷ []
after_next paste table r t = text_unless (is_nil table r) t

-- where a pattern's text is asked for: by itself, by `pretty`; or as the tail of a list, by `pretty_tail`
pub data Place : Type 0 where
  alone in_tail : Place

-- One call of `pretty` or of `pretty_tail` on the first pattern of a row; `again` is the call that it makes
module _ (mode : Mode) (table : Table) (again : Place → Row → Text) where
  -- the next n patterns
  abbrev pub texts : ℕ → Row → List Text
  texts zero r = []
  texts (suc n) r = again alone r ∷ texts n (skip table r 1)

  -- a field with a label: the label alone for a wildcard
  abbrev pub field_text : Text → Row → Text
  field_text label [] = label
  field_text label (wild ∷ r) = label
  field_text label (lit l ∷ r) = label ++ bytes ": " ++ again alone (lit l ∷ r)
  field_text label (con t c ∷ r) = label ++ bytes ": " ++ again alone (con t c ∷ r)

  -- fields with labels
  abbrev pub field_texts : List Text → Row → List Text
  field_texts [] r = []
  field_texts (label ∷ labels) r = field_text label r ∷ field_texts labels (skip table r 1)

  -- what stands after a constructor's name: fields with labels, or n arguments
  abbrev pub argument_text : List Text → ℕ → Row → Text
  argument_text [] zero r = []
  argument_text [] (suc n) r = bytes "(" ++ commas (texts (suc n) r) ++ bytes ")"
  argument_text (label ∷ labels) n r = bytes " { " ++ commas (field_texts (label ∷ labels) r) ++ bytes " }"

  -- constructor c of type t, whose arguments begin the row
  abbrev pub pretty_ctor : Look → Ref → ℕ → Row → Text
  pretty_ctor round t c r = bytes "(" ++ commas (texts (arity table t c) r) ++ bytes ")"
  pretty_ctor square t c r = bytes "[" ++ commas (again alone r ∷ after_first mode table (skip table r 1) (again in_tail (skip table r 1))) ++ bytes "]"
  pretty_ctor spelled t c r = (ctor_at table t c).name ++ argument_text (ctor_at table t c).labels (arity table t c) r

  -- the same as the tail of a list: a further cell stands in the same brackets
  abbrev pub tail_ctor : Look → Ref → ℕ → Row → Text
  tail_ctor round t c r = pretty_ctor round t c r
  tail_ctor square t c r = commas (again alone r ∷ after_next mode table (skip table r 1) (again in_tail (skip table r 1)))
  tail_ctor spelled t c r = pretty_ctor spelled t c r

  -- `pretty` and `pretty_tail`; no literal is ever missing
  unfoldable pub pretty_step : Place → Row → Text
  pretty_step alone [] = []
  pretty_step alone (wild ∷ r) = bytes "_"
  pretty_step alone (lit l ∷ r) = []
  pretty_step alone (con t c ∷ r) = pretty_ctor (look mode table t c) t c r
  pretty_step in_tail [] = []
  pretty_step in_tail (wild ∷ r) = bytes ".."
  pretty_step in_tail (lit l ∷ r) = []
  pretty_step in_tail (con t c ∷ r) = tail_ctor (look mode table t c) t c r

-- they call one another as deep as the fuel goes
unfoldable pub pretty_in : Mode → Table → ℕ → Place → Row → Text
pretty_in mode table zero place r = []
pretty_in mode table (suc fuel) place r = pretty_step mode table (λ place' r'. pretty_in mode table fuel place' r') place r

-- every call is on a shorter row, so its length is fuel enough
unfoldable pub pretty_at : Mode → Table → Place → Row → Text
pretty_at mode table place r = pretty_in mode table (length r) place r

-- `pretty` of a row's first pattern
abbrev pub pretty : Mode → Table → Row → Text
pretty mode table r = pretty_at mode table alone r

-- `pretty_tail` of a row's first pattern
abbrev pub pretty_tail : Mode → Table → Row → Text
pretty_tail mode table r = pretty_at mode table in_tail r
