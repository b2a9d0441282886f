-- What each function of the printer promises.
use Rattle.std.specs.Prelude.{◌≡◌, List, ◌∷◌, ◌++◌, Bool, true, false, ℕ, ◌+◌, ◌-◌, ◌*◌, ◌/◌, ◌%◌, ◌^◌, ◌≤◌, ◌<◌, length, get_or}
use Rattle.scope.specs.Lists.{Text}
use Rattle.scope.specs.Types.{Ref, Table, type_at, kind}
use Rattle.scope.specs.Constructors.{ctors, fields_at}
use Rattle.scope.specs.Simplify.{Row}
use Rattle.scope.specs.Text.{commas, skip, Mode, square, spelled, look, after_first, after_next, Place, alone, in_tail, texts, field_text, field_texts, pretty_ctor, pretty_at}
use Rattle.layout.specs.Types.{text_at}
use Rattle.writing.specs.declared.Writer.{Writer}
use Rattle.writing.specs.Writing.{Writes}
use Rattle.marks.specs.Marks.{open_text, close_text}
use Rattle.text.specs.Rows.{Slices, Tabled, row_at, label_texts, Begins}

-- The texts that the functions write, each of patterns that begin a row. One pattern, by itself or as the tail of a list
abbrev pub pattern_text : Mode → Place → Table → Row → Text
pattern_text mode place table r = pretty_at mode table place r

-- n patterns with ", " between them
abbrev pub texts_text : Mode → ℕ → Table → Row → Text
texts_text mode n table r = commas (texts mode table (pretty_at mode table) n r)

-- a field with the label that stands at a place
abbrev pub field_text_at : Mode → Slices → ℕ → Table → Row → Text
field_text_at mode s label table r = field_text mode table (pretty_at mode table) (text_at s.bytes label) r

-- n fields with their labels, from field i on, with ", " between them
abbrev pub fields_text : Mode → Slices → ℕ → ℕ → Table → Row → Text
fields_text mode s i n table r = commas (field_texts mode table (pretty_at mode table) (label_texts s i n) r)

-- the pattern of field i, without labels and with them
abbrev pub item_text : Mode → Slices → Bool → ℕ → Table → Row → Text
item_text mode s false i = pattern_text mode alone
item_text mode s true i = field_text_at mode s (get_or s.labels i 0)

-- the patterns of n fields, from field i on
abbrev pub items_text : Mode → Slices → Bool → ℕ → ℕ → Table → Row → Text
items_text mode s false i n = texts_text mode n
items_text mode s true i n = fields_text mode s i n

-- the same in brackets
abbrev pub enclosed_text : Mode → Slices → Bool → ℕ → ℕ → Table → Row → Text
enclosed_text mode s labelled i n table r = open_text labelled ++ items_text mode s labelled i n table r ++ close_text labelled

-- the arguments of a list cell as a list
abbrev pub square_text : Mode → Table → Row → Text
square_text mode table r = pretty_ctor mode table (pretty_at mode table) square 0 0 r

-- what stands after a list's first element, or after a further one
abbrev pub rest_text : Mode → Bool → Table → Row → Text → List Text
rest_text mode true = after_first mode
rest_text mode false = after_next mode

-- the arguments of a list's first cell, or of a further one, without brackets
abbrev pub cell_text : Mode → Bool → Table → Row → Text
cell_text mode first table r = commas (pretty_at mode table alone r ∷ rest_text mode first table (skip table r 1) (pretty_at mode table in_tail (skip table r 1)))

-- the constructor with the number i by its name, around its arguments
abbrev pub spelled_text : Mode → ℕ → Table → Row → Text
spelled_text mode i table r = pretty_ctor mode table (pretty_at mode table) spelled (i / 32) (i % 32) r

-- the constructor with the number i as it looks, around its arguments
abbrev pub ctor_text : Mode → ℕ → Table → Row → Text
ctor_text mode i table r = pretty_ctor mode table (pretty_at mode table) (look mode table (i / 32) (i % 32)) (i / 32) (i % 32) r

-- n types
pub record Many (n : ℕ) (table : Table) (ts : List Ref) : Type 0 where
  pub many : length ts ≡ n

-- the field types of the constructor with the number i
pub record FieldsOf (i : ℕ) (table : Table) (ts : List Ref) : Type 0 where
  pub is_ctor : i % 32 < length (ctors table (i / 32))
  pub are : ts ≡ fields_at table (i / 32) (i % 32)

-- the field types of the constructor with the number i, which is written by its name
pub record SpelledOf (mode : Mode) (i : ℕ) (table : Table) (ts : List Ref) : Type 0 where
  pub fields_of : FieldsOf i table ts
  pub looks : look mode table (i / 32) (i % 32) ≡ spelled

-- the field types of a list cell
pub record CellOf (table : Table) (ts : List Ref) : Type 0 where
  pub type : Ref
  pub is_list : kind (type_at table type) ≡ 3
  pub are : ts ≡ fields_at table type 0

-- for every table that the slices hold: where patterns of such types stand at p, their text is written, and q is the place after them
pub record Printed (s : Slices) (types : Table → List Ref → Type 0) (p q : ℕ) (before after : Writer) (text : Table → Row → Text) : Type 0 where
  pub prints : (table : Table) → Tabled s table → (ts us : List Ref) → types table ts → Begins table (ts ++ us) (row_at s p) → Writes before after (text table (row_at s p)) × (row_at s q ≡ skip table (row_at s p) (length ts))

-- room for places and text: no constructor has 256 arguments, and none needs 262,144 bytes of its own
pub record Room (nodes p at most width : ℕ) : Type 0 where
  pub places : p + most + 256 * (nodes - p) < 2 ^ 62
  pub texts : at + width + 262144 * (nodes - p) < 2 ^ 62

-- how far a function comes, at least and at most, and how much it writes, in the writer's buffer, which keeps its length
pub record Moved (nodes p q : ℕ) (before after : Writer) (least most width : ℕ) : Type 0 where
  pub forward : p + least ≤ q
  pub places : q + 256 * (nodes - q) ≤ p + most + 256 * (nodes - p)
  pub texts : after.at + 262144 * (nodes - q) ≤ before.at + width + 262144 * (nodes - p)
  pub same : after.out.ghost_name ≡ before.out.ghost_name
  pub long : length after.out.now ≡ length before.out.now
