-- The slices that the printer reads: a type table, and rows of simplified patterns.
use Rattle.std.specs.Prelude.{◌≡◌, List, [], ◌∷◌, ◌++◌, false, ℕ, zero, suc, ◌<◌, length, get_or, drop}
use Rattle.scope.specs.Lists.{Text, same}
use Rattle.scope.specs.Types.{Ref, Table, type_at, kind}
use Rattle.scope.specs.Constructors.{ctors, ctor_at, fields_at, cons_name}
use Rattle.scope.specs.Simplify.{Literal, wild, lit, con, Row}
use Rattle.laws.specs.Typed.{literal_kind}
use Rattle.layout.specs.declared.lent.Types.{Types}
use Rattle.layout.specs.Types.{text_at, Shape, Named}
use Rattle.layout.specs.Nodes.{row_of}
use Rattle.text.specs.declared.pretty.Printer.{Printer}

-- what the printer reads
pub record Slices : Type 0 where
  pub bytes : List ℕ
  pub kinds : List ℕ
  pub arities : List ℕ
  pub starts : List ℕ
  pub names : List ℕ
  pub labels : List ℕ
  pub nodes : List ℕ

-- these slices
abbrev pub slices : List ℕ → List ℕ → List ℕ → List ℕ → List ℕ → List ℕ → List ℕ → Slices
slices bytes kinds arities starts names labels nodes = record { bytes = bytes; kinds = kinds; arities = arities; starts = starts; names = names; labels = labels; nodes = nodes }

-- the slices of a type table, and nodes
abbrev pub lent : Types → List ℕ → Slices
lent t nodes = slices t.bytes.now t.kinds.now t.arities.now t.starts.now t.names.now t.labels.now nodes

-- what this printer reads
abbrev pub held : Printer → Slices
held p = lent p.types p.nodes.now

-- the slices hold a type table, in which no declared constructor is named as a list cell is
pub record Tabled (s : Slices) (table : Table) : Type 0 where
  pub counts : List ℕ
  pub shape : Shape s.kinds counts s.arities table
  pub named : Named s.bytes s.starts s.names s.labels table
  pub proper : (t c : ℕ) → kind (type_at table t) ≡ 6 → c < length (ctors table t) → same (ctor_at table t c).name cons_name ≡ false

-- the row from place p on
unfoldable pub row_at : Slices → ℕ → Row
row_at s p = row_of s.bytes (drop p s.nodes)

-- the labels of n fields, from place i on
unfoldable pub label_texts : Slices → ℕ → ℕ → List Text
label_texts s i zero = []
label_texts s i (suc n) = text_at s.bytes (get_or s.labels i 0) ∷ label_texts s (suc i) n

-- a row begins with patterns of these types, each constructor one of its type; more may follow
pub data Begins (table : Table) : List Ref → Row → Type 0 where
  done : {r : Row} → Begins table [] r
  wilds : {t : Ref} {ts : List Ref} {r : Row} → Begins table ts r → Begins table (t ∷ ts) (wild ∷ r)
  lits : {t : Ref} {ts : List Ref} {l : Literal} {r : Row} → kind (type_at table t) ≡ literal_kind l → Begins table ts r → Begins table (t ∷ ts) (lit l ∷ r)
  cons : {t : Ref} {ts : List Ref} {c : ℕ} {r : Row} → c < length (ctors table t) → Begins table (fields_at table t c ++ ts) r → Begins table (t ∷ ts) (con t c ∷ r)
