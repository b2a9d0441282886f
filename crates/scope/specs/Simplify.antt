-- Simplified patterns, as flat lists in prefix order, and `simplify`, which gives none where a pattern does not suit its type (8).
use Rattle.std.specs.Prelude.{List, [], ◌∷◌, ◌++◌, map, Bool, true, false, cond, ◌&&◌, ◌||◌, ℕ, ◌-◌, length, get_or, take, replicate, ltb, leb, eqb}
use Rattle.std.proofs.Math.Option
use Rattle.std.proofs.Math.Option.{Option, none, some}
use Rattle.scope.specs.Lists.{Text, flatten, same}
use Rattle.scope.specs.Types.{Ref, Table, type_at, integer_kind, byte_string_kind, list_kind, tuple_kind, pair_kind, data_kind, kind}
use Rattle.scope.specs.Constructors.{cons_number, nil_number, tuple_number, ctors, fields_at}
use Rattle.scope.specs.Patterns.{Raw, discard, variable, assign, integer_of, byte_string_of, list_of, constructor, pair_of, tuple_of}

-- A literal's text. Equal texts are equal numbers
pub data Literal : Type 0 where
  int byte_array : Text → Literal

-- Simplified patterns are `Wildcard`, `Literal` and `Constructor`. The arguments of `con t c`, constructor c of type t, follow it
pub data Node : Type 0 where
  wild : Node
  lit : Literal → Node
  con : Ref → ℕ → Node

-- a row of simplified patterns, one after another
abbrev pub Row : Type 0
Row = List Node

-- rows, one below another
abbrev pub Matrix : Type 0
Matrix = List Row

-- are two literals equal
abbrev pub same_literal : Literal → Literal → Bool
same_literal (int a) (int b) = same a b
same_literal (int a) (byte_array b) = false
same_literal (byte_array a) (int b) = false
same_literal (byte_array a) (byte_array b) = same a b

-- what a simplified row is still to have: a node, or what comes of the next pattern, read at a type
pub data Item : Type 0 where
  put : Node → Item
  pat : Ref → Item

-- is type t of this kind
abbrev pub is_of : Table → Ref → ℕ → Bool
is_of table t k = eqb (kind (type_at table t)) k

-- the items, if the pattern suits its type
abbrev pub suiting : Bool → List Item → Option (List Item)
suiting true is = some is
suiting false is = none

-- A list of k elements becomes k cells "::" around its tail or "[]"
abbrev pub element_items : Ref → Ref → ℕ → Bool → List Item
element_items t e k tail = flatten (replicate k (put (con t cons_number) ∷ pat e ∷ [])) ++ cond tail (pat t) (put (con t nil_number)) ∷ []

-- arguments equal to the arity, or at most the arity with spread
abbrev pub enough : ℕ → Bool → List Ref → Bool
enough k spread fields = eqb k (length fields) || (spread && leb k (length fields))

-- Spread fills with wildcards
abbrev pub arguments : ℕ → List Ref → List Item
arguments k fields = map pat (take k fields) ++ replicate (length fields - k) (put wild)

-- Pair and tuple become the constructor `__Tuple`, the only one of its type, around their parts
abbrev pub whole : Ref → List Ref → List Item
whole t fields = put (con t tuple_number) ∷ map pat fields

-- what a pattern read at type t becomes; none: it does not suit the type
abbrev pub opened : Table → Ref → Raw → Option (List Item)
-- 00 and 01 anywhere, 02 where its inner one does
opened table t discard = some (put wild ∷ [])
opened table t (variable n) = some (put wild ∷ [])
opened table t (assign n) = some (pat t ∷ [])
-- 03, 04, 05, 07, 08 at their own kinds (a list's tail at the same list type, a tuple with its full count)
opened table t (integer_of n) = suiting (is_of table t integer_kind) (put (lit (int n)) ∷ [])
opened table t (byte_string_of s) = suiting (is_of table t byte_string_kind) (put (lit (byte_array s)) ∷ [])
opened table t (list_of k tail) = suiting (is_of table t list_kind) (element_items t (get_or (fields_at table t cons_number) 0 0) k tail)
opened table t pair_of = suiting (is_of table t pair_kind) (whole t (fields_at table t tuple_number))
opened table t (tuple_of k) = suiting (is_of table t tuple_kind && eqb k (length (fields_at table t tuple_number))) (whole t (fields_at table t tuple_number))
-- 06 at a data type that has that number, with arguments equal to the arity, or at most the arity with spread
opened table t (constructor c k spread) =
    suiting (is_of table t data_kind && ltb c (length (ctors table t)) && enough k spread (fields_at table t c))
    (put (con t c) ∷ arguments k (fields_at table t c))

-- the nodes up to the next pattern to read, in front of what `go` makes of its type and of the items after it
abbrev pub putting : List Item → (Ref → List Item → Option Row) → Option Row
putting [] go = none
putting (put n ∷ is) go = Option.map (n ∷◌) (putting is go)
putting (pat t ∷ is) go = go t is

-- the nodes, where no pattern is left to read
abbrev pub all_put : List Item → Option Row
all_put [] = some []
all_put (put n ∷ is) = Option.map (n ∷◌) (all_put is)
all_put (pat t ∷ is) = none

-- go on with what was found
infixl 20 ◌>>=◌
abbrev pub ◌>>=◌ : {A B : Type 0} → Option A → (A → Option B) → Option B
◌>>=◌ none f = none
◌>>=◌ (some a) f = f a

-- the patterns ps, each read where the items next ask for one; none: some pattern does not suit its type
unfoldable pub simplified : Table → List Item → List Raw → Option Row
simplified table is [] = all_put is
simplified table is (p ∷ ps) = putting is λ t rest. do new ← opened table t p; simplified table (new ++ rest) ps

-- `simplify` of a clause's pattern, read at the subject's type
unfoldable pub simplify : Table → Ref → List Raw → Option Row
simplify table t ps = simplified table (pat t ∷ []) ps
