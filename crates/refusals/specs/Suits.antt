-- "A pattern suits its type thus": document 01's paragraph on 8, over the patterns as a clause writes them.
use Rattle.std.specs.Prelude.{List, [], ◌∷◌, ◌++◌, ◌≡◌, Bool, true, false, ℕ, ◌≤◌, ◌<◌, length, take, replicate}
use Rattle.scope.specs.Lists.{Text}
use Rattle.scope.specs.Types.{Ref, Ctor, integer, byte_string, list, tuple, pair, dat, Table, type_at}
use Rattle.scope.specs.Constructors.{fields_at}
use Rattle.scope.specs.Patterns.{Raw}

-- arguments equal to the arity, or at most the arity with spread
pub data Enough (k arity : ℕ) : Bool → Type 0 where
  all : {spread : Bool} → k ≡ arity → Enough k arity spread
  with_spread : k ≤ arity → Enough k arity true

-- a list's tail at the same list type
abbrev pub tail_at : Bool → Ref → List Ref
tail_at true t = t ∷ []
tail_at false t = []

-- a pattern, without its inner ones, suits type t; the inner ones, which follow it, are then to suit these types
pub data SuitsType (table : Table) (t : Ref) : Raw → List Ref → Type 0 where
  -- 00 and 01 anywhere, 02 where its inner one does
  discard : SuitsType table t Raw.discard []
  variable : {n : Text} → SuitsType table t (Raw.variable n) []
  assign : {n : Text} → SuitsType table t (Raw.assign n) (t ∷ [])
  -- 03, 04, 05, 07, 08 at their own kinds (a list's tail at the same list type, a tuple with its full count)
  integer_of : {n : Text} → type_at table t ≡ integer → SuitsType table t (Raw.integer_of n) []
  byte_string_of : {s : Text} → type_at table t ≡ byte_string → SuitsType table t (Raw.byte_string_of s) []
  list_of : {e : Ref} {k : ℕ} {tail : Bool} → type_at table t ≡ list e → SuitsType table t (Raw.list_of k tail) (replicate k e ++ tail_at tail t)
  pair_of : {a b : Ref} → type_at table t ≡ pair a b → SuitsType table t Raw.pair_of (a ∷ b ∷ [])
  tuple_of : {ts : List Ref} {k : ℕ} → type_at table t ≡ tuple ts → k ≡ length ts → SuitsType table t (Raw.tuple_of k) ts
  -- 06 at a data type that has that number, with arguments equal to the arity, or at most the arity with spread
  constructor : {cs : List Ctor} {c k : ℕ} {spread : Bool} → type_at table t ≡ dat cs → c < length cs → Enough k (length (fields_at table t c)) spread
      → SuitsType table t (Raw.constructor c k spread) (take k (fields_at table t c))

-- patterns, each followed by its inner ones, suit these types one after another
pub data Suits (table : Table) : List Ref → List Raw → Type 0 where
  none : Suits table [] []
  also : {t : Ref} {us ts : List Ref} {p : Raw} {ps : List Raw} → SuitsType table t p us → Suits table (us ++ ts) ps → Suits table (t ∷ ts) (p ∷ ps)
