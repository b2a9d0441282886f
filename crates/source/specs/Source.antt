-- The source's own walks on its own trees, under its names, to be laid beside `exhaustive.rs` line by line; its texts and `simplify` are in `agreement`.
use mathlib.Core.List.{List, [], ◌∷◌, ◌++◌, map, filter_map, flat_map}
use Rattle.std.specs.Prelude.{Bool, true, false, cond, ◌&&◌, ◌||◌, ℕ, zero, suc, ◌+◌, ◌*◌, length, eqb, ltb}
use Rattle.std.proofs.Math.Option.{Option, none, some}
use Rattle.scope.specs.Lists.{Text, any, same}
use Rattle.scope.specs.Types.{Ref, Ctor, Table}
use Rattle.scope.specs.Constructors.{ctors}
use Rattle.scope.specs.Simplify.{Literal, same_literal}
use Rattle.scope.specs.Walks.{Walk, plain, holding, turned, joined}

-- `ValueConstructor`: of its record the module reads the name, the arity and the field map, which is labels in field order
pub record ValueConstructor : Type 0 where
  pub name : Text
  pub arity : ℕ
  pub field_map : Option (List Text)

-- `Pattern`
infixr 67 ◌∷ᵖ◌
mutual
  pub data Pattern : Type 0 where
    wildcard : Pattern
    literal : Literal → Pattern
    constructor : Text → List ValueConstructor → Patterns → Pattern

  -- `Vec<Pattern>`
  pub data Patterns : Type 0 where
    []ᵖ : Patterns
    ◌∷ᵖ◌ : Pattern → Patterns → Patterns

-- `len`
abbrev pub len : Patterns → ℕ
len []ᵖ = 0
len (p ∷ᵖ ps) = suc (len ps)

-- `chain`
infixl 65 ◌++ᵖ◌
abbrev pub ◌++ᵖ◌ : Patterns → Patterns → Patterns
[]ᵖ ++ᵖ qs = qs
(p ∷ᵖ ps) ++ᵖ qs = p ∷ᵖ (ps ++ᵖ qs)

-- `vec![Pattern::Wildcard; n]`
abbrev pub wildcards : ℕ → Patterns
wildcards zero = []ᵖ
wildcards (suc n) = wildcard ∷ᵖ wildcards n

-- `PatternStack`
abbrev pub PatternStack : Type 0
PatternStack = Patterns

-- `Matrix`
abbrev pub Matrix : Type 0
Matrix = List PatternStack

-- an entry of the map `BTreeMap<String, Vec<ValueConstructor>>`
pub record Entry : Type 0 where
  pub key : Text
  pub value : List ValueConstructor

-- `contains_key`
unfoldable pub contains_key : Text → List Entry → Bool
contains_key key entries = any (λ e. same key e.key) entries

-- does a key come before another: byte by byte
abbrev pub before : Text → Text → Bool
before s [] = false
before [] (b ∷ t) = true
before (a ∷ s) (b ∷ t) = cond (eqb a b) (before s t) (ltb a b)

-- an entry whose key is new stands in front of the first later key
abbrev pub place : Entry → List Entry → List Entry
place new [] = new ∷ []
place new (e ∷ es) = cond (before new.key e.key) (new ∷ e ∷ es) (e ∷ place new es)

-- an entry takes the place of that with its key
abbrev pub replace : Entry → List Entry → List Entry
replace new es = map (λ e. cond (same new.key e.key) new e) es

-- `insert`: the map is ordered by its keys and has none twice
unfoldable pub insert : Entry → List Entry → List Entry
insert new es = cond (contains_key new.key es) (replace new es) (place new es)

-- `Complete`
pub data Complete : Type 0 where
  complete : List ValueConstructor → Complete
  incomplete : Complete

-- `is_complete`, by the two counts: `num_seen` is the map's length, `first_key_value` its first entry
abbrev pub complete_by : List Entry → Complete
complete_by [] = incomplete
complete_by (e ∷ es) = cond (eqb (suc (length es)) (length e.value)) (complete e.value) incomplete

-- `any` over the alternatives, which stops at the first yes
abbrev pub any_alt : (ValueConstructor → Walk Bool) → List ValueConstructor → Walk Bool
any_alt f [] = plain false
any_alt f (alt ∷ alts) =
    let w = f alt in
    let more = joined ◌||◌ w (any_alt f alts) in
    cond w.result w more

-- `map` over the alternatives and `fold` by `concat`
abbrev pub concat_alts : (ValueConstructor → Walk Matrix) → List ValueConstructor → Walk Matrix
concat_alts f [] = plain []
concat_alts f (alt ∷ alts) = joined ◌++◌ (f alt) (concat_alts f alts)

-- `flatten`
abbrev pub flatten : Matrix → Patterns
flatten [] = []ᵖ
flatten (row ∷ rows) = row ++ᵖ flatten rows

-- `is_missing`
abbrev pub is_missing : List ValueConstructor → List Entry → ValueConstructor → Option Pattern
is_missing alts ctors ctor = cond (contains_key ctor.name ctors) none (some (constructor ctor.name alts (wildcards ctor.arity)))

-- this row, or none
abbrev pub row_if : Bool → PatternStack → Option PatternStack
row_if true r = some r
row_if false r = none

-- `specialize_row_by_wildcard`
abbrev pub specialize_row_by_wildcard : PatternStack → Option PatternStack
specialize_row_by_wildcard []ᵖ = none
specialize_row_by_wildcard (constructor name alts args ∷ᵖ tail) = none
specialize_row_by_wildcard (literal l ∷ᵖ tail) = none
specialize_row_by_wildcard (wildcard ∷ᵖ tail) = some tail

-- `specialize_rows_by_wildcard`
abbrev pub specialize_rows_by_wildcard : Matrix → Matrix
specialize_rows_by_wildcard m = filter_map specialize_row_by_wildcard m

-- What a panic would give, by where it would be: anything. No walk comes to one, so nothing said of the source hangs on it
pub record Panic : Type 0 where
  pub row : Option PatternStack
  pub ctors : List Entry
  pub patterns : Patterns
  pub text : Text

-- The rest of the module, where a panic gives that: `head` of no pattern, `split_off` past the end, a range below 0, `unreachable!`
module _ (panic : Panic) where
  -- `specialize_row_by_ctor`
  abbrev pub specialize_row_by_ctor : Text → ℕ → PatternStack → Option PatternStack
  specialize_row_by_ctor name arity []ᵖ = panic.row
  specialize_row_by_ctor name arity (constructor p_name alts p_args ∷ᵖ tail) = row_if (same p_name name && eqb (len p_args) arity) (p_args ++ᵖ tail)
  specialize_row_by_ctor name arity (wildcard ∷ᵖ tail) = some (wildcards arity ++ᵖ tail)
  specialize_row_by_ctor name arity (literal l ∷ᵖ tail) = panic.row

  -- `specialize_row_by_literal`
  abbrev pub specialize_row_by_literal : Literal → PatternStack → Option PatternStack
  specialize_row_by_literal l []ᵖ = panic.row
  specialize_row_by_literal l (literal p_literal ∷ᵖ tail) = row_if (same_literal p_literal l) tail
  specialize_row_by_literal l (wildcard ∷ᵖ tail) = some tail
  specialize_row_by_literal l (constructor name alts args ∷ᵖ tail) = panic.row

  -- `split_at`: the first n patterns
  abbrev pub first_of : ℕ → PatternStack → PatternStack
  first_of zero ps = []ᵖ
  first_of (suc n) []ᵖ = panic.patterns
  first_of (suc n) (p ∷ᵖ ps) = p ∷ᵖ first_of n ps

  -- `split_at`: the patterns after them
  abbrev pub rest_of : ℕ → PatternStack → PatternStack
  rest_of zero ps = ps
  rest_of (suc n) []ᵖ = panic.patterns
  rest_of (suc n) (p ∷ᵖ ps) = rest_of n ps

  -- `collect_ctors`: what one row adds
  abbrev pub collect_row : List Entry → PatternStack → List Entry
  collect_row ctors []ᵖ = panic.ctors
  collect_row ctors (constructor name alts args ∷ᵖ tail) = insert (record { key = name; value = alts }) ctors
  collect_row ctors (wildcard ∷ᵖ tail) = ctors
  collect_row ctors (literal l ∷ᵖ tail) = ctors

  -- `collect_ctors`: row after row
  abbrev pub collect_into : List Entry → Matrix → List Entry
  collect_into ctors [] = ctors
  collect_into ctors (row ∷ rows) = collect_into (collect_row ctors row) rows

  -- `collect_ctors`
  unfoldable pub collect_ctors : Matrix → List Entry
  collect_ctors m = collect_into [] m

  -- `is_complete`
  abbrev pub is_complete : Matrix → Complete
  is_complete m = complete_by (collect_ctors m)

  -- `specialize_rows_by_ctor`
  abbrev pub specialize_rows_by_ctor : Text → ℕ → Matrix → Matrix
  specialize_rows_by_ctor name arity m = filter_map (specialize_row_by_ctor name arity) m

  -- `specialize_rows_by_literal`
  abbrev pub specialize_rows_by_literal : Literal → Matrix → Matrix
  specialize_rows_by_literal l m = filter_map (specialize_row_by_literal l) m

  -- One call of `is_useful`; `again` is the call that it makes
  module _ (again : Matrix → PatternStack → Walk Bool) where
    -- the arms of a head wildcard
    abbrev pub useful_wildcard : Complete → Matrix → PatternStack → Walk Bool
    useful_wildcard incomplete m tail = again (specialize_rows_by_wildcard m) tail
    useful_wildcard (complete alts) m tail = any_alt (λ alt. again (specialize_rows_by_ctor alt.name alt.arity m) (wildcards alt.arity ++ᵖ tail)) alts

    -- the arms in their order
    abbrev pub useful_body : Matrix → PatternStack → Walk Bool
    useful_body [] vector = plain true
    useful_body (r ∷ m) []ᵖ = plain false
    useful_body (r ∷ m) (constructor name alts args ∷ᵖ tail) = again (specialize_rows_by_ctor name (len args) (r ∷ m)) (args ++ᵖ tail)
    useful_body (r ∷ m) (wildcard ∷ᵖ tail) = useful_wildcard (is_complete (r ∷ m)) (r ∷ m) tail
    useful_body (r ∷ m) (literal l ∷ᵖ tail) = again (specialize_rows_by_literal l (r ∷ m)) tail

    -- the cells held are (rows + 1) times the row's length
    unfoldable pub is_useful_step : Matrix → PatternStack → Walk Bool
    is_useful_step m vector = holding (suc (length m) * len vector) (useful_body m vector)

  -- `is_useful`, which calls itself as deep as the fuel goes
  unfoldable pub is_useful : ℕ → Matrix → PatternStack → Walk Bool
  is_useful zero m vector = plain false
  is_useful (suc fuel) m vector = is_useful_step (λ m' vector'. is_useful fuel m' vector') m vector

  -- `recover_ctor`
  abbrev pub recover_ctor : List ValueConstructor → Text → ℕ → PatternStack → PatternStack
  recover_ctor alts name arity patterns = constructor name alts (first_of arity patterns) ∷ᵖ rest_of arity patterns

  -- One call of `collect_missing_patterns`; `again` is the call that it makes
  module _ (again : ℕ → Matrix → Walk Matrix) where
    -- after `collect_ctors`, with n patterns behind the first
    abbrev pub missing_by : List Entry → ℕ → Matrix → Walk Matrix
    missing_by [] n m = turned (map (wildcard ∷ᵖ◌)) (again n (specialize_rows_by_wildcard m))
    missing_by (e ∷ es) n m =
        let alts = e.value in
        let missed = turned (flat_map (λ row. map (◌∷ᵖ row) (filter_map (is_missing alts (e ∷ es)) alts))) (again n (specialize_rows_by_wildcard m)) in
        let recovered = concat_alts (λ alt.
        turned (map (recover_ctor alts alt.name alt.arity)) (again (alt.arity + n) (specialize_rows_by_ctor alt.name alt.arity m))) alts in
        cond (ltb (suc (length es)) (length alts)) missed recovered

    -- the test for no rows, then for n = 0
    abbrev pub missing_body : ℕ → Matrix → Walk Matrix
    missing_body n [] = plain (wildcards n ∷ [])
    missing_body zero (r ∷ m) = plain []
    missing_body (suc n) (r ∷ m) = missing_by (collect_ctors (r ∷ m)) n (r ∷ m)

    -- the cells held are rows times n
    unfoldable pub collect_missing_step : ℕ → Matrix → Walk Matrix
    collect_missing_step n m = holding (length m * n) (missing_body n m)

  -- `collect_missing_patterns`, which calls itself as deep as the fuel goes
  unfoldable pub collect_missing_patterns : ℕ → ℕ → Matrix → Walk Matrix
  collect_missing_patterns zero n m = plain []
  collect_missing_patterns (suc fuel) n m = collect_missing_step (λ n' m'. collect_missing_patterns fuel n' m') n m

-- labels as a field map: none where there are no labels
abbrev pub field_map_of : List Text → Option (List Text)
field_map_of [] = none
field_map_of (label ∷ labels) = some (label ∷ labels)

-- a constructor of the type table as the source has it
abbrev pub value_constructor : Ctor → ValueConstructor
value_constructor c = record { name = c.name; arity = length c.fields; field_map = field_map_of c.labels }

-- `get_constructors_for_type`: the file's type table stands for it
abbrev pub constructors_for : Table → Ref → List ValueConstructor
constructors_for table t = map value_constructor (ctors table t)
