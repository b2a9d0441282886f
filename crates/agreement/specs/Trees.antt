-- The rest of the source's functions on its trees, under its names: `pretty`, and `simplify` from the trees that a clause writes.
use Rattle.std.specs.Prelude.{List, [], ◌∷◌, ◌++◌, map, Bool, true, false, cond, ℕ, suc, ◌-◌, get_or, drop, eqb, ltb}
use Rattle.std.proofs.Math.Option.{Option, none, some}
use Rattle.scope.specs.Lists.{Text, bytes, same}
use Rattle.scope.specs.Types.{Ref, Table}
use Rattle.scope.specs.Constructors.{ctor_at, fields_at, arity, cons_name, nil_name, tuple_name}
use Rattle.scope.specs.Simplify.{Literal}
use Rattle.scope.specs.Text.{commas, contains}
use Rattle.source.specs.Source.{ValueConstructor, Pattern, wildcard, literal, constructor, Patterns, []ᵖ, ◌∷ᵖ◌, ◌++ᵖ◌, wildcards, Panic, constructors_for}

-- an argument, with what `pretty` and `pretty_tail` give of it
pub record Arg : Type 0 where
  pub pattern : Pattern
  pub plain_text : Text
  pub tail_text : Text

-- the arguments of "::" in `pretty`: of index 1 the tail, unless it is "[]"
abbrev pub cell_texts : ℕ → List Arg → List Text
cell_texts index [] = []
cell_texts index (p ∷ args) = cond (eqb index 1) (cond (same p.tail_text nil_name) [] (p.tail_text ∷ [])) (p.plain_text ∷ []) ++ cell_texts (suc index) args

-- the arguments of "::" in `pretty_tail`: of index 1 the tail
abbrev pub tail_texts : ℕ → List Arg → List Text
tail_texts index [] = []
tail_texts index (p ∷ args) = cond (eqb index 1) p.tail_text p.plain_text ∷ tail_texts (suc index) args

-- `find_map`: the first that there is
abbrev pub find_map : (ValueConstructor → Option (List Text)) → List ValueConstructor → Option (List Text)
find_map f [] = none
find_map f (alt ∷ alts) = first (f alt) (find_map f alts)
  where
    first : Option (List Text) → Option (List Text) → Option (List Text)
    first none more = more
    first (some labels) more = some labels

-- a label and its argument: the label alone for a wildcard
abbrev pub label_text : Text → Pattern → Text → Text
label_text label wildcard t = label
label_text label (literal l) t = label ++ bytes ": " ++ t
label_text label (constructor name alts args) t = label ++ bytes ": " ++ t

-- labels and arguments by `zip`
abbrev pub label_texts : List Text → List Arg → List Text
label_texts [] args = []
label_texts (label ∷ labels) [] = []
label_texts (label ∷ labels) (p ∷ args) = label_text label p.pattern p.plain_text ∷ label_texts labels args

-- the third arm of `pretty` for a constructor: with a field map, or with arguments if there are any
abbrev pub pretty_record : Text → Option (List Text) → List Arg → Text
pretty_record name (some labels) args = name ++ (bytes " { " ++ commas (label_texts labels args) ++ bytes " }")
pretty_record name none [] = name
pretty_record name none (p ∷ args) = name ++ (bytes "(" ++ commas (map (λ a. a.plain_text) (p ∷ args)) ++ bytes ")")

-- the arms of `pretty` for a constructor
abbrev pub pretty_ctor : Text → List ValueConstructor → List Arg → Text
pretty_ctor name alts args =
    cond (contains tuple_name name) (bytes "(" ++ commas (map (λ a. a.plain_text) args) ++ bytes ")")
    (cond (same name cons_name) (bytes "[" ++ commas (cell_texts 0 args) ++ bytes "]")
    (pretty_record name (find_map (λ alt. cond (same alt.name name) alt.field_map none) alts) args))

module _ (panic : Panic) where
  unfoldable mutual
    -- `pretty`
    pub pretty : Pattern → Text
    pretty wildcard = bytes "_"
    pretty (literal l) = panic.text
    pretty (constructor name alts args) = pretty_ctor name alts (pretty_args args)

    -- `pretty_tail`
    pub pretty_tail : Pattern → Text
    pretty_tail (constructor name alts args) = cond (same name cons_name) (commas (tail_texts 0 (pretty_args args))) (pretty_ctor name alts (pretty_args args))
    pretty_tail wildcard = bytes ".."
    pretty_tail (literal l) = panic.text

    -- the arguments with their texts
    pub pretty_args : Patterns → List Arg
    pretty_args []ᵖ = []
    pretty_args (p ∷ᵖ ps) = record { pattern = p; plain_text = pretty p; tail_text = pretty_tail p } ∷ pretty_args ps

  -- `map(Pattern::pretty)`
  abbrev pub pretty_each : Patterns → List Text
  pretty_each ps = map (λ a. a.plain_text) (pretty_args ps)

-- `list_constructors`
abbrev pub list_constructors : List ValueConstructor
list_constructors = record { name = cons_name; arity = 2; field_map = none } ∷ record { name = nil_name; arity = 0; field_map = none } ∷ []

-- the one alternative of a tuple
abbrev pub tuple_constructors : ℕ → List ValueConstructor
tuple_constructors arity = record { name = tuple_name; arity = arity; field_map = none } ∷ []

-- `ast::Pattern`, as far as frames can write it: a list has a tail or none, a constructor goes by its number
infixr 67 ◌∷ᵗ◌
mutual
  pub data TypedPattern : Type 0 where
    discard : TypedPattern
    var int byte_array : Text → TypedPattern
    assign : Text → TypedPattern → TypedPattern
    list : TypedPatterns → TypedPattern
    list_to : TypedPatterns → TypedPattern → TypedPattern
    ctor : ℕ → TypedPatterns → Bool → TypedPattern
    pair : TypedPattern → TypedPattern → TypedPattern
    tuple : TypedPatterns → TypedPattern

  -- `Vec<ast::Pattern>`
  pub data TypedPatterns : Type 0 where
    []ᵗ : TypedPatterns
    ◌∷ᵗ◌ : TypedPattern → TypedPatterns → TypedPatterns

-- how many there are
abbrev pub count : TypedPatterns → ℕ
count []ᵗ = 0
count (p ∷ᵗ ps) = suc (count ps)

-- the wildcards that a spread adds to n arguments
abbrev pub spread_by : Panic → ℕ → ℕ → Bool → Patterns
spread_by panic arity n false = []ᵖ
spread_by panic arity n true = cond (ltb arity n) panic.patterns (wildcards (arity - n))

module _ (panic : Panic) (table : Table) where
  unfoldable mutual
    -- `simplify`, of a pattern of type t
    pub simplify : Ref → TypedPattern → Pattern
    simplify t (int n) = literal (Literal.int n)
    simplify t (byte_array s) = literal (Literal.byte_array s)
    simplify t (assign n p) = simplify t p
    simplify t (list elements) = simplify_cells (get_or (fields_at table t 0) 0 0) elements (constructor nil_name list_constructors []ᵖ)
    simplify t (list_to elements tail) = simplify_cells (get_or (fields_at table t 0) 0 0) elements (simplify t tail)
    simplify t (ctor c args spread) =
        constructor (ctor_at table t c).name (constructors_for table t)
        (simplify_each (fields_at table t c) args ++ᵖ spread_by panic (arity table t c) (count args) spread)
    simplify t (pair fst snd) =
        constructor tuple_name (tuple_constructors 2)
        (simplify (get_or (fields_at table t 0) 0 0) fst ∷ᵖ simplify (get_or (fields_at table t 0) 1 0) snd ∷ᵖ []ᵖ)
    simplify t (tuple elems) = constructor tuple_name (tuple_constructors (count elems)) (simplify_each (fields_at table t 0) elems)
    simplify t (var n) = wildcard
    simplify t discard = wildcard

    -- each of the patterns, of these types
    pub simplify_each : List Ref → TypedPatterns → Patterns
    simplify_each ts []ᵗ = []ᵖ
    simplify_each ts (p ∷ᵗ ps) = simplify (get_or ts 0 0) p ∷ᵖ simplify_each (drop 1 ts) ps

    -- "::" around each of the elements, which are of type t, and the list p
    pub simplify_cells : Ref → TypedPatterns → Pattern → Pattern
    simplify_cells t []ᵗ p = p
    simplify_cells t (hd ∷ᵗ elements) p = constructor cons_name list_constructors (simplify t hd ∷ᵖ simplify_cells t elements p ∷ᵖ []ᵖ)
