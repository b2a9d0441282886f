-- What the pattern at a place becomes, read at a type: the answer of `suits`, and what it means.
use Rattle.std.specs.Prelude.{◌≡◌, Bool, false, cond, ◌&&◌, ◌||◌, List, [], ◌∷◌, ◌++◌, map, ℕ, ◌+◌, ◌*◌, ◌-◌, ◌<◌, length, get_or, take, replicate, ltb, leb, eqb, Result, Ok, Err}
use Rattle.std.proofs.Math.Option.{Option, none, some}
use Rattle.scope.specs.Types.{Ref, Table, type_at, kind}
use Rattle.scope.specs.Constructors.{ctors, fields_at, arity}
use Rattle.scope.specs.Simplify.{wild, con, Item, put, pat, element_items}
use Rattle.layout.specs.Nodes.{node_of}
use Rattle.nodes.specs.Keys.{literal_key}
use Rattle.rules.specs.Kinds.{suits_kind}
use Rattle.suits.specs.declared.Unsuited.{Unsuited}
use Rattle.suits.specs.declared.Suit.{Suit}
use Rattle.suits.specs.declared.Suit.TheVariants.{Leaf, Again, Cells, Args}

-- the answer that a pattern does not suit
abbrev pub unsuited : Result Suit Unsuited
unsuited = Err (record {})

-- an answer, if the type is of the kind that the pattern wants
abbrev pub on_kind : Bool → Result Suit Unsuited → Result Suit Unsuited
on_kind ok s = cond ok s unsuited

-- arguments equal to the arity, or at most the arity with spread, which fills with wildcards
unfoldable pub filled_by : ℕ → ℕ → Bool → ℕ → Result Suit Unsuited
filled_by c k spread n = cond (eqb k n || (spread && leb k n)) (Ok (Args c k (n - k))) unsuited

-- constructor c of type t with k arguments
unfoldable pub args_of : List ℕ → List ℕ → ℕ → ℕ → ℕ → Bool → Result Suit Unsuited
args_of counts arities t c k spread = cond (ltb c (get_or counts t 0)) (filled_by c k spread (get_or arities (32 * t + c) 0)) unsuited

-- the pattern at a place, read at type t, if the type is of the kind that a pattern of its first byte suits
unfoldable pub form_of : List ℕ → ℕ → List ℕ → List ℕ → ℕ → ℕ → Result Suit Unsuited
form_of bytes at counts arities t what =
    get_or
    (Ok (Leaf 0) ∷ Ok (Leaf 0) ∷ Ok Again ∷ Ok (Leaf (literal_key at)) ∷ Ok (Leaf (literal_key at)) ∷ Ok (Cells (get_or bytes (at + 1) 0) (eqb (get_or bytes (at + 2) 0) 1)) ∷ args_of counts arities t (get_or bytes (at + 1) 0) (get_or bytes (at + 2) 0) (eqb (get_or bytes (at + 3) 0) 1) ∷ args_of counts arities t 0 2 false ∷ [])
    what
    (args_of counts arities t 0 (get_or bytes (at + 1) 0) false)

-- the pattern at a place, read at type t
unfoldable pub suit_at : List ℕ → ℕ → List ℕ → List ℕ → List ℕ → ℕ → Result Suit Unsuited
suit_at bytes at kinds counts arities t = on_kind (suits_kind (get_or bytes at 0) (get_or kinds t 0)) (form_of bytes at counts arities t (get_or bytes at 0))

-- the items that an answer stands for
abbrev pub meant : Table → List ℕ → Ref → Result Suit Unsuited → Option (List Item)
meant table bytes t (Ok (Leaf n)) = some (put (node_of bytes n) ∷ [])
meant table bytes t (Ok Again) = some (pat t ∷ [])
meant table bytes t (Ok (Cells k tail)) = some (element_items t (get_or (fields_at table t 0) 0 0) k tail)
meant table bytes t (Ok (Args c k w)) = some (put (con t c) ∷ (map pat (take k (fields_at table t c)) ++ replicate w (put wild)))
meant table bytes t (Err e) = none

-- what an answer says of the type: a list's cells are a list's, arguments and wildcards are as many as the fields
abbrev pub Sound : Table → Ref → Result Suit Unsuited → Type 0
Sound table t (Ok (Leaf n)) = Unit {0}
Sound table t (Ok Again) = Unit {0}
Sound table t (Ok (Cells k tail)) = kind (type_at table t) ≡ 3
Sound table t (Ok (Args c k w)) = (c < length (ctors table t)) × (k + w ≡ arity table t c)
Sound table t (Err e) = Unit {0}

-- its numbers are bytes
abbrev pub Few : Result Suit Unsuited → Type 0
Few (Ok (Leaf n)) = Unit {0}
Few (Ok Again) = Unit {0}
Few (Ok (Cells k tail)) = k < 256
Few (Ok (Args c k w)) = (c < 256) × (k < 256) × (w < 256)
Few (Err e) = Unit {0}
