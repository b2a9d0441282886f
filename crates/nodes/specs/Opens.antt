-- The stack of open patterns: three cells each, what it is, how many patterns are left, and where the next field stands.
use Rattle.std.specs.Prelude.{Bool, cond, List, [], ◌∷◌, ◌++◌, map, ℕ, zero, suc, ◌+◌, ◌*◌, ◌-◌, ◌/◌, ◌%◌, get_or, replicate, leb, eqb}
use Rattle.scope.specs.Lists.{bit, flatten, sum}
use Rattle.scope.specs.Types.{Ref}
use Rattle.scope.specs.Simplify.{Node, wild, Item, put, pat}
use Rattle.layout.specs.Nodes.{node_of}
use Rattle.nodes.specs.Keys.{key_of}
use Rattle.nodes.specs.declared.Open.{Open}
use Rattle.nodes.specs.declared.What.{What}
use Rattle.nodes.specs.declared.What.TheVariants as what

-- an open pattern by its three cells
abbrev pub opening : ℕ → ℕ → ℕ → Open
opening what more field = record { what = what; more = more; field = field }

-- what a list of type t is marked by
abbrev pub mark_of : ℕ → Bool → ℕ
mark_of t tail = 32768 + 2 * t + bit tail

-- is it a list
abbrev pub is_list : ℕ → Bool
is_list what = leb 32768 what

-- the type of a list
abbrev pub list_type : ℕ → Ref
list_type what = (what - 32768) / 2

-- has a list a tail
abbrev pub has_tail : ℕ → Bool
has_tail what = eqb (what % 2) 1

-- what a cell says
abbrev pub what_of : ℕ → What
what_of n = cond (is_list n) (what.List (list_type n) (has_tail n)) (what.Ctor n)

-- the types of k fields from a place of 16 bits on
unfoldable pub field_items : ℕ → List ℕ → ℕ → List Item
field_items zero fields field = []
field_items (suc k) fields field = pat (get_or fields field 0) ∷ field_items k fields ((field + 1) % 65536)

-- k cells around a tail or an end
unfoldable pub list_items : ℕ → Node → Node → Ref → Ref → Bool → List Item
list_items k cell end t e tail = flatten (replicate k (put cell ∷ pat e ∷ [])) ++ cond tail (pat t) (put end) ∷ []

-- the items that an open pattern stands for
unfoldable pub items_of : List ℕ → List ℕ → Open → List Item
items_of bytes fields f =
    cond (is_list f.what)
    (list_items f.more (node_of bytes (key_of (list_type f.what) 0)) (node_of bytes (key_of (list_type f.what) 1)) (list_type f.what) (get_or fields f.field 0) (has_tail f.what))
    (field_items f.more fields f.field ++ replicate f.what (put wild))

-- how many patterns it has still to read
unfoldable pub wanted : ℕ → ℕ → ℕ
wanted what more = cond (is_list what) (more + bit (has_tail what)) more

-- the open pattern on top of `below` others
abbrev pub open_at : List ℕ → ℕ → Open
open_at stack below = opening (get_or stack (3 * below) 0) (get_or stack (3 * below + 1) 0) (get_or stack (3 * below + 2) 0)

-- the first k open patterns of the stack, the last pushed first
unfoldable pub opens : List ℕ → ℕ → List Open
opens stack zero = []
opens stack (suc k) = open_at stack k ∷ opens stack k

-- the items of open patterns, one after another
unfoldable pub pending : List ℕ → List ℕ → List Open → List Item
pending bytes fields fs = flatten (map (items_of bytes fields) fs)

-- how many patterns they have still to read
unfoldable pub due : List Open → ℕ
due fs = sum (map (λ f. wanted f.what f.more) fs)

-- the node before the next pattern of an open one: a list's cell
unfoldable pub cell_of : ℕ → List ℕ
cell_of what = cond (is_list what) (key_of (list_type what) 0 ∷ []) []

-- an open pattern after one of its patterns: each element of a list has one type, each argument its own
unfoldable pub taken : Open → Open
taken f = opening f.what (f.more - 1) (cond (is_list f.what) f.field ((f.field + 1) % 65536))

-- the nodes that end an open pattern: a list's end, or the wildcards after a constructor's arguments
unfoldable pub end_of : ℕ → List ℕ
end_of what = cond (is_list what) (key_of (list_type what) 1 ∷ []) (replicate what 0)
