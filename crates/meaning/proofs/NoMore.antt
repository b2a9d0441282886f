-- No more holds than request 13 says: by computing, of files on which each further claim is false.
use mathlib.Core.Path.{◌≡◌, refl}
use mathlib.Core.List.Perm
use mathlib.Core.List.{List, [], ◌∷◌, nil-subset}
use native.Mathlib.Omega.{arith}
use Prim.Native.Nat.{ℕ}
use lib.ListN.{length}
use Rattle.scope.specs.declared.Answer.TheVariants.{Report}
use Rattle.scope.specs.Limits.{scratch_cells, report_bytes}
use Rattle.scope.specs.Lists.{bytes}
use Rattle.scope.specs.Lines.{lines}
use Rattle.scope.specs.Types.{Ctor, byte_string, list, dat}
use Rattle.scope.specs.Constructors.{built}
use Rattle.scope.specs.Simplify.{byte_array, wild, lit, con, Row, Matrix}
use Rattle.scope.specs.Blocks.{Block, parsed, block_of}
use Rattle.scope.specs.Answer.{answer}
use Rattle.scope.specs.SmallBlocks.{Example}
use Rattle.meaning.specs.NoMore.{empty_any, any_empty, one_any, any_one, none_one_inner, none_one, empty_twice, only_a, a_or_b, GetsReport, NoMore}
use Rattle.scope.proofs.Compute.{compute}
use Rattle.scope.proofs.Tests.{clash}
use Rattle.meaning.proofs.Members.{own_members}

-- rows: a wildcard; the empty byte string; A, the first constructor of a data type; [], [_] and [[]]
abbrev pub any : Row
any = wild ∷ []

abbrev pub empty : Row
empty = lit (byte_array []) ∷ []

abbrev row_a : Row
row_a = con 0 0 ∷ []

abbrev none : Row
none = con 0 1 ∷ []

abbrev one : Row
one = con 0 0 ∷ wild ∷ con 0 1 ∷ []

abbrev inner : Row
inner = con 0 0 ∷ con 0 1 ∷ con 0 1 ∷ []

-- blocks: of byte strings, of lists whose elements are such lists, of a data type
abbrev pub strings : Matrix → Block
strings m = record { table = byte_string ∷ []; subject = 0; rows = m }

abbrev lists : Matrix → Block
lists m = record { table = list 0 ∷ []; subject = 0; rows = m }

abbrev pub named : List Ctor → Matrix → Block
named cs m = record { table = dat cs ∷ []; subject = 0; rows = m }

-- a file gets a report and says a block, by computing
abbrev pub file_of : Example → List ℕ
file_of e = bytes e.file

pub computed : (e : Example) {b : Block} → answer (file_of e) scratch_cells report_bytes ≡ Report (length (bytes e.prints)) → block_of (lines (file_of e)) ≡ parsed b → GetsReport (file_of e) b
computed e h i = record { cells = scratch_cells; room = report_bytes; long = length (bytes e.prints); reports = h; says = i }

pub no_more_lem : NoMore
unfolding compute answer
no_more_lem = record {
  printed = (refl, (refl, (refl, (refl, (refl, (refl, (refl, (refl, (refl, (refl, (refl, (refl, (refl, tt)))))))))))));
  before = λ f. let e = f (file_of empty_any) (file_of any_empty) (strings (empty ∷ any ∷ [])) (strings (any ∷ empty ∷ [])) (computed empty_any refl refl) (computed any_empty refl refl) refl 0 1 (omega arith) (omega arith) (refl, refl, Perm.swap any empty []) in clash (cc);
  back = λ f. let e = f (file_of empty_any) (file_of any_empty) (strings (empty ∷ any ∷ [])) (strings (any ∷ empty ∷ [])) (computed empty_any refl refl) (computed any_empty refl refl) refl 0 1 (omega arith) (omega arith) (refl, refl, nil-subset _) in clash (cc);
  itself = λ f. let e = f (file_of empty_any) (file_of empty_twice) (strings (empty ∷ any ∷ [])) (strings (empty ∷ empty ∷ [])) (computed empty_any refl refl) (computed empty_twice refl refl) refl 1 1 (omega arith) (omega arith) (refl, own_members (empty ∷ [])) in clash (cc);
  types = λ f. let e = f (file_of only_a) (file_of a_or_b) (named (built (bytes "A") [] ∷ []) (row_a ∷ any ∷ [])) (named (built (bytes "A") [] ∷ built (bytes "B") [] ∷ []) (row_a ∷ any ∷ [])) (computed only_a refl refl) (computed a_or_b refl refl) refl 1 1 (omega arith) (omega arith) (refl, own_members (row_a ∷ [])) in clash (cc);
  calls = λ f. let e = f (file_of one_any) (file_of any_one) (lists (one ∷ any ∷ [])) (lists (any ∷ one ∷ [])) (computed one_any refl refl) (computed any_one refl refl) refl refl (Perm.swap any one []) in absurd (omega arith);
  gone = λ f. let e = f (file_of none_one_inner) (file_of none_one) (lists (none ∷ one ∷ inner ∷ [])) (lists (none ∷ one ∷ [])) (computed none_one_inner refl refl) (computed none_one refl refl) refl refl (none ∷ one ∷ []) [] inner refl refl refl in clash (cc);
}
