-- What the definitions are to mean, as statements. proofs/ has their proofs.
use Rattle.std.specs.Prelude.{List, ◌≡◌, ◌↔◌, true, false, ℕ, ◌<◌, length, get_or}
use Rattle.scope.specs.Lists.{Text, all}
use Rattle.scope.specs.Types.{Ref, Table, type_at}
use Rattle.scope.specs.Finite.{refs, refs_good, all_finite}
use Rattle.scope.specs.Simplify.{Row, Matrix}
use Rattle.laws.specs.Typed.{Typed, TypedRows}
use Rattle.scope.specs.Frames.{is_decimal}
use Rattle.scope.specs.Walks.{is_useful}
use Rattle.scope.specs.Text.{decimal}
use Rattle.scope.specs.Blocks.{is_sound}
use Rattle.meaning.specs.Values.{Number, plus, denotes, Vals, HasTypes, Valued, fits, fits_any, admits}

-- Equal texts are equal numbers: an integer has one decimal text
pub record OneText (n : Number) : Type 0 where
  pub text : Text
  pub admitted : is_decimal text ≡ true
  pub said : denotes text ≡ n
  pub only : (other : Text) → is_decimal other ≡ true → denotes other ≡ n → other ≡ text

-- every type of the table has a value
abbrev pub AllValued : Table → Type 0
AllValued table = (t : Ref) → t < length table → Valued table t

-- every reference is to a type
abbrev pub AllRefs : Table → Type 0
AllRefs table = (t i : ℕ) → t < length table → i < length (refs (type_at table t)) → get_or (refs (type_at table t)) i 0 < length table

-- what refusal 7 asks at the subject's line
pub record Sound (table : Table) (t : Ref) : Type 0 where
  pub subject : t < length table
  pub references : AllRefs table
  pub valued : AllValued table

-- Usefulness (JFP 17, 2007): some row of values fits the new row and no row of the matrix
pub record Witness (table : Table) (ts : List Ref) (m : Matrix) (q : Row) : Type 0 where
  pub values : Vals
  pub typed : HasTypes table ts values
  pub fitting : fits q values ≡ true
  pub new : fits_any m values ≡ false

-- each integer has one decimal text
abbrev pub DecimalOnce : Type 0
DecimalOnce = (n : Number) → OneText n

-- the numbers of a report are the texts of what they count
abbrev pub NumbersSay : Type 0
NumbersSay = (n : ℕ) → (is_decimal (decimal n) ≡ true) × (denotes (decimal n) ≡ plus n)

-- `is_useful` says yes exactly when there is a witness
abbrev pub UsefulRight : Type 0
UsefulRight =
    (table : Table) → AllValued table → (ts : List Ref) (m : Matrix) (q : Row) → TypedRows table ts m → Typed table ts q → all (all admits) m ≡ true
    → all admits q ≡ true
    → ((is_useful table (length ts) m q).result ≡ true) ↔ Witness table ts m q

-- where all references are to types: the test for finite values passes exactly when every type has one
abbrev pub FiniteRight : Type 0
FiniteRight = (table : Table) → refs_good table ≡ true → (all_finite table ≡ true) ↔ AllValued table

-- refusal 7 at the subject's line comes exactly when the table is not sound
abbrev pub SoundRight : Type 0
SoundRight = (table : Table) (t : Ref) → (is_sound table t ≡ true) ↔ Sound table t
