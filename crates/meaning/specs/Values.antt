-- What patterns speak of: values, their types, and which rows of values a row of patterns fits.
use Rattle.std.specs.Prelude.{List, [], ◌∷◌, ◌≡◌, Bool, true, false, cond, ◌&&◌, ◌||◌, ℕ, suc, ◌+◌, ◌-◌, ◌*◌, ◌^◌, ◌<◌, length, ltb, eqb}
use Rattle.scope.specs.Lists.{Text, all, same}
use Rattle.scope.specs.Types.{Ref, Table, integer, byte_string, opaque, type_at}
use Rattle.scope.specs.Constructors.{ctors, fields_at}
use Rattle.scope.specs.Simplify.{Literal, int, byte_array, Node, wild, lit, con, Row, Matrix}
use Rattle.scope.specs.Frames.{is_decimal}

-- An integer: `plus n` is n, `minus n` is -(n + 1)
pub data Number : Type 0 where
  plus minus : ℕ → Number

-- the number that digits say
abbrev pub digits_say : Text → ℕ
digits_say [] = 0
digits_say (d ∷ ds) = (d - 48) * 10 ^ length ds + digits_say ds

-- the integer that a decimal text denotes; 45 is the minus
unfoldable pub denotes : Text → Number
denotes [] = plus 0
denotes (d ∷ ds) = cond (eqb d 45) (minus (digits_say ds - 1)) (plus (digits_say (d ∷ ds)))

infixr 67 ◌∷ᵛ◌
mutual
  -- A value: an integer, a byte string, one of the values of an opaque type, or constructor c with its fields
  pub data Val : Type 0 where
    vint : Number → Val
    vbytes : Text → Val
    vopaque : ℕ → Val
    vcon : ℕ → Vals → Val

  -- a row of values
  pub data Vals : Type 0 where
    []ᵛ : Vals
    ◌∷ᵛ◌ : Val → Vals → Vals

-- one row of values, then another
infixl 65 ◌++ᵛ◌
abbrev pub ◌++ᵛ◌ : Vals → Vals → Vals
[]ᵛ ++ᵛ ws = ws
(v ∷ᵛ vs) ++ᵛ ws = v ∷ᵛ (vs ++ᵛ ws)

-- how many values
abbrev pub lengthᵛ : Vals → ℕ
lengthᵛ []ᵛ = 0
lengthᵛ (v ∷ᵛ vs) = suc (lengthᵛ vs)

-- a byte is below 256
abbrev pub is_byte : ℕ → Bool
is_byte b = ltb b 256

-- a row of values is of these types
pub data HasTypes (table : Table) : List Ref → Vals → Type 0 where
  no_values : HasTypes table [] []ᵛ
  integers : {t : Ref} {ts : List Ref} {n : Number} {vs : Vals} → type_at table t ≡ integer → HasTypes table ts vs → HasTypes table (t ∷ ts) (vint n ∷ᵛ vs)
  byte_strings : {t : Ref} {ts : List Ref} {s : Text} {vs : Vals} → type_at table t ≡ byte_string → all is_byte s ≡ true → HasTypes table ts vs
      → HasTypes table (t ∷ ts) (vbytes s ∷ᵛ vs)
  opaques : {t : Ref} {ts : List Ref} {n : ℕ} {vs : Vals} → type_at table t ≡ opaque → HasTypes table ts vs → HasTypes table (t ∷ ts) (vopaque n ∷ᵛ vs)
  made : {t : Ref} {ts : List Ref} {c : ℕ} {args vs : Vals} → c < length (ctors table t) → HasTypes table (fields_at table t c) args → HasTypes table ts vs
      → HasTypes table (t ∷ ts) (vcon c args ∷ᵛ vs)

-- type t has a value; every value is finite
pub record Valued (table : Table) (t : Ref) : Type 0 where
  pub value : Val
  pub typed : HasTypes table (t ∷ []) (value ∷ᵛ []ᵛ)

-- are two integers the same
abbrev pub same_whole : Number → Number → Bool
same_whole (plus m) (plus n) = eqb m n
same_whole (plus m) (minus n) = false
same_whole (minus m) (plus n) = false
same_whole (minus m) (minus n) = eqb m n

-- a decimal text fits the integer that it denotes, a byte string's literal fits itself
abbrev pub literal_fits : Literal → Val → Bool
literal_fits (int t) (vint n) = same_whole (denotes t) n
literal_fits (byte_array t) (vint n) = false
literal_fits (int t) (vbytes s) = false
literal_fits (byte_array t) (vbytes s) = same t s
literal_fits l (vopaque n) = false
literal_fits l (vcon c args) = false

-- does a row of patterns fit a row of values: a constructor's arguments are to fit its fields
abbrev pub fits : Row → Vals → Bool
fits [] []ᵛ = true
fits [] (v ∷ᵛ vs) = false
fits (x ∷ r) []ᵛ = false
fits (wild ∷ r) (v ∷ᵛ vs) = fits r vs
fits (lit l ∷ r) (v ∷ᵛ vs) = literal_fits l v && fits r vs
fits (con t c ∷ r) (vint n ∷ᵛ vs) = false
fits (con t c ∷ r) (vbytes s ∷ᵛ vs) = false
fits (con t c ∷ r) (vopaque n ∷ᵛ vs) = false
fits (con t c ∷ r) (vcon d args ∷ᵛ vs) = eqb c d && fits r (args ++ᵛ vs)

-- does some row of a matrix fit
abbrev pub fits_any : Matrix → Vals → Bool
fits_any [] vs = false
fits_any (r ∷ m) vs = fits r vs || fits_any m vs

-- a literal as a file has it: its text is decimal, or its bytes are bytes
abbrev pub is_admitted : Literal → Bool
is_admitted (int t) = is_decimal t
is_admitted (byte_array t) = all is_byte t

-- is a node's literal one
abbrev pub admits : Node → Bool
admits wild = true
admits (lit l) = is_admitted l
admits (con t c) = true

-- is a node no literal
abbrev pub is_plain : Node → Bool
is_plain wild = true
is_plain (lit l) = false
is_plain (con t c) = true
