-- Each integer has one decimal text: different texts are different numbers, and the report's `decimal` gives a text for each.
use mathlib.Core.Path.{◌≡◌, refl, ap, sym, subst, ◌∙◌}
use mathlib.Core.Logic.{◌⊎◌, inl, inr}
use mathlib.Core.List.{[], ◌∷◌, ◌++◌}
use mathlib.Core.Bool.{Bool, true, false, cond, ◌&&◌, ◌||◌}
use Prim.Native.Nat.{ℕ, zero, suc, ◌+◌, ◌*◌, ◌-◌, ◌^◌, ◌/◌, ◌%◌, ◌≤◌, ◌<◌}
use native.Mathlib.Nat.{pow-suc, mul_assoc, pow-le-pow_right, mul-le-mul_right}
use native.Mathlib.Omega.{arith}
use lib.ListN.{length, length-append}
use lib.Dec.{ltb, eqb, lit<}
use borrow.Author.Tests.{ltb-true, ltb-false, eqb-true, le-leb, ne_eqb}
use Rattle.scope.specs.Lists.{Text, all, among}
use Rattle.scope.specs.Frames.{is_digit, is_positive, is_decimal}
use Rattle.scope.specs.Text.{decimal_in, decimal}
use Rattle.meaning.specs.Values.{Number, plus, minus, digits_say, denotes}
use Rattle.meaning.specs.Meaning.{DecimalOnce, NumbersSay}
use Rattle.scope.proofs.Tests.{clash, both, and-true, either, or_right, among-is}

-- all are digits
abbrev Digits : Text → Type 0
Digits [] = Unit {0}
Digits (d ∷ ds) = (48 ≤ d) × (d < 58) × Digits ds

-- 0, or digits of which the first is not 0
abbrev Natural : Text → Type 0
Natural [] = ⊥
Natural (d ∷ []) = (48 ≤ d) × (d < 58)
Natural (d ∷ e ∷ ds) = (49 ≤ d) × (d < 58) × Digits (e ∷ ds)

natural-digits : (a : Text) → Natural a → Digits a
natural-digits [] h = elim h [ ]
natural-digits (d ∷ []) h = (h.0, h.1, tt)
natural-digits (d ∷ e ∷ ds) h = (omega (arith, h.0), h.1, h.2)

digits_lt : (a : Text) → Digits a → digits_say a < 10 ^ length a
digits_lt [] h = lit< tt
digits_lt (d ∷ ds) h =
    let i = digits_lt ds h.2 in
    omega (arith, mul-le-mul_right {m = d - 48} {n = 9} (10 ^ length ds) (omega (arith, h.1)), pow-suc 10 (length ds))

digits_ge : (d : ℕ) (ds : Text) → 49 ≤ d → 10 ^ length ds ≤ digits_say (d ∷ ds)
digits_ge d ds h = omega (arith, mul-le-mul_right {m = 1} {n = d - 48} (10 ^ length ds) (omega arith))

lead : (x y p v w : ℕ) → v < p → w < p → x * p + v ≡ y * p + w → x ≤ y
lead x y p v w i j e = go (ltb y x) refl
  where
    go : (b : Bool) → ltb y x ≡ b → x ≤ y
    go true q = let h : suc y ≤ x = ltb-true y x q in absurd (omega (arith, mul-le-mul_right p h))
    go false q = ltb-false y x q

same_width : (a b : Text) → length a ≡ length b → Digits a → Digits b → digits_say a ≡ digits_say b → a ≡ b
same_width [] [] l x y e = refl
same_width [] (d ∷ b) l x y e = absurd (omega arith)
same_width (c ∷ a) [] l x y e = absurd (omega arith)
same_width (c ∷ a) (d ∷ b) l x y e =
    let k : length a ≡ length b = omega arith in
    let i = digits_lt a x.2 in
    let j : digits_say b < 10 ^ length a = rw k (digits_lt b y.2) in
    let f : (c - 48) * 10 ^ length a + digits_say a ≡ (d - 48) * 10 ^ length a + digits_say b = e ∙ rw k in
    let u = lead (c - 48) (d - 48) (10 ^ length a) (digits_say a) (digits_say b) i j f in
    let v = lead (d - 48) (c - 48) (10 ^ length a) (digits_say b) (digits_say a) j i (sym f) in
    let s : c ≡ d = omega (arith, x.0, y.0) in
    let g : (c - 48) * 10 ^ length a + digits_say a ≡ (c - 48) * 10 ^ length a + digits_say b = rw (← s) at f in
    let t : digits_say a ≡ digits_say b = omega arith in
    rw (s, same_width a b k x.2 y.2 t)

-- a longer text is a larger number
longer : (a b : Text) → Natural a → Natural b → length a < length b → digits_say a < digits_say b
longer [] b x y l = elim x [ ]
longer (c ∷ a) [] x y l = elim y [ ]
longer (c ∷ a) (d ∷ []) x y l = absurd (omega arith)
longer (c ∷ a) (d ∷ e ∷ b) x y l = omega (arith, digits_lt (c ∷ a) (natural-digits (c ∷ a) x), digits_ge d (e ∷ b) y.0, pow-le-pow_right {n = 10} (lit< tt) {i = length (c ∷ a)} {j = length (e ∷ b)} (omega arith))

natural-same : (a b : Text) → Natural a → Natural b → digits_say a ≡ digits_say b → a ≡ b
natural-same a b x y e = go (ltb (length a) (length b)) refl (ltb (length b) (length a)) refl
  where
    go : (p : Bool) → ltb (length a) (length b) ≡ p → (q : Bool) → ltb (length b) (length a) ≡ q → a ≡ b
    go true i q j = absurd (omega (arith, longer a b x y (ltb-true (length a) (length b) i)))
    go false i true j = absurd (omega (arith, longer b a y x (ltb-true (length b) (length a) j)))
    go false i false j = same_width a b (omega (arith, ltb-false (length a) (length b) i, ltb-false (length b) (length a) j)) (natural-digits a x) (natural-digits b y) e

-- what an admitted text is: digits, or a minus and digits that are not 0
data Decimal : Text → Number → Type 0 where
  unsigned : {a : Text} → Natural a → Decimal a (plus (digits_say a))
  signed : {a : Text} → Natural a → 0 < digits_say a → Decimal (45 ∷ a) (minus (digits_say a - 1))

all_digits : (ds : Text) → all is_digit ds ≡ true → Digits ds
all_digits [] h = tt
all_digits (d ∷ ds) h =
    let p = both (is_digit d) (all is_digit ds) h in
    let a = among-is 48 57 d p.0 in
    (a.0, omega (arith, a.1), all_digits ds p.1)

positive-natural : (ds : Text) → is_positive ds ≡ true → Natural ds × (0 < digits_say ds)
positive-natural [] h = clash (cc)
positive-natural (d ∷ []) h =
    let a = among-is 49 57 d (both (among 49 57 d) true h).0 in
    ((omega (arith, a.0), omega (arith, a.1)), omega (arith, digits_ge d [] a.0))
positive-natural (d ∷ e ∷ ds) h =
    let p = both (among 49 57 d) (all is_digit (e ∷ ds)) h in
    let a = among-is 49 57 d p.0 in
    ((a.0, omega (arith, a.1), all_digits (e ∷ ds) p.1), omega (arith, digits_ge d (e ∷ ds) a.0, pow-le-pow_right {n = 10} (lit< tt) {i = 0} {j = length (e ∷ ds)} (omega arith)))

decimal_view : (t : Text) → is_decimal t ≡ true → Decimal t (denotes t)
unfolding is_decimal denotes
decimal_view [] h = clash (cc)
decimal_view (d ∷ ds) h = sign (eqb d 45) refl h
  where
    nothing-after : (es : Text) → length es ≡ 0 → (48 ≤ d) × (d < 58) → Natural (d ∷ es)
    nothing-after [] z x = x
    nothing-after (e ∷ es) z x = absurd (omega arith)

    unit : (eqb d 48 && eqb (length ds) 0) ≡ true → Natural (d ∷ ds)
    unit g =
        let p = both (eqb d 48) (eqb (length ds) 0) g in
        let e = eqb-true d 48 p.0 in
        nothing-after ds (eqb-true (length ds) 0 p.1) (omega arith)

    natural : (eqb d 48 && eqb (length ds) 0) ≡ true ⊎ (is_positive (d ∷ ds) ≡ true) → Natural (d ∷ ds)
    natural (inl g) = unit g
    natural (inr g) = (positive-natural (d ∷ ds) g).0

    sign : (b : Bool) → eqb d 45 ≡ b → cond b (is_positive ds) ((eqb d 48 && eqb (length ds) 0) || is_positive (d ∷ ds)) ≡ true → Decimal (d ∷ ds) (cond b (minus (digits_say ds - 1)) (plus (digits_say (d ∷ ds))))
    sign true e g = let p = positive-natural ds g in subst (λ (x : ℕ). Decimal (x ∷ ds) (minus (digits_say ds - 1))) (sym (eqb-true d 45 e)) (signed p.0 p.1)
    sign false e g = unsigned (natural (either (eqb d 48 && eqb (length ds) 0) (is_positive (d ∷ ds)) g))

views_same : (a b : Text) (m n : Number) → Decimal a m → Decimal b n → m ≡ n → a ≡ b
views_same a b m n (unsigned x) (unsigned y) e = natural-same a b x y (cc)
views_same a b m n (unsigned x) (signed y l) e = clash (cc)
views_same a b m n (signed x k) (unsigned y) e = clash (cc)
views_same a b m n (signed {a = c} x k) (signed {a = d} y l) e =
    let z : digits_say c - 1 ≡ digits_say d - 1 = cc in
    rw (natural-same c d x y (omega arith))

-- two admitted texts that denote the same integer are equal
pub decimal-same : (a b : Text) → is_decimal a ≡ true → is_decimal b ≡ true → denotes a ≡ denotes b → a ≡ b
decimal-same a b x y e = views_same a b (denotes a) (denotes b) (decimal_view a x) (decimal_view b y) e

-- one more digit at the end
digits-snoc : (a : Text) (d : ℕ) → digits_say (a ++ d ∷ []) ≡ 10 * digits_say a + (d - 48)
digits-snoc [] d = omega arith
digits-snoc (x ∷ a) d =
    let e : length (a ++ d ∷ []) ≡ suc (length a) = omega (arith, length-append a (d ∷ [])) in
    let p : (x - 48) * 10 ^ length (a ++ d ∷ []) ≡ ((x - 48) * 10 ^ length a) * 10 = rw (e, pow-suc, mul_assoc) in
    omega (arith, digits-snoc a d)

-- the digits of n say n
decimal-digits : (fuel n : ℕ) → n ≤ fuel → digits_say (decimal_in fuel n) ≡ n
decimal-digits zero n l = omega arith
decimal-digits (suc fuel) n l = go (ltb n 10) refl (λ h. decimal-digits fuel (n / 10) h)
  where
    go : (b : Bool) → ltb n 10 ≡ b → (n / 10 ≤ fuel → digits_say (decimal_in fuel (n / 10)) ≡ n / 10) → digits_say (cond b ((48 + n) ∷ []) (decimal_in fuel (n / 10) ++ (48 + n % 10) ∷ [])) ≡ n
    go true e more = omega arith
    go false e more = omega (arith, ltb-false n 10 e, digits-snoc (decimal_in fuel (n / 10)) (48 + n % 10), more (omega (arith, ltb-false n 10 e)))

among_le : (lo hi d : ℕ) → lo ≤ d → d ≤ hi → among lo hi d ≡ true
among_le lo hi d l u = and-true (le-leb lo d l) (le-leb d hi u)

digits_append : (a : Text) (d : ℕ) → all is_digit a ≡ true → is_digit d ≡ true → all is_digit (a ++ d ∷ []) ≡ true
digits_append [] d h k = and-true k refl
digits_append (x ∷ a) d h k = let p = both (is_digit x) (all is_digit a) h in and-true p.0 (digits_append a d p.1 k)

positive_append : (a : Text) (d : ℕ) → is_positive a ≡ true → is_digit d ≡ true → is_positive (a ++ d ∷ []) ≡ true
positive_append [] d h k = clash (cc)
positive_append (x ∷ a) d h k = let p = both (among 49 57 x) (all is_digit a) h in and-true p.0 (digits_append a d p.1 k)

-- and the first of them is not 0
decimal-positive : (fuel n : ℕ) → 0 < n → n ≤ fuel → is_positive (decimal_in fuel n) ≡ true
decimal-positive zero n z l = absurd (omega arith)
decimal-positive (suc fuel) n z l = go (ltb n 10) refl (λ y h. decimal-positive fuel (n / 10) y h)
  where
    go : (b : Bool) → ltb n 10 ≡ b → (0 < n / 10 → n / 10 ≤ fuel → is_positive (decimal_in fuel (n / 10)) ≡ true) → is_positive (cond b ((48 + n) ∷ []) (decimal_in fuel (n / 10) ++ (48 + n % 10) ∷ [])) ≡ true
    go true e more = and-true (among_le 49 57 (48 + n) (omega arith) (omega (arith, ltb-true n 10 e))) refl
    go false e more =
        let h = ltb-false n 10 e in
        positive_append (decimal_in fuel (n / 10)) (48 + n % 10) (more (omega arith) (omega arith)) (among_le 48 57 (48 + n % 10) (omega arith) (omega arith))

-- so all of them are digits
positive-digits : (ds : Text) → is_positive ds ≡ true → all is_digit ds ≡ true
positive-digits [] h = refl
positive-digits (d ∷ ds) h =
    let p = both (among 49 57 d) (all is_digit ds) h in
    let a = among-is 49 57 d p.0 in
    and-true (among_le 48 57 d (omega (arith, a.0)) a.1) p.1

pub decimal-all-digits : (n : ℕ) → all is_digit (decimal n) ≡ true
unfolding decimal
decimal-all-digits zero = refl
decimal-all-digits (suc n) = positive-digits (decimal_in (suc n) (suc n)) (decimal-positive (suc n) (suc n) (omega arith) (omega arith))

-- a text that begins with 1 to 9 has no minus
unsigned-text : (t : Text) → is_positive t ≡ true → (is_decimal t ≡ true) × (denotes t ≡ plus (digits_say t))
unfolding is_decimal denotes
unsigned-text [] h = clash (cc)
unsigned-text (d ∷ ds) h =
    let a = among-is 49 57 d (both (among 49 57 d) (all is_digit ds) h).0 in
    let e : eqb d 45 ≡ false = ne_eqb d 45 (λ x. omega (arith, a.0)) in
    rw e (or_right (eqb d 48 && eqb (length ds) 0) h, refl)

-- an integer's text
written : Number → Text
written (plus n) = decimal n
written (minus n) = 45 ∷ decimal (suc n)

written-right : (n : Number) → (is_decimal (written n) ≡ true) × (denotes (written n) ≡ n)
unfolding written decimal is_decimal denotes
written-right (plus zero) = (refl, refl)
written-right (plus (suc n)) = let p = unsigned-text (decimal (suc n)) (decimal-positive (suc n) (suc n) (omega arith) (omega arith)) in (p.0, p.1 ∙ ap plus (decimal-digits (suc n) (suc n) (omega arith)))
written-right (minus n) = (decimal-positive (suc n) (suc n) (omega arith) (omega arith), ap minus (omega (arith, decimal-digits (suc n) (suc n) (omega arith))))

pub numbers-say : NumbersSay
unfolding written
numbers-say n = written-right (plus n)

-- a number's text names it
pub decimal-names : (a b : ℕ) → decimal a ≡ decimal b → a ≡ b
decimal-names a b e = let i : plus a ≡ plus b = sym (numbers-say a).1 ∙ ap denotes e ∙ (numbers-say b).1 in cc

pub decimal-once : DecimalOnce
decimal-once n =
    let p = written-right n in
    record { text = written n; admitted = p.0; said = p.1; only = λ other h e. decimal-same other (written n) h p.0 (e ∙ sym p.1) }
