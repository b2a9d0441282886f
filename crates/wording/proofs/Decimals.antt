-- A number's digits are those of its tenth and one more; 20 hold a number of 64 bits; they are what the library prints. No law mentions fuel.
use Rattle.std.proofs.Common.{◌≡◌, ℕ, zero, suc, ◌/◌, ◌%◌, ◌^◌, ◌<◌, ◌≤◌, [], ◌∷◌, ◌++◌, List, Bool, cond, ap, sym, ◌+◌, ◌*◌, ◌∙◌, refl, true, false, length, length-append, arith}
use Rattle.std.specs.Fmt.{decimal as printed}
use Rattle.std.proofs.lemmas.Fmt.{decimal_by_steps}
use lib.Dec.{ltb}
use borrow.Author.Tests.{lt-ltb, le-ltb, ltb-true, ltb-false}
use Rattle.scope.specs.Lists.{Text}
use Rattle.scope.specs.Text.{decimal_in, decimal}

-- a number below 10 is its digit
in_short : (k n : ℕ) → n < 10 → decimal_in k n ≡ (48 + n) ∷ []
in_short zero n h = refl
in_short (suc k) n h = ap (λ (b : Bool). cond b ((48 + n) ∷ []) (decimal_in k (n / 10) ++ (48 + n % 10) ∷ [])) (lt-ltb n 10 h)

in_long : (k n : ℕ) → 10 ≤ n → decimal_in (suc k) n ≡ decimal_in k (n / 10) ++ (48 + n % 10) ∷ []
in_long k n h = ap (λ (b : Bool). cond b ((48 + n) ∷ []) (decimal_in k (n / 10) ++ (48 + n % 10) ∷ [])) (le-ltb n 10 h)

decimal_fuel : (k j n : ℕ) → n ≤ k → n ≤ j → decimal_in k n ≡ decimal_in j n
decimal_fuel zero j n h i = in_short zero n (omega arith) ∙ sym (in_short j n (omega arith))
decimal_fuel (suc k) zero n h i = in_short (suc k) n (omega arith) ∙ sym (in_short zero n (omega arith))
decimal_fuel (suc k) (suc j) n h i = go (ltb n 10) refl (λ l. decimal_fuel k j (n / 10) (omega arith) (omega arith))
  where
    go : (b : Bool) → ltb n 10 ≡ b → (10 ≤ n → decimal_in k (n / 10) ≡ decimal_in j (n / 10)) → decimal_in (suc k) n ≡ decimal_in (suc j) n
    go true e again = in_short (suc k) n (ltb-true n 10 e) ∙ sym (in_short (suc j) n (ltb-true n 10 e))
    go false e again = let l = ltb-false n 10 e in in_long k n l ∙ ap (λ (t : Text). t ++ (48 + n % 10) ∷ []) (again l) ∙ sym (in_long j n l)

pub decimal-short : (n : ℕ) → n < 10 → decimal n ≡ (48 + n % 10) ∷ []
unfolding decimal
decimal-short n h = in_short n n h ∙ ap (λ (d : ℕ). (48 + d) ∷ []) (omega arith)

pub decimal-long : (n : ℕ) → 10 ≤ n → decimal n ≡ decimal (n / 10) ++ (48 + n % 10) ∷ []
unfolding decimal
decimal-long zero h = absurd (omega arith)
decimal-long (suc n) h = in_long n (suc n) h ∙ ap (λ (t : Text). t ++ (48 + suc n % 10) ∷ []) (decimal_fuel n (suc n / 10) (suc n / 10) (omega arith) (omega arith))

-- ten to the k
tens : ℕ → ℕ
tens zero = 1
tens (suc k) = 10 * tens k

decimal-digits : (k n : ℕ) → n < tens (suc k) → length (decimal n) ≤ suc k
unfolding tens
decimal-digits zero n h = omega (arith, ap length (decimal-short n (omega arith)))
decimal-digits (suc k) n h = go (ltb n 10) refl (decimal-digits k (n / 10) (omega arith))
  where
    go : (b : Bool) → ltb n 10 ≡ b → length (decimal (n / 10)) ≤ suc k → length (decimal n) ≤ suc (suc k)
    go true e again = omega (arith, ap length (decimal-short n (ltb-true n 10 e)))
    go false e again = omega (arith, ap length (decimal-long n (ltb-false n 10 e)), length-append (decimal (n / 10)) ((48 + n % 10) ∷ []))

pub decimal-fits : (n : ℕ) → n < 18446744073709551616 → length (decimal n) ≤ 20
unfolding tens
decimal-fits n h = decimal-digits 19 n (omega arith)

pub decimal-printed : (n : ℕ) → n < 2 ^ 64 → printed n ≡ decimal n
unfolding decimal
decimal-printed n h = decimal_by_steps (λ m ds. (k : ℕ) → m ≤ k → ds ≡ decimal_in k m) one more n h n (omega arith)
  where
    one : (m : ℕ) → m < 10 → (k : ℕ) → m ≤ k → (48 + m) ∷ [] ≡ decimal_in k m
    one m l k le = sym (in_short k m l)

    more : (m : ℕ) (ds : List ℕ) → 10 ≤ m → ((k : ℕ) → m / 10 ≤ k → ds ≡ decimal_in k (m / 10)) → (k : ℕ) → m ≤ k → ds ++ (48 + m % 10) ∷ [] ≡ decimal_in k m
    more m ds l again zero le = absurd (omega arith)
    more m ds l again (suc k) le = ap (λ t. t ++ (48 + m % 10) ∷ []) (again k (omega arith)) ∙ sym (in_long k m l)
