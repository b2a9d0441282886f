-- The one-step law of reading patterns, free of fuel: from it that a reader never gives back more than it got.
use mathlib.Core.Path.{◌≡◌, refl, ap}
use mathlib.Core.List.{List, [], ◌∷◌}
use mathlib.Core.Bool.{Bool, true, false, cond}
use Prim.Native.Nat.{ℕ, zero, suc, ◌+◌, ◌-◌, ◌≤◌, ◌<◌}
use native.Mathlib.Omega.{arith}
use lib.ListN.{length, get_or}
use Rattle.scope.specs.Lists.{Text, among}
use Rattle.scope.specs.Patterns.{Raw, variable, assign, integer_of, byte_string_of, inner}
use Rattle.scope.specs.Frames.{Read, fault, found, Reader, and_then, ◌>>=◌, give, byte, passing, within, flag, times, choosing, only_if, name_by, text_from, small_name, is_decimal, pattern_kinds, pattern, patterns_in, patterns}

-- what is left of the bytes is fewer than n
abbrev Under : {A : Type 0} → Read A → ℕ → Type 0
Under (fault bs) n = Unit {0}
Under (found a bs) n = length bs < n

under_more : {A : Type 0} (x : Read A) {n m : ℕ} → n ≤ m → Under x n → Under x m
under_more (fault bs) l h = tt
under_more (found a bs) l h = omega arith

-- a reader never gives back more than it got
record Shrinks {A : Type 0} (r : Reader A) : Type 0 where
  at : (bs : List ℕ) → Under (r bs) (suc (length bs))

give_shrinks : {A : Type 0} (a : A) → Shrinks (give a)
give_shrinks a = record { at = λ bs. omega arith }

byte_shrinks : Shrinks byte
byte_shrinks = record { at = go }
  where
    go : (bs : List ℕ) → Under (byte bs) (suc (length bs))
    go [] = tt
    go (b ∷ bs) = omega arith

passing_shrinks : (good : ℕ → Bool) → Shrinks (passing good)
passing_shrinks good = record { at = go }
  where
    test : (b : ℕ) (bs : List ℕ) (x : Bool) → Under (cond x (found b bs) (fault (b ∷ bs))) (suc (suc (length bs)))
    test b bs true = omega arith
    test b bs false = tt

    go : (bs : List ℕ) → Under (passing good bs) (suc (length bs))
    go [] = tt
    go (b ∷ bs) = test b bs (good b)

bind_shrinks : {A B : Type 0} (r : Reader A) (f : A → Reader B) → Shrinks r → ((a : A) → Shrinks (f a)) → Shrinks (r >>= f)
bind_shrinks r f h k = record { at = λ bs. go bs (r bs) (h.at bs) }
  where
    go : (bs : List ℕ) (x : Read _) → Under x (suc (length bs)) → Under (and_then x f) (suc (length bs))
    go bs (fault rest) u = tt
    go bs (found a rest) u = under_more (f a rest) u ((k a).at rest)

judging_shrinks : {A : Type 0} (good : A → Bool) (r : Reader A) → Shrinks r → Shrinks (only_if good r)
judging_shrinks {A} good r h = record { at = λ bs. go bs (r bs) (h.at bs) }
  where
    test : (a : A) (bs rest : List ℕ) (x : Bool) → length rest < suc (length bs) → Under (cond x (found a rest) (fault bs)) (suc (length bs))
    test a bs rest true u = u
    test a bs rest false u = tt

    go : (bs : List ℕ) (x : Read A) → Under x (suc (length bs)) → Under (and_then x (λ a rest. cond (good a) (found a rest) (fault bs))) (suc (length bs))
    go bs (fault rest) u = tt
    go bs (found a rest) u = test a bs rest (good a) u

times_shrinks : {A : Type 0} (n : ℕ) (r : Reader A) → Shrinks r → Shrinks (times n r)
times_shrinks {A} zero r h = give_shrinks {A = List A} []
times_shrinks {A} (suc n) r h = bind_shrinks r _ h (λ a. bind_shrinks (times n r) _ (times_shrinks n r h) (λ l. give_shrinks (a ∷ l)))

flag_shrinks : Shrinks flag
flag_shrinks = bind_shrinks (within 0 1) _ (passing_shrinks (among 0 1)) (λ b. give_shrinks _)

name_shrinks : (first other : ℕ → Bool) → Shrinks (name_by first other)
name_shrinks first other =
    bind_shrinks (within 1 32) _ (passing_shrinks (among 1 32))
    (λ n. bind_shrinks (passing first) _ (passing_shrinks first) (λ b. bind_shrinks (times (n - 1) (passing other)) _ (times_shrinks (n - 1) (passing other) (passing_shrinks other)) (λ bs. give_shrinks (b ∷ bs))))

text_shrinks : (lo : ℕ) (good : Text → Bool) → Shrinks (text_from lo good)
text_shrinks lo good = bind_shrinks (within lo 64) _ (passing_shrinks (among lo 64)) (λ n. judging_shrinks good (times n byte) (times_shrinks n byte byte_shrinks))

small_shrinks : Shrinks small_name
unfolding small_name
small_shrinks = name_shrinks _ _

-- something holds of everything in a list, and so of what stands at a place, or past the end
abbrev pub Every : {A : Type 0} → (A → Type 0) → List A → Type 0
Every p [] = Unit {0}
Every p (x ∷ xs) = p x × Every p xs

pub every-at : {A : Type 0} (P : A → Type 0) (xs : List A) (other : A) → Every P xs → P other → (k : ℕ) → P (get_or xs k other)
every-at P [] other e h k = h
every-at P (x ∷ xs) other e h zero = e.0
every-at P (x ∷ xs) other e h (suc k) = every-at P xs other e.1 h k

fault_shrinks : {A : Type 0} (at : List ℕ) → Shrinks {A = A} (λ rest. fault at)
fault_shrinks at = record { at = λ bs. tt }

-- a reader that is chosen by a byte takes that byte
choosing-under : {A : Type 0} (rs : List (Reader A)) → Every Shrinks rs → (bs : List ℕ) → Under (choosing rs bs) (length bs)
choosing-under rs e [] = tt
choosing-under rs e (b ∷ bs) = (every-at Shrinks rs (λ rest. fault (b ∷ bs)) e (fault_shrinks (b ∷ bs)) b).at bs

kinds_shrink : Every Shrinks pattern_kinds
kinds_shrink = (give_shrinks _, (named variable, (named assign, (texted 1 is_decimal integer_of, (texted 0 (λ t. true) byte_string_of, (a_list, (a_ctor, (give_shrinks _, (a_tuple, tt)))))))))
  where
    named : (p : Text → Raw) → Shrinks (small_name >>= λ n. give (p n))
    named p = bind_shrinks small_name _ small_shrinks (λ n. give_shrinks (p n))

    texted : (lo : ℕ) (good : Text → Bool) (f : Text → Raw) → Shrinks (text_from lo good >>= λ t. give (f t))
    texted lo good f = bind_shrinks (text_from lo good) _ (text_shrinks lo good) (λ t. give_shrinks (f t))

    a_list : Shrinks (get_or pattern_kinds 5 (λ bs. fault bs))
    a_list = bind_shrinks byte _ byte_shrinks (λ k. bind_shrinks flag _ flag_shrinks (λ tail. give_shrinks _))

    a_ctor : Shrinks (get_or pattern_kinds 6 (λ bs. fault bs))
    a_ctor = bind_shrinks byte _ byte_shrinks (λ c. bind_shrinks byte _ byte_shrinks (λ k. bind_shrinks flag _ flag_shrinks (λ spread. give_shrinks _)))

    a_tuple : Shrinks (get_or pattern_kinds 8 (λ bs. fault bs))
    a_tuple = bind_shrinks byte _ byte_shrinks (λ k. give_shrinks _)

-- a pattern takes a byte or more
pattern-under : (bs : List ℕ) → Under (pattern bs) (length bs)
unfolding pattern
pattern-under bs = choosing-under pattern_kinds kinds_shrink bs

patterns_fuel : (k j n : ℕ) (bs : List ℕ) → length bs < k → length bs < j → patterns_in k n bs ≡ patterns_in j n bs
unfolding patterns_in
patterns_fuel zero j n bs h i = absurd (omega arith)
patterns_fuel (suc k) zero n bs h i = absurd (omega arith)
patterns_fuel (suc k) (suc j) zero bs h i = refl
patterns_fuel (suc k) (suc j) (suc n) bs h i = go (pattern bs) (pattern-under bs) (λ m rest a b. patterns_fuel k j m rest a b)
  where
    rest_of : ℕ → Read Raw → Read (List Raw)
    rest_of f x = and_then x (λ p. patterns_in f (inner p + n) >>= λ ps. give (p ∷ ps))

    go : (x : Read Raw) → Under x (length bs) → ((m : ℕ) (rest : List ℕ) → length rest < k → length rest < j → patterns_in k m rest ≡ patterns_in j m rest) → rest_of k x ≡ rest_of j x
    go (fault rest) u deeper = refl
    go (found p rest) u deeper = ap (λ (y : Read (List Raw)). and_then y (λ ps. give (p ∷ ps))) (deeper (inner p + n) rest (omega arith) (omega arith))

-- no pattern
pub patterns-none : (bs : List ℕ) → patterns 0 bs ≡ found [] bs
unfolding patterns patterns_in
patterns-none bs = refl

-- one pattern, then its inner ones and the others
pub patterns_law : (n : ℕ) (bs : List ℕ) → patterns (suc n) bs ≡ (pattern >>= λ p. patterns (inner p + n) >>= λ ps. give (p ∷ ps)) bs
unfolding patterns patterns_in
patterns_law n bs = go (pattern bs) (pattern-under bs)
  where
    go : (x : Read Raw) → Under x (length bs) → and_then x (λ p. patterns_in (length bs) (inner p + n) >>= λ ps. give (p ∷ ps)) ≡ and_then x (λ p. patterns (inner p + n) >>= λ ps. give (p ∷ ps))
    go (fault rest) u = refl
    go (found p rest) u = ap (λ (y : Read (List Raw)). and_then y (λ ps. give (p ∷ ps))) (patterns_fuel (length bs) (suc (length rest)) (inner p + n) rest u (omega arith))
