-- Names and texts, piece by piece: what is reached after each. From the laws of one reader after another.
use mathlib.Core.Path.{◌≡◌, refl, sym, ap, ◌∙◌}
use mathlib.Core.List.{List, ◌∷◌}
use mathlib.Core.Bool.{Bool, true, false, cond}
use Prim.Native.Nat.{ℕ, zero, suc, ◌+◌, ◌-◌, ◌≤◌}
use native.Mathlib.Omega.{arith}
use lib.ListN.{length, get_or, take, drop}
use lib.Dec.{eqb}
use Rattle.scope.specs.Lists.{Text, bit, among}
use Rattle.scope.specs.Frames as scope
use Rattle.scope.specs.Frames.{fault, found, Reader, and_then, ◌>>=◌, give, byte, passing, within, flag, times, only_if, is_small, is_big, big_name, small_name, text_from}
use Rattle.scope.proofs.Tests.{among-is}
use Rattle.std.specs.Prelude.{Result, Ok, Err}
use Rattle.fields.specs.declared.Fault.{Fault}
use Rattle.fields.specs.Places.{said_read, said_at, at_fault, placed, read_at, letter_of, name_of}
use Rattle.fields.proofs.Readers.{Keeps, bind_keeps, passing-keeps, times-keeps, give-keeps, fault-stays, give-stays, goes_on, place-back, Passed, read-stops, read-passes, told, passed, Skipped, skipped}

-- the bytes of a name of length n after its first, b
abbrev after_first : Bool → ℕ → ℕ → Reader Text
after_first big n b = times (n - 1) (passing (letter_of big false)) >>= λ bs. give (b ∷ bs)

-- the bytes of a name of length n
abbrev after_length : Bool → ℕ → Reader Text
after_length big n = passing (letter_of big true) >>= after_first big n

-- a name of either sort is its length, its first byte and the others
pub name-is : (big : Bool) (bs : List ℕ) → (within 1 32 >>= after_length big) bs ≡ name_of big bs
unfolding big_name small_name
name-is true bs = refl
name-is false bs = refl

pub name-keeps : (big : Bool) → Keeps (name_of big)
unfolding big_name small_name
name-keeps true = bind_keeps (within 1 32) _ (passing-keeps _) (λ n. bind_keeps (passing _) _ (passing-keeps _) (λ b. bind_keeps (times (n - 1) _) _ (times-keeps (n - 1) _ (passing-keeps _)) (λ bs. give-keeps _)))
name-keeps false = bind_keeps (within 1 32) _ (passing-keeps _) (λ n. bind_keeps (passing _) _ (passing-keeps _) (λ b. bind_keeps (times (n - 1) _) _ (times-keeps (n - 1) _ (passing-keeps _)) (λ bs. give-keeps _)))

-- 0 stands in no name
pub letter-zero : (big first : Bool) → letter_of big first 0 ≡ false
unfolding is_small is_big
letter-zero true true = refl
letter-zero true false = refl
letter-zero false true = refl
letter-zero false false = refl

-- A name of n bytes, of which b is the first; past the end both are 0
module _ (big : Bool) (bytes : List ℕ) (at n : ℕ) (inside : at ≤ length bytes) (is : n ≡ get_or bytes at 0) where
  pub name-length : among 1 32 n ≡ false → at_fault at ≡ read_at bytes at (name_of big)
  name-length g =
      fault-stays (length bytes) (within 1 32 (drop at bytes)) (after_length big) (at_fault at) at (read-stops (among 1 32) refl bytes at n is inside g) refl
      ∙ ap (placed (length bytes)) (name-is big (drop at bytes))

  module _ (b : ℕ) (first : b ≡ get_or bytes (at + 1) 0) (counted : among 1 32 n ≡ true) where
    pub name-first : letter_of big true b ≡ false → at_fault (at + 1) ≡ read_at bytes at (name_of big)
    name-first g =
        let x = read-passes (among 1 32) refl bytes at n is counted in
        fault-stays (length bytes) (passing (letter_of big true) (drop (at + 1) bytes)) (after_first big (get_or bytes at 0)) (at_fault (at + 1)) (at + 1) (read-stops (letter_of big true) (letter-zero big true) bytes (at + 1) b first (omega (arith, x.inside)) g) refl
        ∙ sym (goes_on (within 1 32) (after_length big) bytes at (at + 1) (get_or bytes at 0) x.reads)
        ∙ ap (placed (length bytes)) (name-is big (drop at bytes))

    pub name-others : (c : Result ℕ Fault) (m : ℕ) → m ≡ n → letter_of big true b ≡ true → c ≡ read_at bytes (at + 2) (times (m - 1) (passing (letter_of big false))) → c ≡ read_at bytes at (name_of big)
    name-others c m w g e =
        let x = read-passes (among 1 32) refl bytes at n is counted in
        let y = read-passes (letter_of big true) (letter-zero big true) bytes (at + 1) b first g in
        let two : at + 2 ≡ at + 1 + 1 = omega arith in
        e
        ∙ ap (λ (p : ℕ). read_at bytes p (times (m - 1) (passing (letter_of big false)))) two
        ∙ ap (λ (k : ℕ). read_at bytes (at + 1 + 1) (times (k - 1) (passing (letter_of big false)))) (w ∙ is)
        ∙ sym (give-stays (length bytes) (times (get_or bytes at 0 - 1) (passing (letter_of big false)) (drop (at + 1 + 1) bytes)) (λ bs. get_or bytes (at + 1) 0 ∷ bs))
        ∙ sym (goes_on (passing (letter_of big true)) (after_first big (get_or bytes at 0)) bytes (at + 1) (at + 1 + 1) (get_or bytes (at + 1) 0) y.reads)
        ∙ sym (goes_on (within 1 32) (after_length big) bytes at (at + 1) (get_or bytes at 0) x.reads)
        ∙ ap (placed (length bytes)) (name-is big (drop at bytes))

-- a text's length was read, and as many bytes
pub record Measured (lo : ℕ) (bytes : List ℕ) (at q p n : ℕ) : Type 0 where
  pub length_is : n ≡ get_or bytes at 0
  pub first : Passed (among lo 64) bytes at q
  pub others : Skipped n bytes q p

-- A text of lo to 64 bytes
module _ (lo : ℕ) (bytes : List ℕ) (at : ℕ) (inside : at ≤ length bytes) (c : Result ℕ Fault) (read : said_read c ≡ said_at bytes at (within lo 64)) where
  pub text-length : (good : Text → Bool) (f : Fault) → c ≡ Err f → c ≡ read_at bytes at (text_from lo good)
  text-length good f h = fault-stays (length bytes) (within lo 64 (drop at bytes)) (λ n. only_if good (times n byte)) c f.at (told _ _ c read) h

  module _ (q n : ℕ) (here : c ≡ Ok q) (is : n ≡ get_or bytes at 0) where
    pub text-begun : Passed (among lo 64) bytes at q
    text-begun = passed (among lo 64) bytes at q c inside (told _ _ c read) here

    module _ (d : Result ℕ Fault) (then : said_read d ≡ said_at bytes q (times n byte)) where
      pub text-short : (good : Text → Bool) (f : Fault) → d ≡ Err f → d ≡ read_at bytes at (text_from lo good)
      text-short good f h =
          fault-stays (length bytes) (times n byte (drop q bytes)) (λ a rest. cond (good a) (found a rest) (fault (drop q bytes))) d f.at (told _ _ d then) h
          ∙ ap (λ (k : ℕ). read_at bytes q (only_if good (times k byte))) is
          ∙ sym (goes_on (within lo 64) (λ n. only_if good (times n byte)) bytes at q (get_or bytes at 0) text-begun.reads)

      pub measured : (p : ℕ) → d ≡ Ok p → Measured lo bytes at q p n
      measured p there =
          let x = text-begun in
          record { length_is = is; first = x; others = skipped n bytes q p d (omega (arith, x.next, x.inside)) (told _ _ d then) there }

-- judged whole, by the bytes between two places
module _ (lo : ℕ) (good : Text → Bool) (bytes : List ℕ) (at q p n : ℕ) (m : Measured lo bytes at q p n) where
  text-judged : (x : Bool) → good (take (p - q) (drop q bytes)) ≡ x → placed (length bytes) (cond x (found (take n (drop q bytes)) (drop p bytes)) (fault (drop q bytes))) ≡ read_at bytes at (text_from lo good)
  text-judged x g =
      let w : p - q ≡ n = omega (arith, m.others.next) in
      ap (λ (b : Bool). placed (length bytes) (cond b (found (take n (drop q bytes)) (drop p bytes)) (fault (drop q bytes)))) (sym g ∙ ap (λ (k : ℕ). good (take k (drop q bytes))) w)
      ∙ sym (ap (λ (z : scope.Read Text). placed (length bytes) (and_then z (λ a rest. cond (good a) (found a rest) (fault (drop q bytes))))) m.others.reads)
      ∙ ap (λ (k : ℕ). read_at bytes q (only_if good (times k byte))) m.length_is
      ∙ sym (goes_on (within lo 64) (λ n. only_if good (times n byte)) bytes at q (get_or bytes at 0) m.first.reads)

  pub text-good : good (take (p - q) (drop q bytes)) ≡ true → Ok p ≡ read_at bytes at (text_from lo good)
  unfolding placed
  text-good g = ap Ok (sym (place-back bytes p m.others.inside)) ∙ text-judged true g

  pub text-bad : good (take (p - q) (drop q bytes)) ≡ false → at_fault q ≡ read_at bytes at (text_from lo good)
  unfolding placed
  text-bad g = ap at_fault (sym (place-back bytes q (omega (arith, m.others.next, m.others.inside)))) ∙ text-judged false g

-- 00 and 01 are their own bits
pub flag-bit : (b : ℕ) → among 0 1 b ≡ true → bit (eqb b 1) ≡ b
flag-bit b h = go b (among-is 0 1 b h).1
  where
    go : (b : ℕ) → b ≤ 1 → bit (eqb b 1) ≡ b
    go zero l = refl
    go (suc zero) l = refl
    go (suc (suc b)) l = absurd (omega arith)

pub flag-keeps : Keeps flag
flag-keeps = bind_keeps (within 0 1) _ (passing-keeps _) (λ b. give-keeps _)
