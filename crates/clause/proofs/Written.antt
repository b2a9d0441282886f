-- Patterns as written, piece by piece, and one after another: what is reached after each, and how many follow. From the laws of one reader after another.
use mathlib.Core.Path.{◌≡◌, refl, sym, ap, ap₂, subst, ◌∙◌}
use mathlib.Core.List.{List, [], ◌∷◌}
use mathlib.Core.Bool.{Bool, true, false, cond}
use Prim.Native.Nat.{ℕ, zero, suc, ◌+◌, ◌-◌, ◌≤◌, ◌<◌}
use native.Mathlib.Nat.{add-zero}
use native.Mathlib.Omega.{arith}
use lib.ListN.{length, get_or, take, drop, get_or-eq_default, length-drop}
use lib.Seq.{get_or-drop}
use lib.Dec.{eqb}
use Rattle.scope.proofs.Tests.{clash}
use Rattle.laws.proofs.Reading.{patterns-none, patterns_law}
use Rattle.scope.specs.Lists.{Text, bit, among}
use Rattle.scope.specs.Patterns.{Raw, variable, assign, integer_of, byte_string_of, list_of, constructor, inner}
use Rattle.scope.specs.Frames as scope
use Rattle.scope.specs.Frames.{fault, found, Reader, and_then, ◌>>=◌, give, byte, within, flag, times, choosing, small_name, is_decimal, text_from, pattern_kinds, pattern, patterns_in, patterns}
use Rattle.std.specs.Prelude.{Result, Ok, Err}
use Rattle.fields.specs.declared.Fault.{Fault}
use Rattle.clause.specs.declared.Pattern.{Pattern}
use Rattle.fields.specs.Places as places
use Rattle.fields.specs.Places.{placed, read_at}
use Rattle.clause.specs.Written.{flagged, nothing, said_pattern, said_pattern_of, ends_at, at_fault, placed_pattern, pattern_at, leaving, leaves}
use Rattle.fields.proofs.Readers.{Tail, Left, Keeps, give-keeps, fault-keeps, byte-keeps, passing-keeps, bind_keeps, judging_keeps, times-keeps, Every, choosing-keeps, fault-stays, give-stays, goes_on, found_at, place-back, tail-tail, tail-place, tail-length, drop-tail, Skipped, chosen, chosen_none}
use Rattle.fields.proofs.Readings.{name-keeps, flag-bit, flag-keeps}

-- an answer is the place that was reached, and the count, exactly when it says what the pattern's reader says
said-placed : (n : ℕ) (x : scope.Read Raw) → said_pattern (placed_pattern n x) ≡ said_pattern_of n x
unfolding placed_pattern said_pattern_of
said-placed n (fault rest) = refl
said-placed n (found p rest) = refl

same-said : (r s : Result Pattern Fault) → said_pattern r ≡ said_pattern s → r ≡ s
same-said (Ok p) (Ok q) e =
    let i = ap (λ x. x.0) e in
    let l : p.inner ≡ q.inner = cc in
    ap₂ ends_at (ap (λ x. x.1) e) l
same-said (Ok p) (Err q) e = let i = ap (λ x. x.0) e in clash (cc)
same-said (Err p) (Ok q) e = let i = ap (λ x. x.0) e in clash (cc)
same-said (Err p) (Err q) e = ap (λ x. at_fault x.1) e

pub pattern-tells : (n : ℕ) (x : scope.Read Raw) (r : Result Pattern Fault) → r ≡ placed_pattern n x → said_pattern r ≡ said_pattern_of n x
pattern-tells n x r e = ap said_pattern e ∙ said-placed n x

pub pattern-told : (n : ℕ) (x : scope.Read Raw) (r : Result Pattern Fault) → said_pattern r ≡ said_pattern_of n x → r ≡ placed_pattern n x
pattern-told n x r e = same-said r (placed_pattern n x) (e ∙ sym (said-placed n x))

-- what was read leaves as many as what is made of it
pub leaving-give : {A : Type 0} (n : ℕ) (x : scope.Read A) (f : A → Raw) (k : ℕ) → ((a : A) → inner (f a) ≡ k) → leaving k (placed n x) ≡ placed_pattern n (and_then x (λ a. give (f a)))
unfolding placed placed_pattern
leaving-give n (fault rest) f k h = refl
leaving-give n (found a rest) f k h = ap (ends_at (n - length rest)) (sym (h a))

-- a pattern that was found, by its place
pub found-pattern : (bytes : List ℕ) (q : ℕ) (p : Raw) → q ≤ length bytes → ends_at q (inner p) ≡ placed_pattern (length bytes) (found p (drop q bytes))
unfolding placed_pattern
found-pattern bytes q p h = ap (λ (k : ℕ). ends_at k (inner p)) (sym (place-back bytes q h))

-- n bytes, then a flag
module _ (n : ℕ) (bytes : List ℕ) (at : ℕ) (c : Result ℕ Fault) where
  pub flagged-short : (q : Fault) → c ≡ read_at bytes at (times n byte) → c ≡ Err q → c ≡ read_at bytes at (flagged n)
  flagged-short q e f = fault-stays (length bytes) (times n byte (drop at bytes)) (λ bs. within 0 1) c q.at e f

  pub flagged-on : (q : ℕ) → Skipped n bytes at q → c ≡ read_at bytes q (within 0 1) → c ≡ read_at bytes at (flagged n)
  flagged-on q s e = e ∙ sym (goes_on (times n byte) (λ bs. within 0 1) bytes at q (take n (drop at bytes)) s.reads)

-- a list leaves its count, and one more where the flag says a tail
list-is : (n : ℕ) (bs : List ℕ) → leaving (get_or bs 0 0 + get_or bs 1 0) (placed n (flagged 1 bs)) ≡ placed_pattern n (get_or pattern_kinds 5 nothing bs)
unfolding placed placed_pattern
list-is n [] = refl
list-is n (k ∷ []) = refl
list-is n (k ∷ b ∷ bs) = go (among 0 1 b) refl
  where
    go : (x : Bool) → among 0 1 b ≡ x → leaving (k + b) (placed n (cond x (found b bs) (fault (b ∷ bs)))) ≡ placed_pattern n (and_then (and_then (cond x (found b bs) (fault (b ∷ bs))) (λ y. give (eqb y 1))) (λ tail. give (list_of k tail)))
    go true h = ap (λ (j : ℕ). ends_at (n - length bs) (k + j)) (sym (flag-bit b h))
    go false h = refl

list-most : (n : ℕ) (bs : List ℕ) → get_or bs 0 0 ≤ 255 → leaves (placed_pattern n (get_or pattern_kinds 5 nothing bs)) ≤ 256
unfolding placed_pattern
list-most n [] h = omega arith
list-most n (k ∷ []) h = omega arith
list-most n (k ∷ b ∷ bs) h = go (among 0 1 b)
  where
    less : (x : Bool) → k + bit x ≤ 256
    less true = omega arith
    less false = omega arith

    go : (x : Bool) → leaves (placed_pattern n (and_then (and_then (cond x (found b bs) (fault (b ∷ bs))) (λ y. give (eqb y 1))) (λ tail. give (list_of k tail)))) ≤ 256
    go true = less (eqb b 1)
    go false = omega arith

-- a constructor leaves its count of arguments
ctor-is : (n : ℕ) (bs : List ℕ) → leaving (get_or bs 1 0) (placed n (flagged 2 bs)) ≡ placed_pattern n (get_or pattern_kinds 6 nothing bs)
unfolding placed placed_pattern
ctor-is n [] = refl
ctor-is n (c ∷ []) = refl
ctor-is n (c ∷ k ∷ []) = refl
ctor-is n (c ∷ k ∷ b ∷ bs) = go (among 0 1 b)
  where
    go : (x : Bool) → leaving k (placed n (cond x (found b bs) (fault (b ∷ bs)))) ≡ placed_pattern n (and_then (and_then (cond x (found b bs) (fault (b ∷ bs))) (λ y. give (eqb y 1))) (λ spread. give (constructor c k spread)))
    go true = refl
    go false = refl

-- a tuple leaves its count
tuple_is : (n : ℕ) (bs : List ℕ) → leaving (get_or bs 0 0) (placed n (byte bs)) ≡ placed_pattern n (get_or pattern_kinds 8 nothing bs)
unfolding placed placed_pattern
tuple_is n [] = refl
tuple_is n (k ∷ bs) = refl

-- the first of what is left at a place stands there
first-is : (bytes : List ℕ) (at : ℕ) → get_or (drop at bytes) 0 0 ≡ get_or bytes at 0
first-is bytes at = get_or-drop at bytes 0 0 ∙ ap (λ (i : ℕ). get_or bytes i 0) (add-zero at)

-- Each from its place in the bytes on
module _ (bytes : List ℕ) (at k : ℕ) (c : Result ℕ Fault) (r : Result Pattern Fault) (said : r ≡ leaving k c) where
  pub list_read : (j : ℕ) → k ≡ get_or bytes at 0 + j → j ≡ get_or bytes (at + 1) 0 → c ≡ read_at bytes at (flagged 1) → r ≡ pattern_at bytes at (get_or pattern_kinds 5 nothing)
  list_read j a b e =
      let m : k ≡ get_or (drop at bytes) 0 0 + get_or (drop at bytes) 1 0 = omega (arith, first-is bytes at, get_or-drop at bytes 1 0) in
      said ∙ ap (λ (i : ℕ). leaving i c) m ∙ ap (leaving (get_or (drop at bytes) 0 0 + get_or (drop at bytes) 1 0)) e ∙ list-is (length bytes) (drop at bytes)

  pub ctor-read : k ≡ get_or bytes (at + 1) 0 → c ≡ read_at bytes at (flagged 2) → r ≡ pattern_at bytes at (get_or pattern_kinds 6 nothing)
  ctor-read m e = said ∙ ap (λ (i : ℕ). leaving i c) (m ∙ sym (get_or-drop at bytes 1 0)) ∙ ap (leaving (get_or (drop at bytes) 1 0)) e ∙ ctor-is (length bytes) (drop at bytes)

  pub tuple-read : k ≡ get_or bytes at 0 → c ≡ read_at bytes at byte → r ≡ pattern_at bytes at (get_or pattern_kinds 8 nothing)
  tuple-read m e = said ∙ ap (λ (i : ℕ). leaving i c) (m ∙ sym (first-is bytes at)) ∙ ap (leaving (get_or (drop at bytes) 0 0)) e ∙ tuple_is (length bytes) (drop at bytes)

pub list-few : (bytes : List ℕ) (at : ℕ) (r : Result Pattern Fault) → get_or bytes at 0 ≤ 255 → r ≡ pattern_at bytes at (get_or pattern_kinds 5 nothing) → leaves r ≤ 256
list-few bytes at r h e =
    omega (arith, ap leaves e, list-most (length bytes) (drop at bytes) (omega (arith, first-is bytes at)))

-- A pattern, by its first byte
pub pattern-end : (bytes : List ℕ) (at : ℕ) → at ≤ length bytes → length bytes ≤ at → at_fault at ≡ pattern_at bytes at pattern
unfolding pattern placed_pattern
pattern-end bytes at i h = ap at_fault (sym (place-back bytes at i)) ∙ sym (ap (placed_pattern (length bytes)) (chosen_none pattern_kinds bytes at h))

pub pattern-at : (bytes : List ℕ) (at k : ℕ) → at < length bytes → get_or bytes at 0 ≡ k → placed_pattern (length bytes) (get_or pattern_kinds k (λ rest. fault (drop at bytes)) (drop (at + 1) bytes)) ≡ pattern_at bytes at pattern
unfolding pattern
pattern-at bytes at k h e = sym (ap (placed_pattern (length bytes)) (chosen pattern_kinds bytes at k h e))

-- no pattern has this byte
pub pattern-none : (bytes : List ℕ) (at : ℕ) → at < length bytes → 9 ≤ get_or bytes at 0 → at_fault at ≡ pattern_at bytes at pattern
unfolding placed_pattern
pattern-none bytes at i h =
    ap at_fault (sym (place-back bytes at (omega arith)))
    ∙ ap (λ (r : Reader Raw). placed_pattern (length bytes) (r (drop (at + 1) bytes))) (sym (get_or-eq_default pattern_kinds (λ rest. fault (drop at bytes)) h))
    ∙ pattern-at bytes at (get_or bytes at 0) i refl

text-keeps : (lo : ℕ) (good : Text → Bool) → Keeps (text_from lo good)
text-keeps lo good = bind_keeps (within lo 64) _ (passing-keeps _) (λ n. judging_keeps good (times n byte) (times-keeps n byte byte-keeps))

kinds_keep : Every pattern_kinds
kinds_keep = (give-keeps _, (named variable, (named assign, (texted 1 is_decimal integer_of, (texted 0 (λ t. true) byte_string_of, (a_list, (a_ctor, (give-keeps _, (a_tuple, tt)))))))))
  where
    named : (p : Text → Raw) → Keeps (small_name >>= λ n. give (p n))
    named p = bind_keeps small_name _ (name-keeps false) (λ n. give-keeps (p n))

    texted : (lo : ℕ) (good : Text → Bool) (f : Text → Raw) → Keeps (text_from lo good >>= λ t. give (f t))
    texted lo good f = bind_keeps (text_from lo good) _ (text-keeps lo good) (λ t. give-keeps (f t))

    a_list : Keeps (get_or pattern_kinds 5 nothing)
    a_list = bind_keeps byte _ byte-keeps (λ k. bind_keeps flag _ flag-keeps (λ tail. give-keeps _))

    a_ctor : Keeps (get_or pattern_kinds 6 nothing)
    a_ctor = bind_keeps byte _ byte-keeps (λ c. bind_keeps byte _ byte-keeps (λ k. bind_keeps flag _ flag-keeps (λ spread. give-keeps _)))

    a_tuple : Keeps (get_or pattern_kinds 8 nothing)
    a_tuple = bind_keeps byte _ byte-keeps (λ k. give-keeps _)

pub pattern-keeps : Keeps pattern
unfolding pattern
pattern-keeps = choosing-keeps pattern_kinds kinds_keep

-- what is left after a value
abbrev After : {A : Type 0} → scope.Read A → List ℕ → Type 0
After (fault rest) bs = Unit {0}
After (found a rest) bs = Tail rest bs

left_after : {A : Type 0} (x : scope.Read A) (bs : List ℕ) → Left x bs → After x bs
left_after (fault rest) bs h = tt
left_after (found a rest) bs h = h

kind-after : (rs : List (Reader Raw)) → Every rs → (k : ℕ) (bs stop : List ℕ) → After (get_or rs k (λ rest. fault stop) bs) bs
kind-after [] e k bs stop = tt
kind-after (r ∷ rs) e zero bs stop = left_after (r bs) bs (e.0.leaves bs)
kind-after (r ∷ rs) e (suc k) bs stop = kind-after rs e.1 k bs stop

-- the place that was reached
abbrev stop_of : Result Pattern Fault → ℕ
stop_of (Ok p) = p.next
stop_of (Err e) = e.at

-- a pattern takes a byte or more
pub record Opened (bytes : List ℕ) (at q k : ℕ) : Type 0 where
  pub raw : Raw
  pub reads : pattern (drop at bytes) ≡ found raw (drop q bytes)
  pub follow : k ≡ inner raw
  pub onward : at < q
  pub inside : q ≤ length bytes

pub opened : (bytes : List ℕ) (at q k : ℕ) (c : Result Pattern Fault) → at ≤ length bytes → c ≡ pattern_at bytes at pattern → c ≡ ends_at q k → Opened bytes at q k
unfolding pattern placed_pattern
opened bytes at q k c i e h = go (drop at bytes) refl (sym h ∙ e)
  where
    there : (b : ℕ) (bs : List ℕ) → drop at bytes ≡ b ∷ bs → (x : scope.Read Raw) → choosing pattern_kinds (b ∷ bs) ≡ x → After x bs → ends_at q k ≡ placed_pattern (length bytes) x → Opened bytes at q k
    there b bs d (fault rest) g t w = clash (cc)
    there b bs d (found p rest) g t w =
        let place : q ≡ length bytes - length rest = ap stop_of w in
        let l : length (drop at bytes) ≡ suc (length bs) = ap length d in
        let tail = tail-tail (tail-tail t (Tail.after Tail.same)) (subst (λ (z : List ℕ). Tail z bytes) d (drop-tail at bytes)) in
        record {
          raw = p;
          reads = ap (choosing pattern_kinds) d ∙ g ∙ ap (found p) (tail-place tail ∙ ap (λ (j : ℕ). drop j bytes) (sym place));
          follow = ap leaves w;
          onward = omega (arith, tail-length t, length-drop at bytes);
          inside = omega (arith, tail-length tail);
        }

    go : (bs : List ℕ) → drop at bytes ≡ bs → ends_at q k ≡ placed_pattern (length bytes) (choosing pattern_kinds (drop at bytes)) → Opened bytes at q k
    go [] d w =
        let v : ends_at q k ≡ placed_pattern (length bytes) (fault []) = w ∙ ap (λ (z : List ℕ). placed_pattern (length bytes) (choosing pattern_kinds z)) d in
        clash (cc)
    go (b ∷ bs) d w = there b bs d (choosing pattern_kinds (b ∷ bs)) refl (kind-after pattern_kinds kinds_keep b bs (b ∷ bs)) (w ∙ ap (λ (z : List ℕ). placed_pattern (length bytes) (choosing pattern_kinds z)) d)

-- Patterns one after another, each with its inner ones
module _ (bytes : List ℕ) (p : ℕ) where
  -- what comes after a pattern and before n others
  abbrev others : ℕ → Raw → Reader (List Raw)
  others n r = patterns (inner r + n) >>= λ ps. give (r ∷ ps)

  pub patterns-done : (n : ℕ) → n ≤ 0 → p ≤ length bytes → Ok p ≡ read_at bytes p (patterns n)
  patterns-done zero h i = found_at (patterns 0) bytes p p [] i (patterns-none (drop p bytes))
  patterns-done (suc n) h i = absurd (omega arith)

  pub patterns-stops : (n : ℕ) (c : Result Pattern Fault) (q : Fault) → 0 < n → c ≡ pattern_at bytes p pattern → c ≡ Err q → Err q ≡ read_at bytes p (patterns n)
  unfolding placed placed_pattern
  patterns-stops zero c q h e f = absurd (omega arith)
  patterns-stops (suc n) c q h e f = go (pattern (drop p bytes)) (sym f ∙ e) ∙ sym (ap (placed (length bytes)) (patterns_law n (drop p bytes)))
    where
      go : (x : scope.Read Raw) → at_fault q.at ≡ placed_pattern (length bytes) x → places.at_fault q.at ≡ placed (length bytes) (and_then x (others n))
      go (fault rest) w = let k : q.at ≡ length bytes - length rest = cc in ap places.at_fault k
      go (found r rest) w = clash (cc)

  pub patterns-goes : (n q k : ℕ) → 0 < n → Opened bytes p q k → read_at bytes p (patterns n) ≡ read_at bytes q (patterns (n - 1 + k))
  patterns-goes zero q k h x = absurd (omega arith)
  patterns-goes (suc n) q k h x =
      let m : inner x.raw + n ≡ suc n - 1 + k = omega (arith, x.follow) in
      ap (placed (length bytes)) (patterns_law n (drop p bytes))
      ∙ goes_on pattern (others n) bytes p q x.raw x.reads
      ∙ give-stays (length bytes) (patterns (inner x.raw + n) (drop q bytes)) (λ ps. x.raw ∷ ps)
      ∙ ap (λ (j : ℕ). read_at bytes q (patterns j)) m

-- their reader leaves a tail of what it got
fuel_keeps : (fuel n : ℕ) → Keeps (patterns_in fuel n)
unfolding patterns_in
fuel_keeps zero n = fault-keeps
fuel_keeps (suc fuel) zero = give-keeps _
fuel_keeps (suc fuel) (suc n) = bind_keeps pattern _ pattern-keeps (λ p. bind_keeps (patterns_in fuel (inner p + n)) _ (fuel_keeps fuel (inner p + n)) (λ ps. give-keeps _))

pub patterns_keep : (n : ℕ) → Keeps (patterns n)
unfolding patterns
patterns_keep n = record { leaves = λ bs. (fuel_keeps (suc (length bs)) n).leaves bs }
