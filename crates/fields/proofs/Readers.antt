-- What a reader that begins at a place of a line's bytes leaves, and what one reader after another reaches. From the readers' definitions.
use mathlib.Core.Path.{◌≡◌, refl, sym, ap, ◌∙◌}
use mathlib.Core.List.{List, [], ◌∷◌}
use mathlib.Core.Bool.{Bool, true, false, cond}
use Prim.Native.Nat.{ℕ, zero, suc, ◌+◌, ◌-◌, ◌≤◌, ◌<◌}
use native.Mathlib.Omega.{arith}
use lib.ListN.{length, get_or, take, drop, drop_of_length-le, length-drop, get_or-eq_default}
use lib.Seq.{drop-drop, drop-length}
use lib.Dec.{leb, ltb}
use borrow.Author.Tests.{ltb-true, ltb-false, leb-true, leb-false}
use Rattle.scope.proofs.Tests.{clash}
use Rattle.scope.specs.Frames as scope
use Rattle.scope.specs.Frames.{fault, found, Reader, and_then, ◌>>=◌, give, byte, passing, times, choosing, only_if}
use Rattle.cells.proofs.Parts.{left}
use Rattle.std.specs.Prelude.{Result, Ok, Err, IsErr, IsErrAnd}
use Rattle.fields.specs.declared.Fault.{Fault}
use Rattle.fields.specs.Places.{said_read, said_of, at_fault, placed, read_at}

-- an answer is the place that was reached exactly when it says what the reader says
said-placed : {A : Type 0} (n : ℕ) (x : scope.Read A) → said_read (placed n x) ≡ said_of n x
unfolding placed said_of
said-placed n (fault rest) = refl
said-placed n (found a rest) = refl

same-said : (r s : Result ℕ Fault) → said_read r ≡ said_read s → r ≡ s
same-said (Ok p) (Ok q) e = ap (λ x. Ok x.1) e
same-said (Ok p) (Err q) e = let i = ap (λ x. x.0) e in clash (cc)
same-said (Err p) (Ok q) e = let i = ap (λ x. x.0) e in clash (cc)
same-said (Err p) (Err q) e = ap (λ x. at_fault x.1) e

pub tells : {A : Type 0} (n : ℕ) (x : scope.Read A) (r : Result ℕ Fault) → r ≡ placed n x → said_read r ≡ said_of n x
tells n x r e = ap said_read e ∙ said-placed n x

pub told : {A : Type 0} (n : ℕ) (x : scope.Read A) (r : Result ℕ Fault) → said_read r ≡ said_of n x → r ≡ placed n x
told n x r e = same-said r (placed n x) (e ∙ sym (said-placed n x))

-- a fault that `?` passes on is the one that was read
pub raised : (r : Result ℕ Fault) (e : Fault) → IsErr r × IsErrAnd r (λ y. y ≡ e) → r ≡ Err e
raised (Ok q) e k = absurd k.1
raised (Err f) e k = ap Err k.1

pub passed_on : (r s : Result ℕ Fault) (e : Fault) → s ≡ Err e → IsErr r × IsErrAnd r (λ y. y ≡ e) → r ≡ s
passed_on r s e h k = raised r e k ∙ sym h

-- a list is another's tail
pub data Tail : List ℕ → List ℕ → Type 0 where
  same : {bs : List ℕ} → Tail bs bs
  after : {b : ℕ} {rest bs : List ℕ} → Tail rest bs → Tail rest (b ∷ bs)

pub tail-tail : {r s t : List ℕ} → Tail r s → Tail s t → Tail r t
tail-tail h same = h
tail-tail h (after k) = after (tail-tail h k)

pub tail-length : {rest bs : List ℕ} → Tail rest bs → length rest ≤ length bs
tail-length same = omega arith
tail-length (after h) = omega (arith, tail-length h)

-- it stands where so many are left
pub tail-place : {rest bs : List ℕ} → Tail rest bs → rest ≡ drop (length bs - length rest) bs
tail-place {bs} same =
    let z : length bs - length bs ≡ 0 = omega arith in
    sym (ap (λ (k : ℕ). drop k bs) z)
tail-place {rest} (after {b = b} {bs = bs} h) =
    let z : suc (length bs) - length rest ≡ suc (length bs - length rest) = omega (arith, tail-length h) in
    tail-place h ∙ sym (ap (λ (k : ℕ). drop k (b ∷ bs)) z)

pub drop-tail : (at : ℕ) (bs : List ℕ) → Tail (drop at bs) bs
drop-tail zero bs = same
drop-tail (suc at) [] = same
drop-tail (suc at) (b ∷ bs) = after (drop-tail at bs)

-- what is left of some bytes is their tail
abbrev pub Left : {A : Type 0} → scope.Read A → List ℕ → Type 0
Left (fault rest) bs = Tail rest bs
Left (found a rest) bs = Tail rest bs

pub left-more : {A : Type 0} (x : scope.Read A) {s t : List ℕ} → Tail s t → Left x s → Left x t
left-more (fault rest) h k = tail-tail k h
left-more (found a rest) h k = tail-tail k h

-- a reader leaves a tail of what it got
pub record Keeps {A : Type 0} (r : Reader A) : Type 0 where
  pub leaves : (bs : List ℕ) → Left (r bs) bs

pub give-keeps : {A : Type 0} (a : A) → Keeps (give a)
give-keeps a = record { leaves = λ bs. same }

pub fault-keeps : {A : Type 0} → Keeps {A = A} (λ bs. fault bs)
fault-keeps = record { leaves = λ bs. same }

pub byte-keeps : Keeps byte
byte-keeps = record { leaves = go }
  where
    go : (bs : List ℕ) → Left (byte bs) bs
    go [] = same
    go (b ∷ bs) = after same

pub passing-keeps : (good : ℕ → Bool) → Keeps (passing good)
passing-keeps good = record { leaves = go }
  where
    test : (b : ℕ) (bs : List ℕ) (x : Bool) → Left (cond x (found b bs) (fault (b ∷ bs))) (b ∷ bs)
    test b bs true = after same
    test b bs false = same

    go : (bs : List ℕ) → Left (passing good bs) bs
    go [] = same
    go (b ∷ bs) = test b bs (good b)

pub bind_keeps : {A B : Type 0} (r : Reader A) (f : A → Reader B) → Keeps r → ((a : A) → Keeps (f a)) → Keeps (r >>= f)
bind_keeps {A} r f h k = record { leaves = λ bs. go bs (r bs) (h.leaves bs) }
  where
    go : (bs : List ℕ) (x : scope.Read A) → Left x bs → Left (and_then x f) bs
    go bs (fault rest) u = u
    go bs (found a rest) u = left-more (f a rest) u ((k a).leaves rest)

pub judging_keeps : {A : Type 0} (good : A → Bool) (r : Reader A) → Keeps r → Keeps (only_if good r)
judging_keeps {A} good r h = record { leaves = λ bs. go bs (r bs) (h.leaves bs) }
  where
    test : (a : A) (bs rest : List ℕ) (x : Bool) → Tail rest bs → Left (cond x (found a rest) (fault bs)) bs
    test a bs rest true u = u
    test a bs rest false u = same

    go : (bs : List ℕ) (x : scope.Read A) → Left x bs → Left (and_then x (λ a rest. cond (good a) (found a rest) (fault bs))) bs
    go bs (fault rest) u = u
    go bs (found a rest) u = test a bs rest (good a) u

pub times-keeps : {A : Type 0} (n : ℕ) (r : Reader A) → Keeps r → Keeps (times n r)
times-keeps {A} zero r h = give-keeps {A = List A} []
times-keeps {A} (suc n) r h = bind_keeps r _ h (λ a. bind_keeps (times n r) _ (times-keeps n r h) (λ l. give-keeps (a ∷ l)))

-- every reader of a list does
abbrev pub Every : {A : Type 0} → List (Reader A) → Type 0
Every [] = Unit {0}
Every (r ∷ rs) = Keeps r × Every rs

pub at-leaves : {A : Type 0} (rs : List (Reader A)) (other : Reader A) → Every rs → (k : ℕ) (bs more : List ℕ) → Tail bs more → Left (other bs) more → Left (get_or rs k other bs) more
at-leaves [] other e k bs more t h = h
at-leaves (r ∷ rs) other e zero bs more t h = left-more (r bs) t (e.0.leaves bs)
at-leaves (r ∷ rs) other e (suc k) bs more t h = at-leaves rs other e.1 k bs more t h

pub choosing-keeps : {A : Type 0} (rs : List (Reader A)) → Every rs → Keeps (choosing rs)
choosing-keeps rs e = record { leaves = go }
  where
    go : (bs : List ℕ) → Left (choosing rs bs) bs
    go [] = same
    go (b ∷ bs) = at-leaves rs (λ rest. fault (b ∷ bs)) e b bs (b ∷ bs) (after same) same

-- a fault stays one, whatever would be read after it
pub fault-stays : {A B : Type 0} (n : ℕ) (x : scope.Read A) (f : A → Reader B) (c : Result ℕ Fault) (q : ℕ) → c ≡ placed n x → c ≡ at_fault q → c ≡ placed n (and_then x f)
unfolding placed
fault-stays n (fault rest) f c q e h = e
fault-stays n (found a rest) f c q e h = clash (cc)

-- what is made of a value moves no place
pub give-stays : {A B : Type 0} (n : ℕ) (x : scope.Read A) (f : A → B) → placed n (and_then x (λ a. give (f a))) ≡ placed n x
unfolding placed
give-stays n (fault rest) f = refl
give-stays n (found a rest) f = refl

-- a reader found a value, and the bytes from q on are left
pub record Reached {A : Type 0} (r : Reader A) (bytes : List ℕ) (at q : ℕ) : Type 0 where
  pub value : A
  pub reads : r (drop at bytes) ≡ found value (drop q bytes)
  pub onward : at ≤ q
  pub inside : q ≤ length bytes

pub reached : {A : Type 0} (r : Reader A) → Keeps r → (bytes : List ℕ) (at q : ℕ) (c : Result ℕ Fault) → at ≤ length bytes → c ≡ read_at bytes at r → c ≡ Ok q → Reached r bytes at q
unfolding placed
reached {A} r keeps bytes at q c l e h = go (r (drop at bytes)) refl (keeps.leaves (drop at bytes)) (sym h ∙ e)
  where
    go : (x : scope.Read A) → r (drop at bytes) ≡ x → Left x (drop at bytes) → Ok q ≡ placed (length bytes) x → Reached r bytes at q
    go (fault rest) d t k = clash (cc)
    go (found a rest) d t k =
        let place : q ≡ length bytes - length rest = cc in
        let whole = tail-tail t (drop-tail at bytes) in
        record {
          value = a;
          reads = d ∙ ap (found a) (tail-place whole ∙ ap (λ (k : ℕ). drop k bytes) (sym place));
          onward = omega (arith, tail-length t, length-drop at bytes);
          inside = omega (arith, tail-length whole);
        }

-- a place within the bytes is found again by what is left of them
pub place-back : (bytes : List ℕ) (q : ℕ) → q ≤ length bytes → length bytes - length (drop q bytes) ≡ q
place-back bytes q h = omega (arith, length-drop q bytes)

-- what was found, by its place
pub found_at : {A : Type 0} (r : Reader A) (bytes : List ℕ) (at q : ℕ) (a : A) → q ≤ length bytes → r (drop at bytes) ≡ found a (drop q bytes) → Ok q ≡ read_at bytes at r
unfolding placed
found_at r bytes at q a h e = ap Ok (sym (place-back bytes q h)) ∙ sym (ap (placed (length bytes)) e)

-- what is at fault, by its place
pub fault-at : {A : Type 0} (r : Reader A) (bytes : List ℕ) (at q : ℕ) → q ≤ length bytes → r (drop at bytes) ≡ fault (drop q bytes) → at_fault q ≡ read_at bytes at r
unfolding placed
fault-at r bytes at q h e = ap at_fault (sym (place-back bytes q h)) ∙ sym (ap (placed (length bytes)) e)

-- after what was found the next reader begins there
pub goes_on : {A B : Type 0} (r : Reader A) (f : A → Reader B) (bytes : List ℕ) (at q : ℕ) (a : A) → r (drop at bytes) ≡ found a (drop q bytes) → read_at bytes at (r >>= f) ≡ read_at bytes q (f a)
goes_on r f bytes at q a e = ap (λ (y : scope.Read _). placed (length bytes) (and_then y f)) e

-- one byte that passes a test
module _ (good : ℕ → Bool) (bytes : List ℕ) (at : ℕ) where
  pub passing-ends : at ≤ length bytes → length bytes ≤ at → at_fault at ≡ read_at bytes at (passing good)
  passing-ends i h = fault-at (passing good) bytes at at i (ap (passing good) (drop_of_length-le bytes h) ∙ ap fault (sym (drop_of_length-le bytes h)))

  pub passing-stops : at < length bytes → good (get_or bytes at 0) ≡ false → at_fault at ≡ read_at bytes at (passing good)
  passing-stops h g = fault-at (passing good) bytes at at (omega arith) (ap (passing good) (left bytes at h) ∙ ap (λ (x : Bool). cond x (found (get_or bytes at 0) (drop (at + 1) bytes)) (fault (get_or bytes at 0 ∷ drop (at + 1) bytes))) g ∙ ap fault (sym (left bytes at h)))

  pub passing-goes : at < length bytes → good (get_or bytes at 0) ≡ true → Ok (at + 1) ≡ read_at bytes at (passing good)
  passing-goes h g = found_at (passing good) bytes at (at + 1) (get_or bytes at 0) (omega arith) (ap (passing good) (left bytes at h) ∙ ap (λ (x : Bool). cond x (found (get_or bytes at 0) (drop (at + 1) bytes)) (fault (get_or bytes at 0 ∷ drop (at + 1) bytes))) g)

-- such a byte was read
pub record Passed (good : ℕ → Bool) (bytes : List ℕ) (at q : ℕ) : Type 0 where
  pub passes : good (get_or bytes at 0) ≡ true
  pub reads : passing good (drop at bytes) ≡ found (get_or bytes at 0) (drop q bytes)
  pub inside : at < length bytes
  pub next : q ≡ at + 1

pub passed : (good : ℕ → Bool) (bytes : List ℕ) (at q : ℕ) (c : Result ℕ Fault) → at ≤ length bytes → c ≡ read_at bytes at (passing good) → c ≡ Ok q → Passed good bytes at q
passed good bytes at q c i e h = go (ltb at (length bytes)) refl (good (get_or bytes at 0)) refl
  where
    go : (x : Bool) → ltb at (length bytes) ≡ x → (y : Bool) → good (get_or bytes at 0) ≡ y → Passed good bytes at q
    go false u y v = let w : at_fault at ≡ Ok q = passing-ends good bytes at i (ltb-false at (length bytes) u) ∙ sym e ∙ h in clash (cc)
    go true u false v = let w : at_fault at ≡ Ok q = passing-stops good bytes at (ltb-true at (length bytes) u) v ∙ sym e ∙ h in clash (cc)
    go true u true v =
        let l = ltb-true at (length bytes) u in
        let w : Ok (at + 1) ≡ Ok q = passing-goes good bytes at l v ∙ sym e ∙ h in
        let n : at + 1 ≡ q = cc in
        record {
          passes = v;
          reads = ap (passing good) (left bytes at l) ∙ ap (λ (x : Bool). cond x (found (get_or bytes at 0) (drop (at + 1) bytes)) (fault (get_or bytes at 0 ∷ drop (at + 1) bytes))) v ∙ ap (λ (k : ℕ). found (get_or bytes at 0) (drop k bytes)) n;
          inside = l;
          next = sym n;
        }

-- the same of a byte that is 0 past the end, where 0 does not pass
module _ (good : ℕ → Bool) (none : good 0 ≡ false) (bytes : List ℕ) (at n : ℕ) (is : n ≡ get_or bytes at 0) where
  pub read-stops : at ≤ length bytes → good n ≡ false → at_fault at ≡ read_at bytes at (passing good)
  read-stops i g = go (ltb at (length bytes)) refl
    where
      go : (x : Bool) → ltb at (length bytes) ≡ x → at_fault at ≡ read_at bytes at (passing good)
      go true u = passing-stops good bytes at (ltb-true at (length bytes) u) (ap good (sym is) ∙ g)
      go false u = passing-ends good bytes at i (ltb-false at (length bytes) u)

  pub read-passes : good n ≡ true → Passed good bytes at (at + 1)
  read-passes g = go (ltb at (length bytes)) refl
    where
      go : (x : Bool) → ltb at (length bytes) ≡ x → Passed good bytes at (at + 1)
      go true u = let l = ltb-true at (length bytes) u in passed good bytes at (at + 1) (Ok (at + 1)) (omega arith) (passing-goes good bytes at l (ap good (sym is) ∙ g)) refl
      go false u =
          let z : n ≡ 0 = is ∙ get_or-eq_default bytes 0 (ltb-false at (length bytes) u) in
          let w : true ≡ false = sym g ∙ ap good z ∙ none in
          clash (cc)

pub passed-reached : (good : ℕ → Bool) (bytes : List ℕ) (at q : ℕ) → Passed good bytes at q → Reached (passing good) bytes at q
passed-reached good bytes at q x = record { value = get_or bytes at 0; reads = x.reads; onward = omega (arith, x.next); inside = omega (arith, x.inside, x.next) }

-- any byte passes no test
abbrev pub any : ℕ → Bool
any b = true

pub byte-passing : (bs : List ℕ) → byte bs ≡ passing any bs
byte-passing [] = refl
byte-passing (b ∷ bs) = refl

-- a byte, as a byte that passes no test
pub byte_at : (bytes : List ℕ) (at : ℕ) → read_at bytes at (passing any) ≡ read_at bytes at byte
byte_at bytes at = ap (placed (length bytes)) (sym (byte-passing (drop at bytes)))

-- n bytes
pub bytes-found : (n : ℕ) (bs : List ℕ) → n ≤ length bs → times n byte bs ≡ found (take n bs) (drop n bs)
bytes-found zero bs h = refl
bytes-found (suc n) [] h = absurd (omega arith)
bytes-found (suc n) (b ∷ bs) h = ap (λ (x : scope.Read (List ℕ)). and_then x (λ l. give (b ∷ l))) (bytes-found n bs (omega arith))

pub bytes-short : (n : ℕ) (bs : List ℕ) → length bs < n → times n byte bs ≡ fault []
bytes-short zero bs h = absurd (omega arith)
bytes-short (suc n) [] h = refl
bytes-short (suc n) (b ∷ bs) h = ap (λ (x : scope.Read (List ℕ)). and_then x (λ l. give (b ∷ l))) (bytes-short n bs (omega arith))

module _ (n : ℕ) (bytes : List ℕ) (at : ℕ) (inside : at ≤ length bytes) where
  pub bytes-reads : at + n ≤ length bytes → times n byte (drop at bytes) ≡ found (take n (drop at bytes)) (drop (at + n) bytes)
  bytes-reads h = bytes-found n (drop at bytes) (omega (arith, length-drop at bytes)) ∙ ap (found (take n (drop at bytes))) (drop-drop n at bytes)

  pub bytes-go : n ≤ length bytes - at → Ok (at + n) ≡ read_at bytes at (times n byte)
  bytes-go h = found_at (times n byte) bytes at (at + n) (take n (drop at bytes)) (omega arith) (bytes-reads (omega arith))

  pub bytes-stop : length bytes - at < n → at_fault (length bytes) ≡ read_at bytes at (times n byte)
  bytes-stop h = fault-at (times n byte) bytes at (length bytes) (omega arith) (bytes-short n (drop at bytes) (omega (arith, length-drop at bytes)) ∙ ap fault (sym (drop-length bytes)))

-- they were read
pub record Skipped (n : ℕ) (bytes : List ℕ) (at q : ℕ) : Type 0 where
  pub reads : times n byte (drop at bytes) ≡ found (take n (drop at bytes)) (drop q bytes)
  pub next : q ≡ at + n
  pub inside : q ≤ length bytes

pub skipped : (n : ℕ) (bytes : List ℕ) (at q : ℕ) (c : Result ℕ Fault) → at ≤ length bytes → c ≡ read_at bytes at (times n byte) → c ≡ Ok q → Skipped n bytes at q
skipped n bytes at q c i e h = go (leb n (length bytes - at)) refl
  where
    go : (x : Bool) → leb n (length bytes - at) ≡ x → Skipped n bytes at q
    go false u = let w : at_fault (length bytes) ≡ Ok q = bytes-stop n bytes at i (leb-false n (length bytes - at) u) ∙ sym e ∙ h in clash (cc)
    go true u =
        let l = leb-true n (length bytes - at) u in
        let w : Ok (at + n) ≡ Ok q = bytes-go n bytes at i l ∙ sym e ∙ h in
        let k : at + n ≡ q = cc in
        record { reads = bytes-reads n bytes at i (omega arith) ∙ ap (λ (j : ℕ). found (take n (drop at bytes)) (drop j bytes)) k; next = sym k; inside = omega arith }

-- The same reader n times, one after another
module _ {A : Type 0} (r : Reader A) (bytes : List ℕ) (p : ℕ) where
  pub times-stops : (n : ℕ) (c : Result ℕ Fault) (q : ℕ) → 0 < n → c ≡ read_at bytes p r → c ≡ at_fault q → c ≡ read_at bytes p (times n r)
  times-stops zero c q h e f = absurd (omega arith)
  times-stops (suc n) c q h e f = fault-stays (length bytes) (r (drop p bytes)) (λ a. times n r >>= λ l. give (a ∷ l)) c q e f

  pub times_goes : (n q : ℕ) → 0 < n → Reached r bytes p q → read_at bytes p (times n r) ≡ read_at bytes q (times (n - 1) r)
  times_goes zero q h x = absurd (omega arith)
  times_goes (suc n) q h x =
      let m : n ≡ suc n - 1 = omega arith in
      goes_on r (λ a. times n r >>= λ l. give (a ∷ l)) bytes p q x.value x.reads
      ∙ give-stays (length bytes) (times n r (drop q bytes)) (λ l. x.value ∷ l)
      ∙ ap (λ (k : ℕ). read_at bytes q (times k r)) m

  pub times-done : (n : ℕ) → n ≤ 0 → p ≤ length bytes → Ok p ≡ read_at bytes p (times n r)
  times-done zero h i = found_at (times zero r) bytes p p [] i refl
  times-done (suc n) h i = absurd (omega arith)

-- a byte that passed, then a reader that goes by it
pub after-byte : {B : Type 0} (good : ℕ → Bool) (f : ℕ → Reader B) (bytes : List ℕ) (at q n : ℕ) (c : Result ℕ Fault) → Passed good bytes at q → n ≡ get_or bytes at 0 → c ≡ read_at bytes q (f n) → c ≡ read_at bytes at (passing good >>= f)
after-byte good f bytes at q n c x m e = e ∙ ap (λ (k : ℕ). read_at bytes q (f k)) m ∙ sym (goes_on (passing good) f bytes at q (get_or bytes at 0) x.reads)

pub byte-passed : (bytes : List ℕ) (at q : ℕ) (c : Result ℕ Fault) → at ≤ length bytes → c ≡ read_at bytes at byte → c ≡ Ok q → Passed any bytes at q
byte-passed bytes at q c i e h = passed any bytes at q c i (e ∙ sym (byte_at bytes at)) h

pub byte_reads : (bytes : List ℕ) (at q : ℕ) → Passed any bytes at q → byte (drop at bytes) ≡ found (get_or bytes at 0) (drop q bytes)
byte_reads bytes at q x = byte-passing (drop at bytes) ∙ x.reads

-- one reader after two others, however they are grouped
pub bind_bind : {A B C : Type 0} (x : scope.Read A) (f : A → Reader B) (g : B → Reader C) → and_then (and_then x f) g ≡ and_then x (λ a. f a >>= g)
bind_bind (fault rest) f g = refl
bind_bind (found a rest) f g = refl

-- the reader that the byte at a place chooses
pub chosen : {A : Type 0} (rs : List (Reader A)) (bytes : List ℕ) (at k : ℕ) → at < length bytes → get_or bytes at 0 ≡ k → choosing rs (drop at bytes) ≡ get_or rs k (λ rest. fault (drop at bytes)) (drop (at + 1) bytes)
chosen rs bytes at k h e =
    ap (choosing rs) (left bytes at h)
    ∙ ap (λ (bs : List ℕ). get_or rs (get_or bytes at 0) (λ rest. fault bs) (drop (at + 1) bytes)) (sym (left bytes at h))
    ∙ ap (λ (j : ℕ). get_or rs j (λ rest. fault (drop at bytes)) (drop (at + 1) bytes)) e

-- past the end nothing is chosen
pub chosen_none : {A : Type 0} (rs : List (Reader A)) (bytes : List ℕ) (at : ℕ) → length bytes ≤ at → choosing rs (drop at bytes) ≡ fault (drop at bytes)
chosen_none rs bytes at h = ap (choosing rs) (drop_of_length-le bytes h) ∙ ap fault (sym (drop_of_length-le bytes h))

-- one number more is ruled out
pub above : {n k : ℕ} → n ≤ k → (k ≡ n → ⊥) → suc n ≤ k
above h e = omega arith
