-- What each frame holds, piece by piece: what is reached after each. From the laws of one reader after another.
use mathlib.Core.Path.{◌≡◌, refl, sym, ap, ◌∙◌}
use mathlib.Core.List.{List, [], ◌∷◌}
use mathlib.Core.Bool.{Bool, true, false}
use Prim.Native.Nat.{ℕ, zero, suc, ◌+◌, ◌-◌, ◌≤◌, ◌<◌}
use native.Mathlib.Omega.{arith}
use lib.ListN.{length, get_or, drop, get_or-eq_default}
use lib.Dec.{ltb, eqb}
use mir.Val.{bool_byte}
use borrow.Author.Tests.{ltb-true, ltb-false}
use Rattle.scope.specs.Lists.{Text, bit, among}
use Rattle.scope.specs.Types.{Ref, Ctor, Ty, integer, byte_string, opaque, list, tuple, pair, dat}
use Rattle.scope.specs.Frames as scope
use Rattle.scope.specs.Frames.{fault, found, Reader, and_then, ◌>>=◌, give, byte, passing, within, flag, times, big_name, small_name, type_kinds, type_frame, fields_for, constructor_frame}
use Rattle.scope.proofs.Tests.{among-is}
use Rattle.std.specs.Prelude.{Result, Ok, Err}
use Rattle.fields.specs.declared.Fault.{Fault}
use Rattle.fields.specs.Places.{at_fault, placed, read_at}
use Rattle.declarations.specs.Pieces.{counted_bytes, field, fields_with, fields}
use Rattle.fields.proofs.Readers.{Keeps, give-keeps, byte-keeps, passing-keeps, bind_keeps, times-keeps, choosing-keeps, fault-stays, give-stays, goes_on, found_at, fault-at, place-back, any, byte_reads, passing-ends, passing-stops, passing-goes, Passed, passed, read-stops, read-passes, Reached, times-stops, times_goes, after-byte, byte_at, bind_bind, chosen, chosen_none}
use Rattle.fields.proofs.Readings.{name-keeps, flag-keeps}

-- A type's frame, by its first byte
pub type-end : (bytes : List ℕ) (at : ℕ) → at ≤ length bytes → length bytes ≤ at → at_fault at ≡ read_at bytes at type_frame
unfolding type_frame
type-end bytes at i h = fault-at type_frame bytes at at i (chosen_none type_kinds bytes at h)

module _ (bytes : List ℕ) (at k : ℕ) (inside : at < length bytes) (kind : get_or bytes at 0 ≡ k) where
  type-at : read_at bytes at type_frame ≡ placed (length bytes) (get_or type_kinds k (λ rest. fault (drop at bytes)) (drop (at + 1) bytes))
  unfolding type_frame
  type-at = ap (placed (length bytes)) (chosen type_kinds bytes at k inside kind)

module _ (bytes : List ℕ) (at : ℕ) (inside : at < length bytes) where
  -- nothing follows
  plain : (ty : Ty) → Ok (at + 1) ≡ read_at bytes (at + 1) (give ty)
  plain ty = found_at (give ty) bytes (at + 1) (at + 1) ty (omega arith) refl

  pub type-integer : get_or bytes at 0 ≡ 0 → Ok (at + 1) ≡ read_at bytes at type_frame
  type-integer k = plain integer ∙ sym (type-at bytes at 0 inside k)

  pub type-bytes : get_or bytes at 0 ≡ 1 → Ok (at + 1) ≡ read_at bytes at type_frame
  type-bytes k = plain byte_string ∙ sym (type-at bytes at 1 inside k)

  pub type-opaque : get_or bytes at 0 ≡ 2 → Ok (at + 1) ≡ read_at bytes at type_frame
  type-opaque k = plain opaque ∙ sym (type-at bytes at 2 inside k)

  pub type_data : get_or bytes at 0 ≡ 6 → Ok (at + 1) ≡ read_at bytes at type_frame
  type_data k = plain (dat []) ∙ sym (type-at bytes at 6 inside k)

  pub type-list : (c : Result ℕ Fault) → get_or bytes at 0 ≡ 3 → c ≡ read_at bytes (at + 1) byte → c ≡ read_at bytes at type_frame
  type-list c k e = e ∙ sym (give-stays (length bytes) (byte (drop (at + 1) bytes)) list) ∙ sym (type-at bytes at 3 inside k)

  pub type-tuple : (c : Result ℕ Fault) → get_or bytes at 0 ≡ 4 → c ≡ read_at bytes (at + 1) counted_bytes → c ≡ read_at bytes at type_frame
  type-tuple c k e =
      e
      ∙ sym (give-stays (length bytes) (counted_bytes (drop (at + 1) bytes)) tuple)
      ∙ ap (placed (length bytes)) (bind_bind (within 2 16 (drop (at + 1) bytes)) (λ n. times n byte) (λ ts. give (tuple ts)))
      ∙ sym (type-at bytes at 4 inside k)

  -- two bytes, one after the other
  pub type-pair : (c : Result ℕ Fault) → get_or bytes at 0 ≡ 5 → c ≡ read_at bytes (at + 1) (times 2 byte) → c ≡ read_at bytes at type_frame
  unfolding placed
  type-pair c k e = e ∙ two (drop (at + 1) bytes) ∙ sym (type-at bytes at 5 inside k)
    where
      two : (bs : List ℕ) → placed (length bytes) (times 2 byte bs) ≡ placed (length bytes) ((byte >>= λ a. byte >>= λ b. give (pair a b)) bs)
      two [] = refl
      two (x ∷ []) = refl
      two (x ∷ y ∷ bs) = refl

  -- no type has this byte
  pub type-none : 7 ≤ get_or bytes at 0 → at_fault at ≡ read_at bytes at type_frame
  unfolding placed
  type-none h =
      ap at_fault (sym (place-back bytes at (omega arith)))
      ∙ ap (λ (r : Reader Ty). placed (length bytes) (r (drop (at + 1) bytes))) (sym (get_or-eq_default type_kinds (λ rest. fault (drop at bytes)) h))
      ∙ sym (type-at bytes at (get_or bytes at 0) inside refl)

fields-is : (bs : List ℕ) → (within 0 1 >>= λ b. fields_with (eqb b 1)) bs ≡ fields bs
fields-is bs = sym (bind_bind (within 0 1 bs) (λ b. give (eqb b 1)) fields_with)

-- one more field with a label
abbrev with_field : Ref → Text → List Ref × List Text → List Ref × List Text
with_field t l r = (t ∷ r.0, l ∷ r.1)

-- a constructor of this name and these fields
abbrev ctor_of : Text → List Ref × List Text → Ctor
ctor_of n r = record { name = n; labels = r.1; fields = r.0 }

-- fields with labels are that reader so many times
fields-times : (n m : ℕ) (bs : List ℕ) → placed m (times n field bs) ≡ placed m (fields_for true n bs)
unfolding placed
fields-times zero m bs = refl
fields-times (suc n) m bs = go (byte bs) (λ rest. fields-times n m rest)
  where
    after : ℕ → Reader (List Ref × List Text)
    after t = small_name >>= λ l. fields_for true n >>= λ r. give (with_field t l r)

    more : (t : ℕ) (y : scope.Read Text) → ((rest : List ℕ) → placed m (times n field rest) ≡ placed m (fields_for true n rest)) → placed m (and_then y (λ a. times n field >>= λ l. give (a ∷ l))) ≡ placed m (and_then y (λ l. fields_for true n >>= λ r. give (with_field t l r)))
    more t (fault rest) ih = refl
    more t (found l rest) ih = give-stays m (times n field rest) (λ ls. l ∷ ls) ∙ ih rest ∙ sym (give-stays m (fields_for true n rest) (with_field t l))

    go : (x : scope.Read ℕ) → ((rest : List ℕ) → placed m (times n field rest) ≡ placed m (fields_for true n rest)) → placed m (and_then (and_then x (λ t. small_name)) (λ a. times n field >>= λ l. give (a ∷ l))) ≡ placed m (and_then x after)
    go (fault rest) ih = refl
    go (found t rest) ih = more t (small_name rest) ih

-- A tuple's count and types
module _ (bytes : List ℕ) (at n : ℕ) (is : n ≡ get_or bytes at 0) where
  pub counted_none : at ≤ length bytes → among 2 16 n ≡ false → at_fault at ≡ read_at bytes at counted_bytes
  counted_none i g = fault-stays (length bytes) (within 2 16 (drop at bytes)) (λ n. times n byte) (at_fault at) at (read-stops (among 2 16) refl bytes at n is i g) refl

  pub counted-types : (c : Result ℕ Fault) (m : ℕ) → m ≡ n → among 2 16 n ≡ true → c ≡ read_at bytes (at + 1) (times m byte) → c ≡ read_at bytes at counted_bytes
  counted-types c m w g e = after-byte (among 2 16) (λ n. times n byte) bytes at (at + 1) m c (read-passes (among 2 16) refl bytes at n is g) (w ∙ is) e

-- A field with a label
module _ (bytes : List ℕ) (at : ℕ) (c : Result ℕ Fault) where
  pub field-type : (q : Fault) → c ≡ read_at bytes at byte → c ≡ Err q → c ≡ read_at bytes at field
  field-type q e f = fault-stays (length bytes) (byte (drop at bytes)) (λ t. small_name) c q.at e f

  pub field_label : (q : ℕ) → Passed any bytes at q → c ≡ read_at bytes q small_name → c ≡ read_at bytes at field
  field_label q x e = e ∙ sym (goes_on byte (λ t. small_name) bytes at q (get_or bytes at 0) (byte_reads bytes at q x))

pub field-keeps : Keeps field
field-keeps = bind_keeps byte _ byte-keeps (λ t. name-keeps false)

-- the byte of a flag is its bit
pub flag_is : (labels : Bool) (k : ℕ) → k ≡ bool_byte labels → k ≡ bit labels
flag_is true k e = e
flag_is false k e = e

-- Arity, fields, with labels or without; past the end the arity is 0
module _ (bytes : List ℕ) (at : ℕ) (labels : Bool) (n : ℕ) (inside : at ≤ length bytes) (is : n ≡ get_or bytes at 0) where
  abbrev good : ℕ → Bool
  good = among (bit labels) 16

  same_test : good (get_or bytes at 0) ≡ good n
  same_test = ap good (sym is)

  -- the byte does not pass, or there is none
  no_arity : at_fault at ≡ read_at bytes at (passing good) → at_fault at ≡ read_at bytes at (fields_with labels)
  no_arity e = fault-stays (length bytes) (passing good (drop at bytes)) (fields_for labels) (at_fault at) at e refl

  pub arity-stops : good n ≡ false → at_fault at ≡ read_at bytes at (fields_with labels)
  arity-stops g = no_arity (go (ltb at (length bytes)) refl)
    where
      go : (x : Bool) → ltb at (length bytes) ≡ x → at_fault at ≡ read_at bytes at (passing good)
      go true u = passing-stops good bytes at (ltb-true at (length bytes) u) (same_test ∙ g)
      go false u = passing-ends good bytes at inside (ltb-false at (length bytes) u)

  -- with labels there is a byte that passes
  pub labels-inside : good n ≡ true → labels ≡ true → at < length bytes
  labels-inside fits z = go (ltb at (length bytes)) refl
    where
      go : (x : Bool) → ltb at (length bytes) ≡ x → at < length bytes
      go true u = ltb-true at (length bytes) u
      go false u =
          let one : bit labels ≡ 1 = ap bit z in
          absurd (omega (arith, one, (among-is (bit labels) 16 n fits).0, is ∙ get_or-eq_default bytes 0 (ltb-false at (length bytes) u)))

  module _ (fits : good n ≡ true) (c : Result ℕ Fault) (m : ℕ) (w : m ≡ n) where
    -- the fields, by what the flag says
    fields_read : at < length bytes → c ≡ read_at bytes (at + 1) (fields_for labels m) → c ≡ read_at bytes at (fields_with labels)
    fields_read l e =
        let x : Passed good bytes at (at + 1) = passed good bytes at (at + 1) (Ok (at + 1)) inside (passing-goes good bytes at l (same_test ∙ fits)) refl in
        after-byte good (fields_for labels) bytes at (at + 1) m c x (w ∙ is) e

    -- the arity's own byte, and as many more
    pub fields-plain : labels ≡ false → c ≡ read_at bytes at (times (m + 1) byte) → c ≡ read_at bytes at (fields_with labels)
    fields-plain z e = go (ltb at (length bytes)) refl
      where
        go : (x : Bool) → ltb at (length bytes) ≡ x → c ≡ read_at bytes at (fields_with labels)
        go true u =
            let l = ltb-true at (length bytes) u in
            let y = passed any bytes at (at + 1) (Ok (at + 1)) inside (passing-goes any bytes at l refl) refl in
            let r : Reached byte bytes at (at + 1) = record { value = get_or bytes at 0; reads = byte_reads bytes at (at + 1) y; onward = omega arith; inside = omega arith } in
            let k : m + 1 - 1 ≡ m = omega arith in
            fields_read l
            (e
            ∙ times_goes byte bytes at (m + 1) (at + 1) (omega arith) r
            ∙ ap (λ (k : ℕ). read_at bytes (at + 1) (times k byte)) k
            ∙ sym (give-stays (length bytes) (times m byte (drop (at + 1) bytes)) (λ ts. (ts, [])))
            ∙ ap (λ (l : Bool). read_at bytes (at + 1) (fields_for l m)) (sym z))
        go false u =
            let h = ltb-false at (length bytes) u in
            e
            ∙ sym (times-stops byte bytes at (m + 1) (at_fault at) at (omega arith) (passing-ends any bytes at inside h ∙ byte_at bytes at) refl)
            ∙ no_arity (passing-ends good bytes at inside h)

    pub fields-labelled : labels ≡ true → c ≡ read_at bytes (at + 1) (times m field) → c ≡ read_at bytes at (fields_with labels)
    fields-labelled z e = fields_read (labels-inside fits z) (e ∙ fields-times m (length bytes) (drop (at + 1) bytes) ∙ ap (λ (l : Bool). read_at bytes (at + 1) (fields_for l m)) (sym z))

-- Labels or not, arity, fields
module _ (bytes : List ℕ) (at : ℕ) (c : Result ℕ Fault) where
  pub fields-flag : (q : Fault) → c ≡ read_at bytes at (within 0 1) → c ≡ Err q → c ≡ read_at bytes at fields
  fields-flag q e f = fault-stays (length bytes) (within 0 1 (drop at bytes)) (λ b. fields_with (eqb b 1)) c q.at e f ∙ ap (placed (length bytes)) (fields-is (drop at bytes))

  -- after the first byte the rest goes by it
  pub fields-on : (q : ℕ) → Passed (among 0 1) bytes at q → c ≡ read_at bytes q (fields_with (eqb (get_or bytes at 0) 1)) → c ≡ read_at bytes at fields
  fields-on q x e = after-byte (among 0 1) (λ b. fields_with (eqb b 1)) bytes at q (get_or bytes at 0) c x refl e ∙ ap (placed (length bytes)) (fields-is (drop at bytes))

-- a constructor is its name, then what `fields` reads
module _ (bytes : List ℕ) (at : ℕ) (c : Result ℕ Fault) where
  -- what comes after a constructor's name
  abbrev after_name : Text → Reader Ctor
  after_name n = flag >>= λ labelled. within (bit labelled) 16 >>= λ k. fields_for labelled k >>= λ r. give (ctor_of n r)

  after-name : (n : Text) (bs : List ℕ) → placed (length bytes) (fields bs) ≡ placed (length bytes) (after_name n bs)
  unfolding placed
  after-name n bs = go (flag bs)
    where
      more : (l : Bool) (y : scope.Read ℕ) → placed (length bytes) (and_then y (fields_for l)) ≡ placed (length bytes) (and_then y (λ k. fields_for l k >>= λ r. give (ctor_of n r)))
      more l (fault rest) = refl
      more l (found k rest) = sym (give-stays (length bytes) (fields_for l k rest) (ctor_of n))

      go : (x : scope.Read Bool) → placed (length bytes) (and_then x fields_with) ≡ placed (length bytes) (and_then x (λ labelled. within (bit labelled) 16 >>= λ k. fields_for labelled k >>= λ r. give (ctor_of n r)))
      go (fault rest) = refl
      go (found l rest) = more l (within (bit l) 16 rest)

  pub constructor-name : (q : Fault) → c ≡ read_at bytes at big_name → c ≡ Err q → c ≡ read_at bytes at constructor_frame
  unfolding constructor_frame
  constructor-name q e f = fault-stays (length bytes) (big_name (drop at bytes)) after_name c q.at e f

  pub constructor-fields : (q : ℕ) → Reached big_name bytes at q → c ≡ read_at bytes q fields → c ≡ read_at bytes at constructor_frame
  unfolding constructor_frame
  constructor-fields q x e = e ∙ after-name x.value (drop q bytes) ∙ sym (goes_on big_name after_name bytes at q x.value x.reads)

-- both readers of a frame leave a tail of what it got
pub type-keeps : Keeps type_frame
unfolding type_frame
type-keeps = choosing-keeps type_kinds (give-keeps _, (give-keeps _, (give-keeps _, (a_list, (a_tuple, (a_pair, (give-keeps _, tt)))))))
  where
    a_list : Keeps (get_or type_kinds 3 (λ bs. fault bs))
    a_list = bind_keeps byte _ byte-keeps (λ e. give-keeps _)

    a_tuple : Keeps (get_or type_kinds 4 (λ bs. fault bs))
    a_tuple = bind_keeps (within 2 16) _ (passing-keeps _) (λ n. bind_keeps (times n byte) _ (times-keeps n byte byte-keeps) (λ ts. give-keeps _))

    a_pair : Keeps (get_or type_kinds 5 (λ bs. fault bs))
    a_pair = bind_keeps byte _ byte-keeps (λ a. bind_keeps byte _ byte-keeps (λ b. give-keeps _))

fields_keep : (l : Bool) (n : ℕ) → Keeps (fields_for l n)
fields_keep false n = bind_keeps (times n byte) _ (times-keeps n byte byte-keeps) (λ ts. give-keeps _)
fields_keep true zero = give-keeps _
fields_keep true (suc n) = bind_keeps byte _ byte-keeps (λ t. bind_keeps small_name _ (name-keeps false) (λ l. bind_keeps (fields_for true n) _ (fields_keep true n) (λ r. give-keeps _)))

pub constructor-keeps : Keeps constructor_frame
unfolding constructor_frame
constructor-keeps = bind_keeps big_name _ (name-keeps true) (λ n. bind_keeps flag _ flag-keeps (λ l. bind_keeps (within (bit l) 16) _ (passing-keeps _) (λ k. bind_keeps (fields_for l k) _ (fields_keep l k) (λ r. give-keeps _))))
