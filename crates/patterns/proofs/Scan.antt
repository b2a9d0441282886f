-- What the reader of a pattern's shape has found is what stands at its place: from the definitions of the readers, kind by kind.
use mathlib.Core.Path.{◌≡◌, refl, sym, ap, ap₂, ◌∙◌}
use mathlib.Core.Bool.{Bool, true, false, cond}
use mathlib.Core.List.{List, [], ◌∷◌}
use Prim.Native.Nat.{ℕ, zero, suc, ◌+◌, ◌-◌, ◌≤◌, ◌<◌}
use native.Mathlib.Nat.{add-zero}
use native.Mathlib.Omega.{arith}
use native.Mathlib.Numerals.{add-one, add-two}
use lib.ListN.{length, get_or, take, drop, length-drop}
use lib.Seq.{get_or-drop, drop-drop, drop-cons}
use lib.Dec.{leb, eqb}
use borrow.Author.Tests.{leb-true}
use Rattle.scope.proofs.Tests.{clash, both}
use Rattle.laws.proofs.Reading.{patterns_law}
use Rattle.scope.specs.Lists.{Text, among}
use Rattle.scope.specs.Patterns.{Raw, discard, variable, assign, pair_of, integer_of, byte_string_of, list_of, constructor, tuple_of, inner}
use Rattle.scope.specs.Frames.{Read, fault, found, Reader, and_then, ◌>>=◌, give, byte, passing, within, flag, times, only_if, name_by, text_from, small_name, is_decimal, pattern, patterns}
use Rattle.layout.specs.Types.{text_at}
use Rattle.suits.specs.Raws.{raw_at, size_of, size_at}

-- what was found by one reader after another
bind_found : {A B : Type 0} (x : Read A) (f : A → Reader B) (b : B) (rest : List ℕ) → and_then x f ≡ found b rest → (a : A) × (mid : List ℕ) × (x ≡ found a mid) × (f a mid ≡ found b rest)
bind_found (fault bs) f b rest e = clash (cc)
bind_found (found a mid) f b rest e = (a, mid, refl, e)

-- what was found is a value and the bytes after the first n
record Takes {A : Type 0} (bs rest : List ℕ) (a v : A) (n : ℕ) : Type 0 where
  value : a ≡ v
  after : rest ≡ drop n bs
  inside : n ≤ length bs

found-is : {A : Type 0} (a b : A) (s t : List ℕ) → found a s ≡ found b t → (a ≡ b) × (s ≡ t)
found-is a b s t e = (cc, cc)

byte-takes : (bs : List ℕ) (b : ℕ) (rest : List ℕ) → byte bs ≡ found b rest → Takes bs rest b (get_or bs 0 0) 1
byte-takes [] b rest e = clash (cc)
byte-takes (x ∷ bs) b rest e = let p = found-is x b bs rest e in record { value = sym p.0; after = sym p.1; inside = omega arith }

passing-takes : (good : ℕ → Bool) (bs : List ℕ) (b : ℕ) (rest : List ℕ) → passing good bs ≡ found b rest → Takes bs rest b (get_or bs 0 0) 1 × (good b ≡ true)
passing-takes good [] b rest e = clash (cc)
passing-takes good (x ∷ bs) b rest e = go (good x) refl e
  where
    go : (t : Bool) → good x ≡ t → cond t (found x bs) (fault (x ∷ bs)) ≡ found b rest → Takes (x ∷ bs) rest b x 1 × (good b ≡ true)
    go true h i = let p = found-is x b bs rest i in (record { value = sym p.0; after = sym p.1; inside = omega arith }, ap good (sym p.0) ∙ h)
    go false h i = clash (cc)

flag-takes : (bs : List ℕ) (f : Bool) (rest : List ℕ) → flag bs ≡ found f rest → Takes bs rest f (eqb (get_or bs 0 0) 1) 1
flag-takes bs f rest e =
    let w = bind_found (within 0 1 bs) (λ b. give (eqb b 1)) f rest e in
    let p = (passing-takes (among 0 1) bs w.0 w.1 w.2).0 in
    let q = found-is (eqb w.0 1) f w.1 rest w.3 in
    record { value = sym q.0 ∙ ap (λ (x : ℕ). eqb x 1) p.value; after = sym q.1 ∙ p.after; inside = p.inside }

-- a reader of single bytes
record One (r : Reader ℕ) : Type 0 where
  takes : (bs : List ℕ) (b : ℕ) (rest : List ℕ) → r bs ≡ found b rest → Takes bs rest b (get_or bs 0 0) 1

times-takes : (r : Reader ℕ) → One r → (n : ℕ) (bs : List ℕ) (l rest : List ℕ) → times n r bs ≡ found l rest → Takes bs rest l (take n bs) n
times-takes r o zero bs l rest e = let p = found-is [] l bs rest e in record { value = sym p.0; after = sym p.1; inside = omega arith }
times-takes r o (suc n) bs l rest e =
    let w = bind_found (r bs) (λ a. times n r >>= λ l. give (a ∷ l)) l rest e in
    let p = o.takes bs w.0 w.1 w.2 in
    let v = bind_found (times n r w.1) (λ l. give (w.0 ∷ l)) l rest w.3 in
    let q = times-takes r o n w.1 v.0 v.1 v.2 in
    let u = found-is (w.0 ∷ v.0) l v.1 rest v.3 in
    let c : bs ≡ get_or bs 0 0 ∷ drop 1 bs = drop-cons bs 0 0 p.inside in
    record {
      value = sym u.0 ∙ ap₂ ◌∷◌ p.value (q.value ∙ ap (take n) p.after) ∙ sym (ap (take (suc n)) c);
      after = sym u.1 ∙ q.after ∙ ap (drop n) p.after ∙ sym (ap (drop (suc n)) c);
      inside = omega (arith, q.inside, p.inside, ap length p.after, length-drop 1 bs);
    }

-- a name: its length, then as many bytes
name-takes : (first other : ℕ → Bool) (bs : List ℕ) (a : Text) (rest : List ℕ) → name_by first other bs ≡ found a rest → Takes bs rest a (take (get_or bs 0 0) (drop 1 bs)) (1 + get_or bs 0 0)
name-takes first other bs a rest e =
    let w = bind_found (within 1 32 bs) (λ n. passing first >>= λ b. times (n - 1) (passing other) >>= λ l. give (b ∷ l)) a rest e in
    let p = passing-takes (among 1 32) bs w.0 w.1 w.2 in
    let some : 1 ≤ w.0 = leb-true 1 w.0 (both (leb 1 w.0) (leb w.0 32) p.1).0 in
    let v = bind_found (passing first w.1) (λ b. times (w.0 - 1) (passing other) >>= λ l. give (b ∷ l)) a rest w.3 in
    let q = (passing-takes first w.1 v.0 v.1 v.2).0 in
    let u = bind_found (times (w.0 - 1) (passing other) v.1) (λ l. give (v.0 ∷ l)) a rest v.3 in
    let s = times-takes (passing other) (record { takes = λ xs b r h. (passing-takes other xs b r h).0 }) (w.0 - 1) v.1 u.0 u.1 u.2 in
    let z = found-is (v.0 ∷ u.0) a u.1 rest u.3 in
    let n : 1 + (1 + (w.0 - 1)) ≡ 1 + get_or bs 0 0 = omega (arith, p.0.value) in
    let c : w.1 ≡ get_or w.1 0 0 ∷ drop 1 w.1 = drop-cons w.1 0 0 q.inside in
    let m : suc (w.0 - 1) ≡ w.0 = omega arith in
    record {
      value = sym z.0 ∙ ap₂ ◌∷◌ q.value (s.value ∙ ap (take (w.0 - 1)) q.after) ∙ sym (ap (take (suc (w.0 - 1))) c) ∙ ap (λ (k : ℕ). take k w.1) m ∙ ap₂ take p.0.value p.0.after;
      after = sym z.1 ∙ s.after ∙ ap (drop (w.0 - 1)) (q.after ∙ ap (drop 1) p.0.after) ∙ drop-drop (w.0 - 1) 1 (drop 1 bs) ∙ drop-drop (1 + (w.0 - 1)) 1 bs ∙ ap (λ (k : ℕ). drop k bs) n;
      inside = omega (arith, s.inside, q.inside, p.0.inside, p.0.value, ap length q.after, ap length p.0.after, length-drop 1 bs, length-drop 1 w.1);
    }

-- a text: its length, then as many bytes
text-takes : (lo : ℕ) (good : Text → Bool) (bs : List ℕ) (a : Text) (rest : List ℕ) → text_from lo good bs ≡ found a rest → Takes bs rest a (take (get_or bs 0 0) (drop 1 bs)) (1 + get_or bs 0 0)
text-takes lo good bs a rest e =
    let w = bind_found (within lo 64 bs) (λ n. only_if good (times n byte)) a rest e in
    let p = (passing-takes (among lo 64) bs w.0 w.1 w.2).0 in
    let v = bind_found (times w.0 byte w.1) (λ l r. cond (good l) (found l r) (fault w.1)) a rest w.3 in
    let s = times-takes byte (record { takes = byte-takes }) w.0 w.1 v.0 v.1 v.2 in
    let z = judged w.1 (good v.0) v.0 v.1 v.3 in
    record {
      value = sym z.0 ∙ s.value ∙ ap₂ take p.value p.after;
      after = sym z.1 ∙ s.after ∙ ap₂ drop p.value p.after ∙ drop-drop (get_or bs 0 0) 1 bs;
      inside = omega (arith, s.inside, p.inside, p.value, ap length p.after, length-drop 1 bs);
    }
  where
    judged : (bad : List ℕ) (t : Bool) (l r : List ℕ) → cond t (found l r) (fault bad) ≡ found a rest → (l ≡ a) × (r ≡ rest)
    judged bad true l r h = found-is l a r rest h
    judged bad false l r h = clash (cc)

-- what was found of a pattern at the front
record Front (bs : List ℕ) (p : Raw) (rest : List ℕ) : Type 0 where
  is : p ≡ raw_at bs 0
  after : rest ≡ drop (size_at bs 0) bs
  some : 0 < size_at bs 0
  inside : size_at bs 0 ≤ length bs

-- the kind's byte is one more
over : (x l : ℕ) (bs : List ℕ) → drop (1 + l) bs ≡ drop (2 + l) (x ∷ bs)
over x l bs = let e : suc (1 + l) ≡ 2 + l = omega arith in ap (λ (k : ℕ). drop k (x ∷ bs)) e

-- the byte after the first
second : (bs mid : List ℕ) → mid ≡ drop 1 bs → get_or mid 0 0 ≡ get_or bs 1 0
second bs mid e = ap (λ (l : List ℕ). get_or l 0 0) e ∙ get_or-drop 1 bs 0 0

front-list : (bs : List ℕ) (p : Raw) (rest : List ℕ) → (byte >>= λ k. flag >>= λ tail. give (list_of k tail)) bs ≡ found p rest → Takes bs rest p (list_of (get_or bs 0 0) (eqb (get_or bs 1 0) 1)) 2
front-list bs p rest e =
    let w = bind_found (byte bs) (λ k. flag >>= λ tail. give (list_of k tail)) p rest e in
    let b = byte-takes bs w.0 w.1 w.2 in
    let v = bind_found (flag w.1) (λ tail. give (list_of w.0 tail)) p rest w.3 in
    let f = flag-takes w.1 v.0 v.1 v.2 in
    let z = found-is (list_of w.0 v.0) p v.1 rest v.3 in
    record {
      value = sym z.0 ∙ ap₂ list_of b.value (f.value ∙ ap (λ (x : ℕ). eqb x 1) (second bs w.1 b.after));
      after = sym z.1 ∙ f.after ∙ ap (drop 1) b.after ∙ drop-drop 1 1 bs;
      inside = omega (arith, f.inside, b.inside, ap length b.after, length-drop 1 bs);
    }

front-ctor : (bs : List ℕ) (p : Raw) (rest : List ℕ) → (byte >>= λ c. byte >>= λ k. flag >>= λ spread. give (constructor c k spread)) bs ≡ found p rest
    → Takes bs rest p (constructor (get_or bs 0 0) (get_or bs 1 0) (eqb (get_or bs 2 0) 1)) 3
front-ctor bs p rest e =
    let w = bind_found (byte bs) (λ c. byte >>= λ k. flag >>= λ spread. give (constructor c k spread)) p rest e in
    let b = byte-takes bs w.0 w.1 w.2 in
    let v = bind_found (byte w.1) (λ k. flag >>= λ spread. give (constructor w.0 k spread)) p rest w.3 in
    let d = byte-takes w.1 v.0 v.1 v.2 in
    let u = bind_found (flag v.1) (λ spread. give (constructor w.0 v.0 spread)) p rest v.3 in
    let f = flag-takes v.1 u.0 u.1 u.2 in
    let z = found-is (constructor w.0 v.0 u.0) p u.1 rest u.3 in
    let two : v.1 ≡ drop 2 bs = d.after ∙ ap (drop 1) b.after ∙ drop-drop 1 1 bs in
    let third : get_or v.1 0 0 ≡ get_or bs 2 0 = ap (λ (l : List ℕ). get_or l 0 0) two ∙ get_or-drop 2 bs 0 0 in
    record {
      value = sym z.0 ∙ ap (λ (x : ℕ). constructor x v.0 u.0) b.value ∙ ap (λ (x : ℕ). constructor (get_or bs 0 0) x u.0) (d.value ∙ second bs w.1 b.after) ∙ ap (constructor (get_or bs 0 0) (get_or bs 1 0)) (f.value ∙ ap (λ (x : ℕ). eqb x 1) third);
      after = sym z.1 ∙ f.after ∙ ap (drop 1) two ∙ drop-drop 1 2 bs;
      inside = omega (arith, f.inside, d.inside, b.inside, ap length two, length-drop 2 bs);
    }

front : (bs : List ℕ) (p : Raw) (rest : List ℕ) → pattern bs ≡ found p rest → Front bs p rest
unfolding pattern raw_at size_at text_at small_name
front [] p rest e = clash (cc)
front (zero ∷ bs) p rest e = let z = found-is discard p bs rest e in record { is = sym z.0; after = sym z.1; some = omega arith; inside = omega arith }
front (suc zero ∷ bs) p rest e =
    let w = bind_found (small_name bs) (λ n. give (variable n)) p rest e in
    let n = name-takes _ _ bs w.0 w.1 w.2 in
    let z = found-is (variable w.0) p w.1 rest w.3 in
    record { is = sym z.0 ∙ ap variable n.value; after = sym z.1 ∙ n.after ∙ over 1 (get_or bs 0 0) bs; some = omega arith; inside = omega (arith, n.inside) }
front (suc (suc zero) ∷ bs) p rest e =
    let w = bind_found (small_name bs) (λ n. give (assign n)) p rest e in
    let n = name-takes _ _ bs w.0 w.1 w.2 in
    let z = found-is (assign w.0) p w.1 rest w.3 in
    record { is = sym z.0 ∙ ap assign n.value; after = sym z.1 ∙ n.after ∙ over 2 (get_or bs 0 0) bs; some = omega arith; inside = omega (arith, n.inside) }
front (suc (suc (suc zero)) ∷ bs) p rest e =
    let w = bind_found (text_from 1 is_decimal bs) (λ t. give (integer_of t)) p rest e in
    let n = text-takes 1 is_decimal bs w.0 w.1 w.2 in
    let z = found-is (integer_of w.0) p w.1 rest w.3 in
    record { is = sym z.0 ∙ ap integer_of n.value; after = sym z.1 ∙ n.after ∙ over 3 (get_or bs 0 0) bs; some = omega arith; inside = omega (arith, n.inside) }
front (suc (suc (suc (suc zero))) ∷ bs) p rest e =
    let w = bind_found (text_from 0 (λ t. true) bs) (λ t. give (byte_string_of t)) p rest e in
    let n = text-takes 0 (λ t. true) bs w.0 w.1 w.2 in
    let z = found-is (byte_string_of w.0) p w.1 rest w.3 in
    record { is = sym z.0 ∙ ap byte_string_of n.value; after = sym z.1 ∙ n.after ∙ over 4 (get_or bs 0 0) bs; some = omega arith; inside = omega (arith, n.inside) }
front (suc (suc (suc (suc (suc zero)))) ∷ bs) p rest e = let n = front-list bs p rest e in record { is = n.value; after = n.after; some = omega arith; inside = omega (arith, n.inside) }
front (suc (suc (suc (suc (suc (suc zero))))) ∷ bs) p rest e = let n = front-ctor bs p rest e in record { is = n.value; after = n.after; some = omega arith; inside = omega (arith, n.inside) }
front (suc (suc (suc (suc (suc (suc (suc zero)))))) ∷ bs) p rest e = let z = found-is pair_of p bs rest e in record { is = sym z.0; after = sym z.1; some = omega arith; inside = omega arith }
front (suc (suc (suc (suc (suc (suc (suc (suc zero))))))) ∷ bs) p rest e =
    let w = bind_found (byte bs) (λ k. give (tuple_of k)) p rest e in
    let b = byte-takes bs w.0 w.1 w.2 in
    let z = found-is (tuple_of w.0) p w.1 rest w.3 in
    record { is = sym z.0 ∙ ap tuple_of b.value; after = sym z.1 ∙ b.after; some = omega arith; inside = omega (arith, b.inside) }
front (suc (suc (suc (suc (suc (suc (suc (suc (suc x)))))))) ∷ bs) p rest e = clash (cc)

module _ (bytes : List ℕ) (at : ℕ) where
  at_none : get_or (drop at bytes) 0 0 ≡ get_or bytes at 0
  at_none = get_or-drop at bytes 0 0 ∙ ap (λ (i : ℕ). get_or bytes i 0) (add-zero at)

  text-shift : text_at (drop at bytes) 1 ≡ text_at bytes (suc at)
  unfolding text_at
  text-shift =
      ap₂ (λ (n : ℕ) (l : List ℕ). take n l) (get_or-drop at bytes 1 0 ∙ ap (λ (i : ℕ). get_or bytes i 0) (add-one at)) (drop-drop 2 at bytes ∙ ap (λ (i : ℕ). drop i bytes) (add-two at))

  raw-shift : raw_at (drop at bytes) 0 ≡ raw_at bytes at
  unfolding raw_at
  raw-shift = rw (at_none, get_or-drop at bytes 1 0, get_or-drop at bytes 2 0, get_or-drop at bytes 3 0, text-shift)

  size-shift : size_at (drop at bytes) 0 ≡ size_at bytes at
  unfolding size_at
  size-shift = rw (at_none, get_or-drop at bytes 1 0)

  -- one pattern of those left, and those after it
  pub read_step : (n : ℕ) (raws : List Raw) (end : List ℕ) → patterns (suc n) (drop at bytes) ≡ found raws end
      → (ps : List Raw) × (raws ≡ raw_at bytes at ∷ ps) × (patterns (inner (raw_at bytes at) + n) (drop (at + size_at bytes at) bytes) ≡ found ps end) × (0 < size_at bytes at) × (at + size_at bytes at ≤ length bytes)
  read_step n raws end e =
      let w = bind_found (pattern (drop at bytes)) (λ p. patterns (inner p + n) >>= λ ps. give (p ∷ ps)) raws end (sym (patterns_law n (drop at bytes)) ∙ e) in
      let f = front (drop at bytes) w.0 w.1 w.2 in
      let v = bind_found (patterns (inner w.0 + n) w.1) (λ ps. give (w.0 ∷ ps)) raws end w.3 in
      let z = found-is (w.0 ∷ v.0) raws v.1 end v.3 in
      let p : w.0 ≡ raw_at bytes at = f.is ∙ raw-shift in
      let r : w.1 ≡ drop (at + size_at bytes at) bytes = f.after ∙ ap (λ (k : ℕ). drop k (drop at bytes)) size-shift ∙ drop-drop (size_at bytes at) at bytes in (
        v.0,
        sym z.0 ∙ ap (λ (x : Raw). x ∷ v.0) p,
        ap₂ (λ (x : Raw) (l : List ℕ). patterns (inner x + n) l) (sym p) (sym r) ∙ v.2 ∙ ap (found v.0) z.1,
        omega (arith, f.some, size-shift),
        omega (arith, f.some, f.inside, size-shift, length-drop at bytes),
      )

-- the size at a place
pub size-at : (bytes : List ℕ) (at w l r : ℕ) → w ≡ get_or bytes at 0 → l ≡ get_or bytes (at + 1) 0 → r ≡ size_of w l → at + r ≡ at + size_at bytes at
unfolding size_at
size-at bytes at w l r w_is l_is e = rw (e, w_is, l_is)
