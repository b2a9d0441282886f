-- Lists with the same members: moved about, repeated, mapped and taken apart; from what membership and permutations are in the library.
use mathlib.Core.Path.{◌≡◌, refl, ap, sym, ◌∙◌}
use mathlib.Core.Logic.Or
use mathlib.Core.Logic.{∥∥₁_elim}
use mathlib.Core.HLevel.{⊥_prop}
use mathlib.Core.List.Perm
use mathlib.Core.List.{List, [], ◌∷◌, ◌++◌, map, Memᴰ, Mem, Mem-prop, Subset, Subset-refl, mem-cast, mem-cons_of_mem, eq-or-mem_of_mem-cons, mem-append, mem-append_left, mem-append_right, mem-map_of_mem, exists_of_mem-map, Perm, perm_middle, perm_append_singleton}
use mathlib.Core.Option.{some}
use Prim.Native.Nat.{ℕ, zero, suc, ◌+◌, ◌≤◌, ◌<◌}
use native.Mathlib.Omega.{arith}
use lib.ListN.{length, get_or, take, drop, length-append, get_or-append}
use lib.Seq.{drop-append_seam, get_or-drop, take-append-add, take-append-le}
use Rattle.meaning.specs.Order.{SameMembers}

module _ {A : Type 0} where
  pub own_members : (l : List A) → SameMembers l l
  own_members l = record { there = Subset-refl l; back = Subset-refl l }

  pub turned_members : {l k : List A} → SameMembers l k → SameMembers k l
  turned_members s = record { there = s.back; back = s.there }

  pub permuted_members : {l k : List A} → Perm l k → SameMembers l k
  permuted_members p = record { there = λ a m. (Perm.mem_iff p).0 m; back = λ a m. (Perm.mem_iff p).1 m }

  subset_append : {l k : List A} (z : List A) → Subset l k → Subset (l ++ z) (k ++ z)
  subset_append {l} {k} z s a m = Or.elim (Mem-prop {a = a} {l = k ++ z}) ((mem-append {a = a} {s = l} {t = z}).0 m) (λ i. mem-append_left z (s a i)) (mem-append_right k)

  pub append_members : {l k : List A} (z : List A) → SameMembers l k → SameMembers (l ++ z) (k ++ z)
  append_members z s = record { there = subset_append z s.there; back = subset_append z s.back }

  -- one member more
  pub repeated_members : (p : A) (xs ys : List A) → Mem p (xs ++ ys) → SameMembers (xs ++ ys) (xs ++ p ∷ ys)
  repeated_members p xs ys h = record { there = there; back = back }
    where
      there : Subset (xs ++ ys) (xs ++ p ∷ ys)
      there a m = Or.elim (Mem-prop {a = a} {l = xs ++ p ∷ ys}) ((mem-append {a = a} {s = xs} {t = ys}).0 m) (mem-append_left (p ∷ ys)) (λ i. mem-append_right xs (mem-cons_of_mem p i))

      or_itself : (a : A) → Mem a (p ∷ ys) → Mem a (xs ++ ys)
      or_itself a m = Or.elim (Mem-prop {a = a} {l = xs ++ ys}) (eq-or-mem_of_mem-cons m) (λ e. mem-cast e h) (mem-append_right xs)

      back : Subset (xs ++ p ∷ ys) (xs ++ ys)
      back a m = Or.elim (Mem-prop {a = a} {l = xs ++ ys}) ((mem-append {a = a} {s = xs} {t = p ∷ ys}).0 m) (mem-append_left ys) (or_itself a)

  -- a member stands at some place
  placeᴰ : {a : A} {l : List A} (d : A) → Memᴰ a l → (i : ℕ) × (i < length l) × (get_or l i d ≡ a)
  placeᴰ d (Memᴰ.head e) = (0, omega arith, sym e)
  placeᴰ d (Memᴰ.tail m) = let w = placeᴰ d m in (suc w.0, omega (arith, w.1), w.2)

  pub nowhere : {a : A} {l : List A} (d : A) → Mem a l → ((i : ℕ) → i < length l → get_or l i d ≡ a → ⊥) → ⊥
  nowhere d m n = ∥∥₁_elim m ⊥_prop (λ h. let w = placeᴰ d h in n w.0 w.1 w.2)

  -- two members swapped
  to_the_front : (p q : A) (xs ys : List A) → Perm (xs ++ p ∷ ys ++ q ∷ []) (q ∷ p ∷ (xs ++ ys))
  to_the_front p q xs ys = Perm.trans (perm_append_singleton q (xs ++ p ∷ ys)) (Perm.cons q (perm_middle xs ys))

  pub swapped_members : (p q : A) (xs ys : List A) → SameMembers (xs ++ p ∷ ys ++ q ∷ []) (xs ++ q ∷ ys ++ p ∷ [])
  swapped_members p q xs ys = permuted_members (Perm.trans (to_the_front p q xs ys) (Perm.trans (Perm.swap p q (xs ++ ys)) (Perm.symm (to_the_front q p xs ys))))

module _ {A B : Type 0} where
  subset_map : (f : A → B) {l k : List A} → Subset l k → Subset (map f l) (map f k)
  subset_map f {k = k} s b m = ∥∥₁_elim (exists_of_mem-map m) (Mem-prop {a = b} {l = map f k}) (λ w. mem-cast (sym w.2) (mem-map_of_mem f (s w.0 w.1)))

  pub map_members : (f : A → B) {l k : List A} → SameMembers l k → SameMembers (map f l) (map f k)
  map_members f s = record { there = subset_map f s.there; back = subset_map f s.back }

  pub take-map : (f : A → B) (i : ℕ) (l : List A) → take i (map f l) ≡ map f (take i l)
  take-map f zero l = refl
  take-map f (suc i) [] = refl
  take-map f (suc i) (x ∷ l) = ap (f x ∷◌) (take-map f i l)

-- what `some` tells apart
module _ {A : Type 0} where
  subset_some : (l k : List A) → Subset (map some l) (map some k) → Subset l k
  subset_some l k s a m = ∥∥₁_elim (exists_of_mem-map (s (some a) (mem-map_of_mem some m))) (Mem-prop {a = a} {l = k}) (λ w. let e : a ≡ w.0 = un w.2 in mem-cast e w.1)
    where
      un : {x : A} → some x ≡ some a → a ≡ x
      un h = cc

  pub some_members : (l k : List A) → SameMembers (map some l) (map some k) → SameMembers l k
  some_members l k s = record { there = subset_some l k s.there; back = subset_some k l s.back }

  pub one_between : (xs ys : List A) (p : A) → length (xs ++ p ∷ ys) ≡ length xs + length ys + 1
  one_between xs ys p = length-append xs (p ∷ ys) ∙ omega arith

  pub two_between : (xs ys : List A) (p q : A) → length (xs ++ p ∷ ys ++ q ∷ []) ≡ length xs + length ys + 2
  two_between xs ys p q = length-append (xs ++ p ∷ ys) (q ∷ []) ∙ omega (arith, one_between xs ys p)

  -- a list with zs at its end
  module _ (xs zs : List A) {l : List A} (e : l ≡ xs ++ zs) where
    pub within-later : (k : ℕ) → k < length zs → length xs + k < length l
    within-later k h = omega (arith, ap length e, length-append xs zs)

    pub at-later : (k : ℕ) (d : A) → get_or l (length xs + k) d ≡ get_or zs k d
    at-later k d = sym (get_or-drop (length xs) l k d) ∙ ap (λ (x : List A). get_or x k d) (ap (drop (length xs)) e ∙ drop-append_seam xs zs)

  -- and two of them
  module _ (xs ys zs : List A) {l k : List A} (e : l ≡ xs ++ zs) (f : k ≡ ys ++ zs) (h : SameMembers xs ys) where
    pub whole_members : SameMembers l k
    whole_members = rw (e, f) (append_members zs h)

    pub taken_members : (n : ℕ) → SameMembers (take (length xs + n) l) (take (length ys + n) k)
    taken_members n = rw (e, f, take-append-add xs zs n, take-append-add ys zs n) (append_members (take n zs) h)

  -- a list with xs at its front, and two of them
  module _ (xs ys : List A) {l : List A} (e : l ≡ xs ++ ys) where
    pub within-sooner : (k : ℕ) → k < length xs → k < length l
    within-sooner k h = omega (arith, ap length e, length-append xs ys)

    pub at-sooner : (k : ℕ) (d : A) → k < length xs → get_or l k d ≡ get_or xs k d
    at-sooner k d h = ap (λ (x : List A). get_or x k d) e ∙ get_or-append xs ys d k h

  pub sooner_members : (xs ys zs : List A) {l k : List A} → l ≡ xs ++ ys → k ≡ xs ++ zs → (n : ℕ) → n ≤ length xs → SameMembers (take n l) (take n k)
  sooner_members xs ys zs e f n h = rw (e, f, take-append-le n xs ys h, take-append-le n xs zs h) (own_members (take n xs))
