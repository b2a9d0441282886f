-- `is_useful` on numbers is `is_useful` of the rows that they say: by the size of what is left, one step at a time.
use mathlib.Core.Path.{◌≡◌, refl, sym, ap, ap₂, subst, ◌∙◌}
use mathlib.Core.Bool.{Bool, true, cond, ◌||◌}
use mathlib.Core.List.{List, [], ◌∷◌, ◌++◌, map}
use Prim.Native.Nat.{ℕ, zero, suc, ◌+◌, ◌*◌, ◌≤◌, ◌<◌}
use native.Mathlib.Nat.{add-zero, zero-add}
use native.Mathlib.Numerals.{add-one}
use native.Mathlib.Omega.{arith}
use lib.ListN.{length, get_or, replicate, length-append, length-map, get_or-map}
use Rattle.scope.specs.Types.{Ref, Table, fields_of}
use Rattle.scope.specs.Constructors.{built, ctors, fields_at, alts, arity}
use Rattle.scope.specs.Simplify.{wild, Row, Matrix}
use Rattle.scope.specs.Walks.{Walk, holding, joined, try_each, specialize_by_ctor, specialize_by_literal, specialize_by_wildcard, column, useful_wild, useful_head, useful_body, is_useful_step, is_useful}
use Rattle.laws.proofs.Steps.{useful_law}
use Rattle.layout.specs.Types.{Shape}
use Rattle.matrix.specs.Numbers as numbers
use Rattle.walks.specs.Walks as walks
use Rattle.matrix.specs.Numbers.{Rows, ar_of, rows_by, head_of, mem, count_of, seen_of}
use Rattle.walks.specs.Walks.{any_from, useful_alt, useful_seen, useful_step, size, useful_in, useful_of}
use Rattle.walks.specs.Bridge.{Says, wilds, lits, cons, SayRows, no_rows, also, SameUseful, SameRead}
use Rattle.matrix.proofs.Arities.{arity_0, arity-lit}
use Rattle.walks.proofs.Measure.{size_default, size_alt, size-own, size-wild}
use Rattle.matrix.proofs.Seen.{in_each}
use Rattle.walks.proofs.BridgeRows.{key-arity, rows-length, says-wilds, say_default, say-literal, say-ctor}
use Rattle.walks.proofs.BridgeNodes.{says-read, rows-read}
use Rattle.walks.proofs.BridgeColumns.{column-says}

-- the constructors one after another, by their numbers and by the list of their fields
any_try : (g : ℕ → Walk Bool) (f : ℕ → ℕ → Walk Bool) (ks : List (List Ref)) (b c : ℕ) → ((i : ℕ) → i < length ks → g (b + i) ≡ f (c + i) (length (get_or ks i []))) → any_from g b (length ks) ≡ try_each f c ks
unfolding any_from
any_try g f [] b c h = refl
any_try g f (fields ∷ ks) b c h = ap₂ (λ (w v : Walk Bool). cond w.result w (joined ◌||◌ w v))
    (ap g (sym (add-zero b)) ∙ h 0 (omega arith) ∙ ap (λ (x : ℕ). f x (length fields)) (add-zero c))
    (any_try g f ks (suc b) (suc c) (λ i l. ap g (shift b i) ∙ h (suc i) (omega arith) ∙ ap (λ (x : ℕ). f x (length (get_or ks i []))) (sym (shift c i))))
  where
    shift : (x i : ℕ) → suc x + i ≡ x + suc i
    shift x i = omega arith

module _ (bytes kinds counts ars : List ℕ) (table : Table) (sh : Shape kinds counts ars table) (low : length ars < 32768) where
  arity-at : (t i : ℕ) → length (get_or (alts table t) i []) ≡ arity table t i
  arity-at t i = ap length (get_or-map fields_of (ctors table t) i (built [] []))

  module _ (again : ℕ → Rows → List ℕ → Walk Bool) (z : ℕ)
      (deeper : (n : ℕ) (ts : List Ref) (m : Rows) (p : Matrix) (q : List ℕ) (s : Row) → n ≡ length ts → size n (q ∷ m) < z → SayRows bytes table ts m p → Says bytes table ts q s → again n m q ≡ is_useful table n p s)
      (n : ℕ) (t : Ref) (ts : List Ref) (e : n ≡ length ts) (m : Rows) (p : Matrix) (k : SayRows bytes table (t ∷ ts) m p) where
    default_is : (q : List ℕ) (s : Row) → size (suc n) (q ∷ m) ≤ z → Says bytes table ts q s → again (n + ar_of ars 0) (rows_by bytes 0 (ar_of ars 0) m) q ≡ is_useful table n (specialize_by_wildcard p) s
    default_is q s le h =
        let same : n + ar_of ars 0 ≡ n = omega (arith, arity_0 ars) in
        deeper (n + ar_of ars 0) ts (rows_by bytes 0 (ar_of ars 0) m) (specialize_by_wildcard p) q s (same ∙ e) (omega (arith, size_default bytes ars n m q)) (say_default bytes kinds counts ars table sh low k) h
        ∙ ap (λ (j : ℕ). is_useful table j (specialize_by_wildcard p) s) same

    -- by constructor c of the column's type
    ctor-is : (c key : ℕ) → key ≡ suc (32 * t + c) → c < length (ctors table t) → (q : List ℕ) (s : Row) → size (n + ar_of ars key) (q ∷ rows_by bytes key (ar_of ars key) m) < z → Says bytes table (fields_at table t c ++ ts) q s
        → again (n + ar_of ars key) (rows_by bytes key (ar_of ars key) m) q ≡ is_useful table (arity table t c + n) (specialize_by_ctor c (arity table t c) p) s
    ctor-is c key ke l q s lt h =
        let a = key-arity kinds counts ars table sh t c key ke l in
        let same : n + ar_of ars key ≡ arity table t c + n = omega arith in
        deeper (n + ar_of ars key) (fields_at table t c ++ ts) (rows_by bytes key (ar_of ars key) m) (specialize_by_ctor c (arity table t c) p) q s (omega (arith, length-append (fields_at table t c) ts)) lt (say-ctor bytes kinds counts ars table sh low c key ke l k) h
        ∙ ap (λ (j : ℕ). is_useful table j (specialize_by_ctor c (arity table t c) p) s) same

    each-is : (q : List ℕ) (s : Row) → size (suc n) (q ∷ m) ≤ z → Says bytes table ts q s → numbers.all_in (suc (32 * t)) (count_of counts (suc (32 * t))) (map head_of m) ≡ true → count_of counts (suc (32 * t)) ≡ length (ctors table t)
        → (i : ℕ) → i < length (alts table t)
        → useful_alt bytes counts ars again n m q (suc (32 * t) + i) ≡ is_useful table (length (get_or (alts table t) i []) + n) (specialize_by_ctor (0 + i) (length (get_or (alts table t) i [])) p) (replicate (length (get_or (alts table t) i [])) wild ++ s)
    each-is q s le h all count i lt =
        let l : i < length (ctors table t) = omega (arith, length-map (ctors table t) fields_of) in
        let key = suc (32 * t) + i in
        let ke : suc (32 * t) + i ≡ suc (32 * t + i) = omega arith in
        let a = key-arity kinds counts ars table sh t i key ke l in
        let there : mem (suc (32 * t) + i) (map head_of m) ≡ true = in_each counts (map head_of m) (suc (32 * t)) (count_of counts (suc (32 * t))) all i (omega arith) in
        let says : Says bytes table (fields_at table t i ++ ts) (replicate (ar_of ars key) 0 ++ q) (replicate (arity table t i) wild ++ s)
        = subst (λ (x : ℕ). Says bytes table (fields_at table t i ++ ts) (replicate x 0 ++ q) (replicate (arity table t i) wild ++ s)) (sym a) (says-wilds bytes table (fields_at table t i) ts h) in
        ctor-is i key ke l (replicate (ar_of ars key) 0 ++ q) (replicate (arity table t i) wild ++ s) (omega (arith, size_alt bytes ars n m q key (omega arith) (omega (arith, a, sh.narrow t i)) there)) says
        ∙ ap₂ (λ (x j : ℕ). is_useful table (x + n) (specialize_by_ctor j x p) (replicate x wild ++ s)) (sym (arity-at t i)) (sym (zero-add i))

    wild-is : (q : List ℕ) (s : Row) → size (suc n) (q ∷ m) ≤ z → Says bytes table ts q s → useful_seen bytes counts ars again (seen_of counts (map head_of m)) n m q ≡ useful_wild table (is_useful table) (column table p) n p s
    wild-is q s le h = column-says bytes kinds counts ars table sh k (λ x y. useful_seen bytes counts ars again x n m q ≡ useful_wild table (is_useful table) y n p s)
        (default_is q s le h)
        (default_is q s le h)
        (λ all count.
        let n' : count_of counts (suc (32 * t)) ≡ length (alts table t) = count ∙ sym (length-map (ctors table t) fields_of) in
        ap (any_from (useful_alt bytes counts ars again n m q) (suc (32 * t))) n'
        ∙ any_try (useful_alt bytes counts ars again n m q) (λ c a. is_useful table (a + n) (specialize_by_ctor c a p) (replicate a wild ++ s)) (alts table t) (suc (32 * t)) 0 (each-is q s le h all count))

    -- by the head of the new row
    own : (h : ℕ) (q : List ℕ) → (h ≡ 0 → ⊥) → walks.useful_head bytes counts ars again n m (h ∷ q) ≡ again (n + ar_of ars h) (rows_by bytes h (ar_of ars h) m) q
    own zero q ne = absurd (ne refl)
    own (suc h) q ne = refl

    head-is : {q : List ℕ} {s : Row} → size (suc n) (q ∷ m) ≤ z → Says bytes table (t ∷ ts) q s → walks.useful_head bytes counts ars again n m q ≡ useful_head table (is_useful table) n p s
    head-is le (wilds {ns = q} {r = s} h) = wild-is q s (omega (arith, size-wild (suc n) m q)) h
    head-is le (lits {h = x} {l = l} {ns = q} {r = s} xl xs xe h) =
        let a = arity-lit ars x low xl in
        let same : n + ar_of ars x ≡ n = omega arith in
        own x q (λ y. omega arith)
        ∙ deeper (n + ar_of ars x) ts (rows_by bytes x (ar_of ars x) m) (specialize_by_literal l p) q s (same ∙ e) (omega (arith, size-own bytes ars n m q x (λ y. omega arith) (omega arith))) (say-literal bytes kinds counts ars table sh low x l xl xs xe k) h
        ∙ ap (λ (j : ℕ). is_useful table j (specialize_by_literal l p) s) same
    head-is le (cons {h = x} {c = c} {ns = q} {r = s} xe xl h) =
        let a = key-arity kinds counts ars table sh t c x xe xl in
        own x q (λ y. omega arith) ∙ ctor-is c x xe xl q s (omega (arith, size-own bytes ars n m q x (λ y. omega arith) (omega (arith, a, sh.narrow t c)))) h

  module _ (again : ℕ → Rows → List ℕ → Walk Bool) (z : ℕ)
      (deeper : (n : ℕ) (ts : List Ref) (m : Rows) (p : Matrix) (q : List ℕ) (s : Row) → n ≡ length ts → size n (q ∷ m) < z → SayRows bytes table ts m p → Says bytes table ts q s → again n m q ≡ is_useful table n p s) where
    body_is : (n : ℕ) (ts : List Ref) {m : Rows} {p : Matrix} (q : List ℕ) (s : Row) → n ≡ length ts → size n (q ∷ m) ≤ z → SayRows bytes table ts m p → Says bytes table ts q s → walks.useful_body bytes counts ars again n m q ≡ useful_body table (is_useful table) n p s
    body_is n ts q s e le no_rows h = refl
    body_is zero ts q s e le (also a b) h = refl
    body_is (suc n) [] q s e le (also a b) h = absurd (omega arith)
    body_is (suc n) (t ∷ ts) q s e le (also {ns = ns} {r = r} {m = m} {p = p} a b) h = head-is again z deeper n t ts (omega arith) (ns ∷ m) (r ∷ p) (also a b) le h

    step_is : (n : ℕ) (ts : List Ref) (m : Rows) (p : Matrix) (q : List ℕ) (s : Row) → n ≡ length ts → size n (q ∷ m) ≤ z → SayRows bytes table ts m p → Says bytes table ts q s → useful_step bytes counts ars again n m q ≡ is_useful_step table (is_useful table) n p s
    unfolding useful_step is_useful_step
    step_is n ts m p q s e le k h = ap₂ holding (ap (λ (x : ℕ). x * n) (add-one (length m) ∙ ap suc (rows-length bytes table k))) (body_is n ts q s e le k h)

  useful_in_lem : (f n : ℕ) (ts : List Ref) (m : Rows) (p : Matrix) (q : List ℕ) (s : Row) → n ≡ length ts → size n (q ∷ m) < f → SayRows bytes table ts m p → Says bytes table ts q s → useful_in bytes counts ars f n m q ≡ is_useful table n p s
  unfolding useful_in
  useful_in_lem zero n ts m p q s e l k h = absurd (omega arith)
  useful_in_lem (suc f) n ts m p q s e l k h =
      step_is (useful_in bytes counts ars f) (size n (q ∷ m)) (λ n' ts' m' p' q' s' e' l' k' h'. useful_in_lem f n' ts' m' p' q' s' e' (omega arith) k' h') n ts m p q s e (omega arith) k h
      ∙ sym (useful_law table n p s)

pub same_useful : SameUseful
unfolding useful_of
same_useful bytes kinds counts ars table sh low ts m p q s k h = useful_in_lem bytes kinds counts ars table sh low (suc (size (length ts) (q ∷ m))) (length ts) ts m p q s refl (omega arith) k h

pub same_read : SameRead
same_read bytes kinds counts ars table sh low ts m p q s k h = same_useful bytes kinds counts ars table sh low ts m _ q _ (rows-read bytes kinds counts ars table sh k) (says-read bytes kinds counts ars table sh h)
