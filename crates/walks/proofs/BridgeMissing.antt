-- `collect_missing_patterns` on numbers is that of the rows that they say: by the size of what is left, one step at a time.
use mathlib.Core.Path.{◌≡◌, refl, sym, ap, ap₂, ◌∙◌}
use mathlib.Core.Bool.{Bool, true, false, cond}
use mathlib.Core.List.{List, [], ◌∷◌, ◌++◌, map, map-append}
use Prim.Native.Nat.{ℕ, zero, suc, ◌+◌, ◌*◌, ◌≤◌, ◌<◌}
use native.Mathlib.Nat.{add-zero, zero-add}
use native.Mathlib.Omega.{arith}
use lib.ListN.{length, get_or, replicate, length-append, length-map, get_or-map}
use Rattle.scope.specs.Types.{Ref, Table, fields_of}
use Rattle.scope.specs.Constructors.{built, ctors, fields_at, alts, arity}
use Rattle.scope.specs.Simplify.{Node, wild, con, Row, Matrix}
use Rattle.scope.specs.Walks as scope
use Rattle.scope.specs.Walks.{Walk, plain, holding, turned, joined, gather, unseen, seen, specialize_by_ctor, specialize_by_wildcard, recover_ctor, column, missing_column, collect_missing_step, collect_missing_patterns}
use Rattle.laws.proofs.Steps.{missing_law}
use Rattle.layout.specs.Types.{Shape}
use Rattle.layout.specs.Nodes.{node_of, row_of}
use Rattle.matrix.specs.Numbers as numbers
use Rattle.walks.specs.Walks as walks
use Rattle.matrix.specs.Numbers.{Rows, ar_of, rows_by, head_of, mem, all_in, count_of, seen_of, recover, each_row}
use Rattle.walks.specs.Walks.{unseen_from, gather_from, missing_by, missing_seen, missing_step, size, missing_in, missing_of}
use Rattle.walks.specs.Bridge.{SayRows, no_rows, also, SameMissing}
use Rattle.matrix.proofs.Arities.{arity_0}
use Rattle.matrix.proofs.Seen.{in_each, partly}
use Rattle.walks.proofs.BridgeRows.{key-arity, key-small, rows-length, say_default, say-ctor}
use Rattle.walks.proofs.BridgeColumns.{First, nothing, found, first_says, seen-says, count-is, column-says}
use Rattle.walks.proofs.MissingSteps.{size-wild, size-key}
use Rattle.walks.proofs.BridgeNodes.{node-ctor}

-- rows that are read from rows of numbers
module _ (bytes : List ℕ) where
  node-wild : node_of bytes 0 ≡ wild
  unfolding node_of
  node-wild = refl

  wilds-read : (n : ℕ) (r : List ℕ) → row_of bytes (replicate n 0 ++ r) ≡ replicate n wild ++ row_of bytes r
  wilds-read zero r = refl
  wilds-read (suc n) r = ap₂ (λ (x : Node) (y : Row). x ∷ y) node-wild (wilds-read n r)

  wilds-only : (n : ℕ) → row_of bytes (replicate n 0) ≡ replicate n wild
  wilds-only zero = refl
  wilds-only (suc n) = ap₂ (λ (x : Node) (y : Row). x ∷ y) node-wild (wilds-only n)

  -- a node in front of each row
  recover-read : (h : ℕ) (x : Node) → node_of bytes h ≡ x → (m : Rows) → map (row_of bytes) (recover h m) ≡ map (x ∷◌) (map (row_of bytes) m)
  recover-read h x e [] = refl
  recover-read h x e (r ∷ m) = ap₂ (λ (y : Node) (z : Matrix). (y ∷ row_of bytes r) ∷ z) e (recover-read h x e m)

  -- what each row becomes
  each_read : (f : List ℕ → Rows) (g : Row → Matrix) → ((r : List ℕ) → map (row_of bytes) (f r) ≡ g (row_of bytes r)) → (m : Rows) → map (row_of bytes) (each_row f m) ≡ scope.each_row g (map (row_of bytes) m)
  unfolding each_row
  each_read f g h [] = refl
  each_read f g h (r ∷ m) = map-append (row_of bytes) (f r) (each_row f m) ∙ ap₂ ◌++◌ (h r) (each_read f g h m)

  -- a walk read, and then turned
  turned-read : (f : Rows → Rows) (g : Matrix → Matrix) → ((m : Rows) → map (row_of bytes) (f m) ≡ g (map (row_of bytes) m)) → (w : Walk Rows) (v : Walk Matrix) → turned (map (row_of bytes)) w ≡ v → turned (map (row_of bytes)) (turned f w) ≡ turned g v
  turned-read f g h w v e = ap (λ (x : Matrix). record { result = x; calls = w.calls; peak = w.peak }) (h w.result) ∙ ap (turned g) e

  joined-read : (a b : Walk Rows) → turned (map (row_of bytes)) (joined ◌++◌ a b) ≡ joined ◌++◌ (turned (map (row_of bytes)) a) (turned (map (row_of bytes)) b)
  joined-read a b = ap (λ (x : Matrix). record { result = x; calls = (joined ◌++◌ a b).calls; peak = (joined ◌++◌ a b).peak }) (map-append (row_of bytes) a.result b.result)

module _ (bytes kinds counts ars : List ℕ) (table : Table) (sh : Shape kinds counts ars table) (low : length ars < 32768) where
  arity-at : (t i : ℕ) → length (get_or (alts table t) i []) ≡ arity table t i
  arity-at t i = ap length (get_or-map fields_of (ctors table t) i (built [] []))

  alts-length : (t : ℕ) → length (alts table t) ≡ length (ctors table t)
  alts-length t = length-map (ctors table t) fields_of

  -- the number of constructor c
  number : (t c b : ℕ) → b ≡ suc (32 * t + c) → c < length (ctors table t) → node_of bytes b ≡ con t c
  number t c b e l = node-ctor bytes b t c e (omega (arith, sh.in_type t)) (omega (arith, key-small kinds counts ars table sh t c l))

  -- the constructors one after another, by their numbers and by the list of their fields
  gather-read : (g : ℕ → Walk Rows) (f : ℕ → ℕ → Walk Matrix) (t : ℕ) (ks : List (List Ref)) (b c : ℕ) → b ≡ suc (32 * t + c) → c + length ks ≤ length (ctors table t)
      → ((i : ℕ) → i < length ks → turned (map (row_of bytes)) (g (b + i)) ≡ f (c + i) (length (get_or ks i [])))
      → turned (map (row_of bytes)) (gather_from g b (length ks)) ≡ gather f t c ks
  unfolding gather_from
  gather-read g f t [] b c e l h = refl
  gather-read g f t (fields ∷ ks) b c e l h =
      joined-read bytes (turned (recover b) (g b)) (gather_from g (suc b) (length ks))
      ∙ ap₂ (λ (x y : Walk Matrix). joined ◌++◌ x y)
      (turned-read bytes (recover b) (recover_ctor t c) (recover-read bytes b (con t c) (number t c b e (omega arith))) (g b) (f c (length fields))
      (ap (λ (x : ℕ). turned (map (row_of bytes)) (g x)) (sym (add-zero b)) ∙ h 0 (omega arith) ∙ ap (λ (x : ℕ). f x (length fields)) (add-zero c)))
      (gather-read g f t ks (suc b) (suc c) (omega arith) (omega arith)
      (λ i q. ap (λ (x : ℕ). turned (map (row_of bytes)) (g x)) (shift b i) ∙ h (suc i) (omega arith) ∙ ap (λ (x : ℕ). f x (length (get_or ks i []))) (sym (shift c i))))
    where
      shift : (x i : ℕ) → suc x + i ≡ x + suc i
      shift x i = omega arith

  -- the unseen constructors
  unseen-read : {t : Ref} {ts : List Ref} {m : Rows} {p : Matrix} → SayRows bytes table (t ∷ ts) m p → (ks : List (List Ref)) (b c : ℕ) → b ≡ suc (32 * t + c) → c + length ks ≤ length (ctors table t)
      → ((i : ℕ) → i < length ks → length (get_or ks i []) ≡ arity table t (c + i))
      → (r : List ℕ) → map (row_of bytes) (unseen_from ars (map head_of m) b (length ks) r) ≡ unseen p t c ks (row_of bytes r)
  unfolding unseen_from
  unseen-read k [] b c e l h r = refl
  unseen-read {t = t} {m = m} {p = p} k (fields ∷ ks) b c e l h r =
      let lc : c < length (ctors table t) = omega arith in
      let s : mem b (map head_of m) ≡ seen p c = ap (λ (x : ℕ). mem x (map head_of m)) e ∙ seen-says bytes kinds counts ars table sh c (omega (arith, key-small kinds counts ars table sh t c lc)) k in
      let a : ar_of ars b ≡ length fields = key-arity kinds counts ars table sh t c b e lc ∙ ap (arity table t) (sym (add-zero c)) ∙ sym (h 0 (omega arith)) in
      map-append (row_of bytes) (cond (mem b (map head_of m)) [] ((b ∷ replicate (ar_of ars b) 0 ++ r) ∷ [])) (unseen_from ars (map head_of m) (suc b) (length ks) r)
      ∙ ap₂ ◌++◌
      (ap (λ (x : Bool). map (row_of bytes) (cond x [] ((b ∷ replicate (ar_of ars b) 0 ++ r) ∷ []))) s ∙ this (seen p c) (number t c b e lc) a)
      (unseen-read k ks (suc b) (suc c) (omega arith) (omega arith) (λ i q. h (suc i) (omega arith) ∙ ap (arity table t) (shift i)) r)
    where
      shift : (i : ℕ) → c + suc i ≡ suc c + i
      shift i = omega arith

      this : (x : Bool) → node_of bytes b ≡ con t c → ar_of ars b ≡ length fields → map (row_of bytes) (cond x [] ((b ∷ replicate (ar_of ars b) 0 ++ r) ∷ [])) ≡ cond x [] ((con t c ∷ replicate (length fields) wild ++ row_of bytes r) ∷ [])
      this true n q = refl
      this false n q = ap₂ (λ (x : Node) (y : Row). (x ∷ y) ∷ []) n (wilds-read bytes (ar_of ars b) r ∙ ap (λ (j : ℕ). replicate j wild ++ row_of bytes r) q)

  -- a column of which some constructors are seen is of a type of the table
  part_count : {t : Ref} {ts : List Ref} {m : Rows} {p : Matrix} → SayRows bytes table (t ∷ ts) m p → (b : ℕ) → seen_of counts (map head_of m) ≡ numbers.part b → count_of counts (suc (32 * t)) ≡ length (alts table t)
  part_count {t = t} {m = m} {p = p} k b e = go (first_says bytes kinds counts ars table sh k)
    where
      go : First bytes kinds counts ars table sh t (map head_of m) (scope.column_type p) → count_of counts (suc (32 * t)) ≡ length (alts table t)
      go (nothing f i) = absurd ((partly counts (map head_of m) b e).found f)
      go (found d l f i) = count-is bytes kinds counts ars table sh t d l ∙ sym (alts-length t)

  module _ (again : ℕ → Rows → Walk Rows) (z : ℕ)
      (deeper : (n : ℕ) (ts : List Ref) (m : Rows) (p : Matrix) → n ≡ length ts → size n m < z → SayRows bytes table ts m p → turned (map (row_of bytes)) (again n m) ≡ collect_missing_patterns table n p)
      (n : ℕ) (t : Ref) (ts : List Ref) (e : n ≡ length ts) (m : Rows) (p : Matrix) (k : SayRows bytes table (t ∷ ts) m p) (le : size (suc n) m ≤ z) where
    default_is : turned (map (row_of bytes)) (missing_by bytes counts ars again n m 0) ≡ collect_missing_patterns table n (specialize_by_wildcard p)
    default_is =
        let same : n + ar_of ars 0 ≡ n = omega (arith, arity_0 ars) in
        deeper (n + ar_of ars 0) ts (rows_by bytes 0 (ar_of ars 0) m) (specialize_by_wildcard p) (same ∙ e) (omega (arith, size-wild bytes ars n m)) (say_default bytes kinds counts ars table sh low k)
        ∙ ap (λ (j : ℕ). collect_missing_patterns table j (specialize_by_wildcard p)) same

    -- by constructor i of the column's type
    each-is : all_in (suc (32 * t)) (count_of counts (suc (32 * t))) (map head_of m) ≡ true → count_of counts (suc (32 * t)) ≡ length (ctors table t) → (i : ℕ) → i < length (alts table t)
        → turned (map (row_of bytes)) (missing_by bytes counts ars again n m (suc (32 * t) + i)) ≡ collect_missing_patterns table (length (get_or (alts table t) i []) + n) (specialize_by_ctor (0 + i) (length (get_or (alts table t) i [])) p)
    each-is all count i lt =
        let l : i < length (ctors table t) = omega (arith, alts-length t) in
        let key = suc (32 * t) + i in
        let ke : suc (32 * t) + i ≡ suc (32 * t + i) = omega arith in
        let a = key-arity kinds counts ars table sh t i key ke l in
        let there : mem (suc (32 * t) + i) (map head_of m) ≡ true = in_each counts (map head_of m) (suc (32 * t)) (count_of counts (suc (32 * t))) all i (omega arith) in
        let same : n + ar_of ars key ≡ arity table t i + n = omega arith in
        deeper (n + ar_of ars key) (fields_at table t i ++ ts) (rows_by bytes key (ar_of ars key) m) (specialize_by_ctor i (arity table t i) p) (omega (arith, length-append (fields_at table t i) ts)) (omega (arith, size-key bytes ars n m key (omega arith) (omega (arith, a, sh.narrow t i)) there)) (say-ctor bytes kinds counts ars table sh low i key ke l k)
        ∙ ap (λ (j : ℕ). collect_missing_patterns table j (specialize_by_ctor i (arity table t i) p)) same
        ∙ ap₂ (λ (x j : ℕ). collect_missing_patterns table (x + n) (specialize_by_ctor j x p)) (sym (arity-at t i)) (sym (zero-add i))

    seen-is : turned (map (row_of bytes)) (missing_seen bytes counts ars again (seen_of counts (map head_of m)) n m) ≡ missing_column table (collect_missing_patterns table) (column table p) n p
    seen-is = column-says bytes kinds counts ars table sh k (λ x y. seen_of counts (map head_of m) ≡ x → turned (map (row_of bytes)) (missing_seen bytes counts ars again x n m) ≡ missing_column table (collect_missing_patterns table) y n p)
        (λ q. turned-read bytes (recover 0) (map (wild ∷◌)) (recover-read bytes 0 wild (node-wild bytes)) (missing_by bytes counts ars again n m 0) (collect_missing_patterns table n (specialize_by_wildcard p)) default_is)
        (λ q.
        let c = part_count k (suc (32 * t)) q in
        let b : suc (32 * t) ≡ suc (32 * t + 0) = omega arith in
        turned-read bytes (each_row (unseen_from ars (map head_of m) (suc (32 * t)) (count_of counts (suc (32 * t))))) (scope.each_row (unseen p t 0 (alts table t)))
        (each_read bytes (unseen_from ars (map head_of m) (suc (32 * t)) (count_of counts (suc (32 * t)))) (unseen p t 0 (alts table t))
        (λ r. ap (λ (j : ℕ). map (row_of bytes) (unseen_from ars (map head_of m) (suc (32 * t)) j r)) c ∙ unseen-read k (alts table t) (suc (32 * t)) 0 b (omega (arith, alts-length t)) (λ i l. arity-at t i ∙ ap (arity table t) (sym (zero-add i))) r))
        (missing_by bytes counts ars again n m 0) (collect_missing_patterns table n (specialize_by_wildcard p)) default_is)
        (λ all count q.
        let c : count_of counts (suc (32 * t)) ≡ length (alts table t) = count ∙ sym (alts-length t) in
        let b : suc (32 * t) ≡ suc (32 * t + 0) = omega arith in
        ap (λ (j : ℕ). turned (map (row_of bytes)) (gather_from (missing_by bytes counts ars again n m) (suc (32 * t)) j)) c
        ∙ gather-read (missing_by bytes counts ars again n m) (λ i a. collect_missing_patterns table (a + n) (specialize_by_ctor i a p)) t (alts table t) (suc (32 * t)) 0 b (omega (arith, alts-length t)) (each-is all count))
        refl

  module _ (again : ℕ → Rows → Walk Rows) (z : ℕ)
      (deeper : (n : ℕ) (ts : List Ref) (m : Rows) (p : Matrix) → n ≡ length ts → size n m < z → SayRows bytes table ts m p → turned (map (row_of bytes)) (again n m) ≡ collect_missing_patterns table n p) where
    body_is : (n : ℕ) (ts : List Ref) {m : Rows} {p : Matrix} → n ≡ length ts → size n m ≤ z → SayRows bytes table ts m p → turned (map (row_of bytes)) (walks.missing_body bytes counts ars again n m) ≡ scope.missing_body table (collect_missing_patterns table) n p
    body_is n ts e le no_rows = ap (λ (r : Row). plain (r ∷ [])) (wilds-only bytes n)
    body_is zero ts e le (also a b) = refl
    body_is (suc n) [] e le (also a b) = absurd (omega arith)
    body_is (suc n) (t ∷ ts) e le (also {ns = ns} {r = r} {m = m} {p = p} a b) = seen-is again z deeper n t ts (omega arith) (ns ∷ m) (r ∷ p) (also a b) le

    step_is : (n : ℕ) (ts : List Ref) (m : Rows) (p : Matrix) → n ≡ length ts → size n m ≤ z → SayRows bytes table ts m p → turned (map (row_of bytes)) (missing_step bytes counts ars again n m) ≡ collect_missing_step table (collect_missing_patterns table) n p
    unfolding missing_step collect_missing_step
    step_is n ts m p e le k = ap₂ holding (ap (λ (x : ℕ). x * n) (rows-length bytes table k)) (body_is n ts e le k)

  missing_in_lem : (f n : ℕ) (ts : List Ref) (m : Rows) (p : Matrix) → n ≡ length ts → size n m < f → SayRows bytes table ts m p → turned (map (row_of bytes)) (missing_in bytes counts ars f n m) ≡ collect_missing_patterns table n p
  unfolding missing_in
  missing_in_lem zero n ts m p e l k = absurd (omega arith)
  missing_in_lem (suc f) n ts m p e l k =
      step_is (missing_in bytes counts ars f) (size n m) (λ n' ts' m' p' e' l' k'. missing_in_lem f n' ts' m' p' e' (omega arith) k') n ts m p e (omega arith) k
      ∙ sym (missing_law table n p)

pub same-missing : SameMissing
unfolding missing_of
same-missing bytes kinds counts ars table sh low ts m p k = missing_in_lem bytes kinds counts ars table sh low (suc (size (length ts) m)) (length ts) ts m p refl (omega arith) k
