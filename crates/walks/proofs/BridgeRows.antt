-- Specialising rows of numbers specialises the rows that they say.
use mathlib.Core.Path.{◌≡◌, refl, sym, ap, ap₂, subst, subst₂, ◌∙◌}
use mathlib.Core.Logic.{⊎_elim}
use mathlib.Core.Bool.{Bool, true, false, cond}
use mathlib.Core.List.{List, [], ◌∷◌, ◌++◌}
use Prim.Native.Nat.{ℕ, suc, ◌+◌, ◌*◌, ◌-◌, ◌≤◌, ◌<◌}
use native.Mathlib.Omega.{arith}
use lib.ListN.{length, replicate, get_or-eq_default}
use lib.Dec.{eqb}
use borrow.Author.Tests.{eq-eqb, ne_eqb, eqb-true, eqb-false}
use Rattle.scope.specs.Types.{Ref, Table, opaque}
use Rattle.scope.specs.Constructors.{ctors_at, ctors, fields_at, arity}
use Rattle.scope.specs.Simplify.{Literal, same_literal, wild, Row, Matrix}
use Rattle.scope.specs.Walks.{row_if, specialize_row_by_ctor, specialize_row_by_literal, specialize_row_by_wildcard, each_row, specialize_by_ctor, specialize_by_literal, specialize_by_wildcard}
use Rattle.layout.specs.Types.{Shape}
use Rattle.layout.specs.Nodes.{literal_at, LiteralStands}
use Rattle.matrix.specs.Numbers.{Rows, ar_of, same_node, row1, rows_by}
use Rattle.walks.specs.Bridge.{Says, wilds, lits, cons, SayRows, no_rows, also}
use Rattle.matrix.proofs.Orders.{le_or, test}
use Rattle.matrix.proofs.Arities.{arity_0, arity-lit}
use Rattle.matrix.proofs.Literals.{node-ctor, node-not, node-lit}
use Rattle.matrix.proofs.Specialised.{row1-wild, row1-none, row1_if}
use Rattle.walks.proofs.BridgeTexts.{literals}

-- a type that has constructors is in the table
pub in_table : (table : Table) (t c : ℕ) → c < length (ctors table t) → t < length table
in_table table t c l = ⊎_elim (λ le. absurd (omega (arith, ap (λ ty. length (ctors_at t ty)) (get_or-eq_default table opaque le)))) (λ lt. lt) (le_or (length table) t)

module _ (bytes : List ℕ) (table : Table) where
  pub rows-length : {ts : List Ref} {m : Rows} {p : Matrix} → SayRows bytes table ts m p → length m ≡ length p
  rows-length no_rows = refl
  rows-length (also h k) = ap suc (rows-length k)

  rows_append : {ts : List Ref} {m m' : Rows} {p p' : Matrix} → SayRows bytes table ts m p → SayRows bytes table ts m' p' → SayRows bytes table ts (m ++ m') (p ++ p')
  rows_append no_rows k = k
  rows_append (also h l) k = also h (rows_append l k)

  pub says-wilds : (fs ts : List Ref) {ns : List ℕ} {r : Row} → Says bytes table ts ns r → Says bytes table (fs ++ ts) (replicate (length fs) 0 ++ ns) (replicate (length fs) wild ++ r)
  says-wilds [] ts h = h
  says-wilds (f ∷ fs) ts h = wilds (says-wilds fs ts h)

  pub rows-say : {ts us : List Ref} (key a : ℕ) (f : Row → Matrix) → ((ns : List ℕ) (r : Row) → Says bytes table ts ns r → SayRows bytes table us (row1 bytes key a ns) (f r))
      → {m : Rows} {p : Matrix} → SayRows bytes table ts m p → SayRows bytes table us (rows_by bytes key a m) (each_row f p)
  unfolding rows_by
  rows-say key a f h no_rows = no_rows
  rows-say key a f h (also {ns = ns} {r = r} k l) = rows_append (h ns r k) (rows-say key a f h l)

-- a constructor's number, and its arity
module _ (kinds counts ars : List ℕ) (table : Table) (sh : Shape kinds counts ars table) where
  pub key-small : (t c : ℕ) → c < length (ctors table t) → suc (32 * t + c) < 32768
  key-small t c l = omega (arith, in_table table t c l, sh.few, sh.in_type t)

  pub key-arity : (t c h : ℕ) → h ≡ suc (32 * t + c) → c < length (ctors table t) → ar_of ars h ≡ arity table t c
  unfolding ar_of
  key-arity t c h e l = ap (ar_of ars) e ∙ sh.arity_at t c (in_table table t c l) l

module _ (bytes kinds counts ars : List ℕ) (table : Table) (sh : Shape kinds counts ars table) (low : length ars < 32768) where
  -- one row or none
  rows_if : {ts : List Ref} (b : Bool) {ns : List ℕ} {r : Row} → Says bytes table ts ns r → SayRows bytes table ts (cond b (ns ∷ []) []) (row_if b r)
  rows_if true h = also h no_rows
  rows_if false h = no_rows

  row_default : {t : Ref} {ts : List Ref} (a : ℕ) → a ≡ 0 → (ns : List ℕ) (r : Row) → Says bytes table (t ∷ ts) ns r → SayRows bytes table ts (row1 bytes 0 a ns) (specialize_row_by_wildcard r)
  row_default {ts = ts} a ae ns r (wilds {ns = ns'} {r = r'} h) = subst (λ (x : Rows). SayRows bytes table ts x (r' ∷ [])) (sym (row1-wild bytes 0 a 0 ns' refl ∙ ap (λ (k : ℕ). (replicate k 0 ++ ns') ∷ []) ae)) (also h no_rows)
  row_default {ts = ts} a ae ns r (lits {h = x} {ns = ns'} l s e k) = subst (λ (y : Rows). SayRows bytes table ts y []) (sym (row1-none bytes 0 a x ns' (λ q. omega arith) refl)) no_rows
  row_default {ts = ts} a ae ns r (cons {h = x} {ns = ns'} e l k) = subst (λ (y : Rows). SayRows bytes table ts y []) (sym (row1-none bytes 0 a x ns' (λ q. omega arith) refl)) no_rows

  row-literal : {t : Ref} {ts : List Ref} (key a : ℕ) (l : Literal) → 32768 ≤ key → LiteralStands bytes (key - 32768) → l ≡ literal_at bytes (key - 32768) → a ≡ 0
      → (ns : List ℕ) (r : Row) → Says bytes table (t ∷ ts) ns r → SayRows bytes table ts (row1 bytes key a ns) (specialize_row_by_literal l r)
  row-literal {ts = ts} key a l kl ks ke ae ns r (wilds {ns = ns'} {r = r'} h) = subst (λ (x : Rows). SayRows bytes table ts x (r' ∷ [])) (sym (row1-wild bytes key a 0 ns' refl ∙ ap (λ (k : ℕ). (replicate k 0 ++ ns') ∷ []) ae)) (also h no_rows)
  row-literal {ts = ts} key a l kl ks ke ae ns r (lits {h = x} {l = l'} {ns = ns'} {r = r'} xl xs xe k) =
      let e : same_node bytes x key ≡ same_literal l' l = sym (node-lit bytes x key xl kl) ∙ sym (ap₂ same_literal xe ke ∙ literals bytes (x - 32768) (key - 32768) xs ks) in
      subst (λ (y : Rows). SayRows bytes table ts y (row_if (same_literal l' l) r')) (sym (row1_if bytes key a x ns' (same_literal l' l) (λ q. omega arith) (λ q. omega arith) e)) (rows_if (same_literal l' l) k)
  row-literal {t = t} {ts = ts} key a l kl ks ke ae ns r (cons {h = x} {c = c} {ns = ns'} xe xl k) =
      let s : x < 32768 = omega (arith, key-small kinds counts ars table sh t c xl) in
      let e : same_node bytes x key ≡ false = sym (node-ctor bytes x key s) ∙ ne_eqb x key (λ q. omega arith) in
      subst (λ (y : Rows). SayRows bytes table ts y []) (sym (row1_if bytes key a x ns' false (λ q. omega arith) (λ q. omega arith) e)) no_rows

  row-ctor : {t : Ref} {ts : List Ref} (c key a : ℕ) → key ≡ suc (32 * t + c) → c < length (ctors table t) → a ≡ arity table t c
      → (ns : List ℕ) (r : Row) → Says bytes table (t ∷ ts) ns r → SayRows bytes table (fields_at table t c ++ ts) (row1 bytes key a ns) (specialize_row_by_ctor c (arity table t c) r)
  row-ctor {t = t} {ts = ts} c key a ke l ae ns r (wilds {ns = ns'} {r = r'} h) =
      subst (λ (x : Rows). SayRows bytes table (fields_at table t c ++ ts) x ((replicate (arity table t c) wild ++ r') ∷ [])) (sym (row1-wild bytes key a 0 ns' refl ∙ ap (λ (k : ℕ). (replicate k 0 ++ ns') ∷ []) ae))
      (also (says-wilds bytes table (fields_at table t c) ts h) no_rows)
  row-ctor {t = t} {ts = ts} c key a ke l ae ns r (lits {h = x} {ns = ns'} xl xs xe k) =
      let s : key < 32768 = omega (arith, key-small kinds counts ars table sh t c l) in
      subst (λ (y : Rows). SayRows bytes table (fields_at table t c ++ ts) y []) (sym (row1_if bytes key a x ns' false (λ q. omega arith) (λ q. omega arith) (sym (node-not bytes x key xl s)))) no_rows
  row-ctor {t = t} {ts = ts} c key a ke l ae ns r (cons {h = x} {c = d} {ns = ns'} {r = r'} xe xl k) =
      test (eqb d c)
      (λ e.
      let de = eqb-true d c e in
      let xk : x ≡ key = omega arith in
      let q : row1 bytes key a (x ∷ ns') ≡ ns' ∷ [] = row1_if bytes key a x ns' true (λ y. omega arith) (λ y. omega arith) (sym (node-ctor bytes x key xs) ∙ eq-eqb x key xk) in
      subst₂ (λ (y : Rows) (b : Bool). SayRows bytes table (fields_at table t c ++ ts) y (row_if b r')) (sym q) (sym e) (also (subst (λ (i : ℕ). Says bytes table (fields_at table t i ++ ts) ns' r') de k) no_rows))
      (λ e.
      let ne = eqb-false d c e in
      let q : row1 bytes key a (x ∷ ns') ≡ [] = row1_if bytes key a x ns' false (λ y. omega arith) (λ y. omega arith) (sym (node-ctor bytes x key xs) ∙ ne_eqb x key (λ y. ne (omega arith))) in
      subst₂ (λ (y : Rows) (b : Bool). SayRows bytes table (fields_at table t c ++ ts) y (row_if b r')) (sym q) (sym e) no_rows)
    where
      xs : x < 32768
      xs = omega (arith, key-small kinds counts ars table sh t d xl)

  -- all rows
  pub say_default : {t : Ref} {ts : List Ref} {m : Rows} {p : Matrix} → SayRows bytes table (t ∷ ts) m p → SayRows bytes table ts (rows_by bytes 0 (ar_of ars 0) m) (specialize_by_wildcard p)
  say_default k = rows-say bytes table 0 (ar_of ars 0) specialize_row_by_wildcard (row_default (ar_of ars 0) (arity_0 ars)) k

  pub say-literal : {t : Ref} {ts : List Ref} {m : Rows} {p : Matrix} (key : ℕ) (l : Literal) → 32768 ≤ key → LiteralStands bytes (key - 32768) → l ≡ literal_at bytes (key - 32768)
      → SayRows bytes table (t ∷ ts) m p → SayRows bytes table ts (rows_by bytes key (ar_of ars key) m) (specialize_by_literal l p)
  say-literal key l kl ks ke k = rows-say bytes table key (ar_of ars key) (specialize_row_by_literal l) (row-literal key (ar_of ars key) l kl ks ke (arity-lit ars key low kl)) k

  pub say-ctor : {t : Ref} {ts : List Ref} {m : Rows} {p : Matrix} (c key : ℕ) → key ≡ suc (32 * t + c) → c < length (ctors table t)
      → SayRows bytes table (t ∷ ts) m p → SayRows bytes table (fields_at table t c ++ ts) (rows_by bytes key (ar_of ars key) m) (specialize_by_ctor c (arity table t c) p)
  say-ctor {t = t} c key ke l k = rows-say bytes table key (ar_of ars key) (specialize_row_by_ctor c (arity table t c)) (row-ctor c key (ar_of ars key) ke l (key-arity kinds counts ars table sh t c key ke l)) k
