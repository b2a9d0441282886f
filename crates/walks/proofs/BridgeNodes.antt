-- Numbers and the nodes that they are, both ways; numbers say the row that is read from them.
use mathlib.Core.Path.{◌≡◌, refl, sym, ap, ap₂, subst, ◌∙◌}
use mathlib.Core.Bool.{Bool, true, false, cond}
use mathlib.Core.List.{List, ◌∷◌, map}
use Prim.Native.Nat.{ℕ, zero, suc, ◌+◌, ◌*◌, ◌-◌, ◌/◌, ◌%◌, ◌≤◌, ◌<◌}
use native.Mathlib.Omega.{arith}
use lib.Dec.{ltb}
use borrow.Author.Tests.{lt-ltb, le-ltb, ltb-false}
use Rattle.scope.specs.Types.{Ref, Table}
use Rattle.scope.specs.Simplify.{Literal, Node, wild, lit, con, Row, Matrix}
use Rattle.scope.proofs.Tests.{clash}
use Rattle.layout.specs.Types.{Shape}
use Rattle.layout.specs.Nodes.{literal_at, node_of, row_of}
use Rattle.matrix.specs.Numbers.{Rows}
use Rattle.walks.specs.Bridge.{Says, done, wilds, lits, cons, SayRows, no_rows, also}
use Rattle.walks.proofs.BridgeRows.{key-small}

-- a number by the node that it is
module _ (bytes : List ℕ) where
  pub number-wild : (h : ℕ) → node_of bytes h ≡ wild → h ≡ 0
  unfolding node_of
  number-wild zero e = refl
  number-wild (suc i) e = go (ltb i 32767) e
    where
      go : (b : Bool) → cond b (con (i / 32) (i % 32)) (lit (literal_at bytes (i - 32767))) ≡ wild → suc i ≡ 0
      go true q = clash (cc)
      go false q = clash (cc)

  pub record IsLit (h : ℕ) (l : Literal) : Type 0 where
    pub high : 32768 ≤ h
    pub says : l ≡ literal_at bytes (h - 32768)

  pub number-literal : (h : ℕ) (l : Literal) → node_of bytes h ≡ lit l → IsLit h l
  unfolding node_of
  number-literal zero l e = clash (cc)
  number-literal (suc i) l e = go (ltb i 32767) refl e
    where
      go : (b : Bool) → ltb i 32767 ≡ b → cond b (con (i / 32) (i % 32)) (lit (literal_at bytes (i - 32767))) ≡ lit l → IsLit (suc i) l
      go true t q = clash (cc)
      go false t q =
          let le = ltb-false i 32767 t in
          let same : i - 32767 ≡ suc i - 32768 = omega arith in
          let is : literal_at bytes (i - 32767) ≡ l = cc in
          record { high = omega arith; says = sym is ∙ ap (literal_at bytes) same }

  pub number-ctor : (h t c : ℕ) → node_of bytes h ≡ con t c → h ≡ suc (32 * t + c)
  unfolding node_of
  number-ctor zero t c e = clash (cc)
  number-ctor (suc i) t c e = go (ltb i 32767) e
    where
      go : (b : Bool) → cond b (con (i / 32) (i % 32)) (lit (literal_at bytes (i - 32767))) ≡ con t c → suc i ≡ suc (32 * t + c)
      go true q =
          let x : i / 32 ≡ t = cc in
          let y : i % 32 ≡ c = cc in
          omega arith
      go false q = clash (cc)

  -- the node that a number is
  node-literal : (h : ℕ) → 32768 ≤ h → node_of bytes h ≡ lit (literal_at bytes (h - 32768))
  unfolding node_of
  node-literal zero l = absurd (omega arith)
  node-literal (suc i) l =
      let same : i - 32767 ≡ suc i - 32768 = omega arith in
      rw (le-ltb i 32767 (omega arith)) (ap (λ (p : ℕ). lit (literal_at bytes p)) same)

  pub node-ctor : (h t c : ℕ) → h ≡ suc (32 * t + c) → c < 32 → h < 32768 → node_of bytes h ≡ con t c
  unfolding node_of
  node-ctor zero t c e l s = absurd (omega arith)
  node-ctor (suc i) t c e l s =
      let x : i / 32 ≡ t = omega arith in
      let y : i % 32 ≡ c = omega arith in
      rw (lt-ltb i 32767 (omega arith)) (ap₂ con x y)

-- numbers say the row that is read from them
module _ (bytes kinds counts ars : List ℕ) (table : Table) (sh : Shape kinds counts ars table) where
  pub says-read : {ts : List Ref} {ns : List ℕ} {r : Row} → Says bytes table ts ns r → Says bytes table ts ns (row_of bytes ns)
  unfolding node_of
  says-read done = done
  says-read (wilds h) = wilds (says-read h)
  says-read {ns = ns} (lits {t = t} {ts = ts} {h = x} {ns = on} xl xs xe h) = subst (λ (y : Node). Says bytes table (t ∷ ts) (x ∷ on) (y ∷ row_of bytes on)) (sym (node-literal bytes x xl)) (lits xl xs refl (says-read h))
  says-read (cons {t = t} {ts = ts} {h = x} {c = c} {ns = on} xe xl h) =
      subst (λ (y : Node). Says bytes table (t ∷ ts) (x ∷ on) (y ∷ row_of bytes on)) (sym (node-ctor bytes x t c xe (omega (arith, sh.in_type t)) (omega (arith, key-small kinds counts ars table sh t c xl)))) (cons xe xl (says-read h))

  pub rows-read : {ts : List Ref} {m : Rows} {p : Matrix} → SayRows bytes table ts m p → SayRows bytes table ts m (map (row_of bytes) m)
  rows-read no_rows = no_rows
  rows-read (also h k) = also (says-read h) (rows-read k)
