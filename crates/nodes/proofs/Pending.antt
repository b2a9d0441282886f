-- What a push leaves on the stack, and what each step over the open patterns takes off the items that are pending.
use mathlib.Core.Path.{◌≡◌, refl, sym, subst, ap, ap₂, ◌∙◌}
use mathlib.Core.Bool.{Bool, true, false, cond}
use mathlib.Core.List.{List, [], ◌∷◌, ◌++◌, map}
use Prim.Native.Nat.{ℕ, zero, suc, ◌+◌, ◌*◌, ◌-◌, ◌/◌, ◌%◌, ◌≤◌, ◌<◌}
use native.Mathlib.Nat.{sub-zero, suc-sub-suc}
use native.Mathlib.Omega.{arith}
use native.Mathlib.Numerals.{add-one, add-two}
use lib.ListN.{length, get_or, set, replicate, length-set, length-replicate}
use lib.Seq.{sets, get_or-set_same, get_or-set_other}
use lib.Dec.{leb, eqb}
use Rattle.scope.specs.Lists.{bit, sum}
use Rattle.scope.specs.Simplify.{wild, Item, put, pat}
use Rattle.layout.specs.Nodes.{node_of, row_of, Literals, done, also, places_in}
use Rattle.nodes.specs.Keys.{key_of}
use Rattle.nodes.proofs.Runs.{no_literals, plain-one, plain-wilds, no_places}
use Rattle.nodes.specs.Opens.{opening, field_items, list_items, items_of, wanted, open_at, opens, pending, due, cell_of, taken, end_of}
use Rattle.nodes.specs.declared.Open.{Open}

-- a store above the first k open patterns leaves them
opens-set : (stack : List ℕ) (i x k : ℕ) → 3 * k ≤ i → opens (set stack i x) k ≡ opens stack k
unfolding opens
opens-set stack i x zero h = refl
opens-set stack i x (suc k) h = rw (get_or-set_other stack i (3 * k) x 0 (λ e. omega arith), get_or-set_other stack i (3 * k + 1) x 0 (λ e. omega arith), get_or-set_other stack i (3 * k + 2) x 0 (λ e. omega arith), opens-set stack i x k (omega arith))

-- one more open pattern
pub pushed : (stack stack' : List ℕ) (d : ℕ) (o : Open) → 3 * d + 3 ≤ length stack → stack' ≡ sets stack (3 * d) (o.what ∷ o.more ∷ o.field ∷ []) → opens stack' (d + 1) ≡ o ∷ opens stack d
unfolding opens
pushed stack stack' d o room e =
    rw (add-one d) (subst (λ (s : List ℕ). opens s (suc d) ≡ o ∷ opens stack d) (sym e) (ap₂ (λ (f : Open) (fs : List Open). f ∷ fs) there below))
  where
    s₁ : List ℕ
    s₁ = set stack (3 * d) o.what

    s₂ : List ℕ
    s₂ = set s₁ (suc (3 * d)) o.more

    s₃ : List ℕ
    s₃ = set s₂ (suc (suc (3 * d))) o.field

    l₁ : length s₁ ≡ length stack
    l₁ = length-set stack (3 * d) o.what

    l₂ : length s₂ ≡ length stack
    l₂ = length-set s₁ (suc (3 * d)) o.more ∙ l₁

    first : get_or s₃ (3 * d) 0 ≡ o.what
    first = get_or-set_other s₂ (suc (suc (3 * d))) (3 * d) o.field 0 (λ e. omega arith) ∙ get_or-set_other s₁ (suc (3 * d)) (3 * d) o.more 0 (λ e. omega arith) ∙ get_or-set_same stack (3 * d) o.what 0 (omega arith)

    second : get_or s₃ (3 * d + 1) 0 ≡ o.more
    second = ap (λ (i : ℕ). get_or s₃ i 0) (add-one (3 * d)) ∙ get_or-set_other s₂ (suc (suc (3 * d))) (suc (3 * d)) o.field 0 (λ e. omega arith) ∙ get_or-set_same s₁ (suc (3 * d)) o.more 0 (omega (arith, l₁))

    third : get_or s₃ (3 * d + 2) 0 ≡ o.field
    third = ap (λ (i : ℕ). get_or s₃ i 0) (add-two (3 * d)) ∙ get_or-set_same s₂ (suc (suc (3 * d))) o.field 0 (omega (arith, l₂))

    there : open_at s₃ d ≡ o
    there = rw (first, second, third) refl

    below : opens s₃ d ≡ opens stack d
    below = opens-set s₂ (suc (suc (3 * d))) o.field d (omega arith) ∙ opens-set s₁ (suc (3 * d)) o.more d (omega arith) ∙ opens-set stack (3 * d) o.what d (omega arith)

-- the last open pattern apart from those below it
pub opens-top : (stack : List ℕ) (depth below : ℕ) → 0 < depth → below ≡ depth - 1 → opens stack depth ≡ open_at stack below ∷ opens stack below
unfolding opens
opens-top stack zero below h e = absurd (omega arith)
opens-top stack (suc d) below h e = let e' : below ≡ d = omega arith in rw e'

-- what a list's cell and an open pattern's end hold: no literal
pub cell-plain : (w : ℕ) → places_in (cell_of w) ≡ []
unfolding cell_of
cell-plain w = go (leb 32768 w)
  where
    go : (b : Bool) → places_in (cond b (key_of ((w - 32768) / 2) 0 ∷ []) []) ≡ []
    go true = plain-one (key_of ((w - 32768) / 2) 0) (omega arith)
    go false = no_places

pub cell-literals : (bytes : List ℕ) (w : ℕ) → Literals bytes (cell_of w)
unfolding cell_of
cell-literals bytes w = go (leb 32768 w)
  where
    go : (b : Bool) → Literals bytes (cond b (key_of ((w - 32768) / 2) 0 ∷ []) [])
    go true = also {n = key_of ((w - 32768) / 2) 0} (λ h. absurd (omega arith)) done
    go false = done

pub cell-short : (w : ℕ) → length (cell_of w) ≤ 1
unfolding cell_of
cell-short w = go (leb 32768 w)
  where
    go : (b : Bool) → length (cond b (key_of ((w - 32768) / 2) 0 ∷ []) []) ≤ 1
    go true = omega arith
    go false = omega arith

pub end-plain : (w : ℕ) → places_in (end_of w) ≡ []
unfolding end_of
end-plain w = go (leb 32768 w)
  where
    go : (b : Bool) → places_in (cond b (key_of ((w - 32768) / 2) 1 ∷ []) (replicate w 0)) ≡ []
    go true = plain-one (key_of ((w - 32768) / 2) 1) (omega arith)
    go false = plain-wilds w

pub end-literals : (bytes : List ℕ) (w : ℕ) → Literals bytes (end_of w)
unfolding end_of
end-literals bytes w = go (leb 32768 w)
  where
    go : (b : Bool) → Literals bytes (cond b (key_of ((w - 32768) / 2) 1 ∷ []) (replicate w 0))
    go true = also {n = key_of ((w - 32768) / 2) 1} (λ h. absurd (omega arith)) done
    go false = no_literals bytes w

pub end_short : (w : ℕ) → w < 65536 → length (end_of w) ≤ 65536
unfolding end_of
end_short w l = go (leb 32768 w)
  where
    go : (b : Bool) → length (cond b (key_of ((w - 32768) / 2) 1 ∷ []) (replicate w 0)) ≤ 65536
    go true = omega arith
    go false = omega (arith, length-replicate {A = ℕ} w 0)

module _ (bytes fields : List ℕ) (o : Open) (fs : List Open) where
  -- the next pattern of an open one, after its cell
  pub taken-items : 0 < o.more → pending bytes fields (o ∷ fs) ≡ map put (row_of bytes (cell_of o.what)) ++ (pat (get_or fields o.field 0) ∷ pending bytes fields (taken o ∷ fs))
  unfolding pending items_of list_items field_items cell_of taken
  taken-items h = go o.more h
    where
      go : (k : ℕ) → 0 < k → pending bytes fields (opening o.what k o.field ∷ fs) ≡ map put (row_of bytes (cell_of o.what)) ++ (pat (get_or fields o.field 0) ∷ pending bytes fields (taken (opening o.what k o.field) ∷ fs))
      go zero h = absurd (omega arith)
      go (suc k) h = rw (suc-sub-suc k 0, sub-zero k) (which (leb 32768 o.what) refl)
        where
          which : (b : Bool) → leb 32768 o.what ≡ b → pending bytes fields (opening o.what (suc k) o.field ∷ fs) ≡ map put (row_of bytes (cell_of o.what)) ++ (pat (get_or fields o.field 0) ∷ pending bytes fields (opening o.what k (cond (leb 32768 o.what) o.field ((o.field + 1) % 65536)) ∷ fs))
          which true e = rw e
          which false e = rw e

  pub taken-due : 0 < o.more → due (o ∷ fs) ≡ suc (due (taken o ∷ fs))
  unfolding due wanted taken
  taken-due h = go (leb 32768 o.what)
    where
      go : (b : Bool) → cond b (o.more + bit (eqb (o.what % 2) 1)) o.more + sum (map (λ (f : Open). wanted f.what f.more) fs) ≡ suc (cond b (o.more - 1 + bit (eqb (o.what % 2) 1)) (o.more - 1) + sum (map (λ (f : Open). wanted f.what f.more) fs))
      go true = omega arith
      go false = omega arith

  wilds-put : (k : ℕ) → replicate k (put wild) ≡ map put (row_of bytes (replicate k 0))
  unfolding node_of
  wilds-put zero = refl
  wilds-put (suc k) = ap (λ (l : List Item). put wild ∷ l) (wilds-put k)

  -- none before its tail or its end: a list's tail is wanted, or it ends
  module _ (none : o.more ≡ 0) where
    pub tail-items : 0 < wanted o.what o.more → pending bytes fields (o ∷ fs) ≡ pat ((o.what - 32768) / 2) ∷ pending bytes fields fs
    unfolding pending items_of list_items wanted
    tail-items h = go (leb 32768 o.what) (eqb (o.what % 2) 1) refl refl (rw none at h)
      where
        go : (l t : Bool) → leb 32768 o.what ≡ l → eqb (o.what % 2) 1 ≡ t → 0 < cond l (0 + bit t) 0 → pending bytes fields (o ∷ fs) ≡ pat ((o.what - 32768) / 2) ∷ pending bytes fields fs
        go true true a b c = rw (none, a, b)
        go true false a b c = absurd (omega arith)
        go false t a b c = absurd (omega arith)

    pub tail-due : 0 < wanted o.what o.more → due (o ∷ fs) ≡ suc (due fs)
    unfolding due wanted
    tail-due h = go (leb 32768 o.what) (eqb (o.what % 2) 1) refl refl (rw none at h)
      where
        go : (l t : Bool) → leb 32768 o.what ≡ l → eqb (o.what % 2) 1 ≡ t → 0 < cond l (0 + bit t) 0 → due (o ∷ fs) ≡ suc (due fs)
        go true true a b c = rw (none, a, b) (omega arith)
        go true false a b c = absurd (omega arith)
        go false t a b c = absurd (omega arith)

  pub end-items : wanted o.what o.more ≡ 0 → pending bytes fields (o ∷ fs) ≡ map put (row_of bytes (end_of o.what)) ++ pending bytes fields fs
  unfolding pending items_of list_items field_items end_of wanted
  end-items h = go (leb 32768 o.what) (eqb (o.what % 2) 1) refl refl h
    where
      go : (l t : Bool) → leb 32768 o.what ≡ l → eqb (o.what % 2) 1 ≡ t → cond l (o.more + bit t) o.more ≡ 0 → pending bytes fields (o ∷ fs) ≡ map put (row_of bytes (end_of o.what)) ++ pending bytes fields fs
      go true true a b c = absurd (omega arith)
      go true false a b c = let z : o.more ≡ 0 = omega arith in rw (z, a, b)
      go false t a b c = let z : o.more ≡ 0 = c in rw (z, a, wilds-put o.what)

  pub end-due : wanted o.what o.more ≡ 0 → due (o ∷ fs) ≡ due fs
  unfolding due
  end-due h = rw h (omega arith)
