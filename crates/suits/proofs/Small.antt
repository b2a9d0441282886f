-- One pattern's bytes and one type: each way of `suits` gives what its definition says there.
use mathlib.Core.Path.{◌≡◌, refl, sym, ap, ◌∙◌}
use mathlib.Core.Bool.{Bool, true, false, ◌&&◌, ◌||◌}
use mathlib.Core.List.{List}
use Prim.Native.Nat.{ℕ, zero, suc, ◌+◌, ◌*◌, ◌-◌, ◌≤◌, ◌<◌}
use native.Mathlib.Omega.{arith}
use lib.ListN.{get_or}
use lib.Dec.{leb, eqb}
use borrow.Author.Tests.{lt-ltb, le-ltb}
use Rattle.std.specs.Prelude.{Result, Ok}
use Rattle.scope.specs.declared.kinds.PatternKind.{PatternKind}
use Rattle.scope.specs.Numbers.{pattern_byte}
use Rattle.nodes.specs.Keys.{literal_key}
use Rattle.rules.specs.Kinds.{suits_kind}
use Rattle.suits.specs.Suits.{unsuited, filled_by, args_of, form_of, suit_at}
use Rattle.suits.specs.declared.Unsuited.{Unsuited}
use Rattle.suits.specs.declared.Suit.{Suit}
use Rattle.suits.specs.declared.Suit.TheVariants.{Leaf, Again, Cells, Args}

module _ (bytes counts arities : List ℕ) (at t : ℕ) where
  abbrev Is : ℕ → Result Suit Unsuited → Type 0
  Is w r = r ≡ form_of bytes at counts arities t w

  pub is-wild : (w : ℕ) → w < 2 → Is w (Ok (Leaf 0))
  unfolding form_of
  is-wild zero h = refl
  is-wild (suc zero) h = refl
  is-wild (suc (suc w)) h = absurd (omega arith)

  pub is-assign : (w : ℕ) → w ≡ 2 → Is w (Ok Again)
  unfolding form_of
  is-assign w e = rw e

  pub is-literal : (w n : ℕ) → 3 ≤ w → w < 5 → n ≡ literal_key at → Is w (Ok (Leaf n))
  unfolding form_of
  is-literal zero n a c e = absurd (omega arith)
  is-literal (suc zero) n a c e = absurd (omega arith)
  is-literal (suc (suc zero)) n a c e = absurd (omega arith)
  is-literal (suc (suc (suc zero))) n a c e = ap (λ (k : ℕ). Ok (Leaf k)) e
  is-literal (suc (suc (suc (suc zero)))) n a c e = ap (λ (k : ℕ). Ok (Leaf k)) e
  is-literal (suc (suc (suc (suc (suc w))))) n a c e = absurd (omega arith)

  pub is-pair : (w : ℕ) (s : Result Suit Unsuited) → w ≡ 7 → s ≡ args_of counts arities t 0 2 false → Is w s
  unfolding form_of
  is-pair w s e i = rw e i

  pub is-tuple : (w a : ℕ) (s : Result Suit Unsuited) → 7 < w → a ≡ get_or bytes (at + 1) 0 → s ≡ args_of counts arities t 0 a false → Is w s
  unfolding form_of
  is-tuple w a s h a_is i = let e : w ≡ suc (suc (suc (suc (suc (suc (suc (suc (w - 8)))))))) = omega arith in rw (e, ← a_is) i

  pub is-list : (w a b : ℕ) → w ≡ 5 → a ≡ get_or bytes (at + 1) 0 → b ≡ get_or bytes (at + 2) 0 → Is w (Ok (Cells a (eqb b 1)))
  unfolding form_of
  is-list w a b e a_is b_is = rw (e, ← a_is, ← b_is)

  pub is-ctor : (w a b f : ℕ) (s : Result Suit Unsuited) → w ≡ 6 → a ≡ get_or bytes (at + 1) 0 → b ≡ get_or bytes (at + 2) 0 → f ≡ get_or bytes (at + 3) 0 → s ≡ args_of counts arities t a b (eqb f 1) → Is w s
  unfolding form_of
  is-ctor w a b f s e a_is b_is f_is i = rw (e, ← a_is, ← b_is, ← f_is) i

module _ (bytes kinds counts arities : List ℕ) (at t w k : ℕ) (ok : Bool) (w_is : w ≡ get_or bytes at 0) (k_is : k ≡ get_or kinds t 0) (ok_is : ok ≡ suits_kind w k) where
  -- the type is of another kind
  pub is_unfit : ok ≡ false → unsuited ≡ suit_at bytes at kinds counts arities t
  unfolding suit_at
  is_unfit e = rw (← w_is, ← k_is, ← ok_is, e)

  pub is-fit : (r : Result Suit Unsuited) → ok ≡ true → r ≡ form_of bytes at counts arities t w → r ≡ suit_at bytes at kinds counts arities t
  unfolding suit_at
  is-fit r e h = rw (← w_is, ← k_is, ← ok_is, e) h

  -- a kind of pattern, and what its bytes say
  pub is-kind : (r : Result Suit Unsuited) (x y : PatternKind) → ok ≡ true → w ≡ pattern_byte x → x ≡ y → r ≡ form_of bytes at counts arities t (pattern_byte y) → r ≡ suit_at bytes at kinds counts arities t
  is-kind r x y e i j h = is-fit r e (h ∙ ap (form_of bytes at counts arities t) (ap pattern_byte (sym j) ∙ sym i))

  -- a byte that says no kind is taken for a tuple's
  pub is-other : (r : Result Suit Unsuited) → ok ≡ true → 8 < w → r ≡ args_of counts arities t 0 (get_or bytes (at + 1) 0) false → r ≡ suit_at bytes at kinds counts arities t
  unfolding form_of
  is-other r e l h = let n : w ≡ suc (suc (suc (suc (suc (suc (suc (suc (w - 8)))))))) = omega arith in is-fit r e (rw n h)

-- as many arguments as there must be, and wildcards
pub fill-some : (c k : ℕ) (spread : Bool) (n w : ℕ) → true ≡ (eqb k n || (spread && leb k n)) → w ≡ n - k → Ok (Args c k w) ≡ filled_by c k spread n
unfolding filled_by
fill-some c k spread n w e i = rw (← e, i)

-- another number
pub fill_none : (c k : ℕ) (spread : Bool) (n : ℕ) → false ≡ (eqb k n || (spread && leb k n)) → unsuited ≡ filled_by c k spread n
unfolding filled_by
fill_none c k spread n e = rw (← e)

module _ (counts arities : List ℕ) (t c k : ℕ) (spread : Bool) (n : ℕ) (n_is : n ≡ get_or counts t 0) where
  -- no such constructor
  pub args_none : n ≤ c → unsuited ≡ args_of counts arities t c k spread
  unfolding args_of
  args_none l = rw (← n_is, le-ltb c n l)

  pub args-some : (a : ℕ) (r : Result Suit Unsuited) → c < n → a ≡ get_or arities (32 * t + c) 0 → r ≡ filled_by c k spread a → r ≡ args_of counts arities t c k spread
  unfolding args_of
  args-some a r l e h = rw (← n_is, lt-ltb c n l, ← e) h
