-- Which bytes suit: from the numbers of the kinds.
use mathlib.Core.Path.{◌≡◌, refl, sym, ap, ap₂, ◌∙◌}
use mathlib.Core.Bool.{Bool, true}
use Prim.Native.Nat.{ℕ, zero, suc, ◌-◌, ◌≤◌, ◌<◌}
use native.Mathlib.Omega.{arith}
use lib.Dec.{eqb}
use borrow.Author.Tests.{ne_eqb}
use denote.Enum.Declared.{tag_of}
use Rattle.std.specs.Prelude.{Result, Ok, Err}
use Rattle.std.specs.Result.{result_eq}
use Rattle.scope.specs.declared.kinds.Unknown.{Unknown}
use Rattle.scope.specs.declared.kinds.TypeKind.{TypeKind}
use Rattle.scope.specs.declared.kinds.TypeKind.TheVariants.{Integer, ByteString, Opaque, List, Tuple, Pair, Data}
use Rattle.scope.specs.contracts.kinds.TypeKind.{the_type}
use Rattle.scope.specs.contracts.kinds.TypeKindPartialEq.TheImpl.{eq-value}
use Rattle.scope.specs.declared.kinds.PatternKind.{PatternKind}
use Rattle.scope.specs.Numbers.{type_byte, pattern_byte, SaysType}
use Rattle.rules.specs.Kinds.{suits_kind}

-- 8: any type
pub kind-any : (w k : ℕ) → w < 3 → true ≡ suits_kind w k
unfolding suits_kind
kind-any zero k h = refl
kind-any (suc zero) k h = refl
kind-any (suc (suc zero)) k h = refl
kind-any (suc (suc (suc w))) k h = absurd (omega arith)

module _ (w k : ℕ) where
  pub kind-integer : w ≡ 3 → eqb k 0 ≡ suits_kind w k
  unfolding suits_kind
  kind-integer e = rw e

  pub kind-bytes : w ≡ 4 → eqb k 1 ≡ suits_kind w k
  unfolding suits_kind
  kind-bytes e = rw e

  pub kind-list : w ≡ 5 → eqb k 3 ≡ suits_kind w k
  unfolding suits_kind
  kind-list e = rw e

  pub kind_data : w ≡ 6 → eqb k 6 ≡ suits_kind w k
  unfolding suits_kind
  kind_data e = rw e

  pub kind-pair : w ≡ 7 → eqb k 5 ≡ suits_kind w k
  unfolding suits_kind
  kind-pair e = rw e

-- 8: any other pattern
pub kind-tuple : (w k : ℕ) → (w ≡ 0 → ⊥) → (w ≡ 1 → ⊥) → (w ≡ 2 → ⊥) → (w ≡ 3 → ⊥) → (w ≡ 4 → ⊥) → (w ≡ 5 → ⊥) → (w ≡ 6 → ⊥) → (w ≡ 7 → ⊥) → eqb k 4 ≡ suits_kind w k
unfolding suits_kind
kind-tuple zero k a b c d e f g h = absurd (a refl)
kind-tuple (suc zero) k a b c d e f g h = absurd (b refl)
kind-tuple (suc (suc zero)) k a b c d e f g h = absurd (c refl)
kind-tuple (suc (suc (suc zero))) k a b c d e f g h = absurd (d refl)
kind-tuple (suc (suc (suc (suc zero)))) k a b c d e f g h = absurd (e refl)
kind-tuple (suc (suc (suc (suc (suc zero))))) k a b c d e f g h = absurd (f refl)
kind-tuple (suc (suc (suc (suc (suc (suc zero)))))) k a b c d e f g h = absurd (g refl)
kind-tuple (suc (suc (suc (suc (suc (suc (suc zero))))))) k a b c d e f g h = absurd (h refl)
kind-tuple (suc (suc (suc (suc (suc (suc (suc (suc w)))))))) k a b c d e f g h = refl

tag_is : (t : TypeKind) → tag_of the_type t ≡ type_byte t
tag_is Integer = refl
tag_is ByteString = refl
tag_is Opaque = refl
tag_is List = refl
tag_is Tuple = refl
tag_is Pair = refl
tag_is Data = refl

few-kinds : (t : TypeKind) → type_byte t ≤ 6
few-kinds Integer = omega arith
few-kinds ByteString = omega arith
few-kinds Opaque = omega arith
few-kinds List = omega arith
few-kinds Tuple = omega arith
few-kinds Pair = omega arith
few-kinds Data = omega arith

module _ (same : Unknown → Unknown → Bool) (w k : ℕ) (r : Result TypeKind Unknown) (says : SaysType k r) (t u : TypeKind) (t_is : t ≡ u) (b : Bool) (e : b ≡ result_eq eq-value.it same r (Ok t)) where
  -- a byte says this kind where it is the kind's number
  of-kind : b ≡ eqb k (type_byte u)
  of-kind = e ∙ ap (λ (x : TypeKind). result_eq eq-value.it same r (Ok x)) t_is ∙ go r says
    where
      go : (q : Result TypeKind Unknown) → SaysType k q → result_eq eq-value.it same q (Ok u) ≡ eqb k (type_byte u)
      go (Ok x) i = ap₂ eqb (tag_is x ∙ sym i) (tag_is u)
      go (Err x) i = sym (ne_eqb k (type_byte u) (λ j. omega (arith, few-kinds u)))

  -- a pattern of this kind wants this kind of type
  pub wanting : (x y : PatternKind) → w ≡ pattern_byte x → x ≡ y → eqb k (type_byte u) ≡ suits_kind (pattern_byte y) k → b ≡ suits_kind w k
  wanting x y w_is x_is i = of-kind ∙ i ∙ ap (λ (p : PatternKind). suits_kind (pattern_byte p) k) (sym x_is) ∙ ap (λ (n : ℕ). suits_kind n k) (sym w_is)

  -- a byte that says none is taken for a tuple's
  pub other : 8 < w → u ≡ Tuple → b ≡ suits_kind w k
  unfolding suits_kind
  other h i = let n : w ≡ suc (suc (suc (suc (suc (suc (suc (suc (w - 8)))))))) = omega arith in of-kind ∙ rw (i, n)
