-- A frame of a kind, and a whole one: what is reached. From it what a caller learns: where a place was reached `wholly` says ok, at a fault it refuses with 4.
use mathlib.Core.Path.{◌≡◌, refl, sym, ap, ◌∙◌}
use mathlib.Core.List.{List, [], ◌∷◌}
use Prim.Native.Nat.{ℕ, zero, suc, ◌≤◌, ◌<◌}
use mathlib.Core.Logic.{◌⊎◌}
use native.Mathlib.Omega.{arith}
use lib.ListN.{length, drop, drop_of_length-le}
use Rattle.scope.proofs.Tests.{clash}
use Rattle.scope.specs.Frames as scope
use Rattle.scope.specs.Frames.{fault, found, Reader, give, byte, type_frame, constructor_frame, patterns, type_of, constructor_of, subject_of, clause_of, end, frame}
use Rattle.scope.specs.Blocks.{ok, refuse, wholly}
use Rattle.fields.specs.declared.Fault.{Fault}
use Rattle.std.specs.Prelude.{Result, Ok, Err}
use Rattle.fields.specs.Places.{at_fault, placed, read_at}
use Rattle.frames.specs.Wholes.{whole}
use Rattle.fields.proofs.Readers.{Keeps, give-keeps, fault-keeps, byte-keeps, bind_keeps, give-stays, place-back, found_at, fault-at, Reached}
use Rattle.declarations.proofs.Shapes.{type-keeps, constructor-keeps}
use Rattle.clause.proofs.Written.{patterns_keep}
use Rattle.cells.proofs.Parts.{left}

-- What comes after the kind
module _ (bytes : List ℕ) (at : ℕ) (c : Result ℕ Fault) where
  pub held-type : c ≡ read_at bytes at type_frame → c ≡ read_at bytes at (frame 1)
  unfolding frame
  held-type e = e ∙ sym (give-stays (length bytes) (type_frame (drop at bytes)) type_of)

  pub held-constructor : c ≡ read_at bytes at constructor_frame → c ≡ read_at bytes at (frame 2)
  unfolding frame
  held-constructor e = e ∙ sym (give-stays (length bytes) (constructor_frame (drop at bytes)) constructor_of)

  pub held-subject : c ≡ read_at bytes at byte → c ≡ read_at bytes at (frame 3)
  unfolding frame
  held-subject e = e ∙ sym (give-stays (length bytes) (byte (drop at bytes)) subject_of)

  pub held-clause : c ≡ read_at bytes at (patterns 1) → c ≡ read_at bytes at (frame 4)
  unfolding frame
  held-clause e = e ∙ sym (give-stays (length bytes) (patterns 1 (drop at bytes)) clause_of)

pub held-end : (bytes : List ℕ) (at : ℕ) → at ≤ length bytes → Ok at ≡ read_at bytes at (frame 5)
unfolding frame
held-end bytes at i = found_at (give end) bytes at at end i refl

-- no frame is of another kind
pub held_none : (bytes : List ℕ) (at k : ℕ) → at ≤ length bytes → (k ≡ 0) ⊎ (5 < k) → at_fault at ≡ read_at bytes at (frame k)
unfolding frame
held_none bytes at zero i n = fault-at (frame 0) bytes at at i refl
held_none bytes at (suc zero) i n = absurd (omega (arith, n))
held_none bytes at (suc (suc zero)) i n = absurd (omega (arith, n))
held_none bytes at (suc (suc (suc zero))) i n = absurd (omega (arith, n))
held_none bytes at (suc (suc (suc (suc zero)))) i n = absurd (omega (arith, n))
held_none bytes at (suc (suc (suc (suc (suc zero))))) i n = absurd (omega (arith, n))
held_none bytes at (suc (suc (suc (suc (suc (suc k)))))) i n = fault-at (frame (suc (suc (suc (suc (suc (suc k))))))) bytes at at i refl

-- every frame's reader leaves a tail of what it got
pub frame-keeps : (k : ℕ) → Keeps (frame k)
unfolding frame
frame-keeps zero = fault-keeps
frame-keeps (suc zero) = bind_keeps type_frame _ type-keeps (λ ty. give-keeps _)
frame-keeps (suc (suc zero)) = bind_keeps constructor_frame _ constructor-keeps (λ c. give-keeps _)
frame-keeps (suc (suc (suc zero))) = bind_keeps byte _ byte-keeps (λ t. give-keeps _)
frame-keeps (suc (suc (suc (suc zero)))) = bind_keeps (patterns 1) _ (patterns_keep 1) (λ ps. give-keeps _)
frame-keeps (suc (suc (suc (suc (suc zero))))) = give-keeps _
frame-keeps (suc (suc (suc (suc (suc (suc k)))))) = fault-keeps

-- a fault stays one
pub whole-fault : {A : Type 0} (n : ℕ) (x : scope.Read A) (c : Result ℕ Fault) (q : Fault) → c ≡ placed n x → c ≡ Err q → c ≡ placed n (whole x)
unfolding placed whole
whole-fault n (fault rest) c q e h = e
whole-fault n (found a rest) c q e h = clash (cc)

-- What was found, and whether bytes are over
module _ {A : Type 0} (r : Reader A) (bytes : List ℕ) (at q : ℕ) (x : Reached r bytes at q) where
  pub whole-over : q < length bytes → at_fault q ≡ read_at bytes at (λ bs. whole (r bs))
  unfolding placed whole
  whole-over h =
      ap at_fault (sym (place-back bytes q x.inside))
      ∙ ap (λ (z : List ℕ). placed {A = A} (length bytes) (fault z)) (left bytes q h)
      ∙ sym (ap (λ (z : List ℕ). placed (length bytes) (whole (found x.value z))) (left bytes q h))
      ∙ sym (ap (λ (y : scope.Read A). placed (length bytes) (whole y)) x.reads)

  pub whole-done : length bytes ≤ q → Ok q ≡ read_at bytes at (λ bs. whole (r bs))
  unfolding placed whole
  whole-done h =
      ap Ok (sym (place-back bytes q x.inside))
      ∙ ap (λ (z : List ℕ). placed (length bytes) (found x.value z)) (drop_of_length-le bytes h)
      ∙ sym (ap (λ (z : List ℕ). placed (length bytes) (whole (found x.value z))) (drop_of_length-le bytes h))
      ∙ sym (ap (λ (y : scope.Read A). placed (length bytes) (whole y)) x.reads)

-- What a caller learns of a whole frame
module _ {A : Type 0} (n : ℕ) where
  pub whole-ok : (x : scope.Read A) (c : Result ℕ Fault) (q : ℕ) → c ≡ placed n (whole x) → c ≡ Ok q → (a : A) × (wholly x ≡ ok a)
  unfolding placed whole
  whole-ok (fault rest) c q e h = clash (cc)
  whole-ok (found a []) c q e h = (a, refl)
  whole-ok (found a (b ∷ rest)) c q e h = clash (cc)

  pub whole-refused : (x : scope.Read A) (c : Result ℕ Fault) (q : Fault) → c ≡ placed n (whole x) → c ≡ Err q → wholly x ≡ refuse 4
  unfolding placed whole
  whole-refused (fault rest) c q e h = refl
  whole-refused (found a []) c q e h = clash (cc)
  whole-refused (found a (b ∷ rest)) c q e h = refl
