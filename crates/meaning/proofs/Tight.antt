-- The bounds of request 7 are tight: by computing, of files on which each further claim is false.
use mathlib.Core.Path.{◌≡◌, refl}
use mathlib.Core.List.{[], ◌∷◌}
use Prim.Native.Nat.{ℕ, zero, suc, ◌<◌}
use native.Mathlib.Omega.{arith}
use Rattle.scope.specs.Lists.{bytes}
use Rattle.scope.specs.Types.{integer, pair, dat}
use Rattle.scope.specs.Constructors.{built, arity}
use Rattle.scope.specs.Simplify.{wild, con}
use Rattle.scope.specs.Blocks.{Block}
use Rattle.scope.specs.Calls.{nothing, a_wildcard, a_literal}
use Rattle.scope.specs.Answer.{answer}
use Rattle.meaning.specs.Costs.{FlatSubject}
use Rattle.meaning.specs.NoMore.{any_empty, any_twice}
use Rattle.meaning.specs.Tight.{alone_twice, pair_any, field_any, OfBare, Tight}
use Rattle.scope.proofs.Compute.{compute}
use Rattle.meaning.proofs.NoMore.{any, empty, strings, named, file_of, computed}

-- the blocks of the files
abbrev alone : Block
alone = named (built (bytes "A") [] ∷ []) (any ∷ any ∷ [])

abbrev pairs : Block
pairs = record { table = integer ∷ pair 0 0 ∷ []; subject = 1; rows = (con 1 0 ∷ wild ∷ wild ∷ []) ∷ any ∷ [] }

abbrev field : Block
field = record { table = integer ∷ dat (built (bytes "A") (0 ∷ []) ∷ []) ∷ []; subject = 1; rows = (con 1 0 ∷ wild ∷ []) ∷ any ∷ [] }

-- what they say of the subject
alone_flat : FlatSubject alone 1
alone_flat = record { is_data = refl; many = refl; bare = bare }
  where
    bare : (c : ℕ) → c < 1 → arity alone.table 0 c ≡ 0
    bare zero l = refl
    bare (suc c) l = absurd (omega arith)

no_ctors : OfBare (strings (any ∷ any ∷ [])) 0
no_ctors = (refl, λ c l. absurd (omega arith))

pub tight : Tight
unfolding compute answer
tight = record {
  printed = (refl, (refl, (refl, (refl, (refl, (refl, tt))))));
  solid = λ f. let e = f (file_of any_empty) (strings (any ∷ empty ∷ [])) (computed any_empty refl refl) 1 0 1 (omega arith) (a_literal nothing) refl in absurd (omega arith);
  flat_row = λ f. let e = f (file_of alone_twice) alone (computed alone_twice refl refl) 1 1 alone_flat (omega arith) in absurd (omega arith);
  flat_missing = λ f. let e = f (file_of alone_twice) alone (computed alone_twice refl refl) 1 alone_flat in absurd (omega arith);
  wildcard = λ f. let e = f (file_of any_twice) (strings (any ∷ any ∷ [])) (computed any_twice refl refl) 1 1 0 (omega arith) (a_wildcard nothing) tt in absurd (omega arith);
  wildcards = λ f. let e = f (file_of pair_any) pairs (computed pair_any refl refl) 1 1 0 (omega arith) (a_wildcard nothing) tt in absurd (omega arith);
  arities = λ f. let e = f (file_of field_any) field (computed field_any refl refl) 1 1 (refl, refl) (omega arith) in absurd (omega arith);
  arities_missing = λ f. let e = f (file_of field_any) field (computed field_any refl refl) 1 (refl, refl) in absurd (omega arith);
  kinds = λ f. let e = f (file_of any_twice) (strings (any ∷ any ∷ [])) (computed any_twice refl refl) 0 1 no_ctors (omega arith) in absurd (omega arith);
  kinds_missing = λ f. let e = f (file_of any_twice) (strings (any ∷ any ∷ [])) (computed any_twice refl refl) 0 no_ctors in absurd (omega arith);
}
