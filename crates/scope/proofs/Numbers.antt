-- No two refusals have one number: from the refusal that each number stands for.
use Prim.Native.Nat.{ℕ}
use mathlib.Core.List.{[], ◌∷◌}
use mathlib.Core.Path.{◌≡◌, refl, sym, ap, ◌∙◌}
use lib.ListN.{get_or}
use Rattle.scope.specs.Numbers.{number_of}
use Rattle.scope.specs.declared.refusal.Refusal.{Refusal}
use Rattle.scope.specs.declared.refusal.Refusal.TheVariants.{Scratch, File, Line, Frame, Order, Many, Table, Suit, Nodes, Work, Buffer}

-- the refusal of a number
abbrev refusal_of : ℕ → Refusal
refusal_of n = get_or (Scratch ∷ Scratch ∷ File ∷ Line ∷ Frame ∷ Order ∷ Many ∷ Table ∷ Suit ∷ Nodes ∷ Work ∷ Buffer ∷ []) n Scratch

back : (e : Refusal) → refusal_of (number_of e) ≡ e
back Scratch = refl
back File = refl
back Line = refl
back Frame = refl
back Order = refl
back Many = refl
back Table = refl
back Suit = refl
back Nodes = refl
back Work = refl
back Buffer = refl

-- one number, one refusal
pub numbers-once : (e f : Refusal) → number_of e ≡ number_of f → e ≡ f
numbers-once e f q = sym (back e) ∙ ap refusal_of q ∙ back f
