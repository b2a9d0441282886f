-- The limits' tests taken apart: a call is past a limit, or it is entered; one row more fits, or it does not.
use mathlib.Core.Path.{◌≡◌, refl, sym, ap, ◌∙◌}
use mathlib.Core.Logic.{⊎_elim}
use mathlib.Core.Bool.{Bool, true, false}
use Prim.Native.Nat.{ℕ, ◌+◌, ◌≤◌, ◌<◌}
use lib.Dec.{leb, ltb}
use borrow.Author.Tests.{ltb-true, ltb-false, leb-true, leb-false, lt-ltb, le-ltb, le-leb, lt-leb}
use Rattle.scope.proofs.Tests.{either, neither, clash}
use Rattle.scope.specs.Blocks.{ok, refuse}
use Rattle.std.specs.Prelude.{Result, Ok, Err}
use Rattle.outcomes.specs.declared.TooMuch.{TooMuch}
use Rattle.outcomes.specs.declared.Verdict.{Verdict}
use Rattle.outcomes.specs.declared.Spelt.{Spelt}
use Rattle.outcomes.specs.declared.Seek.{Seek}
use Rattle.outcomes.specs.Past.{said_verdict, said_spelt, said_seek, past, fitting}

-- answers that say the same are the same
pub same-verdict : (r s : Result Verdict TooMuch) → said_verdict r ≡ said_verdict s → r ≡ s
same-verdict (Ok v) (Ok w) e = let i : ◌≡◌ {A = Bool × ℕ} (v.yes, v.calls) (w.yes, w.calls) = cc in ap (λ (p : Bool × ℕ). Ok (record { yes = p.0; calls = p.1 })) i
same-verdict (Ok v) (Err y) e = clash (cc)
same-verdict (Err x) (Ok w) e = clash (cc)
same-verdict (Err x) (Err y) e = refl

pub same-spelt : (r s : Result Spelt TooMuch) → said_spelt r ≡ said_spelt s → r ≡ s
same-spelt (Ok v) (Ok w) e = let i : ◌≡◌ {A = ℕ × ℕ} (v.written, v.rows) (w.written, w.rows) = cc in ap (λ (p : ℕ × ℕ). Ok (record { written = p.0; rows = p.1 })) i
same-spelt (Ok v) (Err y) e = clash (cc)
same-spelt (Err x) (Ok w) e = clash (cc)
same-spelt (Err x) (Err y) e = refl

pub same_seek : (r s : Result Seek TooMuch) → said_seek r ≡ said_seek s → r ≡ s
same_seek (Ok v) (Ok w) e = let i : ◌≡◌ {A = ℕ × (ℕ × ℕ)} (v.written, (v.rows, v.calls)) (w.written, (w.rows, w.calls)) = cc in ap (λ (p : ℕ × (ℕ × ℕ)). Ok (record { written = p.0; rows = p.1.0; calls = p.1.1 })) i
same_seek (Ok v) (Err y) e = clash (cc)
same_seek (Err x) (Ok w) e = clash (cc)
same_seek (Err x) (Err y) e = refl

-- a call that is entered: its cells are within the room, and it is within the calls
pub record Entered (calls cells room : ℕ) : Type 0 where
  pub fits : cells ≤ room
  pub few : calls < 65536

module _ (calls cells room : ℕ) where
  pub past-cells : room < cells → true ≡ past calls cells room
  unfolding past
  past-cells l = simp (lt-ltb room cells l)

  pub past-calls : cells ≤ room → leb 65536 calls ≡ past calls cells room
  unfolding past
  past-calls l = simp (le-ltb room cells l)

  pub entered : (r : Bool) → r ≡ past calls cells room → r ≡ false → Entered calls cells room
  unfolding past
  entered r e z =
      let p = neither (ltb room cells) (leb 65536 calls) (sym e ∙ z) in
      record { fits = ltb-false room cells p.0; few = leb-false 65536 calls p.1 }

  pub passed : {B : Type 0} (r : Bool) → r ≡ past calls cells room → r ≡ true → (room < cells → B) → (65536 ≤ calls → B) → B
  unfolding past
  passed r e z f g = ⊎_elim (λ p. f (ltb-true room cells p)) (λ p. g (leb-true 65536 calls p)) (either (ltb room cells) (leb 65536 calls) (sym e ∙ z))

module _ (at rows : ℕ) where
  pub fits : at ≤ 4096 → ok (at, rows + 1) ≡ fitting at rows
  unfolding fitting
  fits l = rw (le-leb at 4096 l)

  pub fits_not : 4096 < at → refuse 10 ≡ fitting at rows
  unfolding fitting
  fits_not l = rw (lt-leb at 4096 l)
