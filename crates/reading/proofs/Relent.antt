-- What a frame does to the slices that are lent of a table is what it does to the table, from what they are lent as; and a refusal that `?` passes on.
use Rattle.std.specs.Prelude.{Result, Ok, Err, IsErr, IsErrAnd}
use mathlib.Core.Path.{◌≡◌, sym, ap}
use mathlib.Core.Bool.{Bool}
use mathlib.Core.List.{List}
use Prim.Native.Nat.{ℕ}
use Rattle.scope.specs.declared.refusal.Refusal.{Refusal}
use Rattle.fresh.specs.Fresh.{is_fresh_in}
use Rattle.order.specs.declared.State.{State}
use Rattle.reading.specs.Enters.{EntersSubject, EntersClause, ForClause}

module _ {at : ℕ} {s : State} {bytes kinds counts arities starts fields bytes' kinds' counts' arities' starts' fields' : List ℕ} (b : bytes' ≡ bytes) (k : kinds' ≡ kinds) (c : counts' ≡ counts) (a : arities' ≡ arities) (t : starts' ≡ starts) (f : fields' ≡ fields) where
  pub subject-lent : {r : Result State Refusal} → EntersSubject bytes' at s kinds' counts' arities' starts' fields' r → EntersSubject bytes at s kinds counts arities starts fields r
  subject-lent x = rw (sym b, sym k, sym c, sym a, sym t, sym f) x

  pub clause-lent : {nodes left rows nodes' left' rows' : List ℕ} {r : Result State Refusal} → EntersClause bytes' at s kinds' counts' arities' starts' fields' nodes left rows nodes' left' rows' r → EntersClause bytes at s kinds counts arities starts fields nodes left rows nodes' left' rows' r
  clause-lent x = rw (sym b, sym k, sym c, sym a, sym t, sym f) x

pub asks-lent : {at : ℕ} {s : State} {bytes fields bytes' fields' nodes : List ℕ} → bytes' ≡ bytes → fields' ≡ fields → ForClause bytes at s fields nodes → ForClause bytes' at s fields' nodes
asks-lent b f x = rw (b, f) x

pub fresh-lent : (at t : ℕ) {bytes names counts bytes' names' counts' : List ℕ} {r : Bool} → bytes' ≡ bytes → names' ≡ names → counts' ≡ counts → r ≡ is_fresh_in bytes' at names' counts' t → is_fresh_in bytes at names counts t ≡ r
fresh-lent at t b n c x = rw (sym b, sym n, sym c) (sym x)

-- a refusal that `?` passes on is the one that was answered
pub raised : (r : Result State Refusal) (e : Refusal) → IsErr r × IsErrAnd r (λ y. y ≡ e) → r ≡ Err e
raised (Ok s) e k = absurd k.1
raised (Err f) e k = ap Err k.1
