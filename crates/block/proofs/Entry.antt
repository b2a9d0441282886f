-- The mission at the entry, from the contract of `check` alone; the contract from the mission; and any two outcomes that either permits are equal.
use mathlib.Core.Path.{sym, ◌∙◌}
use mathlib.Core.List.{List}
use Prim.Native.Nat.{ℕ}
use Rattle.scope.specs.declared.Answer.{Answer}
use Rattle.promises.specs.Mission.{Mission}
use Rattle.promises.proofs.Meets.{met, fixed}
use Rattle.block.specs.Check.{Checked, Same}

-- what `check` promises meets the mission
pub mission : (file scratch buffer : List ℕ) (r : Answer) (buffer' scratch' : List ℕ) → Checked file scratch buffer r buffer' scratch' → Mission file scratch buffer r buffer' scratch'
mission file scratch buffer r buffer' scratch' c = rw (c.answer_is, c.report_is, c.scratch_is) (met file scratch buffer)

-- the mission is no looser than the contract
pub mission-checked : (file scratch buffer : List ℕ) (r : Answer) (buffer' scratch' : List ℕ) → Mission file scratch buffer r buffer' scratch' → Checked file scratch buffer r buffer' scratch'
mission-checked file scratch buffer r buffer' scratch' m = let f = fixed m in record { answer_is = f.answer_is; report_is = f.buffer_is; scratch_is = f.scratch_is }

-- one outcome
pub one-outcome : (file scratch report : List ℕ) {r s : Answer} {b c x y : List ℕ} → Checked file scratch report r b x → Checked file scratch report s c y → Same r s b c x y
one-outcome file scratch report h k = record { answers = h.answer_is ∙ sym k.answer_is; reports = h.report_is ∙ sym k.report_is; scratches = h.scratch_is ∙ sym k.scratch_is }

-- of the mission too
pub one-mission : (file scratch buffer : List ℕ) {r s : Answer} {b c x y : List ℕ} → Mission file scratch buffer r b x → Mission file scratch buffer s c y → Same r s b c x y
one-mission file scratch buffer h k = one-outcome file scratch buffer (mission-checked file scratch buffer _ _ _ h) (mission-checked file scratch buffer _ _ _ k)
