-- What a walk of missing rows leaves, over plain lists: one step more of the path, a call entered, one walk after another.
use mathlib.Core.Path.{◌≡◌, refl, sym, ap, ap₂, subst, ◌∙◌}
use mathlib.Core.Logic.{⊎_elim}
use mathlib.Core.List.{List, [], ◌∷◌, ◌++◌}
use Prim.Native.Nat.{ℕ, zero, suc, ◌+◌, ◌-◌, ◌≤◌, ◌<◌}
use native.Mathlib.Omega.{arith}
use lib.ListN.{length, get_or, take, set, length-set}
use lib.Seq.{sets, get_or-set_same, get_or-set_other, get_or-take, take-take}
use Rattle.std.specs.Prelude.{Result, Ok, Err, IsErr}
use Rattle.cells.proofs.Laws.{sets-sets}
use Rattle.scope.specs.Lists.{flatten}
use Rattle.scope.specs.Walks.{Walk, plain, holding, joined}
use Rattle.scope.specs.Blocks.{ok, refuse}
use Rattle.scope.proofs.Tests.{clash}
use Rattle.matrix.specs.Numbers.{Rows}
use Rattle.paths.specs.Spread.{Spread, Spelling}
use Rattle.collect.specs.Ready.{Trail, Sought, sought}
use Rattle.outcomes.specs.Past.{said_spelt, said_seek, counting}
use Rattle.outcomes.specs.declared.Spelt.{Spelt}
use Rattle.outcomes.specs.declared.Seek.{Seek}
use Rattle.outcomes.specs.declared.TooMuch.{TooMuch}
use Rattle.paths.specs.declared.Steps.{Steps}
use Rattle.matrix.proofs.Orders.{same_or}
use Rattle.paths.proofs.PathSpread.{flatten_append, flatten-length}
use Rattle.collect.proofs.Limits.{IsDone, done-is, enter, done-leaf, over-leaf, none_done, join-over, join-then}

-- the path with one step more
take-set : (p : List ℕ) (d x : ℕ) → take d (set p d x) ≡ take d p
take-set [] d x = refl
take-set (y ∷ p) zero x = refl
take-set (y ∷ p) (suc d) x = ap (λ (z : List ℕ). y ∷ z) (take-set p d x)

take_less : (p : List ℕ) (d : ℕ) → take d (take (d + 1) p) ≡ take d p
take_less p d = take-take d (d + 1) p (omega arith)

pub kept_less : (p q : List ℕ) (d x : ℕ) → take (d + 1) q ≡ take (d + 1) (set p d x) → take d q ≡ take d p
kept_less p q d x e = sym (take_less q d) ∙ ap (take d) e ∙ take_less (set p d x) d ∙ take-set p d x

-- what an answer that is done says, and that it says no refusal
said-same : (v : Seek) (w : ℕ × (ℕ × ℕ)) → said_seek (Ok v) ≡ ok w → ◌≡◌ {A = ℕ × (ℕ × ℕ)} (v.written, (v.rows, v.calls)) w
said-same v w e = cc

said-over : {A : Type 0} (v : Seek) → said_seek (Ok v) ≡ refuse 10 → A
said-over v e = clash (cc)

module _ {path alts : List ℕ} {depth room written found : ℕ} where
  pub trail_next : Trail path alts depth (room + 1) written found → (x g : ℕ) → x + 32 < 65536 → Trail (set path depth x) (set alts depth g) (depth + 1) room written found
  trail_next t x g l = record {
    deep = omega (arith, t.deep);
    long_path = omega (arith, t.long_path, length-set path depth x);
    long_alts = omega (arith, t.long_alts, length-set alts depth g);
    low = record { each = λ i h. ⊎_elim (λ e. here i e) (λ e. there i e h) (same_or i depth) };
    within = t.within;
    few = t.few;
  }
    where
      here : (i : ℕ) → i ≡ depth → get_or (set path depth x) i 0 + 32 < 65536
      here i e = subst (λ (y : ℕ). y + 32 < 65536) (sym (ap (λ (j : ℕ). get_or (set path depth x) j 0) e ∙ get_or-set_same path depth x 0 (omega (arith, t.deep, t.long_path)))) l

      there : (i : ℕ) → (i ≡ depth → ⊥) → i < depth + 1 → get_or (set path depth x) i 0 + 32 < 65536
      there i e h = subst (λ (y : ℕ). y + 32 < 65536) (sym (get_or-set_other path depth i x 0 e)) (t.low.each i (omega arith))

  -- the trail after a walk that kept it
  pub trail_kept : Trail path alts depth room written found → {pe ae : List ℕ} → take depth pe ≡ take depth path → length pe ≡ length path → length ae ≡ length alts → {w k : ℕ} → w ≤ 4096 → k ≤ w → Trail pe ae depth room w k
  trail_kept t {pe} q lp la lw lk = record {
    deep = t.deep;
    long_path = omega (arith, t.long_path);
    long_alts = omega (arith, t.long_alts);
    low = record { each = λ i h. subst (λ (y : ℕ). y + 32 < 65536) (sym (sym (get_or-take depth pe i 0 h) ∙ ap (λ (z : List ℕ). get_or z i 0) q ∙ get_or-take depth path i 0 h)) (t.low.each i h) };
    within = lw;
    few = lk;
  }

  -- all steps of the path are still to be chosen at a leaf
  pub trail_spelling : Trail path alts depth room written found → (n : ℕ) → n ≤ 16640 → 0 < depth + n → Spelling path alts depth depth n written found
  trail_spelling t n l z = record { inside = omega arith; long_path = omega (arith, t.deep, t.long_path); long_alts = omega (arith, t.deep, t.long_alts); deep = omega (arith, t.deep); wide = l; low = t.low; some = z; within = t.within; few = t.few }

-- the path with one step more
abbrev pub step_at : Steps → ℕ → ℕ → ℕ → Steps
step_at p d x g = record { nodes = set p.nodes d x; sets = set p.sets d g }

module _ {s e out oe : List ℕ} {p q : Steps} {rows depth room : ℕ} {at : Seek} {r : Result Seek TooMuch} where
  -- the same walk
  pub sought-same : {o o' : Walk Rows} → o ≡ o' → Sought s rows e p q depth out oe at room r o → Sought s rows e p q depth out oe at room r o'
  sought-same i h = subst (Sought s rows e p q depth out oe at room r) i h

  -- a walk with one step more in the path
  pub sought-step : (x g : ℕ) {o : Walk Rows} → Sought s rows e (step_at p depth x g) q (depth + 1) out oe at room r o → Sought s rows e p q depth out oe at room r o
  sought-step x g h = record { kept = h.kept; kept_path = kept_less p.nodes q.nodes depth x h.kept_path; kept_alts = kept_less p.sets q.sets depth g h.kept_alts; long_path = h.long_path ∙ length-set p.nodes depth x; long_alts = h.long_alts ∙ length-set p.sets depth g; long_out = h.long_out; is = h.is; text = h.text; few = h.few }

  -- a walk in a call that is entered
  pub sought-enter : {cells : ℕ} {o : Walk Rows} → cells ≤ room → Sought s rows e p q depth out oe (record at { calls = at.calls + 1 }) (room - cells) r o → Sought s rows e p q depth out oe at room r (holding cells o)
  sought-enter {cells} {o} l h = record { kept = h.kept; kept_path = h.kept_path; kept_alts = h.kept_alts; long_path = h.long_path; long_alts = h.long_alts; long_out = h.long_out; is = h.is ∙ enter at.calls room at.written at.rows cells o l; text = h.text; few = h.few }

-- walks that end at once
module _ (s : List ℕ) (rows : ℕ) (p : Steps) (depth : ℕ) (out : List ℕ) (at : Seek) (room : ℕ) where
  pub sought-past : (cells : ℕ) (t : TooMuch) (o : Walk Rows) → refuse 10 ≡ sought at.calls room at.written at.rows (holding cells o) → Sought s rows s p p depth out out at room (Err t) (holding cells o)
  sought-past cells t o i = record { kept = refl; kept_path = refl; kept_alts = refl; long_path = refl; long_alts = refl; long_out = refl; is = i; text = λ v q. clash (cc); few = λ v q. clash (cc) }

  pub sought-none : at.calls ≤ 65536 → at.written ≤ 4096 → at.rows ≤ at.written → Sought s rows s p p depth out out at room (Ok at) (plain [])
  sought-none l k f = record {
    kept = refl;
    kept_path = refl;
    kept_alts = refl;
    long_path = refl;
    long_alts = refl;
    long_out = refl;
    is = none_done at.calls room at.written at.rows l k;
    text = λ v q. refl;
    few = λ v q. let x : at ≡ v = cc in subst (λ (y : Seek). y.rows ≤ y.written) x f;
  }

  module _ {cells : ℕ} {m : Rows} (fits : cells ≤ room) (lt : at.calls < 65536) {oe : List ℕ} {q : Steps} (pq : q ≡ p) where
    pub sought-leaf : (v : Result Spelt TooMuch) → Spread out at.written at.rows m v oe → (x : Result Seek TooMuch) → said_seek x ≡ counting (said_spelt v) at.calls → Sought s rows s p q depth out oe at room x (holding cells (plain m))
    sought-leaf (Ok w) h x i = record {
      kept = refl;
      kept_path = ap (λ (y : Steps). take depth y.nodes) pq;
      kept_alts = ap (λ (y : Steps). take depth y.sets) pq;
      long_path = ap (λ (y : Steps). length y.nodes) pq;
      long_alts = ap (λ (y : Steps). length y.sets) pq;
      long_out = h.long;
      is = i ∙ done-leaf at.calls room at.written at.rows cells m fits lt w.written w.rows h.is;
      text = λ v z. h.text w refl;
      few = λ v z. let j = said-same v (w.written, (w.rows, at.calls + 1)) (sym (ap said_seek z) ∙ i) in omega (arith, ap (λ (y : ℕ × (ℕ × ℕ)). y.0) j, ap (λ (y : ℕ × (ℕ × ℕ)). y.1.0) j, h.few w refl);
    }
    sought-leaf (Err t) h x i = record {
      kept = refl;
      kept_path = ap (λ (y : Steps). take depth y.nodes) pq;
      kept_alts = ap (λ (y : Steps). take depth y.sets) pq;
      long_path = ap (λ (y : Steps). length y.nodes) pq;
      long_alts = ap (λ (y : Steps). length y.sets) pq;
      long_out = h.long;
      is = i ∙ over-leaf at.calls room at.written at.rows cells m fits lt h.is;
      text = λ v z. said-over v (sym (ap said_seek z) ∙ i);
      few = λ v z. said-over v (sym (ap said_seek z) ∙ i);
    }

-- one walk, then another
module _ {s e out oe : List ℕ} {p q : Steps} {rows depth room : ℕ} {at : Seek} {r : Result Seek TooMuch} {a : Walk Rows} (b : Walk Rows) (h : Sought s rows e p q depth out oe at room r a) where
  pub sought-stop : {t : TooMuch} → r ≡ Err t → {u : Result Seek TooMuch} → IsErr u → Sought s rows e p q depth out oe at room u (joined ◌++◌ a b)
  sought-stop i {u = Ok v} z = clash (cc)
  sought-stop i {u = Err y} z = record { kept = h.kept; kept_path = h.kept_path; kept_alts = h.kept_alts; long_path = h.long_path; long_alts = h.long_alts; long_out = h.long_out; is = join-over at.calls room at.written at.rows a b (sym (ap said_seek i) ∙ h.is); text = λ v z. clash (cc); few = λ v z. clash (cc) }

  module _ {v : Seek} (i : r ≡ Ok v) where
    pub sought-done : IsDone at.calls room at.written at.rows a v.written v.rows v.calls
    sought-done = done-is at.calls room at.written at.rows a v.written v.rows v.calls (sym (ap said_seek i) ∙ h.is)

    pub sought-then : {e₂ oe₂ : List ℕ} {q₂ : Steps} {r₂ : Result Seek TooMuch} → Sought e rows e₂ q q₂ depth oe oe₂ v room r₂ b → Sought s rows e₂ p q₂ depth out oe₂ at room r₂ (joined ◌++◌ a b)
    sought-then h₂ = record {
      kept = h₂.kept ∙ h.kept;
      kept_path = h₂.kept_path ∙ h.kept_path;
      kept_alts = h₂.kept_alts ∙ h.kept_alts;
      long_path = h₂.long_path ∙ h.long_path;
      long_alts = h₂.long_alts ∙ h.long_alts;
      long_out = h₂.long_out ∙ h.long_out;
      is = h₂.is ∙ join-then at.calls room at.written at.rows a b v.written v.rows v.calls (sym (ap said_seek i) ∙ h.is);
      text = λ w z.
          let n : v.written ≡ at.written + length (flatten a.result) = sought-done.nodes ∙ ap (λ (x : ℕ). at.written + x) (sym (flatten-length a.result)) in
          h₂.text w z ∙ ap₂ (λ (x : List ℕ) (y : ℕ). sets x y (flatten b.result)) (h.text v i) n ∙ sets-sets (flatten a.result) (flatten b.result) out at.written ∙ ap (sets out at.written) (sym (flatten_append a.result b.result));
      few = h₂.few;
    }
