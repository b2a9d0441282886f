-- One text written after another is one text written.
use mathlib.Core.Path.{◌≡◌, refl, sym, ap, ◌∙◌}
use mathlib.Core.List.{List, [], ◌∷◌, ◌++◌}
use Prim.Native.Nat.{ℕ, ◌+◌, ◌<◌}
use native.Mathlib.Nat.{add-zero}
use native.Mathlib.Omega.{arith}
use native.Mathlib.Numerals.{add-one}
use lib.ListN.{length, length-append, get_or, take}
use lib.Seq.{sets, take-suc, length-sets}
use Rattle.scope.specs.Lists.{Text}
use Rattle.cells.proofs.Laws.{sets-sets}
use Rattle.writing.specs.declared.Writer.{Writer}
use Rattle.writing.specs.Writing.{Wrote, Writes}

pub wrote_none : (s : List ℕ) (at : ℕ) → Wrote s s at at []
wrote_none s at = record { ends = sym (add-zero at); holds = refl }

pub wrote_more : {a b c : List ℕ} {at mid after : ℕ} {t u : Text} → Wrote a b at mid t → Wrote b c mid after u → Wrote a c at after (t ++ u)
wrote_more {a} {b} {c} {at} {mid} {after} {t} {u} h k = record {
  ends = omega (arith, h.ends, k.ends, length-append t u);
  holds = k.holds ∙ ap (λ (x : List ℕ). sets x mid u) h.holds ∙ ap (λ (m : ℕ). sets (sets a at t) m u) h.ends ∙ sets-sets t u a at;
}

-- the same text under another name
pub wrote_as : {a b : List ℕ} {at after : ℕ} {t u : Text} → t ≡ u → Wrote a b at after t → Wrote a b at after u
wrote_as {a} {b} {at} {after} {t} {u} e h = record { ends = h.ends ∙ ap (λ (x : Text). at + length x) e; holds = h.holds ∙ ap (sets a at) e }

-- the same of writers
pub writes_none : (w : Writer) → Writes w w []
writes_none w = record { same = refl; wrote = wrote_none w.out.now w.at }

pub writes_more : {a b c : Writer} {t u : Text} → Writes a b t → Writes b c u → Writes a c (t ++ u)
writes_more h k = record { same = k.same ∙ h.same; wrote = wrote_more h.wrote k.wrote }

pub writes_as : {a b : Writer} {t u : Text} → t ≡ u → Writes a b t → Writes a b u
writes_as e h = record { same = h.same; wrote = wrote_as e h.wrote }

-- the buffer keeps its length
pub writes_long : {a b : Writer} {t : Text} → Writes a b t → length b.out.now ≡ length a.out.now
writes_long {a} {b} {t} h = ap (λ (s : List ℕ). length s) h.wrote.holds ∙ length-sets a.out.now a.at t

-- the next byte of a text, after those before it
pub writes_next : {a b c : Writer} (s : Text) (i : ℕ) {x : ℕ} → x ≡ get_or s i 0 → i < length s → Writes a b (take i s) → Writes b c (x ∷ []) → Writes a c (take (i + 1) s)
writes_next s i e l h k =
    writes_as (ap (λ (y : ℕ). take i s ++ y ∷ []) e ∙ sym (take-suc s i 0 l) ∙ ap (λ (j : ℕ). take j s) (sym (add-one i))) (writes_more h k)
