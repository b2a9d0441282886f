-- The lines of the missing rows, row by row.
use mathlib.Core.Path.{◌≡◌, refl, ap, sym, ◌∙◌}
use mathlib.Core.List.{[], ◌∷◌, ◌++◌, append_assoc, append-nil}
use mathlib.Core.Bool.{Bool, true, false, cond}
use Prim.Native.Nat.{ℕ, zero, suc, ◌+◌, ◌-◌, ◌*◌, ◌^◌, ◌≤◌}
use native.Mathlib.Numerals.{add-one}
use lib.ListN.{length}
use Rattle.scope.specs.Lists.{Text, bytes}
use Rattle.scope.specs.Types.{Table}
use Rattle.scope.specs.Simplify.{Row}
use Rattle.scope.specs.Text.{skip, source, paste, alone}
use Rattle.scope.specs.Report.{gap_lines}
use Rattle.writing.specs.declared.Writer.{Writer}
use Rattle.writing.specs.Writing.{Writes}
use Rattle.looks.specs.Nodes.{mode_of}
use Rattle.text.specs.Rows.{Slices}
use Rattle.text.specs.Printing.{pattern_text, Many, Printed}
use Rattle.text.specs.Findings.{gap_word, gap_text, gaps_text}
use Rattle.writing.proofs.Writing.{writes_none, writes_more, writes_as}
use Rattle.text.proofs.Rows.{skip-none, after-one}
use Rattle.text.proofs.Printing.{nothing, snoc}

-- a word, the pattern, and the line feed
pub text-printed : {s : Slices} {p q : ℕ} {a b c d : Writer} (pasted : Bool)
    → Writes a b (cond pasted (bytes "paste ") (bytes "missing ")) → Printed s (Many 1) p q b c (pattern_text (mode_of pasted) alone) → Writes c d (10 ∷ []) → Printed s (Many 1) p q a d (gap_text (mode_of pasted))
text-printed pasted w h x = record {
  prints = λ table d ts us r v.
      let one = h.prints table d ts us r v in
      (writes_more (writes_more (writes_as (word pasted) w) one.0) x, one.1);
}
  where
    word : (b : Bool) → cond b (bytes "paste ") (bytes "missing ") ≡ gap_word (mode_of b)
    word true = refl
    word false = refl

-- the same pattern twice: the Rust's text, then the paste text
pub gap_printed : {s : Slices} {p m q : ℕ} {a b c : Writer}
    → Printed s (Many 1) p m a b (gap_text source) → Printed s (Many 1) p q b c (gap_text paste) → Printed s (Many 1) p q a c gap_lines
gap_printed h i = record {
  prints = λ table d ts us r v.
      let first = h.prints table d ts us r v in
      let second = i.prints table d ts us r v in
      (writes_more first.0 second.0, second.1);
}

gaps-snoc : (table : Table) (i : ℕ) (r : Row) → gaps_text i table r ++ gap_lines table (skip table r i) ≡ gaps_text (suc i) table r
unfolding gaps_text
gaps-snoc table zero r = ap (gap_lines table) (skip-none table r) ∙ sym (append-nil (gap_lines table r))
gaps-snoc table (suc i) r =
    append_assoc (gap_lines table r) (gaps_text i table (skip table r 1)) (gap_lines table (skip table r (suc i)))
    ∙ ap (λ (q : Row). gap_lines table r ++ (gaps_text i table (skip table r 1) ++ gap_lines table q)) (sym (after-one table r i))
    ∙ ap (λ (t : Text). gap_lines table r ++ t) (gaps-snoc table i (skip table r 1))

module _ {s : Slices} where
  pub gaps-none : {p : ℕ} {a : Writer} → Printed s (Many 0) p p a a (gaps_text 0)
  unfolding gaps_text
  gaps-none = nothing refl (λ table r. refl)

  -- one row more
  pub gaps-next : {p q : ℕ} {a b c : Writer} (i : ℕ) → Printed s (Many i) 0 p a b (gaps_text i) → Printed s (Many 1) p q b c gap_lines → Printed s (Many (i + 1)) 0 q a c (gaps_text (i + 1))
  gaps-next {b = b} i h g = snoc i (λ table r. ap (λ (t : Text). t ++ gap_lines table (skip table r i)) (append-nil (gaps_text i table r)) ∙ gaps-snoc table i r ∙ ap (λ (j : ℕ). gaps_text j table r) (sym (add-one i))) h (writes_none b) g

-- i rows of so many are printed, and the next stands at p
pub record Printing (s : Slices) (gaps : ℕ) (before w : Writer) (p i : ℕ) : Type 0 where
  pub few : i ≤ gaps
  pub places : p + 256 * (length s.nodes - p) ≤ i + 256 * length s.nodes
  pub texts : w.at ≤ before.at + 2 ^ 36 * i
  pub same : w.out.ghost_name ≡ before.out.ghost_name
  pub long : length w.out.now ≡ length before.out.now
  pub printed : Printed s (Many i) 0 p before w (gaps_text i)
