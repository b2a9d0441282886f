-- What the writing loops hold to: what is still to come, put after what stands, is the whole.
use mathlib.Core.Path.{◌≡◌, sym, ap, ap₂, ◌∙◌}
use mathlib.Core.List.{List, ◌++◌}
use Prim.Native.Nat.{ℕ, ◌+◌, ◌-◌, ◌≤◌, ◌<◌}
use native.Mathlib.Omega.{arith}
use lib.ListN.{length, get_or, replicate, length-append}
use lib.Seq.{sets}
use Rattle.cells.proofs.Laws.{sets-sets}
use Rattle.paths.specs.Path.{spelt1, spelt}
use Rattle.paths.specs.Spread.{Put}
use Rattle.paths.proofs.PathLaws.{spelt-next, spelt-none}

-- a step of the path, written after what stands
pub put_first : (d : List ℕ) (at : ℕ) (vs ws : List ℕ) (r : ℕ) (e : List ℕ) → Put d at vs r e → sets e r ws ≡ sets d at (vs ++ ws)
put_first d at vs ws r e p = ap₂ (λ (x : List ℕ) (j : ℕ). sets x j ws) p.text p.place ∙ sets-sets vs ws d at

-- a path's row, i steps of it written
module _ (ars path alts : List ℕ) (depth n : ℕ) where
  pub row_next : (d : List ℕ) (at i : ℕ) → i < depth → (r : ℕ) (e : List ℕ) → Put d at (spelt1 ars (get_or path i 0) (get_or alts i 0)) r e
      → (sets e r (spelt ars path alts (i + 1) (depth - (i + 1)) n) ≡ sets d at (spelt ars path alts i (depth - i) n)) × (r + length (spelt ars path alts (i + 1) (depth - (i + 1)) n) ≡ at + length (spelt ars path alts i (depth - i) n))
  row_next d at i l r e p =
      let v = spelt1 ars (get_or path i 0) (get_or alts i 0) in
      let w = spelt ars path alts (i + 1) (depth - (i + 1)) n in
      let k : depth - i - 1 ≡ depth - (i + 1) = omega arith in
      let s : spelt ars path alts i (depth - i) n ≡ v ++ w = spelt-next ars path alts n (depth - i) i (omega arith) ∙ ap (λ (j : ℕ). v ++ spelt ars path alts (i + 1) j n) k in
      (put_first d at v w r e p ∙ ap (sets d at) (sym s), omega (arith, p.place, ap length s, length-append v w))

  pub row-end : (d : List ℕ) (at i : ℕ) → depth ≤ i → (d₀ whole : List ℕ) (written : ℕ) → sets d at (spelt ars path alts i (depth - i) n) ≡ sets d₀ written whole → at + length (spelt ars path alts i (depth - i) n) ≡ written + length whole
      → (r : ℕ) (e : List ℕ) → Put d at (replicate n 0) r e → Put d₀ written whole r e
  row-end d at i l d₀ whole written q k r e p =
      let z : depth - i ≡ 0 = omega arith in
      let s : spelt ars path alts i (depth - i) n ≡ replicate n 0 = spelt-none ars path alts n (depth - i) i z in
      record { place = omega (arith, p.place, k, ap length s); text = p.text ∙ ap (sets d at) (sym s) ∙ q }
