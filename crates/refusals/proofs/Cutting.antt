-- A file is cut into lines in one way, that of `lines`: byte by byte.
use mathlib.Core.Path.{◌≡◌, refl, ap, sym, subst, ◌∙◌}
use mathlib.Core.List.{List, [], ◌∷◌, ◌++◌}
use mathlib.Core.Bool.{Bool, true, false, cond}
use mathlib.Core.Logic.{◌↔◌}
use Prim.Native.Nat.{ℕ}
use lib.Dec.{eqb}
use borrow.Author.Tests.{eqb-true, eqb-false, ne_eqb}
use Rattle.scope.specs.Lines.{Line, ended, cut, into_first, lines}
use Rattle.refusals.specs.Cut.{NoFeed, Cuts}

into-line : (b : ℕ) → (b ≡ 10 → ⊥) → {bs : List ℕ} {ls : List Line} → Cuts bs ls → Cuts (b ∷ bs) (into_first b ls)
into-line b n Cuts.done = Cuts.a_piece (NoFeed.also n NoFeed.none)
into-line b n (Cuts.a_line ds f k) = Cuts.a_line (b ∷ ds) (NoFeed.also n f) k
into-line b n (Cuts.a_piece f) = Cuts.a_piece (NoFeed.also n f)

lines_cut : (file : List ℕ) → Cuts file (lines file)
unfolding lines
lines_cut [] = Cuts.done
lines_cut (b ∷ bs) = go (eqb b 10) refl (lines_cut bs)
  where
    go : (x : Bool) → eqb b 10 ≡ x → Cuts bs (lines bs) → Cuts (b ∷ bs) (cond x (ended [] ∷ lines bs) (into_first b (lines bs)))
    go true e k = subst (λ (y : ℕ). Cuts (y ∷ bs) (ended [] ∷ lines bs)) (sym (eqb-true b 10 e)) (Cuts.a_line [] NoFeed.none k)
    go false e k = into-line b (eqb-false b 10 e) k

line_first : (rest : List ℕ) {ds : List ℕ} → NoFeed ds → lines (ds ++ 10 ∷ rest) ≡ ended ds ∷ lines rest
unfolding lines
line_first rest NoFeed.none = refl
line_first rest (NoFeed.also {b = b} n f) = rw (ne_eqb b 10 n, line_first rest f)

piece_only : {d : ℕ} {ds : List ℕ} → NoFeed (d ∷ ds) → lines (d ∷ ds) ≡ cut (d ∷ ds) ∷ []
unfolding lines
piece_only (NoFeed.also {b = b} n NoFeed.none) = rw (ne_eqb b 10 n)
piece_only (NoFeed.also {b = b} n (NoFeed.also m f)) = rw (ne_eqb b 10 n, piece_only (NoFeed.also m f))

cut-lines : {file : List ℕ} {ls : List Line} → Cuts file ls → lines file ≡ ls
unfolding lines
cut-lines Cuts.done = refl
cut-lines (Cuts.a_line {rest = rest} ds f k) = line_first rest f ∙ ap (ended ds ∷◌) (cut-lines k)
cut-lines (Cuts.a_piece f) = piece_only f

pub cuts-exactly : (file : List ℕ) (ls : List Line) → (lines file ≡ ls) ↔ Cuts file ls
cuts-exactly file ls = (λ e. subst (Cuts file) e (lines_cut file), cut-lines)
