-- The reader's steps in a row, over plain lists: at the line's first byte, its kind, past it, and the rest to the line's end. Together they read the frame that the line holds.
use mathlib.Core.Path.{◌≡◌, sym, ap, subst, ◌∙◌}
use mathlib.Core.List.{List}
use Prim.Native.Nat.{ℕ, ◌+◌, ◌≤◌, ◌<◌}
use lib.ListN.{length, get_or}
use denote.Ref.{Bor}
use Rattle.scope.specs.Frames as scope
use Rattle.fields.specs.Places.{said_read, said_at}
use Rattle.frames.specs.Wholes.{whole}
use Rattle.frames.specs.Lines.{said_framed, frame_of}
use Rattle.std.specs.Prelude.{Result}
use Rattle.fields.specs.declared.Fault.{Fault}
use Rattle.frames.specs.declared.Reader.{Reader}

module _ (s : Bor (List ℕ)) (r : Reader) (begun : (r.line ≡ s) × (r.at ≡ 0)) where
  -- a line has a first byte
  pub at_first : 0 < length s.now → r.at < length r.line.now
  at_first l = subst (λ (x : Bor (List ℕ)). r.at < length x.now) (sym begun.0) (subst (λ (i : ℕ). i < length s.now) (sym begun.1) l)

  module _ (p : Reader) (moved : (p.line ≡ r.line) × (p.at ≡ r.at + 1)) where
    line-is : p.line ≡ s
    line-is = moved.0 ∙ begun.0

    place_is : p.at ≡ 1
    place_is = moved.1 ∙ ap (λ (i : ℕ). i + 1) begun.1

    -- the second place is the line's end at most
    pub at_second : 0 < length s.now → p.at ≤ length p.line.now
    at_second l = subst (λ (x : Bor (List ℕ)). p.at ≤ length x.now) (sym line-is) (subst (λ (i : ℕ). i ≤ length s.now) (sym place_is) l)

    pub as_short : length s.now ≤ 65536 → length p.line.now ≤ 65536
    as_short l = subst (λ (x : Bor (List ℕ)). length x.now ≤ 65536) (sym line-is) l

    pub line-holds : (k : ℕ) (t : Result ℕ Fault) → k ≡ get_or r.line.now r.at 0 → said_read t ≡ said_at p.line.now p.at (λ bs. whole (scope.frame k bs)) → said_framed (record { kind = k; end = t }) ≡ frame_of s.now
    unfolding frame_of
    line-holds k t a b =
        let kind-is : k ≡ get_or s.now 0 0 = a ∙ ap (λ (x : Bor (List ℕ)). get_or x.now r.at 0) begun.0 ∙ ap (λ (i : ℕ). get_or s.now i 0) begun.1 in
        let end_is : said_read t ≡ said_at s.now 1 (λ bs. whole (scope.frame (get_or s.now 0 0) bs))
        = b ∙ ap (λ (x : Bor (List ℕ)). said_at x.now p.at (λ bs. whole (scope.frame k bs))) line-is ∙ ap (λ (i : ℕ). said_at s.now i (λ bs. whole (scope.frame k bs))) place_is ∙ ap (λ (j : ℕ). said_at s.now 1 (λ bs. whole (scope.frame j bs))) kind-is in
        λ i. (kind-is i, end_is i)
