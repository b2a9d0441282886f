-- The tests of a line before what its frame adds, branch by branch: refusals 4, 5 and 6, from the place and the room of its frame.
use mathlib.Core.Path.{◌≡◌, refl, sym, ap, ◌∙◌}
use mathlib.Core.Bool.{true, false}
use mathlib.Core.List.{List, ◌∷◌}
use Prim.Native.Nat.{ℕ, ◌+◌, ◌-◌, ◌<◌}
use native.Mathlib.Omega.{arith}
use borrow.Author.Tests.{le-leb, lt-leb}
use lib.ListN.{length, get_or, take, drop, length-drop}
use lib.Seq.{take_all, get_or-drop, drop-drop, drop-cons}
use native.Mathlib.Nat.{add-zero}
use native.Mathlib.Numerals.{add-one}
use Rattle.scope.specs.Frames.{is_kind, frame}
use Rattle.scope.specs.Blocks.{ok, refuse, wholly}
use mathlib.Core.Logic.{◌⊎◌, inl, inr}
use Rattle.std.specs.Prelude.{Ok, Err}
use Rattle.scope.specs.declared.kinds.FrameKind.{FrameKind}
use Rattle.scope.specs.declared.kinds.FrameKind.TheVariants.{TypeFrame, ConstructorFrame, SubjectFrame, ClauseFrame, EndFrame}
use Rattle.scope.specs.Numbers.{frame_byte}
use Rattle.fields.specs.declared.Fault.{Fault}
use Rattle.fields.specs.Places.{said_read, said_of, said_at, placed}
use Rattle.fields.proofs.Readers.{told}
use Rattle.frames.specs.Wholes.{whole}
use Rattle.frames.proofs.Wholes.{whole-ok, whole-refused}
use Rattle.frames.specs.declared.Framed.{Framed}
use Rattle.frames.specs.Lines.{said_framed, frame_of}
use Rattle.order.specs.declared.State.{State}
use Rattle.order.specs.Phases.{stands_in, room_in}
use Rattle.frames.specs.Checked.{checked, kind_of}

-- a line begins with its kind
pub begins : (bytes : List ℕ) (at k : ℕ) → at < length bytes → k ≡ get_or bytes at 0 → drop at bytes ≡ k ∷ drop (at + 1) bytes
begins bytes at k inside here = drop-cons bytes at 0 inside ∙ ap (λ (i : ℕ). get_or bytes at 0 ∷ drop i bytes) (sym (add-one at)) ∙ ap (λ (i : ℕ). i ∷ drop (at + 1) bytes) (sym here)

-- the order of the refusals, from the frame f that is read of the line
module _ (bytes : List ℕ) (at : ℕ) (inside : at < length bytes) (s : State) (last : ℕ) (f : Framed) (read : said_framed f ≡ frame_of (take (length bytes - at) (drop at bytes))) where
  line-is : take (length bytes - at) (drop at bytes) ≡ drop at bytes
  line-is = take_all (length bytes - at) (drop at bytes) (omega (arith, length-drop at bytes))

  kind-read : f.kind ≡ get_or bytes at 0
  unfolding frame_of
  kind-read = ap (λ g. g.0) read ∙ ap (λ (bs : List ℕ). get_or bs 0 0) line-is ∙ get_or-drop at bytes 0 0 ∙ ap (λ (i : ℕ). get_or bytes i 0) (add-zero at)

  starts : drop at bytes ≡ f.kind ∷ drop (at + 1) bytes
  starts = begins bytes at f.kind inside kind-read

  end_read : f.end ≡ placed (length bytes - at) (whole (frame f.kind (drop (at + 1) bytes)))
  unfolding frame_of
  end_read =
      let of-line : said_read f.end ≡ said_at (drop at bytes) 1 (λ bs. whole (frame (get_or (drop at bytes) 0 0) bs)) = ap (λ g. g.1) read ∙ ap (λ (bs : List ℕ). said_at bs 1 (λ cs. whole (frame (get_or bs 0 0) cs))) line-is in
      told _ _ f.end (of-line ∙ ap (λ (i : ℕ). said_at (drop at bytes) 1 (λ bs. whole (frame i bs))) (get_or-drop at bytes 0 0 ∙ ap (λ (i : ℕ). get_or bytes i 0) (add-zero at) ∙ sym kind-read)
      ∙ ap (λ (bs : List ℕ). said_of (length (drop at bytes)) (whole (frame f.kind bs))) (drop-drop 1 at bytes) ∙ ap (λ (n : ℕ). said_of n (whole (frame f.kind (drop (at + 1) bytes)))) (length-drop at bytes))

  pub unknown : (f.kind ≡ 0) ⊎ (5 < f.kind) → refuse 4 ≡ kind_of (checked s last (drop at bytes)) (get_or bytes at 0)
  unfolding checked
  unknown (inl e) = rw (starts, e)
  unknown (inr l) = rw (starts, le-leb 1 f.kind (omega arith), lt-leb f.kind 5 l)

  module _ (known : is_kind f.kind ≡ true) where
    pub out_of_place : stands_in s.phase f.kind ≡ false → refuse 5 ≡ kind_of (checked s last (drop at bytes)) (get_or bytes at 0)
    unfolding checked
    out_of_place a = rw (starts, known, a)

    pub too_many : stands_in s.phase f.kind ≡ true → room_in s last f.kind ≡ false → refuse 6 ≡ kind_of (checked s last (drop at bytes)) (get_or bytes at 0)
    unfolding checked
    too_many a b = rw (starts, known, a, b)

    module _ (a : stands_in s.phase f.kind ≡ true) (b : room_in s last f.kind ≡ true) where
      pub not-whole : (e : Fault) → f.end ≡ Err e → refuse 4 ≡ kind_of (checked s last (drop at bytes)) (get_or bytes at 0)
      unfolding checked
      not-whole e h =
          let w : wholly (frame f.kind (drop (at + 1) bytes)) ≡ refuse 4 = whole-refused (length bytes - at) (frame f.kind (drop (at + 1) bytes)) f.end e end_read h in
          rw (starts, known, a, b, w)

      pub whole-frame : (q : ℕ) → f.end ≡ Ok q → ok f.kind ≡ kind_of (checked s last (drop at bytes)) (get_or bytes at 0)
      unfolding checked
      whole-frame q h = let w = whole-ok (length bytes - at) (frame f.kind (drop (at + 1) bytes)) f.end q end_read h in rw (starts, known, a, b, w.1) (ap ok kind-read)

-- a kind's byte is one
pub is-kind : (k : FrameKind) → is_kind (frame_byte k) ≡ true
is-kind TypeFrame = refl
is-kind ConstructorFrame = refl
is-kind SubjectFrame = refl
is-kind ClauseFrame = refl
is-kind EndFrame = refl
