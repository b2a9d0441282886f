-- Nothing is lost: from what the reader of a frame finds (`frame_found`, `frame_finds`), what `encode` gives, and lines of hexadecimal.
use mathlib.Core.Path.{◌≡◌, refl, ap, ap₂, sym, subst, ◌∙◌}
use mathlib.Core.List.{List, [], ◌∷◌, map}
use mathlib.Core.Bool.{true}
use Prim.Native.Nat.{ℕ, suc, ◌<◌}
use native.Mathlib.Omega.{arith}
use lib.ListN.{length, get_or}
use Rattle.scope.specs.Lines.{Line, ended, lines, unhex, is_line, bytes_of}
use Rattle.scope.specs.Frames.{Frame, end}
use Rattle.scope.specs.Blocks.{Block, State}
use Rattle.refusals.specs.Bytes.{Each}
use Rattle.refusals.specs.Refusals.{BadLine, Says, line3, is3, Leads, SaysBlock}
use Rattle.written.specs.Writing.{encode, hex_of, line_of, unlines, file_of}
use Rattle.written.specs.Lossless.{OneLine, EachSays, Rewritten, Lossless}
use Rattle.scope.proofs.Tests.{not_failed}
use Rattle.refusals.proofs.Cutting.{cuts-exactly}
use Rattle.refusals.proofs.Framed.{frame_found, frame_finds}
use Rattle.refusals.proofs.Stages.{bad-line, line-good}
use Rattle.refusals.proofs.Answered.{report-exactly}
use Rattle.written.proofs.Encoded.{frame-written}
use Rattle.written.proofs.Lines.{unhex-digits, good-line, bytes-line, line_first, unlines-lines}

-- lines
same_line_lem : (l : Line) (f : Frame) → (BadLine l → ⊥) → Says l f → (l ≡ line_of f) × OneLine f
unfolding line_of
same_line_lem l f n s =
    let g = good-line l (not_failed (is_line l) (λ e. n (bad-line l e))) in
    let e : bytes_of l ≡ s.kind ∷ s.rest = s.first.first in (
      g.written ∙ ap (λ (bs : List ℕ). ended (hex_of bs)) (e ∙ sym (frame-written s.holds)),
      record {
        kind = s.kind;
        rest = s.rest;
        holds = s.holds;
        bytes = subst (λ (bs : List ℕ). Each (λ b. b < 256) bs) e g.bytes;
        short = omega (arith, ap length e, g.short);
      },
    )

line-back : (f : Frame) → OneLine f → (BadLine (line_of f) → ⊥) × Says (line_of f) f
unfolding line_of
line-back f o =
    let e = frame-written o.holds in
    let i : is_line (ended (hex_of (encode f))) ≡ true = rw e (bytes-line (omega arith) o.bytes o.short) in
    let k : unhex (hex_of (encode f)) ≡ o.kind ∷ o.rest = rw e (unhex-digits o.bytes) in
    (line-good (line_of f) i, record { kind = o.kind; rest = o.rest; first = record { first = k }; holds = o.holds })

-- files
each_line : {ls : List Line} {fs : List Frame} → EachSays ls fs → ls ≡ map line_of fs
each_line EachSays.none = refl
each_line (EachSays.also {l = l} {f = f} n s w) = ap₂ ◌∷◌ (same_line_lem l f n s).0 (each_line w)

same-file : (file : List ℕ) (fs : List Frame) → EachSays (lines file) fs → file ≡ file_of fs
unfolding file_of
same-file file fs w = sym (unlines-lines file) ∙ ap unlines (each_line w)

first-line : (f : Frame) (fs : List Frame) → OneLine f → lines (file_of (f ∷ fs)) ≡ line_of f ∷ lines (file_of fs)
unfolding line_of unlines file_of
first-line f fs o = rw (frame-written o.holds) (line_first (file_of fs) o.bytes)

file-back : (fs : List Frame) → ((i : ℕ) → i < length fs → OneLine (get_or fs i end)) → EachSays (lines (file_of fs)) fs
unfolding lines unlines file_of
file-back [] h = EachSays.none
file-back (f ∷ fs) h =
    let o = h 0 (omega arith) in
    let w = line-back f o in
    let more = file-back fs (λ i l. h (suc i) (omega arith)) in
    subst (λ (ls : List Line). EachSays ls (f ∷ fs)) (sym (first-line f fs o)) (EachSays.also w.0 w.1 more)

-- lines at which nothing is wrong say frames
leads_say : {s u : State} {ls : List Line} → Leads s ls u → (fs : List Frame) × EachSays ls fs
leads_say Leads.none = ([], EachSays.none)
leads_say (Leads.also {f = f} h a d more) = let w = leads_say more in (f ∷ w.0, EachSays.also (λ b. h.fine line3 (is3 b)) a w.1)

whole-file : {file : List ℕ} {b : Block} → SaysBlock file b → Rewritten file
whole-file {file} w =
    let v = leads_say w.said in
    let said : EachSays (lines file) v.0 = rw ((cuts-exactly file w.all).1 w.cuts) v.1 in
    record { frames = v.0; said = said; same = same-file file v.0 said }

pub lossless : Lossless
lossless = record {
  encoded_back = λ k bs f e. let w = frame_found k bs f e in (frame-written w, w);
  read_back = λ k bs f w. (frame-written w, frame_finds w);
  same_line = same_line_lem;
  line_back = line-back;
  same_file = same-file;
  file_back = file-back;
  whole_file = λ file b w. whole-file w;
  reported = λ file cells room L e. whole-file ((report-exactly file cells room L).0 e).whole;
}
