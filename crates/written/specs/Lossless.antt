-- Nothing is lost: what was read, written again, is the same bytes; what was written, read again, is the same frames.
use Rattle.std.specs.Prelude.{List, [], ◌∷◌, ◌≡◌, ℕ, ◌*◌, ◌≤◌, ◌<◌, length, get_or}
use Rattle.scope.specs.declared.Answer.TheVariants.{Report}
use Rattle.scope.specs.Lines.{Line, lines}
use Rattle.scope.specs.Frames.{found, Frame, end, frame}
use Rattle.scope.specs.Blocks.{Block}
use Rattle.scope.specs.Answer.{answer}
use Rattle.refusals.specs.Bytes.{Each, FrameBytes}
use Rattle.refusals.specs.Refusals.{BadLine, Says, SaysBlock}
use Rattle.written.specs.Writing.{encode, line_of, file_of}

-- a frame that one line can say: document 01's frame table has bytes for it, they are bytes, and they make at most 1,280 digits
pub record OneLine (f : Frame) : Type 0 where
  pub kind : ℕ
  pub rest : List ℕ
  pub holds : FrameBytes kind f rest
  pub bytes : Each (λ b. b < 256) (kind ∷ rest)
  pub short : 2 * length (kind ∷ rest) ≤ 1280

-- lines of which none is 3 say these frames, one each
pub data EachSays : List Line → List Frame → Type 0 where
  none : EachSays [] []
  also : {l : Line} {f : Frame} {ls : List Line} {fs : List Frame} → (BadLine l → ⊥) → Says l f → EachSays ls fs → EachSays (l ∷ ls) (f ∷ fs)

-- the lines of a file say frames, and the file is these frames written, byte for byte
pub record Rewritten (file : List ℕ) : Type 0 where
  pub frames : List Frame
  pub said : EachSays (lines file) frames
  pub same : file ≡ file_of frames

-- Nothing is lost, whatever the kind of frame and of pattern
pub record Lossless : Type 0 where
  -- encoding what was read, no bytes over, gives the bytes back; and all that is read is in the frame table
  pub encoded_back : (k : ℕ) (bs : List ℕ) (f : Frame) → frame k bs ≡ found f [] → (encode f ≡ k ∷ bs) × FrameBytes k f bs
  -- what the frame table writes is what is encoded, and reading it gives the frame back
  pub read_back : (k : ℕ) (bs : List ℕ) (f : Frame) → FrameBytes k f bs → (encode f ≡ k ∷ bs) × (frame k bs ≡ found f [])
  -- a line that is not 3 and says a frame is that frame's line
  pub same_line : (l : Line) (f : Frame) → (BadLine l → ⊥) → Says l f → (l ≡ line_of f) × OneLine f
  -- a frame's line is not 3 and says the frame, if one line can
  pub line_back : (f : Frame) → OneLine f → (BadLine (line_of f) → ⊥) × Says (line_of f) f
  -- a file whose lines say frames is these frames' file
  pub same_file : (file : List ℕ) (fs : List Frame) → EachSays (lines file) fs → file ≡ file_of fs
  -- the lines of frames' file say these frames, if one line can say each
  pub file_back : (fs : List Frame) → ((i : ℕ) → i < length fs → OneLine (get_or fs i end)) → EachSays (lines (file_of fs)) fs
  -- a file of which no line is at fault is its frames written again (10 or 11 may still refuse it)
  pub whole_file : (file : List ℕ) (b : Block) → SaysBlock file b → Rewritten file
  -- so is every file that gets a report
  pub reported : (file : List ℕ) (cells room L : ℕ) → answer file cells room ≡ Report L → Rewritten file
