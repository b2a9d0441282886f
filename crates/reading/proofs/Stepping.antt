-- One line: where its frame passed the tests, what each kind's part asks and what the whole step answers.
use mathlib.Core.Path.{◌≡◌, refl, sym, ap, ◌∙◌}
use mathlib.Core.Bool.{true}
use mathlib.Core.List.{List, []}
use Prim.Native.Nat.{ℕ, ◌+◌, ◌-◌, ◌≤◌, ◌<◌, ◌^◌}
use native.Mathlib.Omega.{arith}
use borrow.Author.Tests.{ltb-true}
use lib.ListN.{length, get_or, drop}
use lib.Dec.{ltb}
use Rattle.scope.proofs.Tests.{clash, both}
use Rattle.scope.specs.Frames.{Frame}
use Rattle.scope.specs.Blocks as scope
use Rattle.scope.specs.Blocks.{ok, refuse, enter, framed}
use Rattle.table.specs.Build.{EntersType}
use Rattle.patterns.specs.Rows.{Ready}
use Rattle.order.specs.declared.State.{State}
use Rattle.order.specs.Phases.{room_in}
use Rattle.std.specs.Prelude.{Result, Ok, Err}
use Rattle.scope.specs.declared.refusal.Refusal.{Refusal}
use Rattle.scope.specs.declared.kinds.FrameKind.{FrameKind}
use Rattle.scope.specs.Numbers.{number_of, frame_byte}
use Rattle.frames.specs.Checked.{said_kind, checked, kind_of}
use Rattle.frames.proofs.Checks.{begins}
use Rattle.reading.specs.Said.{Held, held, Says, said_step, Stepped, stops}
use Rattle.reading.specs.Enters.{EntersCtor, EntersSubject, EntersClause, ForClause, Ended}
use Rattle.reading.proofs.Framing.{Passed, passed, type-frame, constructor-frame, subject-frame, clause-frame, end_frame, byte-is, framed_is, above, some-type, last-is, sound-clause, sound-end}
use Rattle.reading.proofs.Entering.{sound-parts, type-steps, ctor-steps, subject-steps, clause-steps, end-steps}

-- what room there is, by kind
room-type : (s : State) (last : ℕ) → room_in s last 1 ≡ true → s.types < 64
unfolding room_in
room-type s last e = ltb-true s.types 64 e

room-ctor : (s : State) (last : ℕ) → room_in s last 2 ≡ true → (s.ctors < 256) × (last < 32)
unfolding room_in
room-ctor s last e = let p = both (ltb s.ctors 256) (ltb last 32) e in (ltb-true s.ctors 256 p.0, ltb-true last 32 p.1)

room-clause : (s : State) (last : ℕ) → room_in s last 4 ≡ true → s.clauses < 64
unfolding room_in
room-clause s last e = ltb-true s.clauses 64 e

-- the kind that was found, or the refusal, by the answer to the tests
kind-from : (x : scope.Step Frame) (b k : ℕ) → kind_of x b ≡ ok k → (k ≡ b) × ((f : Frame) × (x ≡ ok f))
kind-from (ok f) b k e = let i : b ≡ k = cc in (sym i, (f, refl))
kind-from (refuse n) b k e = clash (cc)

refused-from : (x : scope.Step Frame) (b n : ℕ) → kind_of x b ≡ refuse n → x ≡ refuse n
refused-from (ok f) b n e = clash (cc)
refused-from (refuse m) b n e = let i : m ≡ n = cc in ap refuse i

module _ (bytes : List ℕ) (at : ℕ) (s : State) (last : ℕ) (r : Result FrameKind Refusal) (x : said_kind r ≡ kind_of (checked s last (drop at bytes)) (get_or bytes at 0)) where
  pub as_kind : (k : FrameKind) → r ≡ Ok k → (frame_byte k ≡ get_or bytes at 0) × ((f : Frame) × (checked s last (drop at bytes) ≡ ok f))
  as_kind k e = kind-from (checked s last (drop at bytes)) (get_or bytes at 0) (frame_byte k) (sym x ∙ ap said_kind e)

  pub as_refused : (e : Refusal) → r ≡ Err e → checked s last (drop at bytes) ≡ refuse (number_of e)
  as_refused e is = refused-from (checked s last (drop at bytes)) (get_or bytes at 0) (number_of e) (sym x ∙ ap said_kind is)

module _ {h : Held} {s : State} {σ : scope.State} (w : Says h s σ) (last : ℕ) (last_is : 0 < s.types → last ≡ get_or h.counts (s.types - 1) 0) (at : ℕ) where
  -- a fault before what the frame adds
  pub line_refused : {h' : Held} (n : ℕ) → checked s last (drop at h.bytes) ≡ refuse n → Stepped h' (refuse n) (framed σ (drop at h.bytes))
  line_refused n e = rw (framed_is w last last_is (drop at h.bytes), e) (stops n)

  -- the numbers are small
  pub few-types : s.types ≤ 64
  few-types = omega (arith, w.holds.shape.few, w.holds.types_are)

  pub few-fields : s.fields < 2 ^ 32
  few-fields = omega (arith, w.holds.shape.few, w.holds.types_are, w.holds.short, w.few)

  module _ (inside : at < length h.bytes) (k : ℕ) (here : k ≡ get_or h.bytes at 0) (f : Frame) (fine : checked s last (drop at h.bytes) ≡ ok f) where
    -- what the frame adds is what the line does
    entered : {h' : Held} {r : scope.Step State} → Stepped h' r (enter σ.block f) → Stepped h' r (framed σ (drop at h.bytes))
    entered e = rw (framed_is w last last_is (drop at h.bytes), fine) e

    past : (j : ℕ) → k ≡ j → Passed s last j (drop (at + 1) h.bytes) f
    past j e = passed s last j (drop (at + 1) h.bytes) f (ap (checked s last) (sym (begins h.bytes at j inside (sym e ∙ here))) ∙ fine)

    pub type_asks : k ≡ 1 → s.types < 64
    type_asks e = room-type s last (past 1 e).room_here

    pub ctor_asks : k ≡ 2 → (0 < s.types) × ((s.ctors < 256) × (get_or h.counts (s.types - 1) 0 < 32))
    ctor_asks e =
        let p = past 2 e in
        let t = some-type w p.stands_here in
        let r = room-ctor s last p.room_here in
        (t, (r.0, omega (arith, last_is t, r.1)))

    clause-ready : k ≡ 4 → length h.bytes ≤ 24576 → length h.bytes ≤ at + 640 → (stack : List ℕ) → 1920 ≤ length stack → Ready h.bytes (at + 1) s.subject h.fields stack h.nodes s.used
    clause-ready e short line stack long =
        let z = w.sized in
        let p = past 4 e in
        let c = clause-frame (drop (at + 1) h.bytes) f p.reads in
        let sub = (sound-parts σ.block.table σ.block.subject (sound-clause w p.stands_here)).0 in
        record {
          short = omega arith;
          in_bytes = omega arith;
          line = omega arith;
          shaped = record { raws = c.0; read = c.1.1 };
          subject_low = omega (arith, sub, w.subject_is, w.holds.shape.few);
          fields_short = omega (arith, z.fields_long);
          stack_long = long;
          nodes_short = omega (arith, z.nodes_long);
          room = omega (arith, z.nodes_long, w.rows_are.packed, w.rows_are.short, w.rows_are.few);
        }

    pub clause_asks : k ≡ 4 → length h.bytes ≤ 24576 → length h.bytes ≤ at + 640 → ForClause h.bytes (at + 1) s h.fields h.nodes
    clause_asks e short line =
        record { ready = clause-ready e short line; packed = w.rows_are.packed ∙ ap (λ (n : ℕ). s.count + n) (sym w.clauses_are); few = room-clause s last (past 4 e).room_here; short = w.rows_are.short }

    module _ (short : length h.bytes ≤ 24576) where
      pub type-line : k ≡ 1 → (r : State) {kinds' counts' arities' starts' names' fields' labels' : List ℕ} → EntersType h.bytes (at + 1) s h.kinds h.counts h.arities h.starts h.fields kinds' counts' arities' starts' fields' r → names' ≡ h.names → labels' ≡ h.labels
          → Stepped (held h.bytes kinds' counts' arities' starts' names' fields' labels' h.nodes h.left h.rows) (ok r) (framed σ (drop at h.bytes))
      type-line e r x n l =
          let p = type-frame (drop (at + 1) h.bytes) f (past 1 e).reads in
          entered (rw p.1.0 (type-steps w (at + 1) r x n l (type_asks e) p.0 p.1.1))

      pub ctor-line : k ≡ 2 → (r : Result State Refusal) {kinds' counts' arities' starts' names' fields' labels' : List ℕ} → EntersCtor h.bytes (at + 1) s h.counts h.arities h.starts h.names h.fields h.labels counts' arities' starts' names' fields' labels' r → kinds' ≡ h.kinds
          → Stepped (held h.bytes kinds' counts' arities' starts' names' fields' labels' h.nodes h.left h.rows) (said_step r) (framed σ (drop at h.bytes))
      ctor-line e r x n =
          let q = past 2 e in
          let p = constructor-frame (drop (at + 1) h.bytes) f q.reads in
          let m = room-ctor s last q.room_here in
          entered (rw p.1.0 (ctor-steps w (at + 1) r x n (above w q.stands_here) m.0 (omega (arith, last-is w last last_is q.stands_here, m.1)) (omega arith) (omega arith) p.0 p.1.1))

      pub subject-line : k ≡ 3 → (r : Result State Refusal) → EntersSubject h.bytes (at + 1) s h.kinds h.counts h.arities h.starts h.fields r → Stepped h (said_step r) (framed σ (drop at h.bytes))
      subject-line e r x =
          let p = subject-frame (drop (at + 1) h.bytes) f (past 3 e).reads in
          entered (rw p.1.0 (subject-steps w (at + 1) r x p.0 (byte-is h.bytes (at + 1) p.0 [] p.1.1)))

      pub clause-line : k ≡ 4 → (r : Result State Refusal) {nodes' left' rows' : List ℕ} → EntersClause h.bytes (at + 1) s h.kinds h.counts h.arities h.starts h.fields h.nodes h.left h.rows nodes' left' rows' r
          → Stepped (held h.bytes h.kinds h.counts h.arities h.starts h.names h.fields h.labels nodes' left' rows') (said_step r) (framed σ (drop at h.bytes))
      clause-line e r x =
          let q = past 4 e in
          let p = clause-frame (drop (at + 1) h.bytes) f q.reads in
          entered (rw p.1.0 (clause-steps w (sound-clause w q.stands_here) (at + 1) p.0 p.1.1 r x (room-clause s last q.room_here)))

      pub end_line : k ≡ 5 → (r : State) → Ended s r → Stepped h (ok r) (framed σ (drop at h.bytes))
      end_line e r x =
          let q = past 5 e in
          entered (rw (end_frame (drop (at + 1) h.bytes) f q.reads) (end-steps w (sound-end w q.stands_here) r x))
