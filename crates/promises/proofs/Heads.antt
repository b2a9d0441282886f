-- Files that begin with the same lines up to the subject's have the same types and subject: from how one line leads to the next state.
use mathlib.Core.Path.{◌≡◌, refl, sym, subst, ◌∙◌}
use mathlib.Core.Logic.{◌⊎◌, inl, inr}
use mathlib.Core.List.{List, [], ◌∷◌, ◌++◌}
use Prim.Native.Nat.{ℕ}
use native.Mathlib.Omega.{arith}
use Rattle.scope.specs.Lines.{Line}
use Rattle.scope.specs.Types.{Ref}
use Rattle.scope.specs.Frames.{Frame, type_of, constructor_of, subject_of, clause_of, end, type_frames, constructor_frames, subject_frames, clause_frames, end_frames}
use Rattle.scope.specs.Blocks.{Block, Phase, clauses, closed, State, start, ok}
use Rattle.refusals.specs.Bytes.{FrameBytes}
use Rattle.refusals.specs.Cut.{Cuts}
use Rattle.refusals.specs.Refusals.{Says, KindIs, Stands, Wrong, place5, Fine, Adds, Leads}
use Rattle.promises.specs.Reviews.{Review, the_block, SameTypes, SameHead}
use Rattle.refusals.proofs.Cutting.{cuts-exactly}
use Rattle.refusals.proofs.Judged.{says_same, line-goes}

-- the kind of a frame's line
abbrev frame_kind : Frame → ℕ
frame_kind (type_of ty) = type_frames
frame_kind (constructor_of c) = constructor_frames
frame_kind (subject_of t) = subject_frames
frame_kind (clause_of ps) = clause_frames
frame_kind end = end_frames

kind-is : {k : ℕ} {f : Frame} {bs : List ℕ} → FrameBytes k f bs → k ≡ frame_kind f
kind-is (FrameBytes.type_of w) = refl
kind-is (FrameBytes.constructor_of w) = refl
kind-is FrameBytes.subject_of = refl
kind-is (FrameBytes.clause_of w) = refl
kind-is FrameBytes.end = refl

-- past the subject only clauses and the end stand
data Past : Phase → Type 0 where
  in_clauses : Past clauses
  at_end : Past closed

late : {p : Phase} {k : ℕ} → Past p → Stands p k → (k ≡ clause_frames) ⊎ (k ≡ end_frames)
late in_clauses Stands.a_clause = inl refl
late in_clauses Stands.the_end = inr refl
late at_end h = elim h [ ]

early : {s : State} {l : Line} {f : Frame} → Past s.phase → Fine s l → Says l f → ((frame_kind f ≡ clause_frames) ⊎ (frame_kind f ≡ end_frames) → ⊥) → ⊥
early {s} past x a n = x.fine place5 (Wrong.is5 (KindIs.kind_is a.first (record { nowhere = λ h. n (late past (subst (Stands s.phase) (kind-is a.holds) h)) })))

-- so types and subject stay
record Stays (b c : Block) : Type 0 where
  types : b.table ≡ c.table
  subject : b.subject ≡ c.subject

either_no : {k : ℕ} → (k ≡ clause_frames → ⊥) → (k ≡ end_frames → ⊥) → (k ≡ clause_frames) ⊎ (k ≡ end_frames) → ⊥
either_no f g (inl e) = f e
either_no f g (inr e) = g e

step_stays : {s s' : State} {l : Line} {f : Frame} → Past s.phase → Fine s l → Says l f → Adds s f s' → Past s'.phase × Stays s.block s'.block
step_stays past x a Adds.data_type = absurd (early past x a (either_no (λ e. omega arith) (λ e. omega arith)))
step_stays past x a (Adds.other_type n) = absurd (early past x a (either_no (λ e. omega arith) (λ e. omega arith)))
step_stays past x a Adds.ctor = absurd (early past x a (either_no (λ e. omega arith) (λ e. omega arith)))
step_stays past x a Adds.subject = absurd (early past x a (either_no (λ e. omega arith) (λ e. omega arith)))
step_stays past x a (Adds.clause e) = (in_clauses, record { types = refl; subject = refl })
step_stays past x a Adds.the_end = (at_end, record { types = refl; subject = refl })

stays : {s u : State} {ls : List Line} → Past s.phase → Leads s ls u → Stays s.block u.block
stays past Leads.none = record { types = refl; subject = refl }
stays past (Leads.also x a d more) =
    let w = step_stays past x a d in
    let v = stays w.0 more in
    record { types = w.1.types ∙ v.types; subject = w.1.subject ∙ v.subject }

-- two ways on from the same line
after-subject : {s s' : State} {l : Line} {f : Frame} {t : Ref} → Says l (subject_of t) → Says l f → Adds s f s' → Past s'.phase
after-subject {s} {s'} x a d = go (subst (λ (g : Frame). Adds s g s') (says_same a x) d)
  where
    go : {t : Ref} {v : State} → Adds s (subject_of t) v → Past v.phase
    go Adds.subject = in_clauses

one_state : {s u v : State} {l : Line} {f g : Frame} → Fine s l → Says l f → Adds s f u → Says l g → Adds s g v → u ≡ v
one_state {u = u} {v = v} x a d b e = let h : ok u ≡ ok v = sym (line-goes x a d) ∙ line-goes x b e in cc

meet : {s u v : State} {last : Line} {t : Ref} (head rest rest' : List Line) → Says last (subject_of t) → Leads s (head ++ last ∷ rest) u → Leads s (head ++ last ∷ rest') v → Stays u.block v.block
meet {v = v} [] rest rest' says (Leads.also {s' = a} x p d more) (Leads.also {s' = b} y q e others) =
    let past = after-subject says p d in
    let same : b ≡ a = one_state y q e p d in
    let one = stays past more in
    let other : Stays a.block v.block = stays past (subst (λ (z : State). Leads z rest' v) same others) in
    record { types = sym one.types ∙ other.types; subject = sym one.subject ∙ other.subject }
meet {v = v} {last = last} (l ∷ head) rest rest' says (Leads.also {s' = a} x p d more) (Leads.also {s' = b} y q e others) =
    let same : b ≡ a = one_state y q e p d in
    meet head rest rest' says more (subst (λ (z : State). Leads z (head ++ last ∷ rest') v) same others)

-- a file is cut in one way
one-cut : {file : List ℕ} {ls ms : List Line} → Cuts file ls → Cuts file ms → ls ≡ ms
one-cut {file} {ls} {ms} a b = sym ((cuts-exactly file ls).1 a) ∙ (cuts-exactly file ms).1 b

pub begins-alike : (r s : Review) → SameHead r.file s.file → SameTypes r s
begins-alike r s h =
    let a = r.report.due.whole in
    let b = s.report.due.whole in
    let w = meet h.head h.rest h.rest' h.says
    (subst (λ (ls : List Line). Leads start ls (record { phase = closed; block = the_block r })) (one-cut a.cuts h.one) a.said)
    (subst (λ (ls : List Line). Leads start ls (record { phase = closed; block = the_block s })) (one-cut b.cuts h.other) b.said) in
    record { types = w.types; subject = w.subject }
