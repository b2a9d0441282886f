-- A line's tests by the code's numbers are those of the definitions, and what a frame that passed them holds.
use mathlib.Core.Path.{◌≡◌, refl, sym, ap, ap₂, ◌∙◌}
use mathlib.Core.Bool.{Bool, true, false, ◌&&◌}
use mathlib.Core.List.{List, [], ◌∷◌}
use mathlib.Core.Option.{Option}
use Prim.Native.Nat.{ℕ, zero, suc, ◌-◌, ◌<◌}
use native.Mathlib.Omega.{arith}
use lib.ListN.{length, get_or, drop}
use lib.Dec.{ltb, eqb}
use Rattle.scope.proofs.Tests.{clash}
use Rattle.scope.specs.Lists.{any}
use Rattle.scope.specs.Types.{Ty, Ctor, Ref, last_declared}
use Rattle.scope.specs.Patterns.{Raw}
use Rattle.scope.specs.Frames.{Read, fault, found, and_then, give, byte, type_frame, constructor_frame, patterns, Frame, type_of, constructor_of, subject_of, clause_of, end, is_kind, frame}
use Rattle.scope.specs.Blocks as scope
use Rattle.scope.specs.Blocks.{Block, Phase, types, constructors, clauses, closed, standing, Step, ok, ◌>>=◌, need, wholly, is_sound, stands, has_room, enter, framed}
use Rattle.table.specs.Build.{EndsInData}
use Rattle.table.proofs.CtorMeans.{last-type, last-declared}
use Rattle.order.specs.declared.State.{State}
use Rattle.order.specs.Phases.{standing_at, stands_in, room_in}
use Rattle.frames.specs.Checked.{checked}
use Rattle.reading.specs.Said.{Held, InPhase, Says}

-- what stands in which phase
pub at-constructor : (p : Phase) (b : Block) → any (eqb 2) (standing p) ≡ true → InPhase p b → EndsInData b.table
at-constructor types b s h = clash (cc)
at-constructor constructors b s h = h
at-constructor clauses b s h = clash (cc)
at-constructor closed b s h = clash (cc)

pub at-clause : (p : Phase) (b : Block) → any (eqb 4) (standing p) ≡ true → InPhase p b → is_sound b.table b.subject ≡ true
at-clause types b s h = clash (cc)
at-clause constructors b s h = clash (cc)
at-clause clauses b s h = h
at-clause closed b s h = clash (cc)

pub at-end : (p : Phase) (b : Block) → any (eqb 5) (standing p) ≡ true → InPhase p b → is_sound b.table b.subject ≡ true
at-end types b s h = clash (cc)
at-end constructors b s h = clash (cc)
at-end clauses b s h = h
at-end closed b s h = clash (cc)

-- a test after another
need-ok : {A : Type 0} (n : ℕ) (b : Bool) (x : Step A) (a : A) → (need n b >>= (λ _. x)) ≡ ok a → (b ≡ true) × (x ≡ ok a)
need-ok n true x a e = (refl, e)
need-ok n false x a e = clash (cc)

wholly-ok : {A : Type 0} (x : Read A) (a : A) → wholly x ≡ ok a → x ≡ found a []
wholly-ok (fault bs) a e = clash (cc)
wholly-ok (found b []) a e = let i : b ≡ a = cc in ap (λ c. found c []) i
wholly-ok (found b (c ∷ bs)) a e = clash (cc)

-- a frame that passed every test
pub record Passed (s : State) (last k : ℕ) (bs : List ℕ) (f : Frame) : Type 0 where
  pub known : is_kind k ≡ true
  pub stands_here : stands_in s.phase k ≡ true
  pub room_here : room_in s last k ≡ true
  pub reads : frame k bs ≡ found f []

pub passed : (s : State) (last k : ℕ) (bs : List ℕ) (f : Frame) → checked s last (k ∷ bs) ≡ ok f → Passed s last k bs f
unfolding checked
passed s last k bs f e =
    let a = need-ok 4 (is_kind k) _ f e in
    let b = need-ok 5 (stands_in s.phase k) _ f a.1 in
    let c = need-ok 6 (room_in s last k) _ f b.1 in
    record { known = a.0; stands_here = b.0; room_here = c.0; reads = wholly-ok (frame k bs) f c.1 }

-- what the frame of each kind holds
made_of : {A : Type 0} (x : Read A) (g : A → Frame) (f : Frame) → and_then x (λ a. give (g a)) ≡ found f [] → (a : A) × ((f ≡ g a) × (x ≡ found a []))
made_of (fault bs) g f e = clash (cc)
made_of (found a bs) g f e = let i : bs ≡ [] = cc in let j : f ≡ g a = cc in (a, (j, ap (found a) i))

module _ (bs : List ℕ) (f : Frame) where
  pub type-frame : frame 1 bs ≡ found f [] → (ty : Ty) × ((f ≡ type_of ty) × (type_frame bs ≡ found ty []))
  unfolding frame
  type-frame e = made_of (type_frame bs) type_of f e

  pub constructor-frame : frame 2 bs ≡ found f [] → (c : Ctor) × ((f ≡ constructor_of c) × (constructor_frame bs ≡ found c []))
  unfolding frame
  constructor-frame e = made_of (constructor_frame bs) constructor_of f e

  pub subject-frame : frame 3 bs ≡ found f [] → (t : Ref) × ((f ≡ subject_of t) × (byte bs ≡ found t []))
  unfolding frame
  subject-frame e = made_of (byte bs) subject_of f e

  pub clause-frame : frame 4 bs ≡ found f [] → (ps : List Raw) × ((f ≡ clause_of ps) × (patterns 1 bs ≡ found ps []))
  unfolding frame
  clause-frame e = made_of (patterns 1 bs) clause_of f e

  pub end_frame : frame 5 bs ≡ found f [] → f ≡ end
  unfolding frame
  end_frame e = cc

pub byte-is : (bytes : List ℕ) (at : ℕ) (t : Ref) (rest : List ℕ) → byte (drop at bytes) ≡ found t rest → t ≡ get_or bytes at 0
byte-is [] zero t rest e = clash (cc)
byte-is [] (suc at) t rest e = clash (cc)
byte-is (b ∷ bytes) zero t rest e = cc
byte-is (b ∷ bytes) (suc at) t rest e = byte-is bytes at t rest e

-- The tests are those of the definitions
again : {A B : Type 0} (c : Bool) (y : Step A) (g : A → Step B) → (need 6 c >>= (λ _. y >>= g)) ≡ ((need 6 c >>= (λ _. y)) >>= g)
again true y g = refl
again false y g = refl

chain : {A B : Type 0} (a b b' c c' : Bool) (y : Step A) (g : A → Step B) → b ≡ b' → (b' ≡ true → c ≡ c') → (need 4 a >>= (λ _. need 5 b >>= (λ _. need 6 c >>= (λ _. y >>= g)))) ≡ ((need 4 a >>= (λ _. need 5 b' >>= (λ _. need 6 c' >>= (λ _. y)))) >>= g)
chain false b b' c c' y g e h = refl
chain true b true c c' y g e h = rw (e, h refl) (again c' y g)
chain true b false c c' y g e h = rw e

module _ {h : Held} {s : State} {σ : scope.State} (w : Says h s σ) where
  pub stands-is : (k : ℕ) → stands σ k ≡ stands_in s.phase k
  unfolding stands stands_in
  stands-is k = ap (λ (p : Option Phase). any (eqb k) (standing_at p)) (sym w.phase_is)

  pub types_are : s.types ≡ length σ.block.table
  types_are = w.holds.types_are

  -- the data type just above a constructor
  pub above : stands_in s.phase 2 ≡ true → EndsInData σ.block.table
  unfolding stands_in
  above a = at-constructor σ.phase σ.block (ap (λ (p : Option Phase). any (eqb 2) (standing_at p)) (sym w.phase_is) ∙ a) w.in_phase

  pub sound-clause : stands_in s.phase 4 ≡ true → is_sound σ.block.table σ.block.subject ≡ true
  unfolding stands_in
  sound-clause a = at-clause σ.phase σ.block (ap (λ (p : Option Phase). any (eqb 4) (standing_at p)) (sym w.phase_is) ∙ a) w.in_phase

  pub sound-end : stands_in s.phase 5 ≡ true → is_sound σ.block.table σ.block.subject ≡ true
  unfolding stands_in
  sound-end a = at-end σ.phase σ.block (ap (λ (p : Option Phase). any (eqb 5) (standing_at p)) (sym w.phase_is) ∙ a) w.in_phase

  pub some-type : stands_in s.phase 2 ≡ true → 0 < s.types
  some-type a = omega (arith, last-type w.holds (above a))

  module _ (last : ℕ) (last_is : 0 < s.types → last ≡ get_or h.counts (s.types - 1) 0) where
    pub last-is : stands_in s.phase 2 ≡ true → last ≡ length (last_declared σ.block.table)
    last-is a = last_is (some-type a) ∙ last-declared w.holds (above a)

    room-is : (k : ℕ) → stands_in s.phase k ≡ true → has_room σ.block k ≡ room_in s last k
    unfolding has_room room_in
    room-is zero a = refl
    room-is (suc zero) a = ap (λ n. ltb n 64) (sym types_are)
    room-is (suc (suc zero)) a = ap₂ (λ m n. ltb m 256 && ltb n 32) (sym w.holds.made-are) (sym (last-is a))
    room-is (suc (suc (suc zero))) a = refl
    room-is (suc (suc (suc (suc zero)))) a = ap (λ n. ltb n 64) (sym w.clauses_are)
    room-is (suc (suc (suc (suc (suc k))))) a = refl

    pub framed_is : (bs : List ℕ) → framed σ bs ≡ (checked s last bs >>= enter σ.block)
    unfolding framed checked
    framed_is [] = refl
    framed_is (k ∷ bs) = chain (is_kind k) (stands σ k) (stands_in s.phase k) (has_room σ.block k) (room_in s last k) (wholly (frame k bs)) (enter σ.block) (stands-is k) (room-is k)
