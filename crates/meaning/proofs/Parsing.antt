-- What a file says is sound: the table has passed refusal 7's test, and every clause is a pattern of the subject's type with literals as a file has them.
use mathlib.Core.Path.{◌≡◌, refl, sym, ◌∙◌}
use mathlib.Core.List.{List, [], ◌∷◌, ◌++◌}
use mathlib.Core.Bool.{Bool, true, false, cond}
use mathlib.Core.Option.{Option, none, some}
use Prim.Native.Nat.{ℕ, zero, suc, ◌+◌}
use lib.ListN.{length}
use lib.Dec.{leb, eqb}
use Rattle.scope.specs.Limits.{max_nodes}
use Rattle.scope.specs.Lists.{all, any}
use Rattle.scope.specs.Lines.{Line, is_line, bytes_of}
use Rattle.scope.specs.Types.{Ref, Ctor, Ty, kind, Table}
use Rattle.scope.specs.Patterns.{Raw}
use Rattle.scope.specs.Simplify.{Row, Matrix, simplify}
use Rattle.laws.specs.Typed.{Typed, TypedRows, no_rows, also}
use Rattle.scope.specs.Frames.{Read, fault, found, and_then, give, byte, type_frame, constructor_frame, patterns, Frame, type_of, constructor_of, subject_of, clause_of, end, is_kind, frame}
use Rattle.scope.specs.Blocks.{Block, Phase, types, constructors, clauses, closed, standing, State, start, Step, ok, refuse, ◌>>=◌, need, wholly, suited, nodes_in, stands, has_room, is_fresh, is_sound, enter, framed, line_step, Parsed, parsed, finish, go_on, parse, block_of}
use Rattle.meaning.specs.Values.{is_byte, admits}
use Rattle.scope.proofs.Tests.{clash, both, and-true}
use Rattle.laws.proofs.Typing.{simplify-typed}
use Rattle.meaning.proofs.Literals.{line-bytes, good_raw, patterns-good}
use Rattle.meaning.proofs.Simplified.{simplify-good}

-- a block with a subject
pub record Good (b : Block) : Type 0 where
  pub sound : is_sound b.table b.subject ≡ true
  pub typed : TypedRows b.table (b.subject ∷ []) b.rows
  pub admitted : all (all admits) b.rows ≡ true

-- what holds in each phase: from the subject on the block is good
abbrev Holds : Phase → Block → Type 0
Holds types b = Unit {0}
Holds constructors b = Unit {0}
Holds clauses b = Good b
Holds closed b = Good b

-- a step that goes on keeps it
abbrev Kept : Step State → Type 0
Kept (ok s) = Holds s.phase s.block
Kept (refuse n) = Unit {0}

kept-need : (n : ℕ) (b : Bool) (f : Unit {0} → Step State) → (b ≡ true → Kept (f tt)) → Kept (need n b >>= f)
kept-need n true f h = h refl
kept-need n false f h = tt

kept-wholly : {A : Type 0} (x : Read A) (f : A → Step State) → ((a : A) → x ≡ found a [] → Kept (f a)) → Kept (wholly x >>= f)
kept-wholly (fault bs) f h = tt
kept-wholly (found a []) f h = h a refl
kept-wholly (found a (b ∷ bs)) f h = tt

kept-suited : (o : Option Row) (f : Row → Step State) → ((r : Row) → o ≡ some r → Kept (f r)) → Kept (suited o >>= f)
kept-suited none f h = tt
kept-suited (some r) f h = h r refl

-- what the frame of each kind holds
data Held : ℕ → Frame → Type 0 where
  a_type : {ty : Ty} → Held 1 (type_of ty)
  a_ctor : {c : Ctor} → Held 2 (constructor_of c)
  a_subject : {t : Ref} → Held 3 (subject_of t)
  a_clause : {ps : List Raw} → all good_raw ps ≡ true → Held 4 (clause_of ps)
  an_end : Held 5 end

-- a frame that is made of what was read
made_of : {A : Type 0} {k : ℕ} (x : Read A) (g : A → Frame) (f : Frame) (rest : List ℕ) → ((a : A) (mid : List ℕ) → x ≡ found a mid → Held k (g a)) → and_then x (λ a. give (g a)) ≡ found f rest → Held k f
made_of (fault bs) g f rest h e = clash (cc)
made_of (found a bs) g f rest h e = let i : g a ≡ f = cc in rw (← i) (h a bs refl)

frame-held : (k : ℕ) (bs : List ℕ) (f : Frame) → all is_byte bs ≡ true → frame k bs ≡ found f [] → Held k f
unfolding frame
frame-held zero bs f h e = clash (cc)
frame-held (suc zero) bs f h e = made_of (type_frame bs) type_of f [] (λ ty mid i. a_type) e
frame-held (suc (suc zero)) bs f h e = made_of (constructor_frame bs) constructor_of f [] (λ c mid i. a_ctor) e
frame-held (suc (suc (suc zero))) bs f h e = made_of (byte bs) subject_of f [] (λ t mid i. a_subject) e
frame-held (suc (suc (suc (suc zero)))) bs f h e = made_of (patterns 1 bs) clause_of f [] (λ ps mid i. a_clause (patterns-good 1 bs ps mid h i)) e
frame-held (suc (suc (suc (suc (suc zero))))) bs f h e = let i : end ≡ f = cc in rw (← i) an_end
frame-held (suc (suc (suc (suc (suc (suc k)))))) bs f h e = clash (cc)

-- a clause and the end stand only after the subject
at-clause : (p : Phase) (b : Block) → any (eqb 4) (standing p) ≡ true → Holds p b → Good b
at-clause types b s h = clash (cc)
at-clause constructors b s h = clash (cc)
at-clause clauses b s h = h
at-clause closed b s h = clash (cc)

at-end : (p : Phase) (b : Block) → any (eqb 5) (standing p) ≡ true → Holds p b → Good b
at-end types b s h = clash (cc)
at-end constructors b s h = clash (cc)
at-end clauses b s h = h
at-end closed b s h = clash (cc)

after-type : (x : Bool) (b : Block) → Holds (cond x constructors types) b
after-type true b = tt
after-type false b = tt

typed_append : {table : Table} {ts : List Ref} {m : Matrix} {r : Row} → TypedRows table ts m → Typed table ts r → TypedRows table ts (m ++ r ∷ [])
typed_append no_rows k = also k no_rows
typed_append (also h a) k = also h (typed_append a k)

admits_append : (m : Matrix) (r : Row) → all (all admits) m ≡ true → all admits r ≡ true → all (all admits) (m ++ r ∷ []) ≡ true
admits_append [] r h k = and-true k refl
admits_append (q ∷ m) r h k = let p = both (all admits q) (all (all admits) m) h in and-true p.0 (admits_append m r p.1 k)

enter-kept : (s : State) (k : ℕ) (f : Frame) → stands s k ≡ true → Holds s.phase s.block → Held k f → Kept (enter s.block f)
unfolding enter stands
enter-kept s k f st h (a_type {ty = ty}) = after-type (eqb (kind ty) 6) _
enter-kept s k f st h (a_ctor {c = c}) = kept-need 7 (is_fresh s.block.table c) _ (λ _. tt)
enter-kept s k f st h (a_subject {t = t}) = kept-need 7 (is_sound s.block.table t) _ (λ i. record { sound = i; typed = no_rows; admitted = refl })
enter-kept s k f st h (a_clause {ps = ps} g) =
    let b = s.block in
    let w = at-clause s.phase b st h in
    kept-suited (simplify b.table b.subject ps) _ (λ r e.
    kept-need 9 (leb (nodes_in b.rows + length r) max_nodes) _ (λ _. record {
      sound = w.sound;
      typed = typed_append w.typed (simplify-typed b.table b.subject ps r e);
      admitted = admits_append b.rows r w.admitted (simplify-good b.table b.subject ps r g e);
    }))
enter-kept s k f st h an_end = at-end s.phase s.block st h

framed_kept : (s : State) (bs : List ℕ) → all is_byte bs ≡ true → Holds s.phase s.block → Kept (framed s bs)
unfolding framed
framed_kept s [] g h = tt
framed_kept s (k ∷ bs) g h =
    kept-need 4 (is_kind k) _ (λ _.
    kept-need 5 (stands s k) _ (λ st.
    kept-need 6 (has_room s.block k) _ (λ _.
    kept-wholly (frame k bs) _ (λ f e. enter-kept s k f st h (frame-held k bs f (both (is_byte k) (all is_byte bs) g).1 e)))))

line_kept : (s : State) (l : Line) → Holds s.phase s.block → Kept (line_step s l)
unfolding line_step
line_kept s l h = kept-need 3 (is_line l) _ (λ i. framed_kept s (bytes_of l) (line-bytes l i) h)

finish-good : (k : ℕ) (p : Phase) (c b : Block) → Holds p c → finish k (record { phase = p; block = c }) ≡ parsed b → Good b
finish-good k types c b h e = clash (cc)
finish-good k constructors c b h e = clash (cc)
finish-good k clauses c b h e = clash (cc)
finish-good k closed c b h e = let i : c ≡ b = cc in rw (← i) h

parse-good : (ls : List Line) (k : ℕ) (s : State) (b : Block) → Holds s.phase s.block → parse k s ls ≡ parsed b → Good b
unfolding parse
parse-good [] k s b h e = finish-good k s.phase s.block b h e
parse-good (l ∷ ls) k s b h e = go (line_step s l) (line_kept s l h) e (λ s' h' e'. parse-good ls (suc k) s' b h' e')
  where
    go : (x : Step State) → Kept x → go_on k x (λ s'. parse (suc k) s' ls) ≡ parsed b → ((s' : State) → Holds s'.phase s'.block → parse (suc k) s' ls ≡ parsed b → Good b) → Good b
    go (ok s') h' e' more = more s' h' e'
    go (refuse n) h' e' more = clash (cc)

-- the block that a file says is good
pub block-good : (ls : List Line) (b : Block) → block_of ls ≡ parsed b → Good b
unfolding block_of
block-good ls b e = parse-good ls 1 start b tt e

-- the block that a file says is one
pub same_block : {p : Parsed} {a b : Block} → p ≡ parsed a → p ≡ parsed b → a ≡ b
same_block {a = a} {b = b} i j = let e : parsed a ≡ parsed b = sym i ∙ j in cc
