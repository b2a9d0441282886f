-- One line, from the tests of each stage: the definition goes on exactly where nothing is wrong with it, else refuses with the number of the first fault.
use mathlib.Core.Path.{◌≡◌, refl, ap, sym, subst, ◌∙◌}
use mathlib.Core.List.{List, [], ◌∷◌, ◌++◌}
use mathlib.Core.Bool.{Bool, true, false}
use mathlib.Core.Option.{Option, none, some}
use Prim.Native.Nat.{ℕ, suc, ◌+◌, ◌≤◌, ◌<◌}
use native.Mathlib.Nat.{not-suc-le-zero}
use native.Mathlib.Omega.{arith}
use lib.ListN.{length, get_or}
use lib.Dec.{leb, ltb}
use borrow.Author.Tests.{leb-true, leb-false, ltb-true, ltb-false}
use Rattle.scope.specs.Lines.{Line, is_line}
use Rattle.scope.specs.Types.{Ty, integer, byte_string, opaque, list, tuple, pair, dat, kind}
use Rattle.scope.specs.Patterns.{Raw}
use Rattle.scope.specs.Simplify.{Row, simplify}
use Rattle.scope.specs.Frames.{Read, fault, found, Frame, type_of, constructor_of, subject_of, clause_of, end, is_kind, frame}
use Rattle.scope.specs.Blocks.{State, Step, ok, refuse, ◌>>=◌, need, wholly, suited, nodes_in, stands, has_room, is_fresh, is_sound, after_type, with_table, with_row, enter, framed, line_step}
use Rattle.refusals.specs.Suits.{Suits}
use Rattle.refusals.specs.Refusals.{BadLine, Kind, Says, KindIs, kind_is, FrameIs, frame_is, Unknown, Stands, OutOfPlace, Over, Clashes, Unsuited, unsuited, OverNodes, nodes4096, Fault, line3, kind4, place5, over6, rest4, clash7, suit8, nodes9, place, Wrong, is3, is4, is5, is6, is_rest4, is7, is8, is9, Fine, Adds}
use Rattle.scope.proofs.Tests.{clash}
use Rattle.refusals.proofs.Framed.{frame_found, frame_finds}
use Rattle.refusals.proofs.Suiting.{simplify-suits, suits-simplify}
use Rattle.refusals.proofs.Stages.{bad-line, line-good, first_byte, not-kind, is-kind, stands-is, is-standing, over-is, has_room_lem, fresh-false, fresh-true, sound-false, sound-true}

-- the number of a fault
abbrev pub number_of : Fault → ℕ
number_of line3 = 3
number_of kind4 = 4
number_of place5 = 5
number_of over6 = 6
number_of rest4 = 4
number_of clash7 = 7
number_of suit8 = 8
number_of nodes9 = 9

-- line l is refused with number n: that is wrong with it, and nothing that comes earlier in the order
pub record Faulty (s : State) (l : Line) (n : ℕ) : Type 0 where
  pub fault : Fault
  pub number : number_of fault ≡ n
  pub wrong : Wrong s l fault
  pub first : (g : Fault) → place g < place fault → Wrong s l g → ⊥

-- each fault has a place of its own
by_place : ℕ → Fault
by_place i = get_or (line3 ∷ kind4 ∷ place5 ∷ over6 ∷ rest4 ∷ clash7 ∷ suit8 ∷ nodes9 ∷ []) i line3

placed : (f : Fault) → by_place (place f) ≡ f
unfolding by_place
placed line3 = refl
placed kind4 = refl
placed place5 = refl
placed over6 = refl
placed rest4 = refl
placed clash7 = refl
placed suit8 = refl
placed nodes9 = refl

same_place : (f g : Fault) → place f ≤ place g → place g ≤ place f → f ≡ g
same_place f g a b = let p : place f ≡ place g = omega arith in sym (placed f) ∙ ap by_place p ∙ placed g

last-place : (f : Fault) → place f < 8
last-place line3 = omega arith
last-place kind4 = omega arith
last-place place5 = omega arith
last-place over6 = omega arith
last-place rest4 = omega arith
last-place clash7 = omega arith
last-place suit8 = omega arith
last-place nodes9 = omega arith

-- a line has one kind and says one frame
same_kind : {l : Line} {k j : ℕ} {bs cs : List ℕ} → Kind l k bs → Kind l j cs → (k ≡ j) × (bs ≡ cs)
same_kind {l} {k} {j} {bs} {cs} a b = let e : k ∷ bs ≡ j ∷ cs = sym a.first ∙ b.first in (cc, cc)

holds_at : {l : Line} {k : ℕ} {bs : List ℕ} {f : Frame} → Kind l k bs → Says l f → frame k bs ≡ found f []
holds_at a s = let w = same_kind a s.first in rw (w.0, w.1) (frame_finds s.holds)

pub says_same : {l : Line} {f g : Frame} → Says l f → Says l g → f ≡ g
says_same {l} {f} {g} s t = let e : found f [] ≡ found g [] = sym (frame_finds s.holds) ∙ holds_at s.first t in cc

other-kind : {l : Line} {k : ℕ} {bs : List ℕ} (P : ℕ → Type 0) → Kind l k bs → (P k → ⊥) → KindIs P l → ⊥
other-kind P a h (kind_is b p) = h (subst P (sym (same_kind a b).0) p)

other-frame : {l : Line} {f : Frame} (P : Frame → Type 0) → Says l f → (P f → ⊥) → FrameIs P l → ⊥
other-frame P a h (frame_is b p) = h (subst P (says_same b a) p)

-- what a type's frame adds
adds_type : (s : State) (ty : Ty) → Adds s (type_of ty) (with_table (after_type ty) (s.block.table ++ ty ∷ []))
adds_type s integer = Adds.other_type {ty = integer} (λ cs q. absurd (omega (arith, ap kind q)))
adds_type s byte_string = Adds.other_type {ty = byte_string} (λ cs q. absurd (omega (arith, ap kind q)))
adds_type s opaque = Adds.other_type {ty = opaque} (λ cs q. absurd (omega (arith, ap kind q)))
adds_type s (list e) = Adds.other_type {ty = list e} (λ cs q. absurd (omega (arith, ap kind q)))
adds_type s (tuple ts) = Adds.other_type {ty = tuple ts} (λ cs q. absurd (omega (arith, ap kind q)))
adds_type s (pair a b) = Adds.other_type {ty = pair a b} (λ cs q. absurd (omega (arith, ap kind q)))
adds_type s (dat cs) = Adds.data_type

module _ (s : State) (l : Line) where
  -- none of the faults before place p
  record Clear (p : ℕ) : Type 0 where
    clear : (g : Fault) → place g < p → Wrong s l g → ⊥

  nothing_yet : Clear 0
  nothing_yet = record { clear = λ g h. absurd (not-suc-le-zero h) }

  also-not : (f : Fault) → Clear (place f) → (Wrong s l f → ⊥) → Clear (suc (place f))
  also-not f c n = record { clear = at }
    where
      at : (g : Fault) → place g < suc (place f) → Wrong s l g → ⊥
      at g h w = go (ltb (place g) (place f)) refl
        where
          go : (b : Bool) → ltb (place g) (place f) ≡ b → ⊥
          go true e = c.clear g (ltb-true (place g) (place f) e) w
          go false e = n (subst (Wrong s l) (same_place g f (omega arith) (ltb-false (place g) (place f) e)) w)

  all-fine : Clear 8 → Fine s l
  all-fine c = record { fine = λ g w. c.clear g (last-place g) w }

  -- what a step of the definition comes to
  pub data Judged : Step State → Type 0 where
    goes : {f : Frame} {s' : State} → Fine s l → Says l f → Adds s f s' → Judged (ok s')
    stops : {n : ℕ} → Faulty s l n → Judged (refuse n)

  stop : (f : Fault) → Clear (place f) → Wrong s l f → Judged (refuse (number_of f))
  stop f c w = stops (record { fault = f; number = refl; wrong = w; first = c.clear })

  need-judged : (n : ℕ) (b : Bool) (f : Unit {0} → Step State) → (b ≡ false → Judged (refuse n)) → (b ≡ true → Judged (f tt)) → Judged (need n b >>= f)
  need-judged n true f stop go = go refl
  need-judged n false f stop go = stop refl

  -- what is not wrong
  not3 : (BadLine l → ⊥) → Wrong s l line3 → ⊥
  not3 h (is3 b) = h b

  not4 : {k : ℕ} {bs : List ℕ} → Kind l k bs → (Unknown k → ⊥) → Wrong s l kind4 → ⊥
  not4 a h (is4 w) = other-kind Unknown a h w

  not5 : {k : ℕ} {bs : List ℕ} → Kind l k bs → Stands s.phase k → Wrong s l place5 → ⊥
  not5 a h (is5 w) = other-kind (OutOfPlace s.phase) a (λ o. o.nowhere h) w

  not6 : {k : ℕ} {bs : List ℕ} → Kind l k bs → (Over s.block k → ⊥) → Wrong s l over6 → ⊥
  not6 a h (is6 w) = other-kind (Over s.block) a h w

  not_rest4 : {f : Frame} → Says l f → Wrong s l rest4 → ⊥
  not_rest4 {f} a (is_rest4 n) = n.nothing f a

  not7 : {f : Frame} → Says l f → (Clashes s.block f → ⊥) → Wrong s l clash7 → ⊥
  not7 a h (is7 w) = other-frame (Clashes s.block) a h w

  not8 : {f : Frame} → Says l f → (Unsuited s.block f → ⊥) → Wrong s l suit8 → ⊥
  not8 a h (is8 w) = other-frame (Unsuited s.block) a h w

  not9 : {f : Frame} → Says l f → (OverNodes s.block f → ⊥) → Wrong s l nodes9 → ⊥
  not9 a h (is9 w) = other-frame (OverNodes s.block) a h w

  -- where nothing clashes, suits ill or is too much
  goes_on : {f : Frame} {s' : State} → Clear 5 → Says l f → (Clashes s.block f → ⊥) → (Unsuited s.block f → ⊥) → (OverNodes s.block f → ⊥)
      → Adds s f s' → Judged (ok s')
  goes_on c a h u o d = goes (all-fine (also-not nodes9 (also-not suit8 (also-not clash7 c (not7 a h)) (not8 a u)) (not9 a o))) a d

  clause-judged : (ps : List Raw) → Clear 5 → Says l (clause_of ps) → (o : Option Row) → simplify s.block.table s.block.subject ps ≡ o
      → Judged (suited o >>= λ r. need 9 (leb (nodes_in s.block.rows + length r) 4096) >>= λ u. ok (with_row s.block r))
  clause-judged ps c a none e = stop suit8 (also-not clash7 c (not7 a (elim [ ]))) (is8 (frame_is a (unsuited ill)))
    where
      ill : Suits s.block.table (s.block.subject ∷ []) ps → ⊥
      ill u = let i = (suits-simplify s.block.table s.block.subject ps u).1 in clash (cc)
  clause-judged ps c a (some r) e = need-judged 9 (leb (nodes_in s.block.rows + length r) 4096) _ many few
    where
      suiting : Unsuited s.block (clause_of ps) → ⊥
      suiting (unsuited n) = n (simplify-suits s.block.table s.block.subject ps r e)

      many : leb (nodes_in s.block.rows + length r) 4096 ≡ false → Judged (refuse 9)
      many h = stop nodes9 (also-not suit8 (also-not clash7 c (not7 a (elim [ ]))) (not8 a suiting)) (is9 (frame_is a (nodes4096 e (leb-false _ 4096 h))))

      few : leb (nodes_in s.block.rows + length r) 4096 ≡ true → Judged (ok (with_row s.block r))
      few h = goes_on c a (elim [ ]) suiting within (Adds.clause e)
        where
          within : OverNodes s.block (clause_of ps) → ⊥
          within (nodes4096 {r = q} i o) = let j : r ≡ q = cc in omega (arith, leb-true (nodes_in s.block.rows + length r) 4096 h, ap length j)

  enter-judged : (f : Frame) → Clear 5 → Says l f → Judged (enter s.block f)
  unfolding enter
  enter-judged (type_of ty) c a = goes_on c a (elim [ ]) (elim [ ]) (elim [ ]) (adds_type s ty)
  enter-judged (constructor_of x) c a = need-judged 7 (is_fresh s.block.table x) _ (λ h. stop clash7 c (is7 (frame_is a (fresh-false s.block x h))))
      (λ h. goes_on c a (fresh-true s.block x h) (elim [ ]) (elim [ ]) Adds.ctor)
  enter-judged (subject_of t) c a = need-judged 7 (is_sound s.block.table t) _ (λ h. stop clash7 c (is7 (frame_is a (sound-false s.block t h))))
      (λ h. goes_on c a (sound-true s.block t h) (elim [ ]) (elim [ ]) Adds.subject)
  enter-judged (clause_of ps) c a = clause-judged ps c a (simplify s.block.table s.block.subject ps) refl
  enter-judged end c a = goes_on c a (elim [ ]) (elim [ ]) (elim [ ]) Adds.the_end

  whole-judged : {k : ℕ} {bs : List ℕ} → Kind l k bs → Clear 4 → (x : Read Frame) → frame k bs ≡ x → Judged (wholly x >>= λ f. enter s.block f)
  whole-judged {k} {bs} a c (fault rest) e = stop rest4 c (is_rest4 (record { nothing = λ f u. let h = holds_at a u in clash (cc) }))
  whole-judged {k} {bs} a c (found f []) e =
      let u : Says l f = record { kind = k; rest = bs; first = a; holds = frame_found k bs f e } in
      enter-judged f (also-not rest4 c (not_rest4 u)) u
  whole-judged {k} {bs} a c (found f (b ∷ rest)) e = stop rest4 c (is_rest4 (record { nothing = λ g u. let h = holds_at a u in clash (cc) }))

  framed-judged : (k : ℕ) (bs : List ℕ) → Kind l k bs → Clear 1 → Judged (framed s (k ∷ bs))
  unfolding framed
  framed-judged k bs a c = need-judged 4 (is_kind k) _ (λ e. stop kind4 c (is4 (kind_is a (not-kind k e)))) (λ e.
      let c2 = also-not kind4 c (not4 a (is-kind k e)) in
      need-judged 5 (stands s k) _ (λ e. stop place5 c2 (is5 (kind_is a (record { nowhere = λ h. let i = is-standing s k h in clash (cc) })))) (λ e.
      let c3 = also-not place5 c2 (not5 a (stands-is s k e)) in
      need-judged 6 (has_room s.block k) _ (λ e. stop over6 c3 (is6 (kind_is a (over-is s.block k e)))) (λ e.
      whole-judged a (also-not over6 c3 (not6 a (has_room_lem s.block k e))) (frame k bs) refl)))

  pub line-judged : Judged (line_step s l)
  unfolding line_step
  line-judged = need-judged 3 (is_line l) _ (λ e. stop line3 nothing_yet (is3 (bad-line l e))) (λ e.
      let w = first_byte l e in
      rw w.2 (framed-judged w.0 w.1 (record { first = w.2 }) (also-not line3 nothing_yet (not3 (line-good l e)))))

  -- two faults that both come first are one
  same_number : {n m : ℕ} → Faulty s l n → Faulty s l m → n ≡ m
  same_number {n} {m} a b = go (ltb (place a.fault) (place b.fault)) refl (ltb (place b.fault) (place a.fault)) refl
    where
      go : (x : Bool) → ltb (place a.fault) (place b.fault) ≡ x → (y : Bool) → ltb (place b.fault) (place a.fault) ≡ y → n ≡ m
      go true e y f = absurd (b.first a.fault (ltb-true _ _ e) a.wrong)
      go false e true f = absurd (a.first b.fault (ltb-true _ _ f) b.wrong)
      go false e false f =
          let p : a.fault ≡ b.fault = same_place a.fault b.fault (ltb-false (place b.fault) _ f) (ltb-false (place a.fault) _ e) in
          sym a.number ∙ ap number_of p ∙ b.number

-- a frame adds one thing
adds_same : {s u v : State} {f : Frame} → Adds s f u → Adds s f v → u ≡ v
adds_same Adds.data_type Adds.data_type = refl
adds_same (Adds.data_type {cs = cs}) (Adds.other_type n) = absurd (n cs refl)
adds_same (Adds.other_type n) (Adds.data_type {cs = cs}) = absurd (n cs refl)
adds_same (Adds.other_type n) (Adds.other_type m) = refl
adds_same Adds.ctor Adds.ctor = refl
adds_same Adds.subject Adds.subject = refl
adds_same {s} (Adds.clause {r = r} i) (Adds.clause {r = q} j) = let w : r ≡ q = cc in ap (with_row s.block) w
adds_same Adds.the_end Adds.the_end = refl

-- and back: the relation fixes the step
pub line-goes : {s s' : State} {l : Line} {f : Frame} → Fine s l → Says l f → Adds s f s' → line_step s l ≡ ok s'
line-goes {s} {s'} {l} {f} h a d = go (line_step s l) (line-judged s l)
  where
    go : (x : Step State) → Judged s l x → x ≡ ok s'
    go x (goes {s' = u} k b e) = ap ok (adds_same (subst (λ (g : Frame). Adds s g u) (says_same b a) e) d)
    go x (stops k) = absurd (h.fine k.fault k.wrong)

pub line-stops : {s : State} {l : Line} {n : ℕ} → Faulty s l n → line_step s l ≡ refuse n
line-stops {s} {l} {n} h = go (line_step s l) (line-judged s l)
  where
    go : (x : Step State) → Judged s l x → x ≡ refuse n
    go x (goes k b e) = absurd (k.fine h.fault h.wrong)
    go x (stops k) = ap refuse (same_number s l k h)
