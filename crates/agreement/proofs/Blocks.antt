-- What a file's block is made of, line by line: a table as every table is, and a row for each of the file's clauses, simplified at the subject's type.
use mathlib.Core.Path.{◌≡◌, refl, subst}
use mathlib.Core.List.{List, [], ◌∷◌, ◌++◌, append-nil, append_assoc}
use mathlib.Core.Bool.{Bool, true, false, cond}
use mathlib.Core.Option.{Option, none, some}
use Prim.Native.Nat.{ℕ, zero, suc, ◌+◌, ◌<◌}
use native.Mathlib.Omega.{arith}
use lib.ListN.{length}
use lib.Dec.{leb, eqb}
use borrow.Author.Tests.{ne_eqb}
use Rattle.scope.specs.Lists.{any}
use Rattle.scope.specs.Limits.{max_nodes}
use Rattle.scope.specs.Lines.{Line, is_line, bytes_of}
use Rattle.scope.specs.Types.{Ref, Ctor, Ty, Table, kind, declared, add_ctor}
use Rattle.scope.specs.Patterns.{Raw}
use Rattle.scope.specs.Simplify.{Row, Matrix, simplify}
use Rattle.scope.specs.Frames.{Read, fault, found, byte, Frame, type_of, constructor_of, subject_of, clause_of, end, is_kind, patterns, frame}
use Rattle.scope.specs.Blocks.{Block, Phase, types, constructors, clauses, closed, standing, State, start, Step, ok, refuse, ◌>>=◌, need, wholly, suited, nodes_in, stands, has_room, is_fresh, is_sound, after_type, with_table, with_row, enter, framed, line_step, parsed, finish, go_on, parse, block_of}
use Rattle.scope.proofs.Tests.{clash}
use Rattle.agreement.proofs.Raws.{clause_in, read_clause, clauses_in}
use Rattle.agreement.proofs.Tables.{Of, Yields, give_yields, any_yields, bind_yields, Declared, constructor_yields, type_yields, GoodTypes, no_types, ctor-good, type-good}

-- each clause suits the subject's type and becomes its row
pub data Simplifies (table : Table) (t : Ref) : List (List Raw) → Matrix → Type 0 where
  no_clauses : Simplifies table t [] []
  also-clause : {ps : List Raw} {raws : List (List Raw)} {r : Row} {m : Matrix} → simplify table t ps ≡ some r → Simplifies table t raws m → Simplifies table t (ps ∷ raws) (r ∷ m)

simplifies_snoc : {table : Table} {t : Ref} {raws : List (List Raw)} {m : Matrix} (ps : List Raw) (r : Row) → Simplifies table t raws m → simplify table t ps ≡ some r → Simplifies table t (raws ++ ps ∷ []) (m ++ r ∷ [])
simplifies_snoc ps r no_clauses e = also-clause e no_clauses
simplifies_snoc ps r (also-clause i k) e = also-clause i (simplifies_snoc ps r k e)

-- before the subject there is no clause
abbrev Early : Phase → List (List Raw) → Type 0
Early types raws = raws ≡ []
Early constructors raws = raws ≡ []
Early clauses raws = Unit {0}
Early closed raws = Unit {0}

-- what the lines so far have made
record Sound (s : State) (raws : List (List Raw)) : Type 0 where
  table : GoodTypes s.block.table
  rows : Simplifies s.block.table s.block.subject raws s.block.rows
  early : Early s.phase raws

-- the kind of a frame's byte, and what is so of what it holds
data KindOf : ℕ → Frame → Type 0 where
  a-type : {ty : Ty} → declared ty ≡ [] → KindOf 1 (type_of ty)
  a-ctor : {c : Ctor} → Declared c → KindOf 2 (constructor_of c)
  a-subject : {t : Ref} → KindOf 3 (subject_of t)
  a-clause : {ps : List Raw} → KindOf 4 (clause_of ps)
  an_end : KindOf 5 end

frame_yields : (k : ℕ) → Yields (KindOf k) (frame k)
unfolding frame
frame_yields zero = record { at = λ bs. tt }
frame_yields (suc zero) = bind_yields type_yields (λ ty e. give_yields (a-type e))
frame_yields (suc (suc zero)) = bind_yields constructor_yields (λ c f. give_yields (a-ctor f))
frame_yields (suc (suc (suc zero))) = bind_yields (any_yields byte) (λ t i. give_yields a-subject)
frame_yields (suc (suc (suc (suc zero)))) = bind_yields (any_yields (patterns 1)) (λ ps i. give_yields a-clause)
frame_yields (suc (suc (suc (suc (suc zero))))) = give_yields an_end
frame_yields (suc (suc (suc (suc (suc (suc k)))))) = record { at = λ bs. tt }

whole-kind : (k : ℕ) (bs : List ℕ) (f : Frame) → wholly (frame k bs) ≡ ok f → KindOf k f
whole-kind k bs f e = go (frame k bs) ((frame_yields k).at bs) e
  where
    go : (x : Read Frame) → Of (KindOf k) x → wholly x ≡ ok f → KindOf k f
    go (fault rest) u i = clash (cc)
    go (found a []) u i = let j : a ≡ f = cc in subst (λ (y : Frame). KindOf k y) j u
    go (found a (b ∷ rest)) u i = clash (cc)

-- Steps
need-ok : {A : Type 0} {x : A} (n : ℕ) (b : Bool) (f : Unit {0} → Step A) → (need n b >>= f) ≡ ok x → (b ≡ true) × (f tt ≡ ok x)
need-ok n true f e = (refl, e)
need-ok n false f e = clash (cc)

then_ok : {A B : Type 0} {y : B} (o : Step A) (f : A → Step B) → (o >>= f) ≡ ok y → (a : A) × (o ≡ ok a) × (f a ≡ ok y)
then_ok (ok a) f e = (a, refl, e)
then_ok (refuse n) f e = clash (cc)

no_clause_yet : (p : Phase) (raws : List (List Raw)) (k : ℕ) → k < 4 → any (eqb k) (standing p) ≡ true → Early p raws → raws ≡ []
no_clause_yet types raws k l h e = e
no_clause_yet constructors raws k l h e = e
no_clause_yet clauses raws k l h e = clash (cc (h, ne_eqb k 4 (λ i. omega arith), ne_eqb k 5 (λ i. omega arith)))
no_clause_yet closed raws k l h e = clash (cc)

-- a table without rows yet
fresh-sound : (p : Phase) (raws : List (List Raw)) (table : Table) → Early p [] → raws ≡ [] → GoodTypes table → Sound (with_table p table) (raws ++ [])
fresh-sound p raws table i e g = rw (append-nil raws, e) (record { table = g; rows = no_clauses; early = i })

after-early : (b : Bool) → Early (cond b constructors types) []
after-early true = refl
after-early false = refl

suited-some : (o : Option Row) (r : Row) → suited o ≡ ok r → o ≡ some r
suited-some none r e = clash (cc)
suited-some (some q) r e = cc

enter-sound : {raws : List (List Raw)} {k : ℕ} {f : Frame} (s s' : State) → Sound s raws → stands s k ≡ true → KindOf k f → enter s.block f ≡ ok s' → Sound s' (raws ++ clause_in (ok f))
unfolding enter stands
enter-sound {raws} s s' h st (a-type {ty = ty} d) e =
    let i : with_table (after_type ty) (s.block.table ++ ty ∷ []) ≡ s' = cc in
    subst (λ (y : State). Sound y (raws ++ [])) i (fresh-sound (after_type ty) raws (s.block.table ++ ty ∷ []) (after-early (eqb (kind ty) 6)) (no_clause_yet s.phase raws 1 (omega arith) st h.early) (type-good ty h.table d))
enter-sound {raws} s s' h st (a-ctor {c = c} f) e =
    let w = need-ok 7 (is_fresh s.block.table c) (λ u. ok (with_table constructors (add_ctor s.block.table c))) e in
    let q = w.1 in
    let i : with_table constructors (add_ctor s.block.table c) ≡ s' = cc in
    subst (λ (y : State). Sound y (raws ++ [])) i (fresh-sound constructors raws (add_ctor s.block.table c) refl (no_clause_yet s.phase raws 2 (omega arith) st h.early) (ctor-good c h.table f w.0))
enter-sound {raws} s s' h st (a-subject {t = t}) e =
    let new : State = record { phase = clauses; block = record { table = s.block.table; subject = t; rows = [] } } in
    let w = need-ok 7 (is_sound s.block.table t) (λ u. ok new) e in
    let q = w.1 in
    let i : new ≡ s' = cc in
    subst (λ (y : State). Sound y (raws ++ [])) i (rw (append-nil raws, no_clause_yet s.phase raws 3 (omega arith) st h.early) (record { table = h.table; rows = no_clauses; early = tt }))
enter-sound {raws} s s' h st (a-clause {ps = ps}) e =
    let w = then_ok (suited (simplify s.block.table s.block.subject ps)) _ e in
    let r = w.0 in
    let v = need-ok 9 (leb (nodes_in s.block.rows + length r) max_nodes) (λ u. ok (with_row s.block r)) w.2 in
    let q = v.1 in
    let i : with_row s.block r ≡ s' = cc in
    subst (λ (y : State). Sound y (raws ++ ps ∷ [])) i (record { table = h.table; rows = simplifies_snoc ps r h.rows (suited-some (simplify s.block.table s.block.subject ps) r w.1); early = tt })
enter-sound {raws} s s' h st an_end e =
    let new : State = record { phase = closed; block = s.block } in
    let i : new ≡ s' = cc in
    subst (λ (y : State). Sound y (raws ++ [])) i (rw (append-nil raws) (record { table = h.table; rows = h.rows; early = tt }))

framed-sound : {raws : List (List Raw)} (s s' : State) (bs : List ℕ) → Sound s raws → framed s bs ≡ ok s' → Sound s' (raws ++ read_clause bs)
unfolding framed
framed-sound s s' [] h e = clash (cc)
framed-sound {raws} s s' (k ∷ bs) h e =
    let a = need-ok 4 (is_kind k) _ e in
    let b = need-ok 5 (stands s k) _ a.1 in
    let c = need-ok 6 (has_room s.block k) _ b.1 in
    let f = then_ok (wholly (frame k bs)) _ c.1 in
    rw f.1 (enter-sound s s' h b.0 (whole-kind k bs f.0 f.1) f.2)

line-sound : {raws : List (List Raw)} (s s' : State) (l : Line) → Sound s raws → line_step s l ≡ ok s' → Sound s' (raws ++ read_clause (bytes_of l))
unfolding line_step
line-sound s s' l h e = framed-sound s s' (bytes_of l) h (need-ok 3 (is_line l) _ e).1

-- a block, with the clauses that it is made of
pub record Blocked (b : Block) (raws : List (List Raw)) : Type 0 where
  pub table : GoodTypes b.table
  pub rows : Simplifies b.table b.subject raws b.rows

finish-sound : {raws : List (List Raw)} (k : ℕ) (s : State) (b : Block) → Sound s raws → finish k s ≡ parsed b → Blocked b raws
finish-sound {raws} k s b h e = go s.phase e
  where
    go : (p : Phase) → finish k (record { phase = p; block = s.block }) ≡ parsed b → Blocked b raws
    go types i = clash (cc)
    go constructors i = clash (cc)
    go clauses i = clash (cc)
    go closed i = let j : s.block ≡ b = cc in subst (λ (y : Block). Blocked y raws) j (record { table = h.table; rows = h.rows })

parse-sound : {raws : List (List Raw)} (k : ℕ) (s : State) (ls : List Line) (b : Block) → Sound s raws → parse k s ls ≡ parsed b → Blocked b (raws ++ clauses_in ls)
unfolding parse clauses_in
parse-sound {raws} k s [] b h e = rw (append-nil raws) (finish-sound k s b h e)
parse-sound {raws} k s (l ∷ ls) b h e = go (line_step s l) refl e (λ s' i j. parse-sound {raws = raws ++ read_clause (bytes_of l)} (suc k) s' ls b i j)
  where
    first : List (List Raw)
    first = read_clause (bytes_of l)

    go : (x : Step State) → line_step s l ≡ x → go_on k x (λ s'. parse (suc k) s' ls) ≡ parsed b
        → ((s' : State) → Sound s' (raws ++ first) → parse (suc k) s' ls ≡ parsed b → Blocked b ((raws ++ first) ++ clauses_in ls)) → Blocked b (raws ++ (first ++ clauses_in ls))
    go (ok s') i j deeper = rw (← append_assoc raws first (clauses_in ls)) (deeper s' (line-sound s s' l h i) j)
    go (refuse n) i j deeper = clash (cc)

-- the block of a file is made of the file's clauses
pub block-sound : (ls : List Line) (b : Block) → block_of ls ≡ parsed b → Blocked b (clauses_in ls)
unfolding block_of
block-sound ls b e = parse-sound 1 start ls b (record { table = no_types; rows = no_clauses; early = refl }) e
