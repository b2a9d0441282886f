-- Two files that differ only in names, both answered with a report, have the same verdicts, number of gaps and calls: tables without names are equal.
use mathlib.Core.Path.{◌≡◌, refl, ap, ap₂, sym, subst, subst₂, ◌∙◌}
use mathlib.Core.List.{List, [], ◌∷◌, ◌++◌, map, map-append}
use mathlib.Core.Bool.{Bool, true, false}
use mathlib.Core.Option
use mathlib.Core.Option.{Option, none, some}
use Prim.Native.Nat.{ℕ, suc, ◌+◌}
use lib.ListN.{length, get_or-map}
use lib.Dec.{leb}
use Rattle.scope.specs.declared.Answer.TheVariants.{Report}
use Rattle.scope.specs.Lists.{bytes}
use Rattle.scope.specs.Limits.{max_nodes}
use Rattle.scope.specs.Lines.{Line, is_line, bytes_of}
use Rattle.scope.specs.Types.{Ref, Ctor, Ty, integer, byte_string, opaque, list, tuple, pair, dat, Table, type_at, kind, fields_of, declared, add_ctor}
use Rattle.scope.specs.Constructors.{built, ctors_at, alts}
use Rattle.scope.specs.Patterns.{Raw}
use Rattle.scope.specs.Simplify.{Row, Matrix, Item, put, pat, opened, putting, simplified, simplify}
use Rattle.scope.specs.Simplify as patterns
use Rattle.scope.specs.Walks.{Walk, collect_missing_patterns}
use Rattle.scope.specs.Frames.{Read, found, Frame, is_kind, frame}
use Rattle.scope.specs.Blocks.{Block, Phase, types, constructors, clauses, closed, State, start, Step, ok, refuse, ◌>>=◌, need, wholly, suited, nodes_in, stands, has_room, is_fresh, is_sound, with_row, enter, framed, line_step, parsed, finish, go_on, parse, block_of}
use Rattle.scope.specs.Driver.{judged, Findings, findings}
use Rattle.scope.specs.Answer.{answer}
use Rattle.meaning.specs.Renamed.{SamePattern, same_pattern, same_variable, same_assign, SamePatterns, no_patterns, also_pattern, SameFrame, same_type, same_ctor, same_subject, same_clause, same_end, SaysFrame, SameLine, same_line, SameLines, no_lines, also_line, Renamed, SameVerdicts, SameReports}
use Rattle.scope.proofs.Tests.{clash}
use Rattle.scope.proofs.Compute.{compute}
use Rattle.meaning.proofs.Promised.{reported}
use Rattle.meaning.proofs.Shape.{missing-same, judged-same, simplify-same}

-- a constructor, a type, a table without names
nameless : Ctor → Ctor
nameless c = built [] c.fields

nameless_type : Ty → Ty
nameless_type integer = integer
nameless_type byte_string = byte_string
nameless_type opaque = opaque
nameless_type (list e) = list e
nameless_type (tuple ts) = tuple ts
nameless_type (pair a b) = pair a b
nameless_type (dat cs) = dat (map nameless cs)

nameless_table : Table → Table
nameless_table table = map nameless_type table

-- the field types and the kinds are all there
alts-map : (cs : List Ctor) → map fields_of (map nameless cs) ≡ map fields_of cs
unfolding nameless
alts-map [] = refl
alts-map (c ∷ cs) = ap (c.fields ∷◌) (alts-map cs)

ctors-alts : (t : Ref) (ty : Ty) → map fields_of (ctors_at t (nameless_type ty)) ≡ map fields_of (ctors_at t ty)
unfolding nameless_type
ctors-alts t integer = refl
ctors-alts t byte_string = refl
ctors-alts t opaque = refl
ctors-alts t (list e) = refl
ctors-alts t (tuple ts) = refl
ctors-alts t (pair a b) = refl
ctors-alts t (dat cs) = alts-map cs

kind-same : (ty : Ty) → kind (nameless_type ty) ≡ kind ty
unfolding nameless_type
kind-same integer = refl
kind-same byte_string = refl
kind-same opaque = refl
kind-same (list e) = refl
kind-same (tuple ts) = refl
kind-same (pair a b) = refl
kind-same (dat cs) = refl

type-at : (table : Table) (t : Ref) → type_at (nameless_table table) t ≡ nameless_type (type_at table t)
unfolding nameless_table nameless_type
type-at table t = get_or-map nameless_type table t opaque

-- tables that are equal without names
module _ (table table' : Table) (e : nameless_table table ≡ nameless_table table') where
  types_same : (t : Ref) → nameless_type (type_at table t) ≡ nameless_type (type_at table' t)
  types_same t = sym (type-at table t) ∙ ap (λ (x : Table). type_at x t) e ∙ type-at table' t

  alts-same : (t : Ref) → alts table t ≡ alts table' t
  alts-same t = sym (ctors-alts t (type_at table t)) ∙ ap (λ (x : Ty). map fields_of (ctors_at t x)) (types_same t) ∙ ctors-alts t (type_at table' t)

  kinds-same : (t : Ref) → kind (type_at table t) ≡ kind (type_at table' t)
  kinds-same t = sym (kind-same (type_at table t)) ∙ ap kind (types_same t) ∙ kind-same (type_at table' t)

-- what a frame adds, without names
declared-nameless : (ty : Ty) → declared (nameless_type ty) ≡ map nameless (declared ty)
unfolding nameless_type
declared-nameless integer = refl
declared-nameless byte_string = refl
declared-nameless opaque = refl
declared-nameless (list e) = refl
declared-nameless (tuple ts) = refl
declared-nameless (pair a b) = refl
declared-nameless (dat cs) = refl

add_nameless : (table : Table) (c : Ctor) → nameless_table (add_ctor table c) ≡ add_ctor (nameless_table table) (nameless c)
unfolding nameless_table nameless_type
add_nameless [] c = refl
add_nameless (ty ∷ []) c = rw (map-append nameless (declared ty) (c ∷ []), declared-nameless ty)
add_nameless (ty ∷ next ∷ table) c = ap (nameless_type ty ∷◌) (add_nameless (next ∷ table) c)

append_nameless : (table : Table) (ty : Ty) → nameless_table (table ++ ty ∷ []) ≡ nameless_table table ++ nameless_type ty ∷ []
unfolding nameless_table
append_nameless table ty = map-append nameless_type table (ty ∷ [])

-- two blocks that differ only in names
record SameBlock (b b' : Block) : Type 0 where
  tables : nameless_table b.table ≡ nameless_table b'.table
  subjects : b.subject ≡ b'.subject
  rows : b.rows ≡ b'.rows

-- a step that goes on passed its test
need-ok : {A : Type 0} (n : ℕ) (x : Bool) (f : Unit {0} → Step A) (a : A) → (need n x >>= f) ≡ ok a → f tt ≡ ok a
need-ok n true f a e = e
need-ok n false f a e = clash (cc)

line_enters : (s s₁ : State) {l : Line} {k : ℕ} {f : Frame} → SaysFrame l k f → line_step s l ≡ ok s₁ → enter s.block f ≡ ok s₁
unfolding line_step framed
line_enters s s₁ {l} {k} {f} w e =
    let a : framed s (bytes_of l) ≡ ok s₁ = need-ok 3 (is_line l) _ s₁ e in
    let b : framed s (k ∷ w.rest) ≡ ok s₁ = subst (λ (bs : List ℕ). framed s bs ≡ ok s₁) w.kind_first a in
    let c = need-ok 6 (has_room s.block k) _ s₁ (need-ok 5 (stands s k) _ s₁ (need-ok 4 (is_kind k) _ s₁ b)) in
    subst (λ (x : Read Frame). (wholly x >>= λ g. enter s.block g) ≡ ok s₁) w.whole c

-- no variable's name reaches a row
opened-names : (table : Table) (t : Ref) {p p' : Raw} → SamePattern p p' → opened table t p ≡ opened table t p'
opened-names table t same_pattern = refl
opened-names table t same_variable = refl
opened-names table t same_assign = refl

simplified-names : (table : Table) (is : List Item) {ps ps' : List Raw} → SamePatterns ps ps' → simplified table is ps ≡ simplified table is ps'
unfolding simplified
simplified-names table is no_patterns = refl
simplified-names table is (also_pattern {p = p} {p' = p'} {ps = ps} {ps' = ps'} same more) = putting-same is (λ t rest. ap (λ (o : Option (List Item)). patterns.◌>>=◌ o (λ new. simplified table (new ++ rest) ps)) (opened-names table t same) ∙ then (opened table t p') rest (λ js. simplified-names table js more))
  where
    then : (o : Option (List Item)) (rest : List Item) → ((js : List Item) → simplified table js ps ≡ simplified table js ps') → patterns.◌>>=◌ o (λ new. simplified table (new ++ rest) ps) ≡ patterns.◌>>=◌ o (λ new. simplified table (new ++ rest) ps')
    then none rest k = refl
    then (some new) rest k = k (new ++ rest)

    putting-same : (is : List Item) {f g : Ref → List Item → Option Row} → ((t : Ref) (rest : List Item) → f t rest ≡ g t rest) → putting is f ≡ putting is g
    putting-same [] h = refl
    putting-same (put n ∷ is) h = ap (Option.map (n ∷◌)) (putting-same is h)
    putting-same (pat t ∷ is) h = h t is

simplify-names : (table : Table) (t : Ref) {ps ps' : List Raw} → SamePatterns ps ps' → simplify table t ps ≡ simplify table t ps'
unfolding simplify
simplify-names table t same = simplified-names table (pat t ∷ []) same

-- a clause's row goes below the others
added : Block → Option Row → Step State
added b o = suited o >>= λ r. need 9 (leb (nodes_in b.rows + length r) max_nodes) >>= λ _. ok (with_row b r)

module _ (b b' : Block) (h : SameBlock b b') (s s' : State) where
  -- what both steps go on with
  onward : (x x' : State) → ok x ≡ ok s → ok x' ≡ ok s' → SameBlock x.block x'.block → SameBlock s.block s'.block
  onward x x' e e' k = let i : x ≡ s = cc in let i' : x' ≡ s' = cc in subst₂ (λ (y y' : State). SameBlock y.block y'.block) i i' k

  added-same : (o : Option Row) → added b o ≡ ok s → added b' o ≡ ok s' → SameBlock s.block s'.block
  unfolding added
  added-same none e e' = clash (cc)
  added-same (some r) e e' =
      onward (with_row b r) (with_row b' r)
      (need-ok 9 (leb (nodes_in b.rows + length r) max_nodes) _ s e)
      (need-ok 9 (leb (nodes_in b'.rows + length r) max_nodes) _ s' e')
      (record { tables = h.tables; subjects = h.subjects; rows = ap (λ (m : Matrix). m ++ r ∷ []) h.rows })

  rows-read : (ps : List Raw) → simplify b.table b.subject ps ≡ simplify b'.table b'.subject ps
  rows-read ps = simplify-same b.table b'.table (alts-same b.table b'.table h.tables) (kinds-same b.table b'.table h.tables) b.subject ps ∙ ap (λ (t : Ref). simplify b'.table t ps) h.subjects

  enter-same : {f f' : Frame} → SameFrame f f' → enter b f ≡ ok s → enter b' f' ≡ ok s' → SameBlock s.block s'.block
  unfolding enter added nameless
  enter-same (same_type {ty = ty}) e e' =
      onward _ _ e e' (record { tables = append_nameless b.table ty ∙ ap (λ (x : Table). x ++ nameless_type ty ∷ []) h.tables ∙ sym (append_nameless b'.table ty); subjects = refl; rows = refl })
  enter-same (same_ctor {c = c} {d = d} k l) e e' =
      onward _ _ (need-ok 7 (is_fresh b.table c) _ s e) (need-ok 7 (is_fresh b'.table d) _ s' e')
      (record { tables = add_nameless b.table c ∙ ap₂ add_ctor h.tables (ap (built []) k) ∙ sym (add_nameless b'.table d); subjects = refl; rows = refl })
  enter-same (same_subject {t = t}) e e' =
      onward _ _ (need-ok 7 (is_sound b.table t) _ s e) (need-ok 7 (is_sound b'.table t) _ s' e') (record { tables = h.tables; subjects = refl; rows = refl })
  enter-same (same_clause {ps = ps} {ps' = ps'} same) e e' = added-same (simplify b.table b.subject ps) e (subst (λ (o : Option Row). added b' o ≡ ok s') (sym (rows-read ps ∙ simplify-names b'.table b'.subject same)) e')
  enter-same same_end e e' = onward _ _ e e' h

-- a file that is read whole ends with the block of its last state
finish-block : (k : ℕ) (p : Phase) (a b : Block) → finish k (record { phase = p; block = a }) ≡ parsed b → a ≡ b
finish-block k types a b e = clash (cc)
finish-block k constructors a b e = clash (cc)
finish-block k clauses a b e = clash (cc)
finish-block k closed a b e = cc

parse-same : {ls ls' : List Line} (k k' : ℕ) (s s' : State) (b b' : Block) → SameLines ls ls' → SameBlock s.block s'.block → parse k s ls ≡ parsed b → parse k' s' ls' ≡ parsed b' → SameBlock b b'
unfolding parse
parse-same k k' s s' b b' no_lines h e e' = subst₂ SameBlock (finish-block k s.phase s.block b e) (finish-block k' s'.phase s'.block b' e') h
parse-same k k' s s' b b' (also_line {l = l} {l' = l'} {ls = ls} {ls' = ls'} (same_line says says' same) more) h e e' =
    step (line_step s l) (line_step s' l') refl refl e e' (λ s₁ s₁' g i i'. parse-same (suc k) (suc k') s₁ s₁' b b' more g i i')
  where
    step : (x x' : Step State) → line_step s l ≡ x → line_step s' l' ≡ x' → go_on k x (λ s₁. parse (suc k) s₁ ls) ≡ parsed b → go_on k' x' (λ s₁. parse (suc k') s₁ ls') ≡ parsed b'
        → ((s₁ s₁' : State) → SameBlock s₁.block s₁'.block → parse (suc k) s₁ ls ≡ parsed b → parse (suc k') s₁' ls' ≡ parsed b' → SameBlock b b') → SameBlock b b'
    step (ok s₁) (ok s₁') i i' j j' deeper = deeper s₁ s₁' (enter-same s.block s'.block h s₁ s₁' same (line_enters s s₁ says i) (line_enters s' s₁' says' i')) j j'
    step (ok s₁) (refuse n) i i' j j' deeper = clash (cc)
    step (refuse n) (ok s₁') i i' j j' deeper = clash (cc)
    step (refuse n) (refuse n') i i' j j' deeper = clash (cc)

-- no name reaches the findings
findings-same : (b b' : Block) → SameBlock b b' → findings b ≡ findings b'
unfolding findings
findings-same b b' h =
    let a = alts-same b.table b'.table h.tables in
    ap₂ (λ (r : Walk (List Bool)) (m : Walk Matrix). record { reached = r; missing = m })
    (judged-same b.table b'.table a [] b.rows ∙ ap (judged b'.table []) h.rows)
    (missing-same b.table b'.table a 1 b.rows ∙ ap (collect_missing_patterns b'.table 1) h.rows)

same-verdicts : (f g : Findings) → f ≡ g → SameVerdicts f g
same-verdicts f g e = record {
  verdicts = ap (λ (x : Findings). x.reached.result) e;
  gaps = ap (λ (x : Findings). length x.missing.result) e;
  first_calls = ap (λ (x : Findings). x.reached.calls) e;
  second_calls = ap (λ (x : Findings). x.missing.calls) e;
}

-- Two files that differ only in constructor, label and variable names, both answered with a report
pub renamed : (file file' : List ℕ) (cells cells' room room' n n' : ℕ) → Renamed file file' → answer file cells room ≡ Report n → answer file' cells' room' ≡ Report n' → SameReports file cells room n file' cells' room' n'
unfolding block_of
renamed file file' cells cells' room room' n n' r e e' =
    let w = reported file cells room n e in
    let w' = reported file' cells' room' n' e' in
    let b = w.block in
    let b' = w'.block in
    let f : findings b ≡ findings b' = findings-same b b' (parse-same 1 1 start start b b' r.same_lines (record { tables = refl; subjects = refl; rows = refl }) w.says w'.says) in
    record { first = w; second = w'; same = same-verdicts (findings b) (findings b') f }

-- lines that compute to frames of kind k
both_say : {l l' : Line} (k : ℕ) (rest rest' : List ℕ) {f f' : Frame} → is_line l ≡ true → is_line l' ≡ true → bytes_of l ≡ k ∷ rest → bytes_of l' ≡ k ∷ rest' → frame k rest ≡ found f [] → frame k rest' ≡ found f' [] → SameFrame f f' → SameLine l l'
both_say k rest rest' g g' e e' h h' same = same_line (record { good = g; rest = rest; kind_first = e; whole = h }) (record { good = g'; rest = rest'; kind_first = e'; whole = h' }) same

-- P8 with a variable, and the same with other names throughout
pub renamed_P8 : Renamed (bytes "0106\n0201410000\n0201420000\n0100\n0106\n0201500102000161010162\n0302\n040600020006000000010178\n05\n") (bytes "0106\n02035265640000\n0204426c75650000\n0100\n0106\n0204506169720102000473686f77010474657874\n0302\n04060002000600000001046d6f7265\n05\n")
unfolding compute
renamed_P8 =
    record {
      same_lines =
          also_line (both_say 1 _ _ refl refl refl refl refl refl same_type)
          (also_line (both_say 2 _ _ refl refl refl refl refl refl (same_ctor refl refl))
          (also_line (both_say 2 _ _ refl refl refl refl refl refl (same_ctor refl refl))
          (also_line (both_say 1 _ _ refl refl refl refl refl refl same_type)
          (also_line (both_say 1 _ _ refl refl refl refl refl refl same_type)
          (also_line (both_say 2 _ _ refl refl refl refl refl refl (same_ctor refl refl))
          (also_line (both_say 3 _ _ refl refl refl refl refl refl same_subject)
          (also_line (both_say 4 _ _ refl refl refl refl refl refl (same_clause (also_pattern same_pattern (also_pattern same_pattern (also_pattern same_variable no_patterns))))) (also_line (both_say 5 _ _ refl refl refl refl refl refl same_end) no_lines))))))));
    }
