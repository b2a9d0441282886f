-- From the verdict on one line: `answer` refuses a file exactly as the table does and gives a report exactly where no row applies; each file has one answer.
use mathlib.Core.Path.{◌≡◌, refl, ap, sym, subst, ◌∙◌}
use mathlib.Core.List.{List, [], ◌∷◌, ◌++◌, append-nil}
use mathlib.Core.Bool.{Bool, true, false, cond, ◌||◌}
use mathlib.Core.Logic.{◌↔◌}
use Prim.Native.Nat.{ℕ, suc, ◌+◌, ◌≤◌}
use native.Mathlib.Omega.{arith}
use lib.ListN.{length, length-append}
use lib.Dec.{leb, ltb}
use borrow.Author.Tests.{ltb-true, ltb-false, leb-true, leb-false, lt-ltb}
use Rattle.scope.specs.Lists.{Text}
use Rattle.scope.specs.Lines.{Line, lines}
use Rattle.scope.specs.Blocks.{Block, Phase, types, constructors, clauses, closed, State, start, Step, ok, refuse, line_step, Parsed, parsed, faulty, finish, go_on, parse, block_of, nodes_in}
use Rattle.scope.specs.Driver.{Findings, findings, too_much}
use Rattle.scope.specs.Report.{report}
use Rattle.scope.specs.declared.Answer.{Answer}
use Rattle.scope.specs.declared.Answer.TheVariants.{Report, Refused}
use Rattle.scope.specs.Answer.{Outcome, refused, fitted, walked, outcome_of, outcome, answer}
use Rattle.scope.proofs.Answers.{fitted_in, fitted-over, outcome_1, outcome_2, outcome-lines, judged-faulty, judged_10, judged-parsed, answer_of}
use Rattle.refusals.specs.Cut.{Cuts}
use Rattle.refusals.specs.Refusals.{Fault, line3, kind4, place5, over6, rest4, clash7, suit8, nodes9, Wrong, is3, is4, is5, is6, is_rest4, is7, is8, is9, Leads, Admitted, First, SaysBlock, TooMuch, first_calls, second_calls, first_cells, second_cells, missing_rows, Refuses, row1, row2, row3, row4, row4rest, row5, row5end, row6, row7, row8, row9, row10, row11, Reports}
use Rattle.refusals.specs.Exactly.{Answers, refusal, a_report, OneAnswer, AtLine, itself, no_end, short_scratch, long_file, too_much_work, long_report, Exactly}
use Rattle.scope.proofs.Tests.{clash, not-passed}
use Rattle.refusals.proofs.Cutting.{cuts-exactly}
use Rattle.refusals.proofs.Judged.{number_of, Faulty, Judged, goes, stops, line-judged, line-goes, line-stops}

-- From the definition to the table: what the lines from number k on come to
data Traced (k : ℕ) (s : State) (ls : List Line) : Parsed → Type 0 where
  whole : {b : Block} → Leads s ls (record { phase = closed; block = b }) → Traced k s ls (parsed b)
  stopped : {u : State} {n : ℕ} (before : List Line) (l : Line) (after : List Line) (j : ℕ) → ls ≡ before ++ l ∷ after → Leads s before u → Faulty u l n
      → j ≡ k + length before → Traced k s ls (faulty n j)
  endless : {u : State} (j : ℕ) → Leads s ls u → (u.phase ≡ closed → ⊥) → j ≡ k + length ls → Traced k s ls (faulty 5 j)

traced : (ls : List Line) (k : ℕ) (s : State) → Traced k s ls (parse k s ls)
unfolding parse
traced [] k s = go s.phase s.block
  where
    go : (p : Phase) (b : Block) → Traced k (record { phase = p; block = b }) [] (finish k (record { phase = p; block = b }))
    go types b = endless k Leads.none (λ e. clash (cc)) (omega arith)
    go constructors b = endless k Leads.none (λ e. clash (cc)) (omega arith)
    go clauses b = endless k Leads.none (λ e. clash (cc)) (omega arith)
    go closed b = whole Leads.none
traced (l ∷ ls) k s = go (line_step s l) (line-judged s l) (λ s'. traced ls (suc k) s')
  where
    further : {s' : State} {p : Parsed} → ((u : State) (before : List Line) → Leads s' before u → Leads s (l ∷ before) u) → Traced (suc k) s' ls p
        → Traced k s (l ∷ ls) p
    further more (whole h) = whole (more _ ls h)
    further more (stopped before m after j e h w i) = stopped (l ∷ before) m after j (ap (l ∷◌) e) (more _ before h) w (omega arith)
    further more (endless j h n i) = endless j (more _ ls h) n (omega arith)

    go : (x : Step State) → Judged s l x → ((s' : State) → Traced (suc k) s' ls (parse (suc k) s' ls))
        → Traced k s (l ∷ ls) (go_on k x (λ s'. parse (suc k) s' ls))
    go x (goes {s' = s'} h a d) deeper = further (λ u before m. Leads.also h a d m) (deeper s')
    go x (stops w) deeper = stopped [] l ls k refl Leads.none w (omega arith)

as_cut : (file : List ℕ) → Cuts file (lines file)
as_cut file = (cuts-exactly file (lines file)).0 refl

as_whole : (file : List ℕ) (b : Block) → Leads start (lines file) (record { phase = closed; block = b }) → SaysBlock file b
as_whole file b h = record { all = lines file; cuts = as_cut file; said = h }

pub block-whole : (file : List ℕ) (b : Block) → block_of (lines file) ≡ parsed b → SaysBlock file b
unfolding block_of
block-whole file b e = go (parse 1 start (lines file)) (traced (lines file) 1 start) e
  where
    go : (p : Parsed) → Traced 1 start (lines file) p → p ≡ parsed b → SaysBlock file b
    go p (whole {b = c} h) i = let j : c ≡ b = cc in subst (SaysBlock file) j (as_whole file c h)
    go p (stopped before l after j i h w k) x = clash (cc)
    go p (endless j h n k) x = clash (cc)

-- From the table to the definition: good lines are passed
one-passed : (k : ℕ) (s s' : State) (l : Line) (ls : List Line) → line_step s l ≡ ok s' → parse k s (l ∷ ls) ≡ parse (suc k) s' ls
unfolding parse
one-passed k s s' l ls e = rw e

one-stops : (k n : ℕ) (s : State) (l : Line) (ls : List Line) → line_step s l ≡ refuse n → parse k s (l ∷ ls) ≡ faulty n k
unfolding parse
one-stops k n s l ls e = rw e

passed : {s u : State} {before : List Line} → Leads s before u → (k j : ℕ) (rest : List Line) → j ≡ k + length before
    → parse k s (before ++ rest) ≡ parse j u rest
passed {s} Leads.none k j rest e = ap (λ (x : ℕ). parse x s rest) (omega arith)
passed {s} (Leads.also {s' = s'} {l = l} {ls = ls} h a d more) k j rest e =
    one-passed k s s' l (ls ++ rest) (line-goes h a d) ∙ passed more (suc k) j rest (omega arith)

all-passed : {s u : State} {ls : List Line} → Leads s ls u → (k j : ℕ) → j ≡ k + length ls → parse k s ls ≡ finish j u
unfolding parse
all-passed {ls = ls} h k j e = let p = passed h k j [] e in rw append-nil at p

pub whole-block : {file : List ℕ} {b : Block} → SaysBlock file b → block_of (lines file) ≡ parsed b
unfolding block_of
whole-block {file} w = rw ((cuts-exactly file w.all).1 w.cuts) (all-passed w.said 1 (suc (length w.all)) (omega arith))

stopped-block : {file : List ℕ} {cells k : ℕ} {s : State} {l : Line} {f : Fault} → First file cells k s l f → Wrong s l f
    → block_of (lines file) ≡ faulty (number_of f) k
unfolding block_of
stopped-block {file} {cells} {k} {s} {l} {f} a w =
    let cut : lines file ≡ a.before ++ l ∷ a.after = (cuts-exactly file (a.before ++ l ∷ a.after)).1 a.cuts in
    let stop : line_step s l ≡ refuse (number_of f) = line-stops (record { fault = f; number = refl; wrong = w; first = a.first }) in
    rw cut (passed a.good 1 k (l ∷ a.after) (omega (arith, a.number)) ∙ one-stops k (number_of f) s l a.after stop)

endless-block : {file : List ℕ} {s : State} {all : List Line} → Cuts file all → Leads start all s → (s.phase ≡ closed → ⊥)
    → block_of (lines file) ≡ faulty 5 (length all + 1)
unfolding block_of
endless-block {file} {s} {all} c h n = rw ((cuts-exactly file all).1 c) (all-passed h 1 (length all + 1) (omega arith) ∙ go s.phase s.block n)
  where
    go : (p : Phase) (b : Block) → (p ≡ closed → ⊥) → finish (length all + 1) (record { phase = p; block = b }) ≡ faulty 5 (length all + 1)
    go types b x = refl
    go constructors b x = refl
    go clauses b x = refl
    go closed b x = absurd (x refl)

-- 10: one of five tests passed
one_of_5 : {P : Type 0} (a b c d e : Bool) → (a ≡ true → P) → (b ≡ true → P) → (c ≡ true → P) → (d ≡ true → P) → (e ≡ true → P)
    → (a || b || c || d || e) ≡ true → P
one_of_5 true b c d e f g h i j x = f refl
one_of_5 false true c d e f g h i j x = g refl
one_of_5 false false true d e f g h i j x = h refl
one_of_5 false false false true e f g h i j x = i refl
one_of_5 false false false false e f g h i j x = j x

or_true : (a : Bool) → (a || true) ≡ true
or_true true = refl
or_true false = refl

much_is : (f : Findings) → too_much f ≡ true → TooMuch f
unfolding too_much
much_is f h = one_of_5 (ltb 65536 f.reached.calls) (ltb 65536 f.missing.calls) (ltb 16384 f.reached.peak) (ltb 16384 f.missing.peak) _
    (λ e. first_calls (ltb-true 65536 _ e)) (λ e. second_calls (ltb-true 65536 _ e)) (λ e. first_cells (ltb-true 16384 _ e))
    (λ e. second_cells (ltb-true 16384 _ e)) (λ e. missing_rows (ltb-true 4096 _ e)) h

is_much : (f : Findings) → TooMuch f → too_much f ≡ true
unfolding too_much
is_much f (first_calls h) = rw (lt-ltb 65536 f.reached.calls h)
is_much f (second_calls h) = rw (lt-ltb 65536 f.missing.calls h, or_true)
is_much f (first_cells h) = rw (lt-ltb 16384 f.reached.peak h, or_true)
is_much f (second_cells h) = rw (lt-ltb 16384 f.missing.peak h, or_true)
is_much f (missing_rows h) = rw (lt-ltb 4096 (nodes_in f.missing.result) h, or_true)

not_much : (f : Findings) → (TooMuch f → ⊥) → too_much f ≡ false
not_much f n = not-passed (too_much f) (λ e. n (much_is f e))

module _ (file : List ℕ) (cells room : ℕ) where
  -- the table's refusal is the definition's
  at-lines : {o : Outcome} → Admitted file cells → outcome_of room (block_of (lines file)) ≡ o → outcome file cells room ≡ o
  at-lines t e = outcome-lines file cells room t.scratch t.size ∙ e

  at-fault : {k : ℕ} {s : State} {l : Line} {f : Fault} → First file cells k s l f → Wrong s l f → outcome file cells room ≡ refused (number_of f) k
  at-fault {k = k} {f = f} a w = at-lines a.taken (judged-faulty room (number_of f) k _ (stopped-block a w))

  refuses-outcome : {n k : ℕ} → Refuses file cells room n k → outcome file cells room ≡ refused n k
  refuses-outcome (row1 h) = outcome_1 file cells room h
  refuses-outcome (row2 h l) = outcome_2 file cells room h l
  refuses-outcome (row3 a w) = at-fault a (is3 w)
  refuses-outcome (row4 a w) = at-fault a (is4 w)
  refuses-outcome (row4rest a w) = at-fault a (is_rest4 w)
  refuses-outcome (row5 a w) = at-fault a (is5 w)
  refuses-outcome (row5end {all = all} t c h n) = at-lines t (judged-faulty room 5 (length all + 1) _ (endless-block c h n))
  refuses-outcome (row6 a w) = at-fault a (is6 w)
  refuses-outcome (row7 a w) = at-fault a (is7 w)
  refuses-outcome (row8 a w) = at-fault a (is8 w)
  refuses-outcome (row9 a w) = at-fault a (is9 w)
  refuses-outcome (row10 {b = b} t w h) = at-lines t (judged_10 room b _ (whole-block w) (is_much (findings b) h))
  refuses-outcome (row11 {b = b} t w n h) =
      at-lines t (judged-parsed room b _ (whole-block w) (not_much (findings b) n) ∙ fitted-over room (report b.table (findings b)) h)

  -- where the definition gives a report, no row applies
  report-due : (b : Block) → Admitted file cells → SaysBlock file b → (TooMuch (findings b) → ⊥) → length (report b.table (findings b)) ≤ room
      → Reports file cells room (length (report b.table (findings b)))
  report-due b t w n l = record { none = none; block = b; whole = w; long = refl }
    where
      text : outcome file cells room ≡ record { answer = Report (length (report b.table (findings b))); text = report b.table (findings b) }
      text = at-lines t (judged-parsed room b _ (whole-block w) (not_much (findings b) n) ∙ fitted_in room (report b.table (findings b)) l)

      none : (n k : ℕ) → Refuses file cells room n k → ⊥
      none n k r = let e = answer_of file cells room text in let i = answer_of file cells room (refuses-outcome r) in clash (cc)

  -- and the definition's answer is the table's
  row : {k : ℕ} {s : State} {l : Line} (f : Fault) → First file cells k s l f → Wrong s l f → Refuses file cells room (number_of f) k
  row line3 a (is3 w) = row3 a w
  row kind4 a (is4 w) = row4 a w
  row place5 a (is5 w) = row5 a w
  row over6 a (is6 w) = row6 a w
  row rest4 a (is_rest4 w) = row4rest a w
  row clash7 a (is7 w) = row7 a w
  row suit8 a (is8 w) = row8 a w
  row nodes9 a (is9 w) = row9 a w

  fitted-answers : (b : Block) → Admitted file cells → SaysBlock file b → (TooMuch (findings b) → ⊥)
      → Answers file cells room (fitted room (report b.table (findings b))).answer
  unfolding fitted
  fitted-answers b t w n = go (leb (length text) room) refl
    where
      text : Text
      text = report b.table (findings b)

      go : (x : Bool) → leb (length text) room ≡ x
          → Answers file cells room (cond x (record { answer = Report (length text); text = text }) (refused 11 0)).answer
      go true e = a_report (report-due b t w n (leb-true _ room e))
      go false e = refusal (row11 t w n (leb-false _ room e))

  walked-answers : (b : Block) → Admitted file cells → SaysBlock file b → Answers file cells room (walked room b (findings b)).answer
  unfolding walked
  walked-answers b t w = go (too_much (findings b)) refl
    where
      go : (x : Bool) → too_much (findings b) ≡ x → Answers file cells room (cond x (refused 10 0) (fitted room (report b.table (findings b)))).answer
      go true e = refusal (row10 t w (much_is (findings b) e))
      go false e = fitted-answers b t w (λ h. let i = is_much (findings b) h in clash (cc))

  read-answers : (p : Parsed) → Traced 1 start (lines file) p → Admitted file cells → Answers file cells room (outcome_of room p).answer
  unfolding outcome_of
  read-answers p (whole {b = b} h) t = walked-answers b t (as_whole file b h)
  read-answers p (stopped {u = u} before l after j e h w i) t =
      let a : First file cells j u l w.fault = record {
        taken = t;
        before = before;
        after = after;
        cuts = (cuts-exactly file (before ++ l ∷ after)).0 e;
        number = omega (arith, i);
        good = h;
        first = w.first;
      } in
      refusal (subst (λ (n : ℕ). Refuses file cells room n j) w.number (row w.fault a w.wrong))
  read-answers p (endless j h n i) t =
      let k : length (lines file) + 1 ≡ j = omega (arith, i) in
      refusal (subst (Refuses file cells room 5) k (row5end t (as_cut file) h n))

  pub answers : Answers file cells room (answer file cells room)
  unfolding answer outcome block_of
  answers = scratch (ltb cells 16384) refl
    where
      read : Outcome
      read = outcome_of room (parse 1 start (lines file))

      size : (x : Bool) → ltb 49152 (length file) ≡ x → 16384 ≤ cells → Answers file cells room (cond x (refused 2 0) read).answer
      size true e h = refusal (row2 h (ltb-true 49152 (length file) e))
      size false e h =
          read-answers (parse 1 start (lines file)) (traced (lines file) 1 start) (record { scratch = h; size = ltb-false 49152 (length file) e })

      scratch : (x : Bool) → ltb cells 16384 ≡ x
          → Answers file cells room (cond x (refused 1 0) (cond (ltb 49152 (length file)) (refused 2 0) read)).answer
      scratch true e = refusal (row1 (ltb-true cells 16384 e))
      scratch false e = size (ltb 49152 (length file)) refl (ltb-false cells 16384 e)

  -- the block is one, so the report is
  reports-same : {L M : ℕ} → Reports file cells room L → Reports file cells room M → L ≡ M
  reports-same r q =
      let e : parsed r.block ≡ parsed q.block = sym (whole-block r.whole) ∙ whole-block q.whole in
      let b : r.block ≡ q.block = cc in
      r.long ∙ ap (λ (x : Block). length (report x.table (findings x))) b ∙ sym q.long

  pub answers-only : (a : Answer) → Answers file cells room a → a ≡ answer file cells room
  answers-only a (refusal r) = sym (answer_of file cells room (refuses-outcome r))
  answers-only a (a_report {L = L} r) = go (answer file cells room) answers
    where
      go : (x : Answer) → Answers file cells room x → Report L ≡ x
      go x (refusal {n = n} {k = k} q) = absurd (r.none n k q)
      go x (a_report q) = ap Report (reports-same r q)

-- The table and the definition agree
pub refused-exactly : (file : List ℕ) (cells room n k : ℕ) → (answer file cells room ≡ Refused n k) ↔ Refuses file cells room n k
refused-exactly file cells room n k =
    (λ e. go (answer file cells room) (answers file cells room) e, λ r. sym (answers-only file cells room (Refused n k) (refusal r)))
  where
    go : (a : Answer) → Answers file cells room a → a ≡ Refused n k → Refuses file cells room n k
    go a (refusal {n = m} {k = j} r) e = let p : m ≡ n = cc in let q : j ≡ k = cc in rw (← p, ← q) r
    go a (a_report r) e = clash (cc)

pub report-exactly : (file : List ℕ) (cells room L : ℕ) → (answer file cells room ≡ Report L) ↔ Reports file cells room L
report-exactly file cells room L =
    (λ e. go (answer file cells room) (answers file cells room) e, λ r. sym (answers-only file cells room (Report L) (a_report r)))
  where
    go : (a : Answer) → Answers file cells room a → a ≡ Report L → Reports file cells room L
    go a (refusal r) e = clash (cc)
    go a (a_report {L = M} r) e = let p : M ≡ L = cc in subst (Reports file cells room) p r

-- Exactly one answer applies to each file
one_answer : (file : List ℕ) (cells room : ℕ) → OneAnswer file cells room
one_answer file cells room = record { given = answer file cells room; is = answers file cells room; only = answers-only file cells room }

-- and where no row applies, a report is due
report-otherwise : (file : List ℕ) (cells room : ℕ) → ((n k : ℕ) → Refuses file cells room n k → ⊥) → (L : ℕ) × Reports file cells room L
report-otherwise file cells room none = go (answer file cells room) (answers file cells room)
  where
    go : (a : Answer) → Answers file cells room a → (L : ℕ) × Reports file cells room L
    go a (refusal {n = n} {k = k} r) = absurd (none n k r)
    go a (a_report {L = L} r) = (L, r)

-- a line that is at fault is one of the file's
first-line : {file : List ℕ} {cells k : ℕ} {s : State} {l : Line} {f : Fault} → First file cells k s l f → (1 ≤ k) × (k ≤ length (lines file))
first-line {file} {l = l} a =
    let e : lines file ≡ a.before ++ l ∷ a.after = (cuts-exactly file (a.before ++ l ∷ a.after)).1 a.cuts in
    omega (arith, a.number, ap length e, length-append a.before (l ∷ a.after))

stands_at : {file : List ℕ} {cells k n : ℕ} {s : State} {l : Line} {f : Fault} → First file cells k s l f → 3 ≤ n → n ≤ 9 → AtLine (length (lines file)) n k
stands_at a low high = let w = first-line a in itself low high w.0 w.1

refusal-line : {file : List ℕ} {cells room n k : ℕ} → Refuses file cells room n k → AtLine (length (lines file)) n k
refusal-line (row1 h) = short_scratch
refusal-line (row2 h l) = long_file
refusal-line (row3 a w) = stands_at a (omega arith) (omega arith)
refusal-line (row4 a w) = stands_at a (omega arith) (omega arith)
refusal-line (row4rest a w) = stands_at a (omega arith) (omega arith)
refusal-line (row5 a w) = stands_at a (omega arith) (omega arith)
refusal-line {file} (row5end {all = all} t c h n) = subst (λ (ls : List Line). AtLine (length ls) 5 (length all + 1)) (sym ((cuts-exactly file all).1 c)) no_end
refusal-line (row6 a w) = stands_at a (omega arith) (omega arith)
refusal-line (row7 a w) = stands_at a (omega arith) (omega arith)
refusal-line (row8 a w) = stands_at a (omega arith) (omega arith)
refusal-line (row9 a w) = stands_at a (omega arith) (omega arith)
refusal-line (row10 t w h) = too_much_work
refusal-line (row11 t w n h) = long_report

pub exactly : Exactly
exactly = record { refused = refused-exactly; report = report-exactly; otherwise = report-otherwise; one = one_answer; line = λ file cells room n k r. refusal-line r }
