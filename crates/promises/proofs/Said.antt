-- The words of a report, from demand 3 and from the names of a file, in which no line feed stands.
use mathlib.Core.Path.{◌≡◌, refl, ap, sym, subst, ◌∙◌}
use mathlib.Core.List.{List, [], ◌∷◌, ◌++◌, map, append_assoc, append-nil, map-append}
use mathlib.Core.Bool.{Bool, true, false}
use Prim.Native.Nat.{ℕ, zero, suc, ◌+◌, ◌<◌}
use native.Mathlib.Omega.{arith}
use lib.ListN.{length, get_or}
use Rattle.scope.specs.Lists.{Text, bytes, all, flatten}
use Rattle.scope.specs.Lines.{Line, ended, lines}
use Rattle.scope.specs.Types.{Ref, Ctor, Ty, dat, Table, declared, add_ctor}
use Rattle.scope.specs.Patterns.{Raw}
use Rattle.scope.specs.Simplify.{Matrix}
use Rattle.scope.specs.Frames.{Read, fault, found, byte, patterns, Frame, type_of, constructor_of, subject_of, clause_of, end, frame}
use Rattle.scope.specs.Text.{decimal, source, paste, pretty}
use Rattle.scope.specs.Blocks.{Block, State, parsed, block_of}
use Rattle.scope.specs.Driver.{Findings, findings, verdicts, gaps}
use Rattle.scope.specs.Report.{yeses, noes, as_line, verdict_word, clause_lines, gap_lines, report}
use Rattle.refusals.specs.Refusals.{Says, Adds, Leads}
use Rattle.refusals.proofs.Framed.{frame_finds}
use Rattle.refusals.proofs.Answered.{block-whole}
use Rattle.promises.specs.Clauses.{Reached, Demand3}
use Rattle.promises.specs.Words.{count_text, Unreached, Verdicts, gaps_text, pair_texts, calls_text, Words}
use Rattle.scope.proofs.Tests.{clash, both, and-true}
use Rattle.agreement.proofs.Tables.{Of, Yields, give_yields, any_yields, bind_yields, type_yields}
use Rattle.refusals.proofs.Cutting.{cuts-exactly}
use Rattle.promises.proofs.Promised.{within-list}
use Rattle.promises.proofs.Clean.{no_feed, append_clean, lines-line, decimal_clean, clean_ctor, clean_table, pretty_clean, constructor_clean}

-- the table of a file has names without line feeds
data CleanFrame : Frame → Type 0 where
  a_type : {ty : Ty} → declared ty ≡ [] → CleanFrame (type_of ty)
  a_ctor : {c : Ctor} → clean_ctor c ≡ true → CleanFrame (constructor_of c)
  a_subject : {t : Ref} → CleanFrame (subject_of t)
  a_clause : {ps : List Raw} → CleanFrame (clause_of ps)
  an_end : CleanFrame end

frame_clean : (k : ℕ) → Yields CleanFrame (frame k)
unfolding frame
frame_clean zero = record { at = λ bs. tt }
frame_clean (suc zero) = bind_yields type_yields (λ ty e. give_yields (a_type e))
frame_clean (suc (suc zero)) = bind_yields constructor_clean (λ c e. give_yields (a_ctor e))
frame_clean (suc (suc (suc zero))) = bind_yields (any_yields byte) (λ t i. give_yields a_subject)
frame_clean (suc (suc (suc (suc zero)))) = bind_yields (any_yields (patterns 1)) (λ ps i. give_yields a_clause)
frame_clean (suc (suc (suc (suc (suc zero))))) = give_yields an_end
frame_clean (suc (suc (suc (suc (suc (suc k)))))) = record { at = λ bs. tt }

says_clean : {l : Line} {f : Frame} → Says l f → CleanFrame f
says_clean {l} {f} s = go (frame s.kind s.rest) ((frame_clean s.kind).at s.rest) (frame_finds s.holds)
  where
    go : (x : Read Frame) → Of CleanFrame x → x ≡ found f [] → CleanFrame f
    go (fault bs) u e = clash (cc)
    go (found g bs) u e = let i : g ≡ f = cc in subst CleanFrame i u

table_append : (table : Table) (ty : Ty) → clean_table table ≡ true → all clean_ctor (declared ty) ≡ true → clean_table (table ++ ty ∷ []) ≡ true
table_append [] ty h k = and-true k refl
table_append (x ∷ table) ty h k = let w = both (all clean_ctor (declared x)) (clean_table table) h in and-true w.0 (table_append table ty w.1 k)

ctors_append : (cs : List Ctor) (c : Ctor) → all clean_ctor cs ≡ true → clean_ctor c ≡ true → all clean_ctor (cs ++ c ∷ []) ≡ true
ctors_append [] c h k = and-true k refl
ctors_append (x ∷ cs) c h k = let w = both (clean_ctor x) (all clean_ctor cs) h in and-true w.0 (ctors_append cs c w.1 k)

table-ctor : (table : Table) (c : Ctor) → clean_table table ≡ true → clean_ctor c ≡ true → clean_table (add_ctor table c) ≡ true
table-ctor [] c h k = refl
table-ctor (ty ∷ []) c h k = and-true (ctors_append (declared ty) c (both (all clean_ctor (declared ty)) true h).0 k) refl
table-ctor (ty ∷ more ∷ table) c h k = let w = both (all clean_ctor (declared ty)) (clean_table (more ∷ table)) h in and-true w.0 (table-ctor (more ∷ table) c w.1 k)

adds_clean : {s u : State} {f : Frame} → CleanFrame f → Adds s f u → clean_table s.block.table ≡ true → clean_table u.block.table ≡ true
adds_clean {s} (a_type e) (Adds.data_type {cs = cs}) h = table_append s.block.table (dat cs) h (rw e)
adds_clean {s} (a_type e) (Adds.other_type {ty = ty} n) h = table_append s.block.table ty h (rw e)
adds_clean {s} (a_ctor {c = c} e) Adds.ctor h = table-ctor s.block.table c h e
adds_clean a_subject Adds.subject h = h
adds_clean a_clause (Adds.clause e) h = h
adds_clean an_end Adds.the_end h = h

leads_clean : {s u : State} {ls : List Line} → Leads s ls u → clean_table s.block.table ≡ true → clean_table u.block.table ≡ true
leads_clean Leads.none h = h
leads_clean (Leads.also f a d more) h = leads_clean more (adds_clean (says_clean a) d h)

pub block_clean : (file : List ℕ) (b : Block) → block_of (lines file) ≡ parsed b → clean_table b.table ≡ true
block_clean file b e = leads_clean (block-whole file b e).said refl

-- the line about clause k
abbrev clause_text : ℕ → Bool → Text
clause_text k v = bytes "clause " ++ decimal k ++ verdict_word v

-- and those about the clauses from number k on
abbrev clause_texts : ℕ → List Bool → List Text
clause_texts k [] = []
clause_texts k (v ∷ vs) = clause_text k v ∷ clause_texts (suc k) vs

-- brackets to the right
regroup_4 : (a b c d : Text) → a ++ b ++ c ++ d ≡ a ++ (b ++ (c ++ d))
regroup_4 a b c d = simp append_assoc

regroup_5 : (a b c d e : Text) → a ++ b ++ c ++ d ++ e ≡ a ++ (b ++ (c ++ (d ++ e)))
regroup_5 a b c d e = simp append_assoc

word_clean : (v : Bool) → no_feed (verdict_word v) ≡ true
word_clean true = refl
word_clean false = refl

clauses-cut : (k : ℕ) (vs : List Bool) (rest : Text) → lines (clause_lines k vs ++ rest) ≡ map ended (clause_texts k vs) ++ lines rest
clauses-cut k [] rest = refl
clauses-cut k (v ∷ vs) rest =
    let c = append_clean (bytes "clause " ++ decimal k) (verdict_word v) (append_clean (bytes "clause ") (decimal k) refl (decimal_clean k)) (word_clean v) in
    ap lines (append_assoc (as_line (clause_text k v)) (clause_lines (suc k) vs) rest) ∙ lines-line (clause_text k v) (clause_lines (suc k) vs ++ rest) c ∙ ap (ended (clause_text k v) ∷◌) (clauses-cut (suc k) vs rest)

gaps_cut : (table : Table) → clean_table table ≡ true → (m : Matrix) (rest : Text) → lines (flatten (map (gap_lines table) m) ++ rest) ≡ map ended (pair_texts table m) ++ lines rest
gaps_cut table h [] rest = refl
gaps_cut table h (r ∷ m) rest =
    let a = bytes "missing " ++ pretty source table r in
    let b = bytes "paste " ++ pretty paste table r in
    let more = flatten (map (gap_lines table) m) in
    ap lines (regroup_4 (as_line a) (as_line b) more rest) ∙ lines-line a (as_line b ++ (more ++ rest)) (append_clean (bytes "missing ") (pretty source table r) refl (pretty_clean source table h r))
    ∙ ap (ended a ∷◌) (lines-line b (more ++ rest) (append_clean (bytes "paste ") (pretty paste table r) refl (pretty_clean paste table h r)) ∙ ap (ended b ∷◌) (gaps_cut table h m rest))

-- a word, then a number
numbered : (t : Text) (n : ℕ) → no_feed t ≡ true → no_feed (t ++ decimal n) ≡ true
numbered t n h = append_clean t (decimal n) h (decimal_clean n)

count_clean : (k m n : ℕ) → no_feed (count_text k m n) ≡ true
count_clean k m n =
    let a = numbered (bytes "clauses ") k refl in
    let b = numbered (bytes "clauses " ++ decimal k ++ bytes " reached ") m (append_clean (bytes "clauses " ++ decimal k) (bytes " reached ") a refl) in
    numbered (bytes "clauses " ++ decimal k ++ bytes " reached " ++ decimal m ++ bytes " never ") n
    (append_clean (bytes "clauses " ++ decimal k ++ bytes " reached " ++ decimal m) (bytes " never ") b refl)

calls_clean : (m n : ℕ) → no_feed (calls_text m n) ≡ true
calls_clean m n = numbered (bytes "calls " ++ decimal m ++ bytes " ") n (append_clean (bytes "calls " ++ decimal m) (bytes " ") (numbered (bytes "calls ") m refl) refl)

-- all of them
abbrev report_texts : Table → Findings → List Text
report_texts table f = count_text (length f.reached.result) (yeses f.reached.result) (noes f.reached.result) ∷ (clause_texts 1 f.reached.result
    ++ gaps_text (length f.missing.result) ∷ (pair_texts table f.missing.result ++ calls_text f.reached.calls f.missing.calls ∷ []))

report-cut : (table : Table) (f : Findings) → clean_table table ≡ true → lines (report table f) ≡ map ended (report_texts table f)
unfolding report lines
report-cut table f h =
    let vs = f.reached.result in
    let m = f.missing.result in
    let counts = count_text (length vs) (yeses vs) (noes vs) in
    let calls = calls_text f.reached.calls f.missing.calls in
    let pairs = flatten (map (gap_lines table) m) in
    let g = gaps_text (length m) in
    let last : lines (as_line calls) ≡ ended calls ∷ [] = ap lines (sym (append-nil (as_line calls))) ∙ lines-line calls [] (calls_clean f.reached.calls f.missing.calls) in
    let a = gaps_cut table h m (as_line calls) ∙ ap (λ (x : List Line). map ended (pair_texts table m) ++ x) last ∙ sym (map-append ended (pair_texts table m) (calls ∷ [])) in
    let b = lines-line g (pairs ++ as_line calls) (numbered (bytes "gaps ") (length m) refl) ∙ ap (ended g ∷◌) a in
    let c = clauses-cut 1 vs (as_line g ++ (pairs ++ as_line calls)) ∙ ap (λ (x : List Line). map ended (clause_texts 1 vs) ++ x) b ∙ sym (map-append ended (clause_texts 1 vs) (g ∷ (pair_texts table m ++ calls ∷ []))) in
    ap lines (regroup_5 (as_line counts) (clause_lines 1 vs) (as_line g) pairs (as_line calls)) ∙ lines-line counts (clause_lines 1 vs ++ (as_line g ++ (pairs ++ as_line calls))) (count_clean (length vs) (yeses vs) (noes vs)) ∙ ap (ended counts ∷◌) c

module _ (clauses : List (List Raw)) (b : Block) (d : Demand3 clauses b) where
  -- the verdict v on clause i is right
  data Right (i : ℕ) : Bool → Type 0 where
    is_reached : Reached clauses b i → Right i true
    is_never : Unreached clauses b i → Right i false

  each_right : (i : ℕ) → i < length clauses → Right i (get_or (verdicts b) i true)
  each_right i l = go (get_or (verdicts b) i true) refl
    where
      go : (v : Bool) → get_or (verdicts b) i true ≡ v → Right i v
      go true e = is_reached ((d.reached i l).0 (sym (within-list (verdicts b) i (omega (arith, d.each))) ∙ e))
      go false e = is_never (record { within = l; none = (d.never i l).0 e })

  -- so the lines are
  verdict-lines : (i : ℕ) (vs : List Bool) → i + length vs ≡ length clauses → ((j : ℕ) → j < length vs → Right (i + j) (get_or vs j true)) → Verdicts clauses b i (yeses vs) (noes vs) (clause_texts (suc i) vs)
  verdict-lines i [] e h = let k : length clauses ≡ i = omega arith in subst (λ (x : ℕ). Verdicts clauses b x 0 0 []) k Verdicts.done
  verdict-lines i (v ∷ vs) e h =
      go v (subst (λ (x : ℕ). Right x v) (omega arith) (h 0 (omega arith))) (verdict-lines (suc i) vs (omega arith) (λ j l. subst (λ (x : ℕ). Right x (get_or vs j true)) (omega arith) (h (suc j) (omega arith))))
    where
      go : (w : Bool) → Right i w → Verdicts clauses b (suc i) (yeses vs) (noes vs) (clause_texts (suc (suc i)) vs) → Verdicts clauses b i (yeses (w ∷ vs)) (noes (w ∷ vs)) (clause_texts (suc i) (w ∷ vs))
      go true (is_reached r) more =
          let x : suc (yeses vs) ≡ 1 + yeses vs = omega arith in
          let y : noes vs ≡ 0 + noes vs = omega arith in
          rw (← x, ← y) (Verdicts.reached r more)
      go false (is_never n) more =
          let x : yeses vs ≡ 0 + yeses vs = omega arith in
          let y : suc (noes vs) ≡ 1 + noes vs = omega arith in
          rw (← x, ← y) (Verdicts.never n more)

  -- what a report's bytes say
  pub words : (file : List ℕ) → block_of (lines file) ≡ parsed b → Words clauses b (report b.table (findings b))
  words file e = record {
    texts = report_texts b.table (findings b);
    reached = yeses (verdicts b);
    never = noes (verdicts b);
    verdict_texts = clause_texts 1 (verdicts b);
    cuts = (cuts-exactly (report b.table (findings b)) _).0 (report-cut b.table (findings b) (block_clean file b e));
    each = verdict-lines 0 (verdicts b) (omega (arith, d.each)) (λ j l. subst (λ (x : ℕ). Right x (get_or (verdicts b) j true)) (omega arith) (each_right j (omega (arith, d.each))));
    whole = ap (λ (n : ℕ). count_text n (yeses (verdicts b)) (noes (verdicts b)) ∷ (clause_texts 1 (verdicts b)
        ++ gaps_text (length (gaps b)) ∷ (pair_texts b.table (gaps b) ++ calls_text (findings b).reached.calls (findings b).missing.calls ∷ []))) d.each;
  }
