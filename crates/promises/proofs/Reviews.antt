-- Request 13 holds of any two reviews: from what verdicts and missing rows owe to rows, from the words of a report, and from whose rows the clauses are.
use mathlib.Core.Path.{◌≡◌, refl, ap, ap₂, sym, subst, ◌∙◌}
use mathlib.Core.List.{List, [], ◌∷◌, ◌++◌, map, append_assoc, Mem}
use mathlib.Core.Bool.{Bool, true, false}
use mathlib.Core.Logic.{◌↔◌}
use mathlib.Core.Option.{Option, some}
use Prim.Native.Nat.{ℕ, suc, ◌+◌, ◌<◌}
use native.Mathlib.Omega.{arith}
use lib.ListN.{length, get_or, take, drop, length-append}
use lib.Seq.{drop_at, get_or-drop, get_or-append_seam}
use Rattle.scope.specs.Lists.{Text}
use Rattle.scope.specs.Lines.{lines}
use Rattle.scope.specs.Types.{Ref, Table}
use Rattle.scope.specs.Patterns.{Raw}
use Rattle.scope.specs.Simplify.{Row, Matrix, simplify}
use Rattle.scope.specs.Blocks.{Block, parsed, block_of}
use Rattle.scope.specs.Driver.{findings, verdicts, gaps}
use Rattle.scope.specs.Report.{report}
use Rattle.meaning.specs.Order.{SameMembers, OrderFree}
use Rattle.written.specs.Takes.{Takes}
use Rattle.promises.specs.Clauses.{Reached}
use Rattle.promises.specs.Words.{gaps_text, pair_texts, calls_text}
use Rattle.promises.specs.Reviews.{Review, EveryReport, the_block, the_rows, the_clauses, the_lines, SameTypes, verdict_text, Lists, SameVerdict, ListsNoGaps, SameBelow, ByRows, ByClauses, Kept, Moves, Request13}
use Rattle.meaning.proofs.Decimals.{decimal-names}
use Rattle.scope.proofs.Tests.{clash, not-passed}
use Rattle.meaning.proofs.Order.{order_does_not_matter}
use Rattle.meaning.proofs.NoMore.{no_more_lem}
use Rattle.refusals.proofs.Answered.{whole-block, report-exactly}
use Rattle.agreement.proofs.Blocks.{Simplifies, no_clauses, also-clause}
use Rattle.promises.proofs.Promised.{made-from, same-many, row_of}
use Rattle.promises.proofs.Listed.{verdicts-many, words-differ, Told, as_reached, as_never, clause-told}
use Rattle.promises.proofs.Heads.{begins-alike}
use Rattle.promises.proofs.Meets.{reporting, says-report}
use Rattle.meaning.proofs.Members.{permuted_members, repeated_members, swapped_members, map_members, take-map, some_members, nowhere, within-later, at-later, whole_members, taken_members, within-sooner, at-sooner, sooner_members, one_between, two_between}

-- the rows of clauses, all together
rows-meant : {table : Table} {t : Ref} {raws : List (List Raw)} {m : Matrix} → Simplifies table t raws m → map some m ≡ map (simplify table t) raws
rows-meant no_clauses = refl
rows-meant (also-clause e k) = rw (e, rows-meant k)

-- and what they are in two tables that are the same
simplified-same : {table table' : Table} {t t' : Ref} {ps qs : List Raw} → table ≡ table' → t ≡ t' → ps ≡ qs → simplify table t ps ≡ simplify table' t' qs
simplified-same e f g = rw (e, f, g)

meant-same : {table table' : Table} {t t' : Ref} → table ≡ table' → t ≡ t' → (raws : List (List Raw)) → map (simplify table t) raws ≡ map (simplify table' t') raws
meant-same e f raws = rw (e, f)

-- the lines after those about clauses
abbrev lower_of : Table → Matrix → List Text
lower_of table m = gaps_text (length m) ∷ pair_texts table m

lower-same : {table table' : Table} {m m' : Matrix} {n n' : ℕ} (first : ℕ) → table ≡ table' → m ≡ m' → n ≡ n' → lower_of table m ++ calls_text first n ∷ [] ≡ lower_of table' m' ++ calls_text first n' ∷ []
lower-same first e f g = ap₂ (λ (above : List Text) (n : ℕ). above ++ calls_text first n ∷ []) (ap₂ lower_of e f) g

same_parts : {table table' : Table} {t t' : Ref} {m m' : Matrix} → table ≡ table' → t ≡ t' → m ≡ m' → ◌≡◌ {A = Block} (record { table = table; subject = t; rows = m }) (record { table = table'; subject = t'; rows = m' })
same_parts e f g = rw (e, f, g)

module _ (r : Review) where
  pub says_in : block_of (lines r.file) ≡ parsed (the_block r)
  says_in = whole-block r.report.due.whole

  pub made : Simplifies (the_block r).table (the_block r).subject (the_clauses r) (the_rows r)
  made = made-from r.file (the_block r) says_in (the_clauses r) r.report.own

  -- a clause is listed with the verdict that it has
  pub lists : (i : ℕ) → i < length (the_clauses r) → (v : Bool) → Lists r i v ↔ (get_or (verdicts (the_block r)) i false ≡ v)
  lists i l v = go (clause-told r.report.words i l) v
    where
      go : {t : Text} → Told (the_clauses r) (the_block r) i t → (v : Bool) → (t ≡ verdict_text v (suc i)) ↔ (get_or (verdicts (the_block r)) i false ≡ v)
      go (as_reached x) true = (λ h. (r.report.meaning.reached i l).1 x, λ h. refl)
      go (as_reached x) false = (λ h. absurd (words-differ (suc i) (suc i) h), λ h. let y = (r.report.meaning.reached i l).1 x in clash (cc))
      go (as_never u) true = (λ h. absurd (words-differ (suc i) (suc i) (sym h)), λ h. absurd (u.none ((r.report.meaning.reached i l).0 h)))
      go (as_never u) false = (λ h. not-passed (get_or (verdicts (the_block r)) i false) (λ e. u.none ((r.report.meaning.reached i l).0 e)), λ h. refl)

  below : drop (suc (length (the_clauses r))) (the_lines r) ≡ lower_of (the_block r).table (gaps (the_block r)) ++ calls_text (findings (the_block r)).reached.calls (findings (the_block r)).missing.calls ∷ []
  below =
      let w = r.report.words in
      ap (drop (suc (length (the_clauses r)))) w.whole ∙ drop_at w.verdict_texts _ (length (the_clauses r)) (omega (arith, verdicts-many w.each))

  no_gaps_lem : ListsNoGaps r ↔ (length (gaps (the_block r)) ≡ 0)
  no_gaps_lem =
      let n = length (the_clauses r) in
      let at : get_or (the_lines r) (suc n) [] ≡ gaps_text (length (gaps (the_block r))) = ap (λ (k : ℕ). get_or (the_lines r) k []) (omega arith) ∙ sym (get_or-drop (suc n) (the_lines r) 0 []) ∙ ap (λ (ls : List Text). get_or ls 0 []) below in
      (λ h. decimal-names (length (gaps (the_block r))) 0 (ap (drop 5) (sym at ∙ h)), λ h. at ∙ ap gaps_text h)

-- the verdicts that two reports list
both-list : (r s : Review) (i j : ℕ) → i < length (the_clauses r) → j < length (the_clauses s) → get_or (verdicts (the_block r)) i false ≡ get_or (verdicts (the_block s)) j false → SameVerdict r s i j
both-list r s i j k l e v = (λ h. (lists s j l v).1 (sym e ∙ (lists r i k v).0 h), λ h. (lists r i k v).1 (e ∙ (lists s j l v).0 h))

module _ (r s : Review) (t : SameTypes r s) where
  free : OrderFree (the_block r) (the_block s)
  free = order_does_not_matter r.file s.file (the_block r) (the_block s) (record { one = says_in r; other = says_in s; types = t.types; subject = t.subject })

  same-below : SameMembers (the_rows r) (the_rows s) → SameBelow r s
  same-below h =
      let e = free.missing_rows h in
      let n = free.no_gaps h in
      record {
        no_gaps = (λ g. (no_gaps_lem s).1 (n.0 ((no_gaps_lem r).0 g)), λ g. (no_gaps_lem r).1 (n.1 ((no_gaps_lem s).0 g)));
        lower = lower_of (the_block s).table (gaps (the_block s));
        first = (findings (the_block r)).reached.calls;
        first' = (findings (the_block s)).reached.calls;
        second = (findings (the_block s)).missing.calls;
        one = below r ∙ lower-same (findings (the_block r)).reached.calls t.types e (free.missing_calls h);
        other = below s;
      }

  -- the rows of clauses, in the one table
  abbrev pub meant_in : List (List Raw) → List (Option Row)
  meant_in raws = map (simplify (the_block s).table (the_block s).subject) raws

  pub one-meant : map some (the_rows r) ≡ meant_in (the_clauses r)
  one-meant = rows-meant (made r) ∙ meant-same t.types t.subject (the_clauses r)

  pub other-meant : map some (the_rows s) ≡ meant_in (the_clauses s)
  other-meant = rows-meant (made s)

  pub taken : (q : Review) → map some (the_rows q) ≡ meant_in (the_clauses q) → (i : ℕ) → map some (take i (the_rows q)) ≡ meant_in (take i (the_clauses q))
  taken q e i = sym (take-map some i (the_rows q)) ∙ ap (take i) e ∙ take-map (simplify (the_block s).table (the_block s).subject) i (the_clauses q)

  rows_same : {m n : Matrix} {xs ys : List (List Raw)} → map some m ≡ meant_in xs → map some n ≡ meant_in ys → SameMembers xs ys → SameMembers m n
  rows_same {m} {n} e f h = some_members m n (rw (e, f) (map_members (simplify (the_block s).table (the_block s).subject) h))

  by_rows_lem : ByRows r s
  by_rows_lem = record {
    verdict = λ i j k l e h. both-list r s i j k l (free.verdict i j (omega (arith, same-many (made r))) (omega (arith, same-many (made s))) e h);
    below = same-below;
    text = λ e. says-report r.report ∙ ap (λ (b : Block). report b.table (findings b)) (same_parts t.types t.subject e) ∙ sym (says-report s.report);
  }

  by-clauses : ByClauses r s
  by-clauses = record {
    verdict = λ i j k l e h. by_rows_lem.verdict i j k l (row i j k l e) (rows_same (taken r one-meant i) (taken s other-meant j) h);
    below = λ h. same-below (rows_same one-meant other-meant h);
  }
    where
      row : (i j : ℕ) → i < length (the_clauses r) → j < length (the_clauses s) → get_or (the_clauses r) i [] ≡ get_or (the_clauses s) j [] → get_or (the_rows r) i [] ≡ get_or (the_rows s) j []
      row i j k l e =
          let h : some (get_or (the_rows r) i []) ≡ some (get_or (the_rows s) j []) = sym (row_of (made r) i k) ∙ simplified-same t.types t.subject e ∙ row_of (made s) j l in
          cc

  -- the same clauses first, and then the others
  kept : (xs ys zs : List (List Raw)) → SameMembers xs ys → the_clauses r ≡ xs ++ zs → the_clauses s ≡ ys ++ zs → Kept r s (length xs) (length ys) (length zs)
  kept xs ys zs h e f = record {
    verdicts = λ k l. by-clauses.verdict (length xs + k) (length ys + k) (within-later xs zs e k l) (within-later ys zs f k l) (at-later xs zs e k [] ∙ sym (at-later ys zs f k [])) (taken_members xs ys zs e f h k);
    below = by-clauses.below (whole_members xs ys zs e f h);
  }

  moves : Moves r s
  moves = record {
    sooner = λ xs ys zs e f k l.
        by-clauses.verdict k k (within-sooner xs ys e k l) (within-sooner xs zs f k l) (at-sooner xs ys e k [] l ∙ sym (at-sooner xs zs f k [] l)) (sooner_members xs ys zs e f k (omega arith));
    earlier = kept;
    swapped = λ xs ys zs p q e f.
        let k = kept (xs ++ p ∷ ys ++ q ∷ []) (xs ++ q ∷ ys ++ p ∷ []) zs (swapped_members p q xs ys) (e ∙ sym (append_assoc (xs ++ p ∷ ys) (q ∷ []) zs)) (f ∙ sym (append_assoc (xs ++ q ∷ ys) (p ∷ []) zs)) in
        rw (two_between xs ys p q, two_between xs ys q p) at k;
    repeated = λ xs ys zs p m e f. rw (length-append xs ys, one_between xs ys p) at (kept (xs ++ ys) (xs ++ p ∷ ys) zs (repeated_members p xs ys m) e f);
    permuted = λ p. by-clauses.below (permuted_members p);
  }

-- a clause that stands above takes nothing that is new
again : (r : Review) (xs zs : List (List Raw)) (p : List Raw) → Mem p xs → the_clauses r ≡ xs ++ p ∷ zs → Lists r (length xs) false
again r xs zs p m e = (lists r (length xs) l false).1 (not-passed (get_or (verdicts (the_block r)) (length xs) false) (λ h. taken-before ((r.report.meaning.reached (length xs) l).0 h)))
  where
    l : length xs < length (the_clauses r)
    l = omega (arith, ap length e, length-append xs (p ∷ zs))

    taken-before : Reached (the_clauses r) (the_block r) (length xs) → ⊥
    taken-before w = nowhere [] m (λ i k h. w.new i k (subst (λ (ps : List Raw). Takes ps w.value) (at_seam ∙ sym h ∙ sym (at-sooner xs (p ∷ zs) e i [] k)) w.taken))
      where
        at_seam : get_or (the_clauses r) (length xs) [] ≡ p
        at_seam = ap (λ (ls : List (List Raw)). get_or ls (length xs) []) e ∙ get_or-append_seam xs p zs []

pub gets : EveryReport
gets file buffer cells long d = reporting file cells buffer long ((report-exactly file cells (length buffer) long).1 d)

pub request_13 : Request13
request_13 = record { by_rows = by_rows_lem; by_clauses = by-clauses; moves = moves; again = again; gets = gets; begins = begins-alike; no_more = no_more_lem }
