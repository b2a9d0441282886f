-- Every file that gets a report has the promises, and its report says the findings, from what the walks and refusal 7 mean and from how a file is read.
use mathlib.Core.Path.{◌≡◌, refl, ap, sym, ◌∙◌}
use mathlib.Core.Logic.{◌↔◌}
use mathlib.Core.List.{List, [], ◌∷◌, ◌++◌, append_assoc, append-nil}
use mathlib.Core.Bool.{Bool, true, false, cond}
use Prim.Native.Nat.{ℕ, zero, suc, ◌+◌, ◌<◌}
use native.Mathlib.Nat.{le_of_suc-le-suc, not-suc-le-zero}
use native.Mathlib.Omega.{arith}
use lib.ListN.{length, get_or, take}
use lib.Dec.{leb, ltb}
use Rattle.scope.specs.declared.Answer.TheVariants.{Report}
use Rattle.scope.specs.Limits.{scratch_cells, max_file}
use Rattle.scope.specs.Lists.{Text, all}
use Rattle.scope.specs.Lines.{lines}
use Rattle.scope.specs.Types.{Ref, Table}
use Rattle.scope.specs.Simplify.{Matrix}
use Rattle.laws.specs.Typed.{Typed, TypedRows}
use Rattle.scope.specs.Walks.{is_useful}
use Rattle.scope.specs.Blocks.{Block, Parsed, parsed, faulty, block_of}
use Rattle.scope.specs.Driver.{judged, findings, verdicts, too_much}
use Rattle.scope.specs.Report.{yeses, noes, report}
use Rattle.scope.specs.Answer.{Outcome, fitted, refused, walked, outcome_of, outcome, answer, report_text}
use Rattle.meaning.specs.Values.{admits}
use Rattle.meaning.specs.Meaning.{Witness, Sound}
use Rattle.meaning.specs.Rows.{Promises, Promised, SaysFindings}
use Rattle.scope.proofs.Tests.{clash, both, and-true}
use Rattle.meaning.proofs.Fitting.{AllSuit, all-suit}
use Rattle.meaning.proofs.Usefulness.{useful_right}
use Rattle.meaning.proofs.Gaps.{each_at, missing-typed, missing-plain, missing_witness, missing-apart, missing-none}
use Rattle.meaning.proofs.Once.{missing-once}
use Rattle.meaning.proofs.Finite.{sound-right}
use Rattle.meaning.proofs.Parsing.{Good, block-good}

-- an outcome with a report: the block it is about, its text, and its length
record Behind (o : Outcome) (p : Parsed) (n : ℕ) : Type 0 where
  block : Block
  says : p ≡ parsed block
  text : o.text ≡ report block.table (findings block)
  long : length o.text ≡ n

fitted-behind : (room n : ℕ) (b : Block) → (fitted room (report b.table (findings b))).answer ≡ Report n → Behind (fitted room (report b.table (findings b))) (parsed b) n
unfolding fitted
fitted-behind room n b h = go (leb (length t) room) h
  where
    t : Text
    t = report b.table (findings b)

    go : (x : Bool) → (cond x (record { answer = Report (length t); text = t }) (refused 11 0)).answer ≡ Report n → Behind (cond x (record { answer = Report (length t); text = t }) (refused 11 0)) (parsed b) n
    go true e = record { block = b; says = refl; text = refl; long = cc }
    go false e = clash (cc)

walked-behind : (room n : ℕ) (b : Block) → (walked room b (findings b)).answer ≡ Report n → Behind (walked room b (findings b)) (parsed b) n
unfolding walked
walked-behind room n b h = go (too_much (findings b)) h
  where
    go : (x : Bool) → (cond x (refused 10 0) (fitted room (report b.table (findings b)))).answer ≡ Report n → Behind (cond x (refused 10 0) (fitted room (report b.table (findings b)))) (parsed b) n
    go true e = clash (cc)
    go false e = fitted-behind room n b e

judged-behind : (room n : ℕ) (p : Parsed) → (outcome_of room p).answer ≡ Report n → Behind (outcome_of room p) p n
unfolding outcome_of
judged-behind room n (parsed b) h = walked-behind room n b h
judged-behind room n (faulty m k) h = clash (cc)

-- a refusal that a test may give instead
unless : (o : Outcome) (q : Parsed) (n m k : ℕ) (x : Bool) → (o.answer ≡ Report n → Behind o q n) → (cond x (refused m k) o).answer ≡ Report n → Behind (cond x (refused m k) o) q n
unless o q n m k true h e = clash (cc)
unless o q n m k false h e = h e

outcome-behind : (file : List ℕ) (cells room n : ℕ) → (outcome file cells room).answer ≡ Report n → Behind (outcome file cells room) (block_of (lines file)) n
unfolding outcome
outcome-behind file cells room n h =
    let read = outcome_of room (block_of (lines file)) in
    let sized = cond (ltb max_file (length file)) (refused 2 0) read in
    unless sized (block_of (lines file)) n 1 0 (ltb cells scratch_cells) (unless read (block_of (lines file)) n 2 0 (ltb max_file (length file)) (judged-behind room n (block_of (lines file)))) h

-- The verdicts, clause by clause
pub judged-at : (table : Table) (before rs : Matrix) (i : ℕ) → i < length rs → get_or (judged table before rs).result i false ≡ (is_useful table 1 (before ++ take i rs) (get_or rs i [])).result
unfolding judged
judged-at table before [] i l = absurd (not-suc-le-zero l)
judged-at table before (r ∷ rs) zero l = rw (append-nil before)
judged-at table before (r ∷ rs) (suc i) l = judged-at table (before ++ r ∷ []) rs i (le_of_suc-le-suc l) ∙ rw (append_assoc before (r ∷ []) (take i rs))

pub judged-length : (table : Table) (before rs : Matrix) → length (judged table before rs).result ≡ length rs
unfolding judged
judged-length table before [] = refl
judged-length table before (r ∷ rs) = ap suc (judged-length table _ rs)

verdicts_add : (vs : List Bool) → yeses vs + noes vs ≡ length vs
verdicts_add [] = refl
verdicts_add (true ∷ vs) = omega (arith, verdicts_add vs)
verdicts_add (false ∷ vs) = omega (arith, verdicts_add vs)

-- rows before row i, and row i
pub take-typed : {table : Table} {ts : List Ref} {m : Matrix} → TypedRows table ts m → (i : ℕ) → TypedRows table ts (take i m)
take-typed a zero = TypedRows.no_rows
take-typed TypedRows.no_rows (suc i) = TypedRows.no_rows
take-typed (TypedRows.also h a) (suc i) = TypedRows.also h (take-typed a i)

pub at_typed : {table : Table} {ts : List Ref} {m : Matrix} → TypedRows table ts m → (i : ℕ) → i < length m → Typed table ts (get_or m i [])
at_typed TypedRows.no_rows i l = absurd (not-suc-le-zero l)
at_typed (TypedRows.also h a) zero l = h
at_typed (TypedRows.also h a) (suc i) l = at_typed a i (le_of_suc-le-suc l)

pub take-admitted : (m : Matrix) (i : ℕ) → all (all admits) m ≡ true → all (all admits) (take i m) ≡ true
take-admitted m zero h = refl
take-admitted [] (suc i) h = refl
take-admitted (r ∷ m) (suc i) h = let p = both (all admits r) (all (all admits) m) h in and-true p.0 (take-admitted m i p.1)

at-admitted : (m : Matrix) (i : ℕ) → i < length m → all (all admits) m ≡ true → all admits (get_or m i []) ≡ true
at-admitted [] i l h = absurd (not-suc-le-zero l)
at-admitted (r ∷ m) zero l h = (both (all admits r) (all (all admits) m) h).0
at-admitted (r ∷ m) (suc i) l h = at-admitted m i (le_of_suc-le-suc l) (both (all admits r) (all (all admits) m) h).1

-- what holds of the findings about a good block
block-promises : (file : List ℕ) (b : Block) → block_of (lines file) ≡ parsed b → Good b → Promises file
unfolding findings
block-promises file b e good = record {
  block = b;
  says = e;
  sound = sound;
  suited = good.typed;
  admitted = good.admitted;
  each = judged-length b.table [] b.rows;
  reached = reached;
  complete = missing-none sound.valued (b.subject ∷ []) b.rows suit;
  patterned = missing-typed (b.subject ∷ []) b.rows suit;
  plain = missing-plain (b.subject ∷ []) b.rows suit;
  missed = each_at (missing_witness sound.valued (b.subject ∷ []) b.rows suit);
  once = missing-once (b.subject ∷ []) b.rows suit;
  apart = λ plain vs h i l f. (each_at (missing-apart (b.subject ∷ []) b.rows suit) i l).apart plain vs h f;
}
  where
    sound : Sound b.table b.subject
    sound = (sound-right b.table b.subject).0 good.sound

    suit : AllSuit b.table (b.subject ∷ []) b.rows
    suit = all-suit good.typed good.admitted

    reached : (i : ℕ) → i < length b.rows → (get_or (verdicts b) i false ≡ true) ↔ Witness b.table (b.subject ∷ []) (take i b.rows) (get_or b.rows i [])
    reached i l =
        let u = useful_right b.table sound.valued (b.subject ∷ []) (take i b.rows) (get_or b.rows i []) (take-typed good.typed i) (at_typed good.typed i l) (take-admitted b.rows i good.admitted) (at-admitted b.rows i l good.admitted) in
        let v = judged-at b.table [] b.rows i l in
        (λ h. u.0 (sym v ∙ h), λ w. v ∙ u.1 w)

-- a file that says a block has them, with a report or without
pub said-promises : (file : List ℕ) (b : Block) → block_of (lines file) ≡ parsed b → Promises file
said-promises file b e = block-promises file b e (block-good (lines file) b e)

pub promises : Promised
unfolding answer
promises file cells room n h = let o = outcome-behind file cells room n h in said-promises file o.block o.says

counted : (b : Block) → yeses (verdicts b) + noes (verdicts b) ≡ length b.rows
unfolding findings
counted b = verdicts_add (verdicts b) ∙ judged-length b.table [] b.rows

pub reported : SaysFindings
unfolding answer report_text
reported file cells room n h = let o = outcome-behind file cells room n h in record { block = o.block; says = o.says; text = o.text; long = o.long; counted = counted o.block }
