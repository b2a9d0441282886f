-- The lines of a file, one after another: what is said so far, and that what is left of the file decides as the definitions do.
use mathlib.Core.Path.{◌≡◌, refl, sym, ap, subst, ◌∙◌}
use mathlib.Core.Bool.{Bool, true, false, cond, ◌&&◌}
use mathlib.Core.Option.{Option, some}
use mathlib.Core.List.{List, [], ◌∷◌, ◌++◌}
use Prim.Native.Nat.{ℕ, suc, ◌+◌, ◌*◌, ◌-◌, ◌%◌, ◌^◌, ◌≤◌, ◌<◌}
use native.Mathlib.Omega.{arith}
use native.Mathlib.Numerals.{add-one}
use lib.ListN.{length, get_or, take, drop, replicate, length-append, take-append-drop, drop_of_length-le}
use lib.Seq.{sets, length-sets, length-take-le, get_or-take, drop_at}
use lib.Dec.{ltb, leb, eqb}
use Rattle.scope.proofs.Tests.{clash, both}
use Rattle.meaning.proofs.Parsing.{block-good}
use Rattle.scope.specs.Lists.{all}
use Rattle.scope.specs.Lines.{Line, ended, lines, is_hex, unhex, is_line}
use Rattle.scope.specs.Types.{Table}
use Rattle.scope.specs.Simplify.{Matrix}
use Rattle.scope.specs.Blocks as scope
use Rattle.scope.specs.Blocks.{Phase, types, constructors, clauses, closed, start, ok, refuse, go_on, framed, line_step, parsed, faulty, finish, parse, block_of}
use Rattle.hexadecimal.specs.declared.Line as hex
use Rattle.hexadecimal.specs.declared.BadLine.{BadLine}
use Rattle.hexadecimal.specs.Digits.{said_line, TakenLine, RefusedLine, Lined}
use Rattle.table.proofs.Held.{take_through}
use Rattle.table.proofs.Carried.{empty_holds, more-holds}
use Rattle.patterns.specs.Rows.{RowAt}
use Rattle.patterns.proofs.Rows.{row-grown}
use Rattle.order.specs.declared.State.{State}
use Rattle.order.specs.Phases.{phase_of, is_closed, closes_in, Numbers}
use Rattle.std.specs.Prelude.{Result, Ok, Err}
use Rattle.scope.specs.Numbers.{number_of}
use Rattle.scope.specs.declared.refusal.Refusal.{Refusal}
use Rattle.scope.specs.declared.refusal.Refusal.TheVariants.{Order}
use Rattle.reading.specs.declared.file.Parsed.{Parsed}
use Rattle.reading.specs.declared.file.Faulty.{Faulty}
use Rattle.reading.specs.Said.{Held, held, Sized, Rows, Says, said_step, Stepped, goes, stops}
use Rattle.reading.specs.Files.{HoldsBlock, file_of, end_of, LinesAs, says_block, says_fault}
use Rattle.reading.proofs.Entering.{no_rows}
use Rattle.reading.proofs.Whole.{file-lines}

-- the slices, with more bytes
abbrev pub grown : Held → List ℕ → Held
grown h bytes = held bytes h.kinds h.counts h.arities h.starts h.names h.fields h.labels h.nodes h.left h.rows

-- lengths do not ask for the bytes
resized : {h : Held} → Sized h → (bytes : List ℕ) → Sized (grown h bytes)
resized z bytes = record { kinds_long = z.kinds_long; counts_long = z.counts_long; arities_long = z.arities_long; starts_long = z.starts_long; names_long = z.names_long; fields_long = z.fields_long; labels_long = z.labels_long; nodes_long = z.nodes_long; left_long = z.left_long; rows_long = z.rows_long }

-- a line that was read, by its answer
module _ (file : List ℕ) (from : ℕ) (before : List ℕ) (at : ℕ) (l : Result hex.Line BadLine) (after : List ℕ) (x : Lined file from before at (said_line l) after) where
  pub taken : (m : hex.Line) → l ≡ Ok m → TakenLine file from before at m.next m.to after
  taken m e = subst (λ (r : Result hex.Line BadLine). Lined file from before at (said_line r) after) e x

  pub not_taken : (e : BadLine) → l ≡ Err e → RefusedLine file from before 3 after
  not_taken m e = subst (λ (r : Result hex.Line BadLine). Lined file from before at (said_line r) after) e x

rows_grown : {bytes nodes left rows : List ℕ} {count used : ℕ} {table : Table} {m : Matrix} (more : List ℕ) → Rows bytes nodes left rows count used table m → Rows (bytes ++ more) nodes left rows count used table m
rows_grown {bytes} more o = record { counted = o.counted; packed = o.packed; few = o.few; short = o.short; each = λ i l. row-grown bytes more (o.each i l); before = o.before }

-- what is said stays so with more bytes
pub says-grown : {h : Held} {s : State} {σ : scope.State} (more : List ℕ) → Says h s σ → Says (grown h (h.bytes ++ more)) s σ
says-grown {h} more w =
    record {
      phase_is = w.phase_is;
      holds = more-holds h.bytes more w.holds;
      few = w.few;
      subject_is = w.subject_is;
      clauses_are = w.clauses_are;
      rows_are = rows_grown more w.rows_are;
      in_phase = w.in_phase;
      sized = resized w.sized (h.bytes ++ more);
    }

-- a line that is not 3 has a byte
some_byte : (ds : List ℕ) → is_line (ended ds) ≡ true → 0 < length (unhex ds)
unfolding is_line unhex
some_byte [] e = let p = both (ltb 0 0 && eqb (0 % 2) 0 && leb 0 1280) (all is_hex []) e in let q = both (ltb 0 0 && eqb (0 % 2) 0) (leb 0 1280) p.0 in let r : ltb 0 0 ≡ true = (both (ltb 0 0) (eqb (0 % 2) 0) q.0).0 in clash (cc)
some_byte (d ∷ []) e = let p = both (ltb 0 1 && eqb (1 % 2) 0 && leb 1 1280) (all is_hex (d ∷ [])) e in let q = both (ltb 0 1 && eqb (1 % 2) 0) (leb 1 1280) p.0 in let r : eqb (1 % 2) 0 ≡ true = (both (ltb 0 1) (eqb (1 % 2) 0) q.0).1 in clash (cc)
some_byte (d ∷ f ∷ ds) e = omega arith

-- a line of hexadecimal is its bytes' step
parse-next : (k : ℕ) (σ : scope.State) (ds : List ℕ) (rest : List Line) → is_line (ended ds) ≡ true → parse k σ (ended ds ∷ rest) ≡ go_on k (framed σ (unhex ds)) (λ σ'. parse (suc k) σ' rest)
unfolding parse line_step
parse-next k σ ds rest e = rw e

-- 3
parse-bad : (k : ℕ) (σ : scope.State) (l : Line) (rest : List Line) → is_line l ≡ false → parse k σ (l ∷ rest) ≡ faulty 3 k
unfolding parse line_step
parse-bad k σ l rest e = rw e

-- up to the place i of the file, before line k: what is said, and what is left decides
pub record Within (file : List ℕ) (k i at : ℕ) (s : State) (h : Held) : Type 0 where
  pub state : scope.State
  pub says : Says h s state
  pub short : length file ≤ 49152
  pub onward : file_of file ≡ parse k state (lines (drop i file))
  pub packed : 2 * at ≤ i
  pub inside : i ≤ length file
  pub numbered : k ≤ i + 1

-- nothing is read yet
pub within-start : (file : List ℕ) → length file ≤ 49152 → (s : State) (bytes kinds counts arities starts names fields labels nodes left rows : List ℕ) → Numbers s 0 0 0 0 0 → labels ≡ replicate 5120 0 → Sized (held bytes kinds counts arities starts names fields labels nodes left rows)
    → Within file 1 0 0 s (held (take 0 bytes) kinds counts arities starts names fields labels nodes left rows)
unfolding block_of
within-start file l s bytes kinds counts arities starts names fields labels nodes left rows n e z =
    record {
      state = start;
      says = record {
        phase_is = ap phase_of n.phase_is;
        holds = rw (n.types_are, n.ctors_are, n.fields_are, e) (empty_holds (take 0 bytes) kinds counts arities starts names fields 5120);
        few = omega (arith, n.ctors_are);
        subject_is = n.subject_is;
        clauses_are = n.clauses_are;
        rows_are = no_rows _ _ _ _ _ _ _ n.count_is n.used_is;
        in_phase = tt;
        sized = resized z (take 0 bytes);
      };
      short = l;
      onward = file-lines file l;
      packed = omega arith;
      inside = omega arith;
      numbered = omega arith;
    }

-- the answer to a line, taken apart
gone : {h : Held} {r : scope.Step State} {x : scope.Step scope.State} → Stepped h r x → (s : State) → r ≡ ok s → (σ : scope.State) × ((x ≡ ok σ) × Says h s σ)
gone {h} (goes {s = s'} {σ = σ} w) s e = let i : s' ≡ s = cc in (σ, (refl, subst (λ (t : State). Says h t σ) i w))
gone (stops n) s e = clash (cc)

stopped : {h : Held} {r : scope.Step State} {x : scope.Step scope.State} → Stepped h r x → (n : ℕ) → r ≡ refuse n → x ≡ refuse n
stopped (goes w) n e = clash (cc)
stopped (stops m) n e = let i : m ≡ n = cc in ap refuse i

module _ {file : List ℕ} {k i at : ℕ} {s : State} {h : Held} (v : Within file k i at s h) where
  -- the next line has a number
  pub next-line : k + 1 < 2 ^ 64
  next-line = omega (arith, v.numbered, v.inside, v.short)

  -- 3
  pub line-bad : {before after : List ℕ} → RefusedLine file i before 3 after → file_of file ≡ faulty 3 k
  line-bad t = v.onward ∙ ap (parse k v.state) t.begins ∙ parse-bad k v.state t.line t.others t.bad

  module _ (before after : List ℕ) (next to : ℕ) (t : TakenLine file i before at next to after) (so_far : h.bytes ≡ take at before) (fits : length file ≤ 2 * length before) where
    abbrev line-bytes : List ℕ
    line-bytes = unhex t.digits_of

    to-fits : to ≤ length before
    to-fits = omega (arith, t.packed, t.inside)

    pub to-after : to ≤ length after
    to-after = omega (arith, to-fits, ap length t.written, length-sets before at line-bytes)

    -- the bytes so far, and the line's
    bytes-are : take to after ≡ h.bytes ++ line-bytes
    bytes-are = ap (λ (l : List ℕ). take to l) t.written ∙ ap (λ (n : ℕ). take n (sets before at line-bytes)) t.reached ∙ take_through line-bytes before at (omega (arith, to-fits, t.reached)) ∙ ap (λ (l : List ℕ). l ++ line-bytes) (sym so_far)

    before-long : at ≡ length h.bytes
    before-long = sym (ap length so_far ∙ length-take-le at before (omega (arith, to-fits, t.reached)))

    pub line-is : drop at (take to after) ≡ line-bytes
    line-is = ap (drop at) bytes-are ∙ drop_at h.bytes line-bytes at (sym before-long)

    pub line-long : length (take to after) ≡ to
    line-long = ap length bytes-are ∙ length-append h.bytes line-bytes ∙ omega (arith, before-long, t.reached)

    line-some : at < to
    line-some = omega (arith, t.reached, some_byte t.digits_of t.good)

    pub line_asks : (at < length (take to after)) × ((length (take to after) ≤ 24576) × (length (take to after) ≤ at + 640))
    line_asks = (omega (arith, line-long, line-some), (omega (arith, line-long, t.packed, t.inside, v.short), omega (arith, line-long, t.short)))

    pub line-less : length file - next < length file - i
    line-less = omega (arith, t.onward, t.inside)

    pub line-says : Says (grown h (take to after)) s v.state
    line-says = rw bytes-are (says-grown line-bytes v.says)

    module _ (r : Result State Refusal) {h' : Held} (x : Stepped h' (said_step r) (framed v.state (drop at (take to after)))) where
      goes_on : file_of file ≡ go_on k (framed v.state (drop at (take to after))) (λ σ'. parse (suc k) σ' (lines (drop next file)))
      goes_on = v.onward ∙ ap (parse k v.state) t.begins ∙ parse-next k v.state t.digits_of (lines (drop next file)) t.good ∙ ap (λ (bs : List ℕ). go_on k (framed v.state bs) (λ σ'. parse (suc k) σ' (lines (drop next file)))) (sym line-is)

      pub line-stops : (f : Refusal) → r ≡ Err f → file_of file ≡ faulty (number_of f) k
      line-stops f e = goes_on ∙ ap (λ (y : scope.Step scope.State). go_on k y (λ σ'. parse (suc k) σ' (lines (drop next file)))) (stopped x (number_of f) (ap said_step e))

      pub line-goes : (s' : State) → r ≡ Ok s' → Within file (k + 1) next to s' h'
      line-goes s' e =
          let g = gone x s' (ap said_step e) in
          record {
            state = g.0;
            says = g.1.1;
            short = v.short;
            onward = goes_on ∙ ap (λ (y : scope.Step scope.State). go_on k y (λ σ'. parse (suc k) σ' (lines (drop next file)))) g.1.0 ∙ ap (λ (j : ℕ). parse j g.0 (lines (drop next file))) (sym (add-one k));
            packed = t.packed;
            inside = t.inside;
            numbered = omega (arith, v.numbered, t.onward);
          }

  -- the end of the file
  module _ (done : length file ≤ i) where
    at-end : file_of file ≡ finish k v.state
    unfolding lines parse
    at-end = v.onward ∙ ap (λ (l : List ℕ). parse k v.state (lines l)) (drop_of_length-le file done)

    by-phase : file_of file ≡ cond (closes_in s.phase) (parsed v.state.block) (faulty 5 k)
    unfolding closes_in
    by-phase = at-end ∙ at-phase v.state.phase ∙ ap (λ (p : Option Phase). cond (is_closed p) (parsed v.state.block) (faulty 5 k)) (sym v.says.phase_is)
      where
        at-phase : (p : Phase) → finish k (record { phase = p; block = v.state.block }) ≡ cond (is_closed (some p)) (parsed v.state.block) (faulty 5 k)
        at-phase types = refl
        at-phase constructors = refl
        at-phase clauses = refl
        at-phase closed = refl

    the_block : closes_in s.phase ≡ true → (bytes : List ℕ) → h.bytes ≡ take at bytes → LinesAs file (grown h bytes) (Ok (record { subject = s.subject; clauses = s.clauses; types = s.types }))
    the_block e bytes so_far =
        let b = v.state.block in
        let is : file_of file ≡ parsed b = by-phase ∙ ap (λ (c : Bool). cond c (parsed b) (faulty 5 k)) e in
        let whole : h.bytes ++ drop at bytes ≡ bytes = ap (λ (l : List ℕ). l ++ drop at bytes) so_far ∙ take-append-drop at bytes in
        let w : Says (grown h bytes) s v.state = subst (λ (l : List ℕ). Says (grown h l) s v.state) whole (says-grown (drop at bytes) v.says) in
        let g = block-good (lines file) b (sym (file-lines file v.short) ∙ is) in
        let few : s.clauses ≤ 64 = omega (arith, w.clauses_are, w.rows_are.few) in
        let long : length (take s.clauses h.rows) ≡ length b.rows = length-take-le s.clauses h.rows (omega (arith, v.says.sized.rows_long)) ∙ w.clauses_are in
        let row : (j : ℕ) → j < length b.rows → RowAt bytes h.nodes h.left b.table (get_or (take s.clauses h.rows) j 0) (get_or b.rows j []) = λ j l. rw (get_or-take s.clauses h.rows j 0 (omega (arith, w.clauses_are))) (w.rows_are.each j l) in
        let there : HoldsBlock (grown h bytes) s.subject s.clauses s.types b =
        record {
          ctors = s.ctors;
          fields = s.fields;
          holds = w.holds;
          rows_are = record {
            same = v.says.sized.left_long ∙ sym v.says.sized.nodes_long;
            short = omega (arith, v.says.sized.nodes_long);
            many = long;
            each = λ j l. (row j l).stands;
          };
          subject_is = w.subject_is;
          clauses_are = w.clauses_are;
          sound = g.sound;
          typed = g.typed;
          each_row = row;
          few_clauses = few;
          sized = w.sized;
        } in
        says_block b is there

    pub at_last : (bytes : List ℕ) → h.bytes ≡ take at bytes → (r : Result Parsed Faulty) → r ≡ end_of s k → LinesAs file (grown h bytes) r
    unfolding end_of
    at_last bytes so_far r e = subst (λ (x : Result Parsed Faulty). LinesAs file (grown h bytes) x) (sym e) (go (closes_in s.phase) refl)
      where
        go : (c : Bool) → closes_in s.phase ≡ c → LinesAs file (grown h bytes) (cond c (Ok (record { subject = s.subject; clauses = s.clauses; types = s.types })) (Err (record { why = Order; line = k })))
        go true c = the_block c bytes so_far
        go false c = says_fault (by-phase ∙ ap (λ (x : Bool). cond x (parsed v.state.block) (faulty 5 k)) c)
