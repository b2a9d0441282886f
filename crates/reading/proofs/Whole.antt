-- The answer for a whole file: from its length, and from what its lines answer and the slices hold afterwards.
use mathlib.Core.Path.{◌≡◌, sym, ap, ◌∙◌}
use mathlib.Core.Bool.{Bool, true, false, cond}
use mathlib.Core.List.{List}
use Prim.Native.Nat.{ℕ, ◌≤◌, ◌<◌}
use borrow.Author.Tests.{lt-ltb, le-ltb}
use lib.ListN.{length, replicate, length-replicate}
use Rattle.scope.proofs.Tests.{clash}
use Rattle.scope.specs.Lines.{lines}
use Rattle.scope.specs.Blocks.{faulty, block_of}
use Rattle.order.specs.declared.State.{State}
use Rattle.order.specs.Phases.{closes_in}
use Rattle.std.specs.Prelude.{Result, Ok, Err}
use Rattle.std.specs.Result.{is_err}
use Rattle.scope.specs.declared.refusal.Refusal.TheVariants.{Order}
use Rattle.layout.specs.declared.tables.Store.{Store}
use Rattle.layout.specs.Stores.{BlankStore}
use Rattle.reading.specs.declared.file.Parsed.{Parsed}
use Rattle.reading.specs.declared.file.Faulty.{Faulty}
use Rattle.reading.specs.Said.{Held, held, held_by, Sized}
use Rattle.reading.specs.Files.{file_of, end_of, LinesAs, says_block, says_fault, said_parsed, ReadAs, a_block, a_fault}

-- 2
pub file-long : (file : List ℕ) → 49152 < length file → file_of file ≡ faulty 2 0
unfolding file_of
file-long file l = rw (lt-ltb 49152 (length file) l)

-- then line by line
pub file-lines : (file : List ℕ) → length file ≤ 49152 → file_of file ≡ block_of (lines file)
unfolding file_of
file-lines file l = rw (le-ltb 49152 (length file) l)

-- after the last line, by the test of the phase
pub end_is : (s : State) (k : ℕ) (b : Bool) → closes_in s.phase ≡ b → cond b (Ok (record { subject = s.subject; clauses = s.clauses; types = s.types })) (Err (record { why = Order; line = k })) ≡ end_of s k
unfolding end_of
end_is s k b e = ap (λ (c : Bool). cond c (Ok (record { subject = s.subject; clauses = s.clauses; types = s.types })) (Err (record { why = Order; line = k }))) (sym e)

-- zero everywhere, by the length that it has
zero-long : (n : ℕ) {s : List ℕ} → s ≡ replicate n 0 → length s ≡ n
zero-long n e = ap length e ∙ length-replicate {A = ℕ} n 0

zero_now : (n : ℕ) {s : List ℕ} → s ≡ replicate n 0 → s ≡ replicate (length s) 0
zero_now n e = e ∙ ap (λ (m : ℕ). replicate m 0) (sym (zero-long n e))

-- the lengths, with labels that are zero everywhere
pub relabelled : {h : Held} → Sized h → Sized (held h.bytes h.kinds h.counts h.arities h.starts h.names h.fields (replicate 5120 0) h.nodes h.left h.rows)
relabelled z = record { kinds_long = z.kinds_long; counts_long = z.counts_long; arities_long = z.arities_long; starts_long = z.starts_long; names_long = z.names_long; fields_long = z.fields_long; labels_long = length-replicate {A = ℕ} 5120 0; nodes_long = z.nodes_long; left_long = z.left_long; rows_long = z.rows_long }

-- a blank store has the lengths of the limits
pub blank-sized : {s : Store} → BlankStore s → Sized (held_by s)
blank-sized z =
    record {
      kinds_long = zero-long 64 z.kinds_zero;
      counts_long = zero-long 64 z.counts_zero;
      arities_long = zero-long 2048 z.arities_zero;
      starts_long = zero-long 2048 z.starts_zero;
      names_long = zero-long 2048 z.names_zero;
      fields_long = zero-long 5120 z.fields_zero;
      labels_long = zero-long 5120 z.labels_zero;
      nodes_long = zero-long 4160 z.nodes_zero;
      left_long = zero-long 4160 z.left_zero;
      rows_long = zero-long 64 z.row_starts_zero;
    }

-- the answer, by what the lines answered: a block's store is as it was, a refusal's is blank
pub block_read : {file : List ℕ} {h : Held} (r : Result Parsed Faulty) → is_err r ≡ false → LinesAs file h r → ReadAs file h (said_parsed r)
block_read (Ok p) e (says_block b is x) = a_block b is x
block_read (Err f) e x = let i : true ≡ false = e in clash (cc)

pub fault-read : {file : List ℕ} {h : Held} {s : Store} (r : Result Parsed Faulty) → is_err r ≡ true → LinesAs file h r → BlankStore s → ReadAs file (held_by s) (said_parsed r)
fault-read (Ok p) e x z = let i : false ≡ true = e in clash (cc)
fault-read (Err f) e (says_fault is) z =
    a_fault is (blank-sized z) (record {
      bytes_zero = zero_now 24576 z.bytes_zero;
      kinds_zero = zero_now 64 z.kinds_zero;
      counts_zero = zero_now 64 z.counts_zero;
      arities_zero = zero_now 2048 z.arities_zero;
      starts_zero = zero_now 2048 z.starts_zero;
      names_zero = zero_now 2048 z.names_zero;
      fields_zero = zero_now 5120 z.fields_zero;
      labels_zero = zero_now 5120 z.labels_zero;
      nodes_zero = zero_now 4160 z.nodes_zero;
      left_zero = zero_now 4160 z.left_zero;
      rows_zero = zero_now 64 z.row_starts_zero;
    })
