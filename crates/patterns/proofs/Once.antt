-- What the contract of `simplify` determines where the slices hold a table: its answer, `left`, and `nodes` where it is a row; from the row and its literals' places.
use mathlib.Core.Path.{◌≡◌, refl, sym, ap, ◌∙◌}
use mathlib.Core.Bool.{Bool, true, false}
use mathlib.Core.List.{List, []}
use mathlib.Core.Option.{Option, none, some}
use Prim.Native.Nat.{ℕ, ◌+◌}
use lib.ListN.{length, drop}
use lib.Seq.{sets}
use lib.Dec.{leb}
use borrow.Author.Tests.{leb-true, leb-false}
use Rattle.scope.proofs.Tests.{clash}
use Rattle.scope.specs.Types.{Table}
use Rattle.scope.specs.Patterns.{Raw}
use Rattle.scope.specs.Simplify.{Row, simplify}
use Rattle.scope.specs.Frames.{found, patterns}
use Rattle.scope.specs.Blocks.{ok, refuse}
use Rattle.layout.specs.Nodes.{row_of}
use Rattle.nodes.proofs.Numbers.{same_nodes}
use Rattle.patterns.specs.Rows.{Given, said_simplified, Answers, Beside, Simplifies}
use Rattle.std.specs.Prelude.{Result, Ok, Err}
use Rattle.suits.specs.declared.Unsuited.{Unsuited}

-- `left` beside one row is one
same-lefts : (used size : ℕ) (table : Table) (o : Option Row) (a b : List ℕ) → Beside used size table o a → Beside used size table o b → a ≡ b
same-lefts used size table none a b h k = h ∙ sym k
same-lefts used size table (some row) a b h k = go (leb (used + length row) size) refl
  where
    go : (x : Bool) → leb (used + length row) size ≡ x → a ≡ b
    go true e = let l = leb-true (used + length row) size e in h.0 l ∙ sym (k.0 l)
    go false e = let l = leb-false (used + length row) size e in h.1 l ∙ sym (k.1 l)

-- the answer for one row is one
same-said : (r s : Result ℕ Unsuited) → said_simplified r ≡ said_simplified s → r ≡ s
same-said (Ok m) (Ok n) e = let i : m ≡ n = cc in ap Ok i
same-said (Ok m) (Err v) e = clash (cc)
same-said (Err u) (Ok n) e = clash (cc)
same-said (Err u) (Err v) e = refl

same_answer : (bytes m n : List ℕ) (o : Option Row) (r s : Result ℕ Unsuited) → Answers bytes m o r → Answers bytes n o s → r ≡ s
same_answer bytes m n none r s h k = same-said r s (h ∙ sym k)
same_answer bytes m n (some row) r s h k = same-said r s (h.0 ∙ sym k.0)

-- where the answer is a row, the nodes say it
same_row : (bytes m n : List ℕ) (o : Option Row) (r s : Result ℕ Unsuited) (count : ℕ) → r ≡ Ok count → Answers bytes m o r → Answers bytes n o s → row_of bytes m ≡ row_of bytes n
same_row bytes m n none r s count e h k = let f : ok count ≡ refuse 8 = sym (ap said_simplified e) ∙ h in clash (cc)
same_row bytes m n (some row) r s count e h k = h.1 ∙ sym k.1

module _ {bytes : List ℕ} {from : ℕ} {kinds counts arities starts fields : List ℕ} {subject used : ℕ} {nodes left a b x y : List ℕ} {r s : Result ℕ Unsuited} (h : Simplifies bytes from kinds counts arities starts fields subject used nodes left a x r) (k : Simplifies bytes from kinds counts arities starts fields subject used nodes left b y s) (raws : List Raw) (whole : patterns 1 (drop from bytes) ≡ found raws []) (table : Table) (given : Given kinds counts arities starts fields subject table) where
  pub one-simplified : r ≡ s
  one-simplified = same_answer bytes h.new k.new (simplify table subject raws) r s (h.means raws whole table given).0 (k.means raws whole table given).0

  pub one_left : x ≡ y
  one_left =
      let e : h.lefts ≡ k.lefts = same-lefts used (length nodes) table (simplify table subject raws) h.lefts k.lefts (h.means raws whole table given).1 (k.means raws whole table given).1 in
      h.left_are ∙ ap (λ (l : List ℕ). sets left used l) e ∙ sym k.left_are

  pub one-row : (count : ℕ) → r ≡ Ok count → a ≡ b
  one-row count e =
      let f = same_row bytes h.new k.new (simplify table subject raws) r s count e (h.means raws whole table given).0 (k.means raws whole table given).0 in
      let p = h.places count e raws whole ∙ sym (k.places count (sym one-simplified ∙ e) raws whole) in
      h.nodes_are ∙ ap (λ (l : List ℕ). sets nodes used l) (same_nodes bytes h.new k.new f p) ∙ sym k.nodes_are
