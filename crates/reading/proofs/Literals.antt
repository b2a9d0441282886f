-- Every literal in the rows of a block that was read stands whole among the bytes: from what each row's nodes say.
use mathlib.Core.Path.{◌≡◌, subst, ◌∙◌}
use mathlib.Core.List.{List, []}
use Prim.Native.Nat.{ℕ, zero, suc, ◌+◌, ◌-◌, ◌≤◌, ◌<◌}
use native.Mathlib.Omega.{arith}
use lib.ListN.{length, get_or, take, drop, length-drop}
use lib.Seq.{get_or-take, get_or-drop, length-take-le}
use Rattle.scope.specs.Types.{Table}
use Rattle.scope.specs.Simplify.{Row}
use Rattle.scope.specs.Blocks as scope
use Rattle.layout.specs.Nodes.{LiteralStands, Literals, done, also}
use Rattle.patterns.specs.Rows.{RowAt}
use Rattle.reading.specs.Said.{Held}
use Rattle.reading.specs.Files.{HoldsBlock}

-- among nodes
literal-at : {bytes ns : List ℕ} → Literals bytes ns → (j : ℕ) → j < length ns → 32768 ≤ get_or ns j 0 → LiteralStands bytes (get_or ns j 0 - 32768)
literal-at done j l h = absurd (omega arith)
literal-at (also w q) zero l h = w h
literal-at (also w q) (suc j) l h = literal-at q j (omega arith) h

-- in a row
pub row-literal : {bytes nodes left : List ℕ} {table : Table} {p : ℕ} {r : Row} → RowAt bytes nodes left table p r → (j : ℕ) → j < length r → 32768 ≤ get_or nodes (p + j) 0 → LiteralStands bytes (get_or nodes (p + j) 0 - 32768)
row-literal {bytes} {nodes} {p = p} {r = r} a j l h =
    let same : get_or (take (length r) (drop p nodes)) j 0 ≡ get_or nodes (p + j) 0 = get_or-take (length r) (drop p nodes) j 0 l ∙ get_or-drop p nodes j 0 in
    let long : length (take (length r) (drop p nodes)) ≡ length r = length-take-le (length r) (drop p nodes) (omega (arith, a.stands.inside, length-drop p nodes)) in
    subst (λ (n : ℕ). LiteralStands bytes (n - 32768)) same (literal-at a.whole j (omega arith) (omega arith))

-- in a block
pub block-literal : {h : Held} {subject clauses types : ℕ} {b : scope.Block} → HoldsBlock h subject clauses types b → (i j : ℕ) → i < length b.rows → j < length (get_or b.rows i []) → 32768 ≤ get_or h.nodes (get_or (take clauses h.rows) i 0 + j) 0 → LiteralStands h.bytes (get_or h.nodes (get_or (take clauses h.rows) i 0 + j) 0 - 32768)
block-literal x i j l m n = row-literal (x.each_row i l) j m n
