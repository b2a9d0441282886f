-- `matrix::same_literal` meets its contract: all bytes agree, by the definition's own test.
use Rattle.std.proofs.Common.{rules, tests, arith, ◌≡◌, ℕ, ◌+◌, get_or, ◌∙◌, refl, eqb}
use native.Mathlib.Nat.{add-zero}
use Rattle.std.specs.List.{list_all, range_with_len}
use Rattle.std.proofs.lemmas.Iterator.{YieldsList-from_range}
use Rattle.std.proofs.lemmas.Iterator.Search.{all_from_yields_List}
use Rattle.matrix.proofs.Literals.{agree-all, lit-whole}
use Rattle.matrix.proofs.same_literal.Goals as goal

pub returns : goal.returns
returns c =
    let a = c.args in
    let bytes = a.bytes.now in
    let n = 2 + get_or bytes (a.a + 1) 0 in
    let test = λ (i : ℕ). eqb (get_or bytes (a.a + i) 0) (get_or bytes (a.b + i) 0) in
    let e : c.all.result ≡ list_all test (range_with_len 0 n) = all_from_yields_List test _ _ c.all.result c.all.ensures.ran (YieldsList-from_range 0 n n (cc) (omega arith)) (λ x b q k. search (rules, tests)) in
    e ∙ agree-all bytes a.a a.b 0 n ∙ simp add-zero (lit-whole bytes a.a a.b n refl)
