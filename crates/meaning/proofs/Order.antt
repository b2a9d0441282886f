-- A verdict is a question about values, and a value does not see the order of the rows that it fits; nor does the missing walk: from the promises over rows.
use mathlib.Core.Path.{◌≡◌, refl, ap, sym, ◌∙◌}
use mathlib.Core.List.{List, [], ◌∷◌, Mem, not-mem-nil, mem-cons_self, mem-cons_of_mem, eq-or-mem_of_mem-cons}
use mathlib.Core.Logic.Or
use mathlib.Core.Logic.{◌⊎◌, inl, inr}
use mathlib.Core.Bool.{Bool, true, false, ◌||◌, Bool-set}
use Prim.Native.Nat.{ℕ, ◌<◌}
use lib.ListN.{length, get_or, take}
use Rattle.scope.specs.Lists.{any}
use Rattle.scope.specs.Simplify.{Row, Matrix}
use Rattle.scope.specs.Driver.{findings, verdicts}
use Rattle.meaning.specs.Values.{Vals, fits, fits_any}
use Rattle.meaning.specs.Rows.{Promises, Reaches}
use Rattle.meaning.specs.Order.{SameMembers, OrderFree, OrderDoesNotMatter}
use Rattle.scope.proofs.Tests.{clash, either, or_left, or_right}
use Rattle.meaning.proofs.Fitting.{all-suit, same_bool}
use Rattle.meaning.proofs.Parsing.{same_block}
use Rattle.meaning.proofs.Promised.{said-promises}
use Rattle.meaning.proofs.Members.{turned_members}
use Rattle.meaning.proofs.Untold.{Untold, Alike, missing-alike}

-- a member that passes a test
record Passes {A : Type 0} (p : A → Bool) (l : List A) : Type 0 where
  one : A
  member : Mem one l
  passed : p one ≡ true

passes-any : {A : Type 0} (p : A → Bool) (l : List A) (w : Passes p l) → any p l ≡ true
passes-any p [] w = absurd (not-mem-nil w.member)
passes-any p (x ∷ l) w =
    Or.elim (Bool-set (any p (x ∷ l)) true) (eq-or-mem_of_mem-cons w.member) (λ e. or_left (any p l) (ap p (sym e) ∙ w.passed))
    (λ m. or_right (p x) (passes-any p l (record { one = w.one; member = m; passed = w.passed })))

any-passes : {A : Type 0} (p : A → Bool) (l : List A) → any p l ≡ true → Passes p l
any-passes p [] h = clash (cc)
any-passes p (x ∷ l) h = go (either (p x) (any p l) h) (any-passes p l)
  where
    go : (p x ≡ true) ⊎ (any p l ≡ true) → (any p l ≡ true → Passes p l) → Passes p (x ∷ l)
    go (inl e) more = record { one = x; member = mem-cons_self; passed = e }
    go (inr e) more = let w = more e in record { one = w.one; member = mem-cons_of_mem x w.member; passed = w.passed }

-- no test tells the same members apart
moved : {A : Type 0} {l k : List A} → SameMembers l k → (p : A → Bool) → any p l ≡ true → any p k ≡ true
moved {l = l} {k = k} s p h = let w = any-passes p l h in passes-any p k (record { one = w.one; member = s.there w.one w.member; passed = w.passed })

same_untold : {m n : Matrix} → SameMembers m n → Untold m n
same_untold {m} {n} s = record { tests = λ p. same_bool (any p m) (any p n) (moved s p) (moved (turned_members s) p) }

fits-some : (m : Matrix) (vs : Vals) → fits_any m vs ≡ any (λ r. fits r vs) m
fits-some [] vs = refl
fits-some (r ∷ m) vs = ap (λ (x : Bool). fits r vs || x) (fits-some m vs)

same-fit : {m n : Matrix} → SameMembers m n → (vs : Vals) → fits_any m vs ≡ fits_any n vs
same-fit {m} {n} s vs = fits-some m vs ∙ (same_untold s).tests (λ r. fits r vs) ∙ sym (fits-some n vs)

module _ (file file' : List ℕ) (p : Promises file) (q : Promises file') (types : p.block.table ≡ q.block.table) (subject : p.block.subject ≡ q.block.subject) where
  reaches : {m n : Matrix} {r s : Row} → r ≡ s → SameMembers m n → Reaches p.block m r → Reaches q.block n s
  reaches e same w = record { values = w.values; typed = rw (← types, ← subject) w.typed; fitting = rw (← e) w.fitting; new = sym (same-fit same w.values) ∙ w.new }

  verdict-to : (i j : ℕ) → i < length p.block.rows → j < length q.block.rows → get_or p.block.rows i [] ≡ get_or q.block.rows j []
      → SameMembers (take i p.block.rows) (take j q.block.rows) → get_or (verdicts p.block) i false ≡ true → get_or (verdicts q.block) j false ≡ true
  verdict-to i j k l e s y = (q.reached j l).1 (reaches e s ((p.reached i k).0 y))

  missed-alike : SameMembers p.block.rows q.block.rows → Alike (findings p.block).missing (findings q.block).missing
  unfolding findings
  missed-alike s =
      let a = rw (types, subject) at (all-suit p.suited p.admitted) in
      let b = all-suit q.suited q.admitted in
      rw types (missing-alike (q.block.subject ∷ []) p.block.rows q.block.rows a b (same_untold s))

shared : (file file' : List ℕ) (p : Promises file) (q : Promises file') → p.block.table ≡ q.block.table → p.block.subject ≡ q.block.subject → OrderFree p.block q.block
shared file file' p q t u = record {
  verdict = λ i j k l e s. same_bool (get_or (verdicts p.block) i false) (get_or (verdicts q.block) j false)
      (verdict-to file file' p q t u i j k l e s) (verdict-to file' file q p (sym t) (sym u) j i l k (sym e) (turned_members s));
  no_gaps = λ s. let e = ap length (missed-alike file file' p q t u s).result in (λ h. sym e ∙ h, λ h. e ∙ h);
  missing_rows = λ s. (missed-alike file file' p q t u s).result;
  missing_calls = λ s. (missed-alike file file' p q t u s).calls;
}

pub order_does_not_matter : OrderDoesNotMatter
order_does_not_matter file file' b c s =
    let p = said-promises file b s.one in
    let q = said-promises file' c s.other in
    let e = same_block p.says s.one in
    let f = same_block q.says s.other in
    rw (← e, ← f) (shared file file' p q (rw (e, f) s.types) (rw (e, f) s.subject))
