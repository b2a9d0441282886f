-- From the words of a report alone: they fix its bytes, and `clause k never` stands there once, in line k + 1, exactly where no value reaches clause k.
use mathlib.Core.Path.{◌≡◌, refl, ap, sym, subst, ◌∙◌}
use mathlib.Core.List.{List, [], ◌∷◌, ◌++◌, map}
use mathlib.Core.Logic.{◌↔◌}
use Prim.Native.Nat.{ℕ, zero, suc, ◌+◌, ◌<◌}
use native.Mathlib.Nat.{le_of_suc-le-suc, not-suc-le-zero}
use native.Mathlib.Omega.{arith}
use lib.ListN.{length, get_or, drop, length-append, get_or-append}
use Rattle.scope.specs.Lists.{Text, bytes}
use Rattle.scope.specs.Lines.{Line, ended}
use Rattle.scope.specs.Types.{Table}
use Rattle.scope.specs.Patterns.{Raw}
use Rattle.scope.specs.Simplify.{Matrix}
use Rattle.scope.specs.Text.{decimal}
use Rattle.scope.specs.Blocks.{Block}
use Rattle.scope.specs.Driver.{findings, gaps}
use Rattle.refusals.specs.Cut.{Cuts}
use Rattle.promises.specs.Clauses.{Reached}
use Rattle.promises.specs.Words.{count_text, reached_text, never_text, Unreached, Verdicts, gaps_text, pair_texts, calls_text, Words, WordsSay}
use Rattle.meaning.proofs.Decimals.{decimal-names}

-- what stands in front of the same text
cancel : (x y s : Text) → x ++ s ≡ y ++ s → x ≡ y
cancel [] [] s e = refl
cancel [] (b ∷ y) s e = absurd (omega (arith, ap length e, length-append y s))
cancel (a ∷ x) [] s e = absurd (omega (arith, ap length e, length-append x s))
cancel (a ∷ x) (b ∷ y) s e = let h : a ≡ b = cc in let t : x ++ s ≡ y ++ s = cc in rw (h, cancel x y s t)

-- the line names its clause
never-number : (a b : ℕ) → never_text a ≡ never_text b → a ≡ b
never-number a b e = decimal-names a b (cancel (decimal a) (decimal b) (bytes " never") (ap (drop 7) e))

-- the last byte of a text
abbrev last_of : Text → ℕ
last_of [] = 0
last_of (a ∷ []) = a
last_of (a ∷ b ∷ t) = last_of (b ∷ t)

last_append : (x : Text) (c : ℕ) (s : Text) → last_of (x ++ c ∷ s) ≡ last_of (c ∷ s)
last_append [] c s = refl
last_append (a ∷ []) c s = refl
last_append (a ∷ b ∷ x) c s = last_append (b ∷ x) c s

-- the two words differ in their last byte
pub words-differ : (a b : ℕ) → reached_text a ≡ never_text b → ⊥
words-differ a b e =
    let x : last_of (reached_text a) ≡ 100 = last_append (bytes "clause " ++ decimal a) 32 (bytes "reached") in
    let y : last_of (never_text b) ≡ 114 = last_append (bytes "clause " ++ decimal b) 32 (bytes "never") in
    omega (arith, x, y, ap last_of e)

module _ {clauses : List (List Raw)} {b : Block} where
  -- one line a clause
  pub verdicts-many : {i r n : ℕ} {ls : List Text} → Verdicts clauses b i r n ls → i + length ls ≡ length clauses
  verdicts-many Verdicts.done = omega arith
  verdicts-many (Verdicts.reached x more) = omega (arith, verdicts-many more)
  verdicts-many (Verdicts.never x more) = omega (arith, verdicts-many more)

  -- line p of those about the clauses from i on
  further : {P : Type 0} (i p k : ℕ) → P ↔ ((k ≡ suc i + p) × Unreached clauses b k) → P ↔ ((k ≡ i + suc p) × Unreached clauses b k)
  further i p k w = (λ e. let h = w.0 e in (omega (arith, h.0), h.1), λ h. w.1 (omega (arith, h.0), h.1))

  verdict-at : {i r n : ℕ} {ls : List Text} → Verdicts clauses b i r n ls → (p k : ℕ) → p < length ls → (get_or ls p [] ≡ never_text (suc k)) ↔ ((k ≡ i + p) × Unreached clauses b k)
  verdict-at Verdicts.done p k l = absurd (not-suc-le-zero l)
  verdict-at {i} (Verdicts.reached x more) zero k l = (λ e. absurd (words-differ (suc i) (suc k) e), λ h. let j : k ≡ i = omega (arith, h.0) in absurd ((subst (Unreached clauses b) j h.1).none x))
  verdict-at {i} (Verdicts.never u more) zero k l =
      (λ e. let j : i ≡ k = omega (arith, never-number (suc i) (suc k) e) in (omega arith, subst (Unreached clauses b) j u), λ h. let j : suc i ≡ suc k = omega (arith, h.0) in ap never_text j)
  verdict-at {i} (Verdicts.reached x more) (suc p) k l = further i p k (verdict-at more p k (le_of_suc-le-suc l))
  verdict-at {i} (Verdicts.never x more) (suc p) k l = further i p k (verdict-at more p k (le_of_suc-le-suc l))

-- the line about clause i says what is so
pub data Told (clauses : List (List Raw)) (b : Block) (i : ℕ) : Text → Type 0 where
  as_reached : Reached clauses b i → Told clauses b i (reached_text (suc i))
  as_never : Unreached clauses b i → Told clauses b i (never_text (suc i))

line-told : {clauses : List (List Raw)} {b : Block} {i r n : ℕ} {ls : List Text} → Verdicts clauses b i r n ls → (p : ℕ) → p < length ls → Told clauses b (i + p) (get_or ls p [])
line-told Verdicts.done p l = absurd (not-suc-le-zero l)
line-told {clauses} {b} {i} (Verdicts.reached x more) zero l = subst (λ (k : ℕ). Told clauses b k (reached_text (suc i))) (omega arith) (as_reached x)
line-told {clauses} {b} {i} (Verdicts.never u more) zero l = subst (λ (k : ℕ). Told clauses b k (never_text (suc i))) (omega arith) (as_never u)
line-told {clauses} {b} {i} (Verdicts.reached {ls = ls} x more) (suc p) l = subst (λ (k : ℕ). Told clauses b k (get_or ls p [])) (omega arith) (line-told more p (le_of_suc-le-suc l))
line-told {clauses} {b} {i} (Verdicts.never {ls = ls} u more) (suc p) l = subst (λ (k : ℕ). Told clauses b k (get_or ls p [])) (omega arith) (line-told more p (le_of_suc-le-suc l))

-- a line that is in front of others, none of which is it
in_front : (t : Text) (ls rest : List Text) → ((q : ℕ) → get_or rest q [] ≡ t → ⊥) → (p : ℕ) → get_or (ls ++ rest) p [] ≡ t → (p < length ls) × (get_or ls p [] ≡ t)
in_front t [] rest h p e = absurd (h p e)
in_front t (l ∷ ls) rest h zero e = (omega arith, e)
in_front t (l ∷ ls) rest h (suc p) e = let w = in_front t ls rest h p e in (omega (arith, w.0), w.1)

-- the other lines begin otherwise
module _ (k : ℕ) where
  calls-not : (m n q : ℕ) → get_or (calls_text m n ∷ []) q [] ≡ never_text k → ⊥
  calls-not m n zero e = let i : ◌≡◌ {A = ℕ} 97 108 = ap (λ (t : Text). get_or t 1 0) e in omega arith
  calls-not m n (suc q) e = let i : ◌≡◌ {A = ℕ} 0 99 = ap (λ (t : Text). get_or t 0 0) e in omega arith

  pairs-not : (table : Table) (m : Matrix) (rest : List Text) → ((q : ℕ) → get_or rest q [] ≡ never_text k → ⊥) → (q : ℕ) → get_or (pair_texts table m ++ rest) q [] ≡ never_text k → ⊥
  pairs-not table [] rest h q e = h q e
  pairs-not table (r ∷ m) rest h zero e = let i : ◌≡◌ {A = ℕ} 109 99 = ap (λ (t : Text). get_or t 0 0) e in omega arith
  pairs-not table (r ∷ m) rest h (suc zero) e = let i : ◌≡◌ {A = ℕ} 112 99 = ap (λ (t : Text). get_or t 0 0) e in omega arith
  pairs-not table (r ∷ m) rest h (suc (suc q)) e = pairs-not table m rest h q e

  gaps-not : (n : ℕ) (rest : List Text) → ((q : ℕ) → get_or rest q [] ≡ never_text k → ⊥) → (q : ℕ) → get_or (gaps_text n ∷ rest) q [] ≡ never_text k → ⊥
  gaps-not n rest h zero e = let i : ◌≡◌ {A = ℕ} 103 99 = ap (λ (t : Text). get_or t 0 0) e in omega arith
  gaps-not n rest h (suc q) e = h q e

  count-not : (all reached never : ℕ) → count_text all reached never ≡ never_text k → ⊥
  count-not all reached never e = let i : ◌≡◌ {A = ℕ} 115 32 = ap (λ (t : Text). get_or t 6 0) e in omega arith

pub clause-told : {clauses : List (List Raw)} {b : Block} {text : Text} (w : Words clauses b text) (i : ℕ) → i < length clauses → Told clauses b i (get_or w.texts (suc i) [])
clause-told {clauses} {b} w i l =
    let k : i < length w.verdict_texts = omega (arith, verdicts-many w.each) in
    let e = ap (λ (ls : List Text). get_or ls (suc i) []) w.whole ∙ get_or-append w.verdict_texts _ [] i k in
    subst (Told clauses b i) (sym e) (subst (λ (n : ℕ). Told clauses b n (get_or w.verdict_texts i [])) (omega arith) (line-told w.each i k))

-- line j of a report, counted from 0, is `clause k + 1 never` exactly when j is k + 1 and no value reaches clause k
never-exactly : {clauses : List (List Raw)} {b : Block} {text : Text} (w : Words clauses b text) (k j : ℕ) → (get_or w.texts j [] ≡ never_text (suc k)) ↔ ((j ≡ suc k) × Unreached clauses b k)
never-exactly {clauses} {b} w k j = rw w.whole (to j, back)
  where
    last : List Text
    last = calls_text (findings b).reached.calls (findings b).missing.calls ∷ []

    after : List Text
    after = gaps_text (length (gaps b)) ∷ (pair_texts b.table (gaps b) ++ last)

    lines : List Text
    lines = count_text (length clauses) w.reached w.never ∷ (w.verdict_texts ++ after)

    not_after : (q : ℕ) → get_or after q [] ≡ never_text (suc k) → ⊥
    not_after = gaps-not (suc k) (length (gaps b)) (pair_texts b.table (gaps b) ++ last) (pairs-not (suc k) b.table (gaps b) last (calls-not (suc k) (findings b).reached.calls (findings b).missing.calls))

    to : (i : ℕ) → get_or lines i [] ≡ never_text (suc k) → (i ≡ suc k) × Unreached clauses b k
    to zero e = absurd (count-not (suc k) (length clauses) w.reached w.never e)
    to (suc p) e =
        let f = in_front (never_text (suc k)) w.verdict_texts after not_after p e in
        let h = (verdict-at w.each p k f.0).0 f.1 in
        (omega (arith, h.0), h.1)

    back : (j ≡ suc k) × Unreached clauses b k → get_or lines j [] ≡ never_text (suc k)
    back h =
        let l : k < length w.verdict_texts = omega (arith, verdicts-many w.each, h.1.within) in
        rw h.0 (get_or-append w.verdict_texts after [] k l ∙ (verdict-at w.each k k l).1 (omega arith, h.1))

-- two texts of the same lines are the same
cuts-once : {s t : Text} {ls : List Line} → Cuts s ls → Cuts t ls → s ≡ t
cuts-once Cuts.done Cuts.done = refl
cuts-once (Cuts.a_line ds f c) (Cuts.a_line es g d) = ap (λ (x : Text). ds ++ 10 ∷ x) (cuts-once c d)
cuts-once (Cuts.a_piece f) (Cuts.a_piece g) = refl

-- the lines about clauses, and how many there are of both
record SameLines (r n r' n' : ℕ) (ls ls' : List Text) : Type 0 where
  reached : r ≡ r'
  never : n ≡ n'
  lines : ls ≡ ls'

module _ {clauses : List (List Raw)} {b : Block} where
  -- are what values reach
  verdicts-once : {i i' r n r' n' : ℕ} {ls ls' : List Text} → Verdicts clauses b i r n ls → Verdicts clauses b i' r' n' ls' → i ≡ i' → SameLines r n r' n' ls ls'
  verdicts-once Verdicts.done Verdicts.done e = record { reached = refl; never = refl; lines = refl }
  verdicts-once Verdicts.done (Verdicts.reached x more) e = absurd (omega (arith, verdicts-many more))
  verdicts-once Verdicts.done (Verdicts.never x more) e = absurd (omega (arith, verdicts-many more))
  verdicts-once (Verdicts.reached x more) Verdicts.done e = absurd (omega (arith, verdicts-many more))
  verdicts-once (Verdicts.never x more) Verdicts.done e = absurd (omega (arith, verdicts-many more))
  verdicts-once (Verdicts.reached x more) (Verdicts.reached y others) e =
      let w = verdicts-once more others (ap suc e) in
      record { reached = ap suc w.reached; never = w.never; lines = rw (e, w.lines) }
  verdicts-once (Verdicts.never x more) (Verdicts.never y others) e =
      let w = verdicts-once more others (ap suc e) in
      record { reached = w.reached; never = ap suc w.never; lines = rw (e, w.lines) }
  verdicts-once (Verdicts.reached x more) (Verdicts.never y others) e = absurd (y.none (subst (Reached clauses b) e x))
  verdicts-once (Verdicts.never x more) (Verdicts.reached y others) e = absurd (x.none (subst (Reached clauses b) (sym e) y))

-- so two texts with these words are the same
pub one-text : {clauses : List (List Raw)} {b : Block} {s t : Text} → Words clauses b s → Words clauses b t → s ≡ t
one-text {t = t} w x =
    let v = verdicts-once w.each x.each refl in
    let e : w.texts ≡ x.texts = w.whole ∙ rw (v.reached, v.never, v.lines) (sym x.whole) in
    cuts-once w.cuts (subst (λ (ls : List Text). Cuts t (map ended ls)) (sym e) x.cuts)

pub words-say : WordsSay
words-say = record { never = λ clauses b text w. never-exactly w; one_text = λ clauses b s t. one-text }
