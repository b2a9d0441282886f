-- The calls of `put_rows` and `choose` of one another, over plain lists: what each asks, and what each answer gives.
use mathlib.Core.Path.{◌≡◌, sym, ap, ap₂, subst, ◌∙◌}
use mathlib.Core.List.{List, [], ◌∷◌, ◌++◌}
use Prim.Native.Nat.{ℕ, ◌+◌, ◌-◌, ◌/◌, ◌%◌, ◌≤◌, ◌<◌}
use native.Mathlib.Nat.{sub-zero}
use native.Mathlib.Omega.{arith}
use lib.ListN.{get_or, set, replicate}
use lib.Seq.{set-set, set-get_or}
use Rattle.std.specs.Prelude.{Result, Ok, Err, IsErr}
use Rattle.matrix.specs.Numbers.{Rows, ar_of}
use Rattle.outcomes.specs.declared.Spelt.{Spelt}
use Rattle.outcomes.specs.declared.TooMuch.{TooMuch}
use Rattle.outcomes.specs.Past.{said_spelt, fitting}
use Rattle.paths.specs.Path.{chosen, under, path_of, spelt}
use Rattle.paths.specs.Spread.{Put, Spread, Spelling}
use Rattle.paths.proofs.PathLaws.{under_append, under_none, chosen_none, chosen-not, chosen_is, spelt-least, rows-one, rows-each, row-chosen}
use Rattle.paths.proofs.PathSpread.{spread_none, spread-one, spread-stop, spread-fit, spread-then}

-- one step fewer to choose
pub fewer : {path alts : List ℕ} {depth k n written rows : ℕ} → Spelling path alts depth k n written rows → (j : ℕ) → j ≤ k → Spelling path alts depth j n written rows
fewer sp j l =
    record { inside = omega (arith, sp.inside); long_path = sp.long_path; long_alts = sp.long_alts; deep = sp.deep; wide = sp.wide; low = record { each = λ i h. sp.low.each i (omega arith) }; some = sp.some; within = sp.within; few = sp.few }

-- the path afterwards
pub restored : (path : List ℕ) (k b : ℕ) (pe : List ℕ) → ((x : ℕ) → set pe k x ≡ set path k x) → b ≡ get_or path k 0 → set pe k b ≡ path
restored path k b pe f e = f b ∙ ap (set path k) e ∙ set-get_or path k 0

-- the rows of the constructors of step k that are still to be chosen: those from b on, more of them, that are in the set `rest`
abbrev pub rest_of : List ℕ → List ℕ → List ℕ → ℕ → ℕ → ℕ → ℕ → ℕ → ℕ → Rows
rest_of ars path alts depth k n rest b more = under ars (path_of path alts k) (chosen ars rest b more (spelt ars path alts (k + 1) (depth - (k + 1)) n))

-- c of the 32 constructors of step k are chosen: what holds of the path, of what is written, and of what is still to come
pub record Chosen (ars path alts : List ℕ) (depth k n written rows : ℕ) (d p : List ℕ) (rest b c : ℕ) (v : Spelt) (e : List ℕ) : Type 0 where
  pub kept : (x : ℕ) → set p k x ≡ set path k x
  pub within : v.written ≤ 4096
  pub few : v.rows ≤ v.written
  pub on : (r : Result Spelt TooMuch) (e₂ : List ℕ) → Spread e v.written v.rows (rest_of ars path alts depth k n rest (b + c) (32 - c)) r e₂ → Spread d written rows (rest_of ars path alts depth k n (get_or alts k 0) b 32) r e₂

module _ (ars : List ℕ) {path alts : List ℕ} {depth k n written rows : ℕ} (sp : Spelling path alts depth k n written rows) where
  pub all-chosen : k ≡ 0 → under ars (path_of path alts k) (spelt ars path alts k (depth - k) n ∷ []) ≡ spelt ars path alts 0 depth n ∷ []
  unfolding under path_of
  all-chosen z = ap (λ (j : ℕ). under ars (path_of path alts j) (spelt ars path alts j (depth - j) n ∷ [])) z ∙ ap (λ (j : ℕ). spelt ars path alts 0 j n ∷ []) (sub-zero depth)

  module _ {d e : List ℕ} {r : Result Spelt TooMuch} where
    pub rows_fit : k ≡ 0 → {at : ℕ} → Put d written (spelt ars path alts 0 depth n) at e → said_spelt r ≡ fitting at rows → Spread d written rows (under ars (path_of path alts k) (spelt ars path alts k (depth - k) n ∷ [])) r e
    rows_fit z {at} p q = subst (λ (m : Rows). Spread d written rows m r e) (sym (all-chosen z))
        (spread-one d written rows (spelt ars path alts 0 depth n) at e p r q sp.few (omega (arith, spelt-least ars path alts n depth 0, sp.some)))

    pub rows_on : 0 < k → get_or alts (k - 1) 0 ≡ 0
        → Spread d written rows (under ars (path_of path alts (k - 1)) (spelt ars path alts (k - 1) (depth - (k - 1)) n ∷ [])) r e
        → Spread d written rows (under ars (path_of path alts k) (spelt ars path alts k (depth - k) n ∷ [])) r e
    rows_on pos z f = subst (λ (m : Rows). Spread d written rows m r e) (rows-one ars path alts n k depth pos sp.inside z) f

    pub rows-chosen : 0 < k → (get_or alts (k - 1) 0 ≡ 0 → ⊥)
        → Spread d written rows (rest_of ars path alts depth (k - 1) n (get_or alts (k - 1) 0) (get_or path (k - 1) 0) 32) r e
        → Spread d written rows (under ars (path_of path alts k) (spelt ars path alts k (depth - k) n ∷ [])) r e
    rows-chosen pos z f = subst (λ (m : Rows). Spread d written rows m r e) (rows-each ars path alts n k depth pos sp.inside z) f

  -- the constructors of step k, one after another
  module _ (lt : k < depth) (alt : 0 < get_or alts k 0) {d : List ℕ} {b : ℕ} where
    module _ {p e : List ℕ} {rest c : ℕ} {v : Spelt} (h : Chosen ars path alts depth k n written rows d p rest b c v e) where
      pub chosen-end : 32 ≤ c → Spread d written rows (rest_of ars path alts depth k n (get_or alts k 0) b 32) (Ok v) e
      chosen-end l = h.on (Ok v) e (spread_none e v (rest_of ars path alts depth k n rest (b + c) (32 - c))
          (ap (under ars (path_of path alts k)) (chosen_none ars rest (b + c) (32 - c) (spelt ars path alts (k + 1) (depth - (k + 1)) n) (omega arith)) ∙ under_none ars (path_of path alts k)) h.within h.few)

      module _ (l : c < 32) where
        next : b + c + 1 ≡ b + (c + 1)
        next = omega arith

        less : 32 - c - 1 ≡ 32 - (c + 1)
        less = omega arith

        pub chosen-skip : rest % 2 ≡ 0 → Chosen ars path alts depth k n written rows d p (rest / 2) b (c + 1) v e
        chosen-skip z = record {
          kept = h.kept;
          within = h.within;
          few = h.few;
          on = λ r e₂ f. h.on r e₂ (subst (λ (m : Rows). Spread e v.written v.rows m r e₂)
              (sym (ap (under ars (path_of path alts k)) (chosen-not ars rest (b + c) (32 - c) (spelt ars path alts (k + 1) (depth - (k + 1)) n) (omega arith) z ∙ ap₂ (λ (x y : ℕ). chosen ars (rest / 2) x y (spelt ars path alts (k + 1) (depth - (k + 1)) n)) next less)))
              f);
        }

        -- the path for the constructor b + c
        module _ {pc : List ℕ} (pe : pc ≡ set p k (b + c)) where
          there : pc ≡ set path k (b + c)
          there = pe ∙ h.kept (b + c)

          first : Rows
          first = under ars (path_of (set path k (b + c)) alts k) (spelt ars (set path k (b + c)) alts k (depth - k) n ∷ [])

          later : Rows
          later = rest_of ars path alts depth k n (rest / 2) (b + (c + 1)) (32 - (c + 1))

          halves : (rest % 2 ≡ 0 → ⊥) → rest_of ars path alts depth k n rest (b + c) (32 - c) ≡ first ++ later
          unfolding first later
          halves z =
              let row : List ℕ = spelt ars path alts (k + 1) (depth - (k + 1)) n in
              ap (under ars (path_of path alts k)) (chosen_is ars rest (b + c) (32 - c) row (omega arith) z)
              ∙ under_append ars (path_of path alts k) (((b + c) ∷ replicate (ar_of ars (b + c)) 0 ++ row) ∷ []) (chosen ars (rest / 2) (b + c + 1) (32 - c - 1) row)
              ∙ ap₂ (λ (m o : Rows). m ++ under ars (path_of path alts k) o)
              (sym (row-chosen ars path alts n k depth (b + c) lt (omega (arith, sp.long_path)) alt))
              (ap₂ (λ (x y : ℕ). chosen ars (rest / 2) x y row) next less)

          module _ (z : rest % 2 ≡ 0 → ⊥) {r : Result Spelt TooMuch} {ec : List ℕ}
              (f : Spread e v.written v.rows (under ars (path_of pc alts k) (spelt ars pc alts k (depth - k) n ∷ [])) r ec) where
            firsts : Spread e v.written v.rows first r ec
            unfolding first
            firsts = subst (λ (x : List ℕ). Spread e v.written v.rows (under ars (path_of x alts k) (spelt ars x alts k (depth - k) n ∷ [])) r ec) there f

            pub chosen-stop : {t : TooMuch} → r ≡ Err t → {u : Result Spelt TooMuch} → IsErr u → Spread d written rows (rest_of ars path alts depth k n (get_or alts k 0) b 32) u ec
            chosen-stop {t} q {u} i = h.on u ec (spread-stop e v.written v.rows first later (rest_of ars path alts depth k n rest (b + c) (32 - c)) (halves z) r ec firsts t q u i)

            pub chosen-more : {w : Spelt} → r ≡ Ok w → {p₂ : List ℕ} → p₂ ≡ pc → Chosen ars path alts depth k n written rows d p₂ (rest / 2) b (c + 1) w ec
            unfolding later
            chosen-more {w} q pq =
                let g = spread-fit e v.written v.rows first later (rest_of ars path alts depth k n rest (b + c) (32 - c)) (halves z) r ec firsts w q in
                record {
                  kept = λ x. ap (λ (y : List ℕ). set y k x) (pq ∙ there) ∙ set-set path k (b + c) x;
                  within = g.0;
                  few = g.1;
                  on = λ r₂ e₂ f₂. h.on r₂ e₂ (spread-then e v.written v.rows first later (rest_of ars path alts depth k n rest (b + c) (32 - c)) (halves z) r ec firsts w q r₂ e₂ f₂);
                }
