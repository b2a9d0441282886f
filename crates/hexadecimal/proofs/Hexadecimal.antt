-- A line's characters: where the line ends, what its digits say, what refusal 3 tests. By the definitions alone.
use mathlib.Core.Path.{◌≡◌, refl, sym, ap, ◌∙◌}
use mathlib.Core.List.{List, [], ◌∷◌}
use mathlib.Core.Bool.{Bool, true, false, cond, ◌&&◌}
use Prim.Native.Nat.{ℕ, zero, suc, ◌+◌, ◌-◌, ◌*◌, ◌/◌, ◌%◌, ◌≤◌, ◌<◌}
use native.Mathlib.Omega.{arith}
use lib.ListN.{length, get_or, take, drop, set, length-drop, length-take}
use lib.Seq.{drop-drop, take_all, sets}
use Rattle.cells.proofs.Laws.{sets-next}
use lib.Dec.{eqb, leb, ltb}
use borrow.Author.Tests.{eqb-true, ltb-true, ltb-false, leb-true}
use Rattle.std.specs.Prelude.{Option, Some, None}
use Rattle.std.specs.List.{position_or_len}
use Rattle.std.proofs.lemmas.List.Recursion.{is_position_or_len}
use Rattle.scope.proofs.Tests.{both, clash}
use Rattle.scope.specs.Limits.{max_digits}
use Rattle.scope.specs.Lists.{all}
use Rattle.scope.specs.Lines.{ended, cut, into_first, lines, is_hex, hex, unhex, is_line}
use Rattle.hexadecimal.specs.Digits.{digits, TakenLine, RefusedLine}

-- they are as many as there are, and begin what is left
pub digits-take : (s : List ℕ) → take (length (digits s)) s ≡ digits s
digits-take [] = refl
digits-take (b ∷ s) = go (eqb b 10) (digits-take s)
  where
    go : (x : Bool) → take (length (digits s)) s ≡ digits s → take (length (cond x [] (b ∷ digits s))) (b ∷ s) ≡ cond x [] (b ∷ digits s)
    go true e = refl
    go false e = ap (λ (l : List ℕ). b ∷ l) e

pub digits-most : (s : List ℕ) → length (digits s) ≤ length s
digits-most s = omega (arith, ap length (digits-take s), length-take (length (digits s)) s)

-- they are as many as the place of the first line feed says
digits-place : (s : List ℕ) → length (digits s) ≡ position_or_len (λ b. eqb b 10) s
digits-place = is_position_or_len (λ s. length (digits s)) (λ b. eqb b 10) refl step
  where
    go : (x : Bool) (b : ℕ) (s : List ℕ) → length (cond x [] (b ∷ s)) ≡ cond x 0 (1 + length s)
    go true b s = refl
    go false b s = omega arith

    step : (b : ℕ) (s : List ℕ) → length (digits (b ∷ s)) ≡ cond (eqb b 10) 0 (1 + length (digits s))
    step b s = go (eqb b 10) b (digits s)

-- where the first line feed is sought
module _ (s : List ℕ) (r : Option ℕ) (sought : r ≡ cond (ltb (position_or_len (λ b. eqb b 10) s) (length s)) (Some (position_or_len (λ b. eqb b 10) s)) None) where
  abbrev place : ℕ
  place = position_or_len (λ b. eqb b 10) s

  pub feed-found : (n : ℕ) → r ≡ Some n → n ≡ length (digits s)
  feed-found n h = go (ltb place (length s)) (sym h ∙ sought) ∙ sym (digits-place s)
    where
      go : (x : Bool) → Some n ≡ cond x (Some place) None → n ≡ place
      go true e = cc
      go false e = clash (cc)

  pub feed_none : r ≡ None → length s ≡ length (digits s)
  feed_none h = go (ltb place (length s)) refl (sym h ∙ sought)
    where
      go : (x : Bool) → ltb place (length s) ≡ x → None ≡ cond x (Some place) None → length s ≡ length (digits s)
      go true u e = clash (cc)
      go false u e = omega (arith, ltb-false place (length s) u, digits-place s, digits-most s)

-- without a line feed a file that is not empty is one cut line
pub lines_cut : (s : List ℕ) → 0 < length s → length s ≤ length (digits s) → lines s ≡ cut s ∷ []
unfolding lines
lines_cut [] h k = absurd (omega arith)
lines_cut (b ∷ s) h k = go (eqb b 10) k (λ m n. lines_cut s m n)
  where
    more : (l : List ℕ) → l ≡ s → length l ≤ length (digits s) → (0 < length s → length s ≤ length (digits s) → lines s ≡ cut s ∷ []) → into_first b (lines s) ≡ cut (b ∷ s) ∷ []
    more [] e m ih = rw (← e)
    more (x ∷ l) e m ih = ap (into_first b) (ih (omega (arith, ap length e)) (omega (arith, ap length e)))

    go : (x : Bool) → length (b ∷ s) ≤ length (cond x [] (b ∷ digits s)) → (0 < length s → length s ≤ length (digits s) → lines s ≡ cut s ∷ []) → cond x (ended [] ∷ lines s) (into_first b (lines s)) ≡ cut (b ∷ s) ∷ []
    go true m ih = absurd (omega arith)
    go false m ih = more s refl (omega arith) ih

-- the characters before a line feed are a line, and the others follow
pub lines-ended : (s : List ℕ) → length (digits s) < length s → lines s ≡ ended (digits s) ∷ lines (drop (suc (length (digits s))) s)
unfolding lines
lines-ended [] h = absurd (omega arith)
lines-ended (b ∷ s) h = go (eqb b 10) h (λ m. lines-ended s m)
  where
    go : (x : Bool) → length (cond x [] (b ∷ digits s)) < suc (length s) → (length (digits s) < length s → lines s ≡ ended (digits s) ∷ lines (drop (suc (length (digits s))) s)) → cond x (ended [] ∷ lines s) (into_first b (lines s)) ≡ ended (cond x [] (b ∷ digits s)) ∷ lines (drop (length (cond x [] (b ∷ digits s))) s)
    go true m ih = refl
    go false m ih = ap (into_first b) (ih (omega arith))

-- two digits a byte
pub length-unhex : (ds : List ℕ) → length (unhex ds) ≡ length ds / 2
unfolding unhex
length-unhex [] = refl
length-unhex (d ∷ []) = refl
length-unhex (d ∷ e ∷ ds) = omega (arith, length-unhex ds)

-- the byte that two digits say
pub get_or-unhex : (ds : List ℕ) (k : ℕ) → k < length ds / 2 → get_or (unhex ds) k 0 ≡ 16 * hex (get_or ds (2 * k) 0) + hex (get_or ds (2 * k + 1) 0)
unfolding unhex
get_or-unhex [] k h = absurd (omega arith)
get_or-unhex (d ∷ []) k h = absurd (omega arith)
get_or-unhex (d ∷ e ∷ ds) zero h = refl
get_or-unhex (d ∷ e ∷ ds) (suc k) h =
    let p : 2 * suc k ≡ suc (suc (2 * k)) = omega arith in
    let q : 2 * suc k + 1 ≡ suc (suc (2 * k + 1)) = omega arith in
    get_or-unhex ds k (omega arith)
    ∙ ap (λ (i : ℕ). 16 * hex (get_or (d ∷ e ∷ ds) i 0) + hex (get_or ds (2 * k + 1) 0)) (sym p)
    ∙ ap (λ (i : ℕ). 16 * hex (get_or (d ∷ e ∷ ds) (2 * suc k) 0) + hex (get_or (d ∷ e ∷ ds) i 0)) (sym q)

-- what an ended line is
module _ (ds : List ℕ) where
  pub line-hex : is_line (ended ds) ≡ true → (length ds ≤ 1280) × (length ds % 2 ≡ 0) × (all is_hex ds ≡ true)
  unfolding is_line
  line-hex h =
      let filled = ltb 0 (length ds) in
      let even = eqb (length ds % 2) 0 in
      let p = both (filled && even && leb (length ds) 1280) (all is_hex ds) h in
      let q = both (filled && even) (leb (length ds) 1280) p.0 in
      (leb-true (length ds) 1280 q.1, eqb-true (length ds % 2) 0 (both filled even q.0).1, p.1)

-- one more byte is written
pub decode-next : (ds d : List ℕ) (at k b : ℕ) → k < length ds / 2 → b ≡ 16 * hex (get_or ds (2 * k) 0) + hex (get_or ds (2 * k + 1) 0) → set (sets d at (take k (unhex ds))) (at + k) b ≡ sets d at (take (k + 1) (unhex ds))
decode-next ds d at k b h e =
    ap (set (sets d at (take k (unhex ds))) (at + k)) (e ∙ sym (get_or-unhex ds k h))
    ∙ sets-next (unhex ds) d at k (omega (arith, length-unhex ds))

-- all bytes are written
pub decode-done : (ds d : List ℕ) (at k : ℕ) → length ds / 2 ≤ k → sets d at (take k (unhex ds)) ≡ sets d at (unhex ds)
decode-done ds d at k h = ap (sets d at) (take_all k (unhex ds) (omega (arith, length-unhex ds)))

-- refusal 3's tests of the characters between two places: a line feed after them, their number, their digits
module _ (file : List ℕ) (from end : ℕ) (on : from ≤ end) (inside : end ≤ length file) where
  abbrev part : List ℕ
  part = take (end - from) (drop from file)

  are : length part ≡ end - from
  are = omega (arith, length-take (end - from) (drop from file), length-drop from file)

  pub no_feed : false ≡ ltb end (length file) → false ≡ (ltb end (length file) && is_line (ended part))
  no_feed h = rw (← h)

  pub no_length : true ≡ ltb end (length file) → false ≡ (ltb 0 (end - from) && eqb ((end - from) % 2) 0 && leb (end - from) max_digits) → false ≡ (ltb end (length file) && is_line (ended part))
  unfolding is_line
  no_length h k = rw (← h, are, ← k)

  pub hex-line : true ≡ ltb end (length file) → true ≡ (ltb 0 (end - from) && eqb ((end - from) % 2) 0 && leb (end - from) max_digits) → all is_hex part ≡ (ltb end (length file) && is_line (ended part))
  unfolding is_line
  hex-line h k = rw (← h, are, ← k)

-- The line that begins at `from` and whose characters go up to `end`
module _ (file : List ℕ) (from end : ℕ) (inside : from < length file) (ends : end ≡ from + length (digits (drop from file))) where
  -- they are a part of the file
  pub part-digits : take (end - from) (drop from file) ≡ digits (drop from file)
  part-digits =
      let n : end - from ≡ length (digits (drop from file)) = omega arith in
      ap (λ (k : ℕ). take k (drop from file)) n ∙ digits-take (drop from file)

  pub end-most : end ≤ length file
  end-most = omega (arith, digits-most (drop from file), length-drop from file)

  pub length_part : length (take (end - from) (drop from file)) ≡ end - from
  length_part = ap length part-digits ∙ omega arith

  -- no line feed: 3
  line-cut : (out : List ℕ) → length file ≤ end → RefusedLine file from out 3 out
  unfolding is_line
  line-cut out h =
      record {
        line = cut (drop from file);
        others = [];
        begins = lines_cut (drop from file) (omega (arith, length-drop from file)) (omega (arith, length-drop from file));
        bad = refl;
        number = refl;
        kept = refl;
      }

  -- the line and those after it
  line-begins : end < length file → lines (drop from file) ≡ ended (take (end - from) (drop from file)) ∷ lines (drop (end + 1) file)
  line-begins h =
      let n : from + suc (length (digits (drop from file))) ≡ end + 1 = omega arith in
      lines-ended (drop from file) (omega (arith, length-drop from file))
      ∙ ap (λ (ds : List ℕ). ended ds ∷ lines (drop (suc (length (digits (drop from file)))) (drop from file))) (sym part-digits)
      ∙ ap (λ (s : List ℕ). ended (take (end - from) (drop from file)) ∷ lines s) (drop-drop (suc (length (digits (drop from file)))) from file ∙ ap (λ (k : ℕ). drop k file) n)

  -- another cause of 3
  line-bad : (out : List ℕ) → end < length file → is_line (ended (take (end - from) (drop from file))) ≡ false → RefusedLine file from out 3 out
  line-bad out h b = record { line = ended (take (end - from) (drop from file)); others = lines (drop (end + 1) file); begins = line-begins h; bad = b; number = refl; kept = refl }

  -- any cause of 3
  pub line_refused : (out : List ℕ) (r : Bool) → r ≡ (ltb end (length file) && is_line (ended (take (end - from) (drop from file)))) → r ≡ false → RefusedLine file from out 3 out
  line_refused out r is h = go (ltb end (length file)) refl (sym is ∙ h)
    where
      go : (b : Bool) → ltb end (length file) ≡ b → (b && is_line (ended (take (end - from) (drop from file)))) ≡ false → RefusedLine file from out 3 out
      go true e k = line-bad out (ltb-true end (length file) e) k
      go false e k = line-cut out (ltb-false end (length file) e)

  -- no cause
  pub line_taken : (r : Bool) → r ≡ (ltb end (length file) && is_line (ended (take (end - from) (drop from file)))) → r ≡ true → (end < length file) × (is_line (ended (take (end - from) (drop from file))) ≡ true)
  line_taken r is h = let p = both (ltb end (length file)) (is_line (ended (take (end - from) (drop from file)))) (sym is ∙ h) in (ltb-true end (length file) p.0, p.1)

  -- not 3
  pub line-good : (out after : List ℕ) (at to : ℕ) → end < length file → 2 * at ≤ from → is_line (ended (take (end - from) (drop from file))) ≡ true → to ≡ at + length (unhex (take (end - from) (drop from file))) → after ≡ sets out at (unhex (take (end - from) (drop from file))) → TakenLine file from out at (end + 1) to after
  line-good out after at to h a g t w =
      let ds = take (end - from) (drop from file) in
      let u : length (unhex ds) ≡ (end - from) / 2 = length-unhex ds ∙ ap (λ (k : ℕ). k / 2) length_part in
      let l = line-hex ds g in
      record {
        digits_of = ds;
        begins = line-begins h;
        good = g;
        written = w;
        reached = t;
        ends = omega (arith, length_part);
        onward = omega arith;
        inside = omega arith;
        packed = omega arith;
        short = omega (arith, length_part);
      }
