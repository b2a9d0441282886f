-- The calls of the missing walk of one another, over plain lists: what each call asks, that the measure falls, and what each answer gives.
use mathlib.Core.Path.{◌≡◌, refl, sym, ap, ap₂, subst, ◌∙◌}
use mathlib.Core.Bool.{Bool, true, false, cond}
use mathlib.Core.List.{List, [], ◌∷◌, ◌++◌, map}
use Prim.Native.Nat.{ℕ, zero, suc, ◌+◌, ◌*◌, ◌-◌, ◌≤◌, ◌<◌}
use native.Mathlib.Nat.{mul-le-mul, mul-one, one-mul}
use native.Mathlib.Omega.{arith}
use native.Mathlib.Numerals.{add-one}
use lib.ListN.{length, take, drop, set, replicate, length-drop}
use lib.Dec.{ltb}
use borrow.Author.Tests.{le-ltb}
use Rattle.scope.specs.Walks.{Walk, plain, holding, turned, joined}
use Rattle.matrix.specs.Numbers.{Rows, ar_of, rows_by, head_of, mem, Seen, seen_of, recover, matrix}
use Rattle.walks.specs.Walks.{gather_from, missing_by, missing_seen, missing_body, missing_step, missing_of, size}
use Rattle.matrix.specs.Places.{head_at, steps, Few, Places, Written, Listed}
use Rattle.ctors.specs.Sets.{ctors_of}
use Rattle.ctors.proofs.Found.{complete-is, complete-seen}
use Rattle.outcomes.specs.Past.{said_spelt, said_seek, past, counting}
use Rattle.outcomes.proofs.Tests.{passed}
use Rattle.paths.specs.Path.{Step, under, stepped, step_of, path_of, spelt}
use Rattle.collect.specs.Ready.{Opened, Held, Trail, Sought}
use Rattle.paths.specs.Spread.{Spread}
use Rattle.ctors.specs.declared.Ctors.{Ctors}
use Rattle.ctors.specs.declared.Ctors.TheVariants.{Complete, Open}
use Rattle.outcomes.specs.declared.Spelt.{Spelt}
use Rattle.outcomes.specs.declared.Seek.{Seek}
use Rattle.outcomes.specs.declared.TooMuch.{TooMuch}
use Rattle.paths.specs.declared.Steps.{Steps}
use Rattle.layout.specs.declared.lent.Block.{Block}
use Rattle.collect.proofs.Limits.{over-cells, over-calls}
use Rattle.std.specs.Prelude.{Result, Ok, Err, IsErr}
use Rattle.matrix.proofs.Specialised.{heads, few-places, matrix-length}
use Rattle.matrix.proofs.Behind.{Behind, behind}
use Rattle.matrix.proofs.Fronts.{part as part-from}
use Rattle.paths.proofs.PathLaws.{under_append, under_none, spelt-none, path_take, path_next}
use Rattle.collect.proofs.Column.{open_low, full-few, open_walk}
use Rattle.walks.proofs.MissingSteps.{size-wild, size-key, missing-is}
use Rattle.collect.proofs.Walk.{step_at, trail_next, trail_kept, sought-same, sought-step, sought-enter, sought-past, sought-none, sought-leaf, sought-stop, sought-done, sought-then}

-- a product that is at least each of its factors
pub at_least : (a n : ℕ) → 0 < a → 0 < n → (a ≤ a * n) × (n ≤ a * n)
at_least a n l p =
    let x : a * 1 ≤ a * n = mul-le-mul (omega arith) (omega arith) in
    let y : 1 * n ≤ a * n = mul-le-mul (omega arith) (omega arith) in
    (omega (arith, mul-one a), omega (arith, one-mul n))

-- how far `into` is in its cycle, whether the scratch is short or not
either : (b : Bool) → cond b 702 700 ≤ 702
either true = omega arith
either false = omega arith

-- the rows of a leaf
pub leaf-spread : (ars path alts : List ℕ) (depth n : ℕ) {out : List ℕ} {written found : ℕ} {v : Result Spelt TooMuch} {e : List ℕ} → Spread out written found (under ars (path_of path alts depth) (spelt ars path alts depth (depth - depth) n ∷ [])) v e → Spread out written found (under ars (path_of path alts depth) (replicate n 0 ∷ [])) v e
leaf-spread ars path alts depth n {out} {written} {found} {v} {e} h = subst (λ (x : List ℕ). Spread out written found (under ars (path_of path alts depth) (x ∷ [])) v e) (spelt-none ars path alts n (depth - depth) depth (omega arith)) h

-- the rows of the walks into the constructors key, key + 1, .., more of them, behind the path
abbrev pub rest_of : Block → ℕ → List ℕ → ℕ → Steps → ℕ → ℕ → ℕ → Walk Rows
rest_of b n s rows p depth key more = turned (under b.types.arities.now (path_of p.nodes p.sets depth)) (gather_from (missing_by b.types.bytes.now b.types.counts.now b.types.arities.now (missing_of b.types.bytes.now b.types.counts.now b.types.arities.now) (n - 1) (matrix b.nodes.now b.left.now n (take rows s))) key more)

-- c of these constructors are walked: what holds of the scratch, of the path and of what is written, and of what is still to come
pub record Walked (b : Block) (n : ℕ) (s : List ℕ) (rows : ℕ) (p : Steps) (depth key more : ℕ) (out : List ℕ) (at : Seek) (room c : ℕ) (e : List ℕ) (q : Steps) (oe : List ℕ) (v : Seek) : Type 0 where
  pub kept : take rows e ≡ take rows s
  pub long : length e ≡ length s
  pub kept_path : take depth q.nodes ≡ take depth p.nodes
  pub kept_alts : take depth q.sets ≡ take depth p.sets
  pub long_path : length q.nodes ≡ length p.nodes
  pub long_alts : length q.sets ≡ length p.sets
  pub within : v.written ≤ 4096
  pub few : v.rows ≤ v.written
  pub counted : v.calls ≤ 65536
  pub on : {e₂ o₂ : List ℕ} {q₂ : Steps} {r₂ : Result Seek TooMuch} → Sought e rows e₂ q q₂ depth oe o₂ v room r₂ (rest_of b n s rows p depth (key + c) (more - c)) → Sought s rows e₂ p q₂ depth out o₂ at room r₂ (rest_of b n s rows p depth key more)

module _ (b : Block) where
  abbrev bytes : List ℕ
  bytes = b.types.bytes.now

  abbrev nodes : List ℕ
  nodes = b.nodes.now

  abbrev left : List ℕ
  left = b.left.now

  abbrev counts : List ℕ
  counts = b.types.counts.now

  abbrev ars : List ℕ
  ars = b.types.arities.now

  -- `into`: the specialised matrix stands after the rows
  module _ (low : (h : ℕ) → ar_of ars h ≤ 255) (key : ℕ) {n : ℕ} {s : List ℕ} {rows room : ℕ} (r : Held nodes left counts ars n s rows room) (fit : rows + rows ≤ length s) {k : ℕ} {e : List ℕ} (wr : Written s rows (steps bytes nodes left n key (take rows s)) k e) {a : ℕ} (ae : a ≡ ar_of ars key) where
    stands : Behind bytes nodes left counts ars n key s rows k e a
    stands = behind bytes nodes left counts ars r.sizes.low n key r.some s rows r.places fit k e wr a ae

    pub into-opened : Opened nodes left counts ars (n - 1 + a) (take (length e - rows) (drop rows e)) k room
    into-opened =
        let len = ap length (part-from e rows) in
        record {
          sizes = r.sizes;
          places = stands.places;
          low = omega (arith, stands.few, r.low);
          fits = omega (arith, len, length-drop rows e, stands.same, stands.few);
          space = omega (arith, len, length-drop rows e, stands.same, r.space);
          wide = omega (arith, r.wide, low key);
        }

    pub into-falls : {t : ℕ} → 1024 * size (n - 1 + ar_of ars key) (rows_by bytes key (ar_of ars key) (matrix nodes left n (take rows s))) + cond (ltb (length s) (rows + rows)) 702 700 ≡ t
        → 1024 * size (n - 1 + a) (matrix nodes left (n - 1 + a) (take k (take (length e - rows) (drop rows e)))) + 600 < t
    into-falls q =
        let z : size (n - 1 + a) (matrix nodes left (n - 1 + a) (take k (take (length e - rows) (drop rows e)))) ≡ size (n - 1 + ar_of ars key) (rows_by bytes key (ar_of ars key) (matrix nodes left n (take rows s)))
        = ap₂ (λ (x : ℕ) (y : Rows). size (n - 1 + x) y) ae stands.is in
        omega (arith, ap {B = ℕ} (λ (t : Bool). cond t 702 700) (le-ltb (length s) (rows + rows) fit))

    pub into-sought : {e₂ out oe : List ℕ} {p q : Steps} {depth : ℕ} {at : Seek} {v : Result Seek TooMuch}
        → Sought (take (length e - rows) (drop rows e)) k e₂ p q depth out oe at room v (turned (under ars (path_of p.nodes p.sets depth)) (missing_of bytes counts ars (n - 1 + a) (matrix nodes left (n - 1 + a) (take k (take (length e - rows) (drop rows e))))))
        → Sought s rows (take rows e ++ (e₂ ++ drop (length e - rows) (drop rows e))) p q depth out oe at room v (turned (under ars (path_of p.nodes p.sets depth)) (missing_by bytes counts ars (missing_of bytes counts ars) (n - 1) (matrix nodes left n (take rows s)) key))
    into-sought {e₂} {out} {oe} {p} {q} {depth} {at} {v} h =
        sought-same (ap₂ (λ (x : ℕ) (y : Rows). turned (under ars (path_of p.nodes p.sets depth)) (missing_of bytes counts ars (n - 1 + x) y)) ae stands.is)
        (record { kept = stands.kept e₂; kept_path = h.kept_path; kept_alts = h.kept_alts; long_path = h.long_path; long_alts = h.long_alts; long_out = h.long_out; is = h.is; text = h.text; few = h.few })

  -- one step more in the path
  stepped-walk : (p : Steps) (depth x g : ℕ) (w : Walk Rows) → depth < length p.nodes → depth < length p.sets
      → turned (under ars (path_of (set p.nodes depth x) (set p.sets depth g) (depth + 1))) w ≡ turned (under ars (path_of p.nodes p.sets depth)) (turned (stepped ars (step_of x g)) w)
  unfolding under
  stepped-walk p depth x g w lp la = ap (λ (y : List Step). turned (under ars y) w) (path_next p.nodes p.sets depth x g lp la)

  -- `each`
  module _ (n : ℕ) (s : List ℕ) (rows : ℕ) (p : Steps) (depth : ℕ) where
    g : ℕ → Walk Rows
    g = missing_by bytes counts ars (missing_of bytes counts ars) (n - 1) (matrix nodes left n (take rows s))

    under-join : (a b : Walk Rows) → turned (under ars (path_of p.nodes p.sets depth)) (joined ◌++◌ a b) ≡ joined ◌++◌ (turned (under ars (path_of p.nodes p.sets depth)) a) (turned (under ars (path_of p.nodes p.sets depth)) b)
    under-join a b = ap (λ (x : Rows). record { result = x; calls = (joined ◌++◌ a b).calls; peak = (joined ◌++◌ a b).peak }) (under_append ars (path_of p.nodes p.sets depth) a.result b.result)

    gather-on : (k m : ℕ) → 0 < m → gather_from g k m ≡ joined ◌++◌ (turned (recover k) (g k)) (gather_from g (k + 1) (m - 1))
    unfolding gather_from
    gather-on k zero l = absurd (omega arith)
    gather-on k (suc j) l =
        let less : j ≡ suc j - 1 = omega arith in
        ap₂ (λ (x y : ℕ). joined ◌++◌ (turned (recover k) (g k)) (gather_from g x y)) (sym (add-one k)) less

    rest-none : (k m : ℕ) → m ≡ 0 → plain [] ≡ rest_of b n s rows p depth k m
    unfolding gather_from
    rest-none k m z = ap (λ (x : Rows). record { result = x; calls = 0; peak = 0 }) (sym (under_none ars (path_of p.nodes p.sets depth))) ∙ ap (λ (j : ℕ). rest_of b n s rows p depth k j) (sym z)

    first : ℕ → Walk Rows
    first k = turned (under ars (path_of p.nodes p.sets depth)) (turned (recover k) (missing_by bytes counts ars (missing_of bytes counts ars) (n - 1) (matrix nodes left n (take rows s)) k))

    rest-on : (k m i j : ℕ) → 0 < m → k + 1 ≡ i → m - 1 ≡ j → joined ◌++◌ (first k) (rest_of b n s rows p depth i j) ≡ rest_of b n s rows p depth k m
    unfolding first g
    rest-on k m i j l x y =
        sym (under-join (turned (recover k) (g k)) (gather_from g i j))
        ∙ ap (turned (under ars (path_of p.nodes p.sets depth))) (ap₂ (λ (i j : ℕ). joined ◌++◌ (turned (recover k) (g k)) (gather_from g i j)) (sym x) (sym y) ∙ sym (gather-on k m l))

  module _ {n key more : ℕ} {s : List ℕ} {rows room : ℕ} (r : Held nodes left counts ars n s rows room) {p : Steps} {depth : ℕ} {out : List ℕ} {at : Seek} (tr : Trail p.nodes p.sets depth (room + 1) at.written at.rows) where
    module _ {c : ℕ} {e oe : List ℕ} {q : Steps} {v : Seek} (h : Walked b n s rows p depth key more out at room c e q oe v) where
      pub walked-end : more ≤ c → Sought s rows e p q depth out oe at room (Ok v) (rest_of b n s rows p depth key more)
      walked-end l = h.on (sought-same (rest-none n s rows p depth (key + c) (more - c) (omega arith)) (sought-none e rows q depth oe v room h.counted h.within h.few))

      pub walked-held : Held nodes left counts ars n e rows room
      walked-held = record { sizes = r.sizes; places = subst (Places nodes left counts ars n) (sym h.kept) r.places; low = r.low; space = omega (arith, r.space, h.long); wide = r.wide; some = r.some }

      trail : Trail q.nodes q.sets depth (room + 1) v.written v.rows
      trail = trail_kept tr h.kept_path h.long_path h.long_alts h.within h.few

      pub walked_trail : key + c + 32 < 65536 → Trail (set q.nodes depth (key + c)) (set q.sets depth 0) (depth + 1) room v.written v.rows
      walked_trail l = trail_next trail (key + c) 0 l

      module _ (l : c < more) where
        key-seen : Listed (map (head_at nodes left n) (take rows s)) key more → mem (key + c) (map head_of (matrix nodes left n (take rows s))) ≡ true
        key-seen sn = subst (λ (y : List ℕ). mem (key + c) y ≡ true) (sym (heads nodes left counts ars n r.places)) (sn.each c l)

        pub walked-falls : (low : (h : ℕ) → ar_of ars h ≤ 255) {t : ℕ} → Listed (map (head_at nodes left n) (take rows s)) key more → 0 < key
            → 1024 * size n (matrix nodes left n (take rows s)) + 500 ≡ t
            → 1024 * size (n - 1 + ar_of ars (key + c)) (rows_by bytes (key + c) (ar_of ars (key + c)) (matrix nodes left n (take rows e))) + cond (ltb (length e) (rows + rows)) 702 700 < t
        walked-falls low sn z i =
            let m = matrix nodes left n (take rows s) in
            let less : suc (n - 1) ≡ n = omega (arith, r.some) in
            omega (
              arith,
              size-key bytes ars (n - 1) m (key + c) (omega arith) (low (key + c)) (key-seen sn),
              ap (λ (j : ℕ). size j m) less,
              ap (λ (y : List ℕ). size (n - 1 + ar_of ars (key + c)) (rows_by bytes (key + c) (ar_of ars (key + c)) (matrix nodes left n y))) h.kept,
              either (ltb (length e) (rows + rows)),
            )

        -- the answer of the next constructor
        module _ {e₁ o₁ : List ℕ} {q₁ : Steps} {u : Result Seek TooMuch}
            (f : Sought e rows e₁ (step_at q depth (key + c) 0) q₁ (depth + 1) oe o₁ v room u (turned (under ars (path_of (set q.nodes depth (key + c)) (set q.sets depth 0) (depth + 1))) (missing_by bytes counts ars (missing_of bytes counts ars) (n - 1) (matrix nodes left n (take rows e)) (key + c)))) where
          in_first : Sought e rows e₁ q q₁ depth oe o₁ v room u (first n s rows p depth (key + c))
          unfolding first stepped
          in_first = sought-step (key + c) 0
              (sought-same
              (ap (λ (y : List ℕ). turned (under ars (path_of (set q.nodes depth (key + c)) (set q.sets depth 0) (depth + 1))) (missing_by bytes counts ars (missing_of bytes counts ars) (n - 1) (matrix nodes left n y) (key + c))) h.kept
              ∙ stepped-walk q depth (key + c) 0 (missing_by bytes counts ars (missing_of bytes counts ars) (n - 1) (matrix nodes left n (take rows s)) (key + c)) (omega (arith, trail.deep, trail.long_path)) (omega (arith, trail.deep, trail.long_alts))
              ∙ ap (λ (y : List Step). turned (under ars y) (turned (recover (key + c)) (missing_by bytes counts ars (missing_of bytes counts ars) (n - 1) (matrix nodes left n (take rows s)) (key + c)))) (path_take q.nodes p.nodes q.sets p.sets depth h.kept_path h.kept_alts))
              f)

          later : Walk Rows
          later = rest_of b n s rows p depth (key + (c + 1)) (more - (c + 1))

          whole : joined ◌++◌ (first n s rows p depth (key + c)) later ≡ rest_of b n s rows p depth (key + c) (more - c)
          unfolding later
          whole = rest-on n s rows p depth (key + c) (more - c) (key + (c + 1)) (more - (c + 1)) (omega arith) (omega arith) (omega arith)

          pub walked-stop : {t : TooMuch} → u ≡ Err t → {z : Result Seek TooMuch} → IsErr z → Sought s rows e₁ p q₁ depth out o₁ at room z (rest_of b n s rows p depth key more)
          unfolding later
          walked-stop i z = h.on (sought-same whole (sought-stop later in_first i z))

          pub walked-more : length e₁ ≡ length e → {w : Seek} → u ≡ Ok w → Walked b n s rows p depth key more out at room (c + 1) e₁ q₁ o₁ w
          unfolding later
          walked-more k {w} i =
              let d = sought-done later in_first i in
              record {
                kept = in_first.kept ∙ h.kept;
                long = k ∙ h.long;
                kept_path = in_first.kept_path ∙ h.kept_path;
                kept_alts = in_first.kept_alts ∙ h.kept_alts;
                long_path = in_first.long_path ∙ h.long_path;
                long_alts = in_first.long_alts ∙ h.long_alts;
                within = d.low;
                few = f.few w i;
                counted = d.few;
                on = λ z. h.on (sought-same whole (sought-then later in_first i z));
              }

  -- `collect_missing_patterns`
  module _ (low : (h : ℕ) → ar_of ars h ≤ 255) (n : ℕ) (s : List ℕ) (rows : ℕ) (fits : rows ≤ length s) (p : Steps) (depth : ℕ) where
    m : Rows
    m = matrix nodes left n (take rows s)

    body : Walk Rows
    body = missing_body bytes counts ars (missing_of bytes counts ars) n m

    entered : (o : Walk Rows) → body ≡ o → holding (rows * n) (turned (under ars (path_of p.nodes p.sets depth)) o) ≡ turned (under ars (path_of p.nodes p.sets depth)) (missing_of bytes counts ars n (matrix nodes left n (take rows s)))
    unfolding body m missing_step
    entered o q =
        ap₂ (λ (k : ℕ) (x : Walk Rows). holding (k * n) (turned (under ars (path_of p.nodes p.sets depth)) x)) (sym (matrix-length nodes left n s rows fits)) (sym q)
        ∙ ap (turned (under ars (path_of p.nodes p.sets depth))) (sym (missing-is bytes counts ars low n m))

    in_none : rows ≡ 0 → body ≡ plain (replicate n 0 ∷ [])
    unfolding body m
    in_none z = go m (matrix-length nodes left n s rows fits ∙ z)
      where
        go : (x : Rows) → length x ≡ 0 → missing_body bytes counts ars (missing_of bytes counts ars) n x ≡ plain (replicate n 0 ∷ [])
        go [] e = refl
        go (y ∷ x) e = absurd (omega arith)

    in_zero : 0 < rows → n ≡ 0 → body ≡ plain []
    unfolding body m
    in_zero l z = go n m (omega (arith, matrix-length nodes left n s rows fits)) z
      where
        go : (j : ℕ) (x : Rows) → 0 < length x → j ≡ 0 → missing_body bytes counts ars (missing_of bytes counts ars) j x ≡ plain []
        go j [] e q = absurd (omega arith)
        go zero (y ∷ x) e q = refl
        go (suc j) (y ∷ x) e q = absurd (omega arith)

    in_seen : 0 < rows → 0 < n → body ≡ missing_seen bytes counts ars (missing_of bytes counts ars) (seen_of counts (map head_of m)) (n - 1) m
    unfolding body m
    in_seen l z = go n m (omega (arith, matrix-length nodes left n s rows fits)) z
      where
        go : (j : ℕ) (x : Rows) → 0 < length x → 0 < j → missing_body bytes counts ars (missing_of bytes counts ars) j x ≡ missing_seen bytes counts ars (missing_of bytes counts ars) (seen_of counts (map head_of x)) (j - 1) x
        go j [] e q = absurd (omega arith)
        go zero (y ∷ x) e q = absurd (omega arith)
        go (suc j) (y ∷ x) e q = ap (λ (i : ℕ). missing_seen bytes counts ars (missing_of bytes counts ars) (seen_of counts (map head_of (y ∷ x))) i (y ∷ x)) less
          where
            less : j ≡ suc j - 1
            less = omega arith

  module _ (low : (h : ℕ) → ar_of ars h ≤ 255) {n : ℕ} {s : List ℕ} {rows room : ℕ} (r : Opened nodes left counts ars n s rows room) {p : Steps} {depth : ℕ} {at : Seek} (tr : Trail p.nodes p.sets depth room at.written at.rows) where
    module _ (out : List ℕ) where
      pub is-past : (t : TooMuch) {v : Bool} → v ≡ past at.calls (rows * n) room → v ≡ true → Sought s rows s p p depth out out at room (Err t) (turned (under ars (path_of p.nodes p.sets depth)) (missing_of bytes counts ars n (matrix nodes left n (take rows s))))
      is-past t {v} e q = sought-same (entered low n s rows r.fits p depth (body low n s rows r.fits p depth) refl) (sought-past s rows p depth out at room (rows * n) t (turned (under ars (path_of p.nodes p.sets depth)) (body low n s rows r.fits p depth))
          (passed at.calls (rows * n) room v e q
          (over-cells at.calls room at.written at.rows (rows * n) (turned (under ars (path_of p.nodes p.sets depth)) (body low n s rows r.fits p depth)))
          (over-calls at.calls room at.written at.rows (rows * n) (turned (under ars (path_of p.nodes p.sets depth)) (body low n s rows r.fits p depth)))))

      module _ (fit : rows * n ≤ room) (lt : at.calls < 65536) where
        pub is_leaf : rows ≡ 0 → {v : Result Spelt TooMuch} {oe : List ℕ} → Spread out at.written at.rows (under ars (path_of p.nodes p.sets depth) (spelt ars p.nodes p.sets depth (depth - depth) n ∷ [])) v oe → {q : Steps} → q ≡ p → {x : Result Seek TooMuch} → said_seek x ≡ counting (said_spelt v) at.calls
            → Sought s rows s p q depth out oe at room x (turned (under ars (path_of p.nodes p.sets depth)) (missing_of bytes counts ars n (matrix nodes left n (take rows s))))
        is_leaf z {v} h pq {x} xe = sought-same (entered low n s rows r.fits p depth (plain (replicate n 0 ∷ [])) (in_none low n s rows r.fits p depth z))
            (sought-leaf s rows p depth out at room fit lt pq v (leaf-spread ars p.nodes p.sets depth n h) x xe)

        pub is_zero : 0 < rows → n ≡ 0 → Sought s rows s p p depth out out at room (Ok (record at { calls = at.calls + 1 })) (turned (under ars (path_of p.nodes p.sets depth)) (missing_of bytes counts ars n (matrix nodes left n (take rows s))))
        is_zero l z = sought-same
            (ap (λ (y : Rows). holding (rows * n) (plain y)) (sym (under_none ars (path_of p.nodes p.sets depth))) ∙ entered low n s rows r.fits p depth (plain []) (in_zero low n s rows r.fits p depth l z))
            (sought-enter fit (sought-none s rows p depth out (record at { calls = at.calls + 1 }) (room - rows * n) (omega arith) tr.within tr.few))

        -- a column, by what is seen in it
        module _ (some : 0 < rows) (pos : 0 < n) where
          pub seen-held : Held nodes left counts ars n s rows (room - rows * n)
          seen-held =
              let g = at_least rows n some pos in
              record { sizes = r.sizes; places = r.places; low = r.low; space = omega (arith, r.space, g); wide = omega (arith, tr.deep, g); some = pos }

          pub seen_trail : Trail p.nodes p.sets depth (room - rows * n + 1) at.written at.rows
          seen_trail =
              let g = at_least rows n some pos in
              record { deep = omega (arith, tr.deep, g); long_path = tr.long_path; long_alts = tr.long_alts; low = tr.low; within = tr.within; few = tr.few }

          hd : map head_of (matrix nodes left n (take rows s)) ≡ map (head_at nodes left n) (take rows s)
          hd = heads nodes left counts ars n r.places

          few : Few counts (map head_of (matrix nodes left n (take rows s)))
          few = subst (Few counts) (sym hd) (few-places nodes left counts ars n (take rows s) r.places pos)

          found-is : {x : Ctors} → x ≡ ctors_of counts (map (head_at nodes left n) (take rows s)) (seen_of counts (map (head_at nodes left n) (take rows s))) → x ≡ ctors_of counts (map head_of (matrix nodes left n (take rows s))) (seen_of counts (map head_of (matrix nodes left n (take rows s))))
          found-is q = q ∙ ap (λ (hs : List ℕ). ctors_of counts hs (seen_of counts hs)) (sym hd)

          module _ {x : Ctors} (xe : x ≡ ctors_of counts (map (head_at nodes left n) (take rows s)) (seen_of counts (map (head_at nodes left n) (take rows s)))) where
            pub full-asked : {from k : ℕ} → x ≡ Complete from k → Listed (map (head_at nodes left n) (take rows s)) from k × ((0 < from) × (from + k < 65504))
            full-asked {from} {k} i =
                let hs = map (head_at nodes left n) (take rows s) in
                let w = complete-seen counts hs x from k i xe in
                let f = complete-is counts hs x from k i (seen_of counts hs) xe in
                (w.listed, (w.positive, omega (arith, w.small, f.1, full-few counts hs (few-places nodes left counts ars n (take rows s) r.places pos) from f.0)))

            pub is-full : {from k : ℕ} → x ≡ Complete from k → {e oe : List ℕ} {q : Steps} {v : Result Seek TooMuch}
                → Sought s rows e p q depth out oe (record at { calls = at.calls + 1 }) (room - rows * n) v (rest_of b n s rows p depth from k)
                → Sought s rows e p q depth out oe at room v (turned (under ars (path_of p.nodes p.sets depth)) (missing_of bytes counts ars n (matrix nodes left n (take rows s))))
            unfolding m body
            is-full {from} {k} i h =
                let f = complete-is counts (map head_of (matrix nodes left n (take rows s))) x from k i (seen_of counts (map head_of (matrix nodes left n (take rows s)))) (found-is xe) in
                let o = in_seen low n s rows r.fits p depth some pos ∙ ap (λ (x : Seen). missing_seen bytes counts ars (missing_of bytes counts ars) x (n - 1) (matrix nodes left n (take rows s))) f.0 ∙ ap (gather_from (missing_by bytes counts ars (missing_of bytes counts ars) (n - 1) (matrix nodes left n (take rows s))) from) (sym f.1) in
                sought-same (entered low n s rows r.fits p depth (gather_from (missing_by bytes counts ars (missing_of bytes counts ars) (n - 1) (matrix nodes left n (take rows s))) from k) o) (sought-enter fit h)

            module _ {from g : ℕ} (i : x ≡ Open from g) where
              node-low : from + 32 < 65536
              node-low = open_low counts (map head_of (matrix nodes left n (take rows s))) few (seen_of counts (map head_of (matrix nodes left n (take rows s)))) refl from g (sym i ∙ found-is xe)

              pub open_trail : Trail (set p.nodes depth from) (set p.sets depth g) (depth + 1) (room - rows * n) at.written at.rows
              open_trail = trail_next seen_trail from g node-low

              pub open_falls : {t : ℕ} → 1024 * size n (matrix nodes left n (take rows s)) + 600 ≡ t
                  → 1024 * size (n - 1 + ar_of ars 0) (rows_by bytes 0 (ar_of ars 0) (matrix nodes left n (take rows s))) + cond (ltb (length s) (rows + rows)) 702 700 < t
              open_falls e =
                  let y = matrix nodes left n (take rows s) in
                  let less : suc (n - 1) ≡ n = omega arith in
                  omega (arith, size-wild bytes ars (n - 1) y, ap (λ (j : ℕ). size j y) less, either (ltb (length s) (rows + rows)))

              pub is_open : {e oe : List ℕ} {q : Steps} {v : Result Seek TooMuch}
                  → Sought s rows e (step_at p depth from g) q (depth + 1) out oe (record at { calls = at.calls + 1 }) (room - rows * n) v (turned (under ars (path_of (set p.nodes depth from) (set p.sets depth g) (depth + 1))) (missing_by bytes counts ars (missing_of bytes counts ars) (n - 1) (matrix nodes left n (take rows s)) 0))
                  → Sought s rows e p q depth out oe at room v (turned (under ars (path_of p.nodes p.sets depth)) (missing_of bytes counts ars n (matrix nodes left n (take rows s))))
              unfolding m body
              is_open h =
                  let w = missing_by bytes counts ars (missing_of bytes counts ars) (n - 1) (matrix nodes left n (take rows s)) 0 in
                  let o = in_seen low n s rows r.fits p depth some pos ∙ sym (open_walk bytes counts ars (missing_of bytes counts ars) (n - 1) (matrix nodes left n (take rows s)) few from g (sym i ∙ found-is xe)) in
                  let st = seen_trail in
                  sought-same (entered low n s rows r.fits p depth (turned (stepped ars (step_of from g)) w) o)
                  (sought-enter fit (sought-step from g (sought-same (stepped-walk p depth from g w (omega (arith, st.deep, st.long_path)) (omega (arith, st.deep, st.long_alts))) h)))
