-- The loop of `simplify`: what is put so far stands in front of what the definition makes of the pending items and the patterns left, round by round.
use mathlib.Core.Path.{◌≡◌, refl, sym, ap, ap₂, subst, ◌∙◌}
use mathlib.Core.List.{List, [], ◌∷◌, ◌++◌, append_assoc, append-nil}
use mathlib.Core.Option.{Option, none, some}
use Prim.Native.Nat.{ℕ, suc, ◌+◌, ◌*◌, ◌-◌, ◌≤◌, ◌<◌}
use native.Mathlib.Nat.{add-zero}
use native.Mathlib.Omega.{arith}
use lib.ListN.{length, drop, length-append, length-map}
use lib.Seq.{sets}
use Rattle.scope.proofs.Tests.{clash}
use Rattle.laws.proofs.Reading.{patterns-none}
use Rattle.scope.specs.Types.{Table}
use Rattle.scope.specs.Patterns.{Raw, inner}
use Rattle.scope.specs.Simplify.{Row, Item, pat, simplified, simplify}
use Rattle.scope.specs.Frames.{Read, found, patterns}
use Rattle.layout.specs.Nodes.{node_of, row_of, Literals, done, places_in}
use Rattle.nodes.proofs.Runs.{stores, literals_append, places_append}
use Rattle.suits.specs.Raws.{raw_at, size_at, own_place}
use Rattle.nodes.specs.Opens.{opens, pending, due}
use Rattle.std.specs.Prelude.{Result, Ok, Err}
use Rattle.std.specs.Result.{IsErr}
use Rattle.settle.specs.Settled.{Read as Next-as-Read, Done}
use Rattle.suits.specs.declared.Unsuited.{Unsuited}
use Rattle.patterns.specs.Rows.{literal_places, Ready, Given, Turned, said_simplified, Answers, Reading}
use Rattle.patterns.proofs.Scan.{read_step}
use Rattle.patterns.proofs.Items.{onto, onto-none, onto-onto, put_all, read_one, read_none, read-end, Refs, nothing, refs_append, refs-after, refs-next, opened-refs}

-- more nodes than one round puts
abbrev pub most : ℕ
most = 45875200

module _ (bytes kinds counts arities starts fields : List ℕ) (from subject used : ℕ) (nodes : List ℕ) where
  no_more_lem : (at : ℕ) (l : List ℕ) → l ++ literal_places bytes at [] ≡ l
  unfolding literal_places
  no_more_lem at l = append-nil l

  -- where the walk stands under a table
  pub record Stands (new : List ℕ) (left : List Raw) (t : ℕ) (is : List Item) (raws : List Raw) (table : Table) : Type 0 where
    pub in_table : t < length table
    pub refs : Refs (length table) is
    pub sofar : simplify table subject raws ≡ onto (row_of bytes new) (simplified table (pat t ∷ is) left)

  -- the loop's invariant
  pub record Going (at t depth place : ℕ) (stack nodes' : List ℕ) : Type 0 where
    pub new : List ℕ
    pub left : List Raw
    pub nodes_are : nodes' ≡ sets nodes used new
    pub place_is : place ≡ used + length new
    pub few : length new ≤ most * (at - from)
    pub whole : Literals bytes new
    pub places : (raws : List Raw) → patterns 1 (drop from bytes) ≡ found raws [] → places_in new ++ literal_places bytes at left ≡ literal_places bytes from raws
    pub behind : from ≤ at
    pub low : t < 16384
    pub high : depth ≤ at - from
    pub reads : patterns (suc (due (opens stack depth))) (drop at bytes) ≡ found left []
    pub means : (raws : List Raw) → patterns 1 (drop from bytes) ≡ found raws [] → (table : Table) → Given kinds counts arities starts fields subject table → Stands new left t (pending bytes fields (opens stack depth)) raws table

  -- what was read stands in the nodes that the walk leaves
  pub at-last : (last nodes' : List ℕ) (r : Result ℕ Unsuited) → last ≡ nodes' → Reading bytes from kinds counts arities starts fields subject used nodes nodes' r → Reading bytes from kinds counts arities starts fields subject used nodes last r
  at-last last nodes' r e q = subst (λ (x : List ℕ). Reading bytes from kinds counts arities starts fields subject used nodes x r) (sym e) q

  module _ (stack₀ : List ℕ) (ready : Ready bytes from subject fields stack₀ nodes used) where
    -- before the first pattern
    pub start : Going from subject 0 used stack₀ nodes
    unfolding opens due pending simplify places_in
    start =
        record {
          new = [];
          left = ready.shaped.raws;
          nodes_are = refl;
          place_is = sym (add-zero used);
          few = omega arith;
          whole = done;
          places = λ raws e. ap (literal_places bytes from) (sym (same raws e));
          behind = omega arith;
          low = omega (arith, ready.subject_low);
          high = omega arith;
          reads = ready.shaped.read;
          means = λ raws e table g. record { in_table = g.in_table; refs = nothing; sofar = first raws e table };
        }
      where
        same-found : (a b : List Raw) → ◌≡◌ {A = Read (List Raw)} (found a []) (found b []) → a ≡ b
        same-found a b h = cc

        same : (raws : List Raw) → patterns 1 (drop from bytes) ≡ found raws [] → raws ≡ ready.shaped.raws
        same raws e = same-found raws ready.shaped.raws (sym e ∙ ready.shaped.read)

        first : (raws : List Raw) → patterns 1 (drop from bytes) ≡ found raws [] → (table : Table) → simplify table subject raws ≡ onto [] (simplified table (pat subject ∷ []) ready.shaped.raws)
        first raws e table = ap (simplified table (pat subject ∷ [])) (same raws e) ∙ onto-none (simplified table (pat subject ∷ []) ready.shaped.raws)

    module _ (at t depth place : ℕ) (stack nodes₁ : List ℕ) (g : Going at t depth place stack nodes₁) where
      step : (ps : List Raw) × (g.left ≡ raw_at bytes at ∷ ps) × (patterns (inner (raw_at bytes at) + due (opens stack depth)) (drop (at + size_at bytes at) bytes) ≡ found ps []) × (0 < size_at bytes at) × (at + size_at bytes at ≤ length bytes)
      step = read_step bytes at (due (opens stack depth)) g.left [] g.reads

      -- there is a byte to read, and what a round needs
      pub here : (at < 32768) × (at + 1 ≤ length bytes) × (3 * depth + 3 ≤ 1920) × (place + 65536 * (depth + 1) + 65539 < 18446744073709551616) × (t < 16384)
      here = let s = step in omega (arith, s.3, s.4, ready.short, ready.line, ready.room, ready.nodes_short, g.few, g.place_is, g.high, g.behind, g.low)

      pub falls : length bytes - (at + size_at bytes at) < length bytes - at
      falls = let s = step in omega (arith, s.3, s.4)

      -- the places of the literals, this round's and those after it
      more-places : (ns : List ℕ) → places_in ns ≡ own_place at (raw_at bytes at) → places_in (g.new ++ ns) ++ literal_places bytes (at + size_at bytes at) step.0 ≡ places_in g.new ++ literal_places bytes at g.left
      unfolding literal_places
      more-places ns e =
          ap (λ (l : List ℕ). l ++ literal_places bytes (at + size_at bytes at) step.0) (places_append g.new ns ∙ ap (λ (l : List ℕ). places_in g.new ++ l) e)
          ∙ append_assoc (places_in g.new) (own_place at (raw_at bytes at)) (literal_places bytes (at + size_at bytes at) step.0)
          ∙ ap (λ (ps : List Raw). places_in g.new ++ literal_places bytes at ps) (sym step.1)

      module _ (stack' nodes' : List ℕ) where
        -- one more round
        pub round : (u d p : ℕ) → Turned bytes kinds counts arities starts fields at t depth place stack nodes₁ stack' nodes' (Ok (Next-as-Read u d p)) → Going (at + size_at bytes at) u d p stack' nodes'
        round u d p q =
            let s = step in
            record {
              new = g.new ++ q.new;
              left = s.0;
              nodes_are = stores nodes nodes₁ nodes' g.new q.new used place g.nodes_are g.place_is q.nodes_are;
              place_is = rw (length-append g.new q.new) (omega (arith, q.ends.0, g.place_is));
              few = rw (length-append g.new q.new) (omega (arith, q.few, g.few, g.high, g.behind, s.3, s.4, ready.line));
              whole = literals_append q.new g.whole (q.whole s.4);
              places = λ raws e. more-places q.new q.places ∙ g.places raws e;
              behind = omega (arith, g.behind);
              low = q.ends.1;
              high = omega (arith, q.ends.2, g.high, g.behind, s.3);
              reads = ap (λ (n : ℕ). patterns n (drop (at + size_at bytes at) bytes)) (sym q.due_is) ∙ s.2;
              means = λ raws e table h. next raws table h (g.means raws e table h);
            }
          where
            next : (raws : List Raw) (table : Table) → Given kinds counts arities starts fields subject table → Stands g.new g.left t (pending bytes fields (opens stack depth)) raws table
                → Stands (g.new ++ q.new) step.0 u (pending bytes fields (opens stack' d)) raws table
            next raws table h w =
                let b = q.became table h.used h.shape h.fielded w.in_table in
                let r = refs-next (refs-after bytes q.new (pat u ∷ pending bytes fields (opens stack' d)) (subst (λ (is : List Item). Refs (length table) is) b.2 (refs_append (pending bytes fields (opens stack depth)) (opened-refs table h.good t w.in_table (raw_at bytes at) b.0 b.1) w.refs))) in
                record {
                  in_table = r.0;
                  refs = r.1;
                  sofar = w.sofar ∙ ap (onto (row_of bytes g.new))
                      (ap (simplified table (pat t ∷ pending bytes fields (opens stack depth))) step.1
                      ∙ read_one table t (pending bytes fields (opens stack depth)) b.0 (raw_at bytes at) step.0 b.1
                      ∙ ap (λ (is : List Item). simplified table is step.0) b.2
                      ∙ put_all table bytes q.new (pat u ∷ pending bytes fields (opens stack' d)) step.0)
                      ∙ onto-onto bytes g.new q.new (simplified table (pat u ∷ pending bytes fields (opens stack' d)) step.0);
                }

        answers : (new : List ℕ) (o : Option Row) (r : Result ℕ Unsuited) (row : Row) → o ≡ some row → row_of bytes new ≡ row → r ≡ Ok (length row) → Answers bytes new o r
        answers new o r row e f h = rw e (ap said_simplified h, f)

        refuses : (u : Unsuited) (new : List ℕ) (o : Option Row) → o ≡ none → Answers bytes new o (Err u)
        refuses u new o e = rw e refl

        -- a pattern that does not suit
        pub wrong : (u : Unsuited) (r : Result ℕ Unsuited) → IsErr r → Turned bytes kinds counts arities starts fields at t depth place stack nodes₁ stack' nodes' (Err u) → Reading bytes from kinds counts arities starts fields subject used nodes nodes' r
        wrong u (Ok count) i q = clash (cc)
        wrong u (Err v) i q =
            let s = step in
            record {
              new = g.new ++ q.new;
              nodes_are = stores nodes nodes₁ nodes' g.new q.new used place g.nodes_are g.place_is q.nodes_are;
              whole = literals_append q.new g.whole (q.whole s.4);
              counted = λ count e. clash (cc);
              places = λ count e. clash (cc);
              means = λ raws e table h. refuses v (g.new ++ q.new) (simplify table subject raws) (none_of raws table h (g.means raws e table h));
            }
          where
            none_of : (raws : List Raw) (table : Table) → Given kinds counts arities starts fields subject table → Stands g.new g.left t (pending bytes fields (opens stack depth)) raws table → simplify table subject raws ≡ none
            none_of raws table h w =
                w.sofar ∙ ap (onto (row_of bytes g.new))
                (ap (simplified table (pat t ∷ pending bytes fields (opens stack depth))) step.1
                ∙ read_none table t (pending bytes fields (opens stack depth)) (raw_at bytes at) step.0 (q.became table h.used h.shape h.fielded w.in_table))

        -- the last pattern
        pub last : (p : ℕ) → Turned bytes kinds counts arities starts fields at t depth place stack nodes₁ stack' nodes' (Ok (Done p)) → Reading bytes from kinds counts arities starts fields subject used nodes nodes' (Ok (p - used))
        last p q =
            let s = step in
            record {
              new = g.new ++ q.new;
              nodes_are = stores nodes nodes₁ nodes' g.new q.new used place g.nodes_are g.place_is q.nodes_are;
              whole = literals_append q.new g.whole (q.whole s.4);
              counted = λ count e. let c : p - used ≡ count = cc in sym c ∙ counts_all;
              places = λ count e raws h. all-places ∙ more-places q.new q.places ∙ g.places raws h;
              means = λ raws e table h. answers (g.new ++ q.new) (simplify table subject raws) (Ok (p - used)) (row_of bytes (g.new ++ q.new)) (some_of raws table h (g.means raws e table h)) refl (ap Ok (counts_all ∙ sym (length-map (g.new ++ q.new) (node_of bytes))));
            }
          where
            counts_all : p - used ≡ length (g.new ++ q.new)
            counts_all = rw (length-append g.new q.new) (omega (arith, q.ends, g.place_is))

            none_left : step.0 ≡ []
            none_left = nil_of step.0 (sym (ap (λ (n : ℕ). patterns n (drop (at + size_at bytes at) bytes)) (sym q.due_is) ∙ step.2) ∙ patterns-none (drop (at + size_at bytes at) bytes))
              where
                nil_of : (a : List Raw) {rest : List ℕ} → ◌≡◌ {A = Read (List Raw)} (found a []) (found [] rest) → a ≡ []
                nil_of a h = cc

            all-places : places_in (g.new ++ q.new) ≡ places_in (g.new ++ q.new) ++ literal_places bytes (at + size_at bytes at) step.0
            all-places = sym (ap (λ (ps : List Raw). places_in (g.new ++ q.new) ++ literal_places bytes (at + size_at bytes at) ps) none_left ∙ no_more_lem (at + size_at bytes at) (places_in (g.new ++ q.new)))

            some_of : (raws : List Raw) (table : Table) → Given kinds counts arities starts fields subject table → Stands g.new g.left t (pending bytes fields (opens stack depth)) raws table → simplify table subject raws ≡ some (row_of bytes (g.new ++ q.new))
            some_of raws table h w =
                let b = q.became table h.used h.shape h.fielded w.in_table in
                w.sofar ∙ ap (onto (row_of bytes g.new))
                (ap (simplified table (pat t ∷ pending bytes fields (opens stack depth))) step.1
                ∙ read_one table t (pending bytes fields (opens stack depth)) b.0 (raw_at bytes at) step.0 b.1
                ∙ ap₂ (λ (is : List Item) (ps : List Raw). simplified table is ps) b.2 none_left
                ∙ put_all table bytes q.new [] [])
                ∙ onto-onto bytes g.new q.new (simplified table [] [])
                ∙ ap (onto (row_of bytes (g.new ++ q.new))) (read-end table)
                ∙ ap some (append-nil (row_of bytes (g.new ++ q.new)))
