-- What `settle` has put so far, and what it and `advance` give back: from the laws of single open patterns.
use mathlib.Core.Path.{◌≡◌, refl, sym, ap, ap₂, ◌∙◌}
use mathlib.Core.List.{List, [], ◌∷◌, ◌++◌, map}
use Prim.Native.Nat.{ℕ, suc, ◌+◌, ◌*◌, ◌-◌, ◌/◌, ◌≤◌, ◌<◌}
use native.Mathlib.Nat.{add-zero}
use native.Mathlib.Omega.{arith}
use lib.ListN.{length, get_or, length-append}
use lib.Seq.{sets}
use Rattle.scope.specs.Simplify.{Item, put, pat}
use Rattle.layout.specs.Nodes.{row_of, Literals, done, places_in}
use Rattle.nodes.proofs.Runs.{stores, puts_append, literals_append, no_places, both-plain}
use Rattle.nodes.specs.Opens.{wanted, open_at, opens, pending, due, cell_of, taken, end_of}
use Rattle.nodes.specs.declared.Open.{Open}
use Rattle.nodes.proofs.Pending.{opens-top, cell-plain, cell-literals, cell-short, end-plain, end-literals, end_short, taken-items, taken-due, tail-items, tail-due, end-items, end-due}
use Rattle.settle.specs.Settled.{Next, Read, Done, rest_of, Due, Ends, Settled}

-- the open pattern that was taken from the top of the stack, and those below it
pub next_open : (stack stack₀ : List ℕ) (depth : ℕ) (o : Open) → 0 < depth → stack ≡ stack₀ → o ≡ open_at stack (depth - 1) → opens stack₀ depth ≡ o ∷ opens stack (depth - 1)
next_open stack stack₀ depth o h e i = ap (λ (s : List ℕ). opens s depth) (sym e) ∙ opens-top stack depth (depth - 1) h refl ∙ ap (λ (f : Open). f ∷ opens stack (depth - 1)) (sym i)

-- between the open patterns fs and gs these nodes were put, of n open patterns
pub record Settling (bytes fields : List ℕ) (fs gs : List Open) (n from : ℕ) (nodes nodes' : List ℕ) (at : ℕ) : Type 0 where
  pub new : List ℕ
  pub nodes_are : nodes' ≡ sets nodes from new
  pub whole : Literals bytes new
  pub plain : places_in new ≡ []
  pub few : length new ≤ 65536 * n
  pub at_is : at ≡ from + length new
  pub due_is : due fs ≡ due gs
  pub items : pending bytes fields fs ≡ map put (row_of bytes new) ++ pending bytes fields gs

-- before the first
pub settle-start : (bytes fields : List ℕ) (fs : List Open) (n from : ℕ) (nodes : List ℕ) → Settling bytes fields fs fs n from nodes nodes from
settle-start bytes fields fs n from nodes = record { new = []; nodes_are = refl; whole = done; plain = no_places; few = omega arith; at_is = sym (add-zero from); due_is = refl; items = refl }

module _ (bytes fields : List ℕ) (fs : List Open) (n from : ℕ) (nodes nodes' : List ℕ) (at : ℕ) where
  -- one more open pattern has ended
  pub settle-end : (gs hs : List Open) (o : Open) (m at' : ℕ) (nodes'' : List ℕ) → Settling bytes fields fs gs n from nodes nodes' at → gs ≡ o ∷ hs → m ≡ n + 1 → o.what < 65536
      → wanted o.what o.more ≡ 0 → at' ≡ at + length (end_of o.what) → nodes'' ≡ sets nodes' at (end_of o.what) → Settling bytes fields fs hs m from nodes nodes'' at'
  settle-end gs hs o m at' nodes'' s g m_is l z a e =
      record {
        new = s.new ++ end_of o.what;
        nodes_are = stores nodes nodes' nodes'' s.new (end_of o.what) from at s.nodes_are s.at_is e;
        whole = literals_append (end_of o.what) s.whole (end-literals bytes o.what);
        plain = both-plain s.new (end_of o.what) s.plain (end-plain o.what);
        few = rw (length-append s.new (end_of o.what)) (omega (arith, s.few, end_short o.what l));
        at_is = rw (length-append s.new (end_of o.what)) (omega (arith, s.at_is));
        due_is = s.due_is ∙ ap due g ∙ end-due bytes fields o hs z;
        items = s.items ∙ ap (λ (is : List Item). map put (row_of bytes s.new) ++ is) (ap (pending bytes fields) g ∙ end-items bytes fields o hs z) ∙ puts_append bytes s.new (end_of o.what) (pending bytes fields hs);
      }

  module _ (height : ℕ) (stack : List ℕ) where
    -- no open pattern is left
    pub settle-done : Settling bytes fields fs (opens stack 0) n from nodes nodes' at → n ≤ height → Settled bytes fields fs height from nodes stack nodes' (Done at)
    unfolding opens pending due
    settle-done s l =
        record {
          new = s.new;
          nodes_are = s.nodes_are;
          whole = s.whole;
          plain = s.plain;
          few = omega (arith, s.few);
          ends = s.at_is;
          due_is = s.due_is;
          items = s.items;
        }

  -- what is put after what was put
  pub settle-more : (gs hs : List Open) (height k : ℕ) (stack nodes'' : List ℕ) (r : Next) → Settling bytes fields fs gs n from nodes nodes' at → gs ≡ hs → n + k ≤ height → Settled bytes fields hs k at nodes' stack nodes'' r → Settled bytes fields fs height from nodes stack nodes'' r
  settle-more gs hs height k stack nodes'' r s g l q =
      record {
        new = s.new ++ q.new;
        nodes_are = stores nodes nodes' nodes'' s.new q.new from at s.nodes_are s.at_is q.nodes_are;
        whole = literals_append q.new s.whole q.whole;
        plain = both-plain s.new q.new s.plain q.plain;
        few = rw (length-append s.new q.new) (omega (arith, s.few, q.few));
        ends = ends_more r q.ends;
        due_is = due-same r q.due_is;
        items = s.items ∙ ap (λ (is : List Item). map put (row_of bytes s.new) ++ is) (ap (pending bytes fields) g ∙ q.items) ∙ puts_append bytes s.new q.new (rest_of bytes fields stack r);
      }
    where
      whole_length : at + length q.new ≡ from + length (s.new ++ q.new)
      whole_length = rw (length-append s.new q.new) (omega (arith, s.at_is))

      ends_more : (x : Next) → Ends (at + length q.new) k x → Ends (from + length (s.new ++ q.new)) height x
      ends_more (Read t depth place) e = (e.0 ∙ whole_length, e.1, omega (arith, e.2))
      ends_more (Done place) e = e ∙ whole_length

      due-same : (x : Next) → Due (due hs) stack x → Due (due fs) stack x
      due-same (Read t depth place) e = s.due_is ∙ ap due g ∙ e
      due-same (Done place) e = s.due_is ∙ ap due g ∙ e

module _ (bytes fields stack : List ℕ) (below : ℕ) (o : Open) (nodes : List ℕ) (at t : ℕ) (low : t < 16384) where
  -- the tail of a list is next
  pub advance-tail : o.more ≡ 0 → 0 < wanted o.what o.more → t ≡ (o.what - 32768) / 2 → Settled bytes fields (o ∷ opens stack below) (below + 1) at nodes stack nodes (Read t below at)
  advance-tail z w t_is =
      record {
        new = [];
        nodes_are = refl;
        whole = done;
        plain = no_places;
        few = omega arith;
        ends = (sym (add-zero at), low, omega arith);
        due_is = tail-due bytes fields o (opens stack below) z w;
        items = tail-items bytes fields o (opens stack below) z w ∙ ap (λ (x : ℕ). pat x ∷ pending bytes fields (opens stack below)) (sym t_is);
      }

  -- an element after its cell, or an argument
  pub advance-taken : (stack' nodes' : List ℕ) (place : ℕ) → 0 < o.more → t ≡ get_or fields o.field 0 → place ≡ at + length (cell_of o.what) → nodes' ≡ sets nodes at (cell_of o.what) → opens stack' (below + 1) ≡ taken o ∷ opens stack below
      → Settled bytes fields (o ∷ opens stack below) (below + 1) at nodes stack' nodes' (Read t (below + 1) place)
  advance-taken stack' nodes' place some t_is p_is e p =
      record {
        new = cell_of o.what;
        nodes_are = e;
        whole = cell-literals bytes o.what;
        plain = cell-plain o.what;
        few = omega (arith, cell-short o.what);
        ends = (p_is, low, omega arith);
        due_is = taken-due bytes fields o (opens stack below) some ∙ ap (λ (fs : List Open). suc (due fs)) (sym p);
        items = taken-items bytes fields o (opens stack below) some ∙ ap₂ (λ (x : ℕ) (fs : List Open). map put (row_of bytes (cell_of o.what)) ++ (pat x ∷ pending bytes fields fs)) (sym t_is) (sym p);
      }
