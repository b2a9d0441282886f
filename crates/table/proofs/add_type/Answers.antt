-- `table::add_type` meets its contract: what its parts have stored is one more type.
use mathlib.Core.Path.{refl, ap₂, ◌∙◌}
use native.Mathlib.Omega.{arith}
use Rattle.std.proofs.Common.{rules}
use Prim.Native.Nat.{◌*◌}
use lib.ListN.{replicate}
use lib.Seq.{sets}
use Rattle.table.proofs.Stores.{part_filled}
use Rattle.table.proofs.add_type.Goals as goal

pub returns : goal.returns
returns c =
    let t = c.args.t.now in
    let i = 32 * c.args.s.types in
    let few = c.put_arities-n.ensures.few in
    let starts = part_filled t.starts c.fill.new.self i c.from.result c.low.result (omega arith) (c.fill.ensures.after (λ y e. e)) in
    record {
      entered = record {
        numbers = rw (c.get-kind.ensures, c.put_types-end.ensures.value) at c.after_type.ensures;
        with = record {
          kinds_are = search rules;
          ctors_are = record {
            counts_are = search rules;
            arities_are = search rules;
            starts_are = starts ∙ ap₂ (λ n v. sets t.starts i (replicate n v)) (c.from.ensures ∙ c.put_arities-n.ensures.value) c.low.ensures;
            fields_are = search rules;
          };
        };
      };
      names_stay = refl;
      labels_stay = refl;
    }
