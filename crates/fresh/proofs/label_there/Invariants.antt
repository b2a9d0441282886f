-- `fresh::label_there` meets its contract: the labels that are left decide.
use mathlib.Core.Path.{◌≡◌}
use Prim.Native.Nat.{◌+◌, ◌-◌, ◌*◌, ◌≤◌}
use Rattle.scope.specs.Lists.{any, same as same_text}
use Rattle.layout.specs.Types.{text_at}
use Rattle.fresh.specs.Fresh.{label_texts}
use Rattle.fresh.proofs.label_there.Given as goal

abbrev pub invariant-loop : goal.invariant-loop
invariant-loop l = record {
  near : l.q ≤ l.p + 257 * l.counter;
  decides : any (same_text (text_at l.bytes l.at)) (label_texts l.bytes l.p l.n) ≡ any (same_text (text_at l.bytes l.at)) (label_texts l.bytes l.q (l.n - l.counter));
}
