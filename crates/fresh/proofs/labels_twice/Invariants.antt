-- `fresh::labels_twice` meets its contract: each label is looked for among those after it.
use mathlib.Core.Path.{◌≡◌}
use Prim.Native.Nat.{◌+◌, ◌*◌, ◌≤◌}
use Rattle.scope.specs.Lists.{twice}
use Rattle.fresh.specs.Fresh.{label_texts}
use Rattle.fresh.proofs.labels_twice.Given as goal

abbrev pub invariant-loop-more : goal.invariant-loop-more
invariant-loop-more l = record {
  near : l.q + 257 * l.more ≤ l.p + 257 * l.n;
  decides : twice (label_texts l.bytes l.p l.n) ≡ twice (label_texts l.bytes l.q l.more);
}
