-- `hexadecimal::decode` meets its contract: in turn k the bytes before byte k are written.
use Prim.Native.Nat.{ℕ, ◌+◌}
use mathlib.Core.List.{List}
use mathlib.Core.Path.{ap, ◌∙◌}
use lib.ListN.{set}
use Rattle.hexadecimal.proofs.Hexadecimal.{length-unhex, decode-next, decode-done}
use native.Mathlib.Omega.{arith}
use Rattle.hexadecimal.proofs.decode.Goals as goal

pub loop-k-preserved : goal.loop-k-preserved
loop-k-preserved c =
    (c.loop-k.invariant.0, ap (λ (x : List ℕ). set x (c.args.at + c.loop-k.k) c.byte_of.result) c.loop-k.invariant.1 ∙ decode-next c.args.ds.now c.args.out.now c.args.at c.loop-k.k c.byte_of.result (omega arith) c.byte_of.ensures)

pub returns : goal.returns
returns c =
    record { value = omega (arith, length-unhex c.args.ds.now); out_after = c.loop-k.invariant.1 ∙ decode-done c.args.ds.now c.args.out.now c.args.at c.loop-k.k (omega arith) }
