-- The most cells that open calls hold at one time, computed for three of document 01's blocks.
use mathlib.Core.List.{List, [], ◌∷◌}
use mathlib.Core.Path.{◌≡◌, refl}
use Prim.Native.Nat.{ℕ}
use Prim.Native.String.{String}
use Rattle.scope.specs.Lists.{bytes}
use Rattle.scope.specs.Lines.{lines}
use Rattle.scope.specs.Blocks.{Parsed, parsed, faulty, block_of}
use Rattle.scope.specs.Driver.{Findings, findings}
use Rattle.scope.proofs.Compute.{compute}

-- the most cells that open calls of the first and of the second kind hold for a file
unfoldable pub cells_held : String → List ℕ
cells_held file = on (block_of (lines (bytes file)))
  where
    peaks : Findings → List ℕ
    peaks f = f.reached.peak ∷ f.missing.peak ∷ []

    on : Parsed → List ℕ
    on (parsed b) = peaks (findings b)
    on (faulty n k) = []

-- P1: a call of the second kind on no rows holds none
pub held_P1 : cells_held "0100\n0300\n05\n" ≡ 0 ∷ 0 ∷ []
unfolding compute cells_held
held_P1 = refl

-- P5: each call of the first kind holds its new row too; open calls add up
pub held-P5 : cells_held "0106\n0201410000\n0201420000\n01050000\n0301\n04070006000000\n04070600000006000000\n05\n" ≡ 8 ∷ 7 ∷ []
unfolding compute cells_held
held-P5 = refl

-- P7: of the calls that are not open at one time the greatest sum counts
pub held_P7 : cells_held "0100\n010300\n0301\n04050000\n0405010000\n0405030100000000\n05\n" ≡ 11 ∷ 12 ∷ []
unfolding compute cells_held
held_P7 = refl
