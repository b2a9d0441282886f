-- Some files that tell faults of a definition apart which P1 to P10 do not, by computing.
use mathlib.Core.List.{List, [], ◌∷◌}
use mathlib.Core.Path.{refl}
use Rattle.scope.proofs.Compute.{compute}
use Rattle.scope.specs.SmallBlocks.{Example, AllPrinted}

-- refusals 3, 4, 5 and 7, literals, both walks, both texts
abbrev pub telling : List Example
telling =
    -- an empty file has no end, at line 1
    record { file = ""; prints = "refused 5 line 1\n" } ∷
    -- hexadecimal is lower-case
    record { file = "0100\n0300\n05\n0A\n"; prints = "refused 3 line 4\n" } ∷
    -- a frame with a byte over
    record { file = "0100\n0300\n0500\n"; prints = "refused 4 line 3\n" } ∷
    -- -0 is not decimal, which comes before its type
    record { file = "0101\n0300\n0403022d30\n05\n"; prints = "refused 4 line 3\n" } ∷
    -- a data type without constructors has no value, reached or not
    record { file = "0100\n0106\n0300\n05\n"; prints = "refused 7 line 3\n" } ∷
    -- byte strings of one length are told apart by their bytes
    record { file = "0101\n0300\n04040100\n04040101\n05\n"; prints = "clauses 2 reached 2 never 0\nclause 1 reached\nclause 2 reached\ngaps 1\nmissing _\npaste _\ncalls 3 2\n" } ∷
    -- a wildcard in a complete column: constructors are tried up to the first yes
    record { file = "0106\n0201410000\n0201420000\n01050000\n0301\n04070600000006000000\n04070601000006000000\n04070006010000\n05\n"; prints = "clauses 3 reached 3 never 0\nclause 1 reached\nclause 2 reached\nclause 3 reached\ngaps 0\ncalls 8 8\n" } ∷
    -- a pair of A, B or C: where some are unseen the first column varies fastest
    record { file = "0106\n0201410000\n0201420000\n0201430000\n01050000\n0301\n04070600000000\n04070006000000\n05\n"; prints = "clauses 2 reached 2 never 0\nclause 1 reached\nclause 2 reached\ngaps 4\nmissing (B, B)\npaste (B, B)\nmissing (C, B)\npaste (C, B)\nmissing (B, C)\npaste (B, C)\nmissing (C, C)\npaste (C, C)\ncalls 4 4\n" } ∷
    -- arity 16; spread with all arguments
    record { file = "0100\n0106\n020141001000000000000000000000000000000000\n0301\n040600100100000000000000000000000000000000\n05\n"; prints = "clauses 1 reached 1 never 0\nclause 1 reached\ngaps 0\ncalls 1 18\n" } ∷
    -- a name of 32 bytes changes no order
    record { file = "0106\n0201410000\n022042424242424242424242424242424242424242424242424242424242424242420000\n0300\n0406000000\n05\n"; prints = "clauses 1 reached 1 never 0\nclause 1 reached\ngaps 1\nmissing BBBBBBBBBBBBBBBBBBBBBBBBBBBBBBBB\npaste BBBBBBBBBBBBBBBBBBBBBBBBBBBBBBBB\ncalls 1 2\n" } ∷
    -- ten literals make no column complete
    record { file = "0100\n0300\n04030130\n04030131\n04030132\n04030133\n04030134\n04030135\n04030136\n04030137\n04030138\n04030139\n05\n"; prints = "clauses 10 reached 10 never 0\nclause 1 reached\nclause 2 reached\nclause 3 reached\nclause 4 reached\nclause 5 reached\nclause 6 reached\nclause 7 reached\nclause 8 reached\nclause 9 reached\nclause 10 reached\ngaps 1\nmissing _\npaste _\ncalls 19 2\n" } ∷
    -- [] as the last element: the paste text leaves out only the "[]" that closes the list
    record { file = "0100\n010300\n010301\n0302\n04050000\n0405010000\n0405030100000000\n04050200050101000000\n04050200000501010000\n05\n"; prints = "clauses 5 reached 5 never 0\nclause 1 reached\nclause 2 reached\nclause 3 reached\nclause 4 reached\nclause 5 reached\ngaps 1\nmissing [[], [], []]\npaste [[], []]\ncalls 23 8\n" } ∷
    []

pub telling-right : AllPrinted telling
unfolding compute
telling-right = (refl, (refl, (refl, (refl, (refl, (refl, (refl, (refl, (refl, (refl, (refl, (refl, tt))))))))))))
