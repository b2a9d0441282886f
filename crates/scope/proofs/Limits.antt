-- What a test of a limit says, one law each: what a code's branch cites.
use mathlib.Core.List.{List, ◌∷◌}
use mathlib.Core.Path.{◌≡◌, refl}
use mathlib.Core.Bool.{Bool, true, false, ◌&&◌, ◌||◌}
use Prim.Native.Nat.{ℕ, ◌≤◌, ◌<◌, ◌%◌}
use lib.Dec.{ltb, eqb}
use lib.ListN.{length}
use borrow.Author.Tests.{ltb-false, le-ltb, lt-leb}
use Rattle.scope.specs.Lists.{all}
use Rattle.scope.specs.Lines.{ended, is_hex, is_line}
use Rattle.scope.specs.Types.{last_declared}
use Rattle.scope.specs.Frames.{is_kind}
use Rattle.scope.specs.Blocks.{Block, State, refuse, ctor_count, nodes_in, stands, has_room, framed}
use Rattle.scope.specs.Driver.{Findings, too_much}
use Rattle.scope.proofs.Tests.{neither}

-- 3: over 1,280 digits
pub over-digits : (ds : List ℕ) → 1280 < length ds → is_line (ended ds) ≡ false
unfolding is_line
over-digits ds h = rw (lt-leb (length ds) 1280 h) (fails (ltb 0 (length ds) && eqb (length ds % 2) 0) (all is_hex ds))
  where
    fails : (a b : Bool) → (a && false && b) ≡ false
    fails true b = refl
    fails false b = refl

-- 5 before 6: a frame out of place is 5, whether or not there is room for it
pub out_of_place : (s : State) (k : ℕ) (bs : List ℕ) → is_kind k ≡ true → stands s k ≡ false → framed s (k ∷ bs) ≡ refuse 5
unfolding framed
out_of_place s k bs h p = rw (h, p)

-- 6: whether there is room for one more frame
pub room-types : (b : Block) → has_room b 1 ≡ ltb (length b.table) 64
unfolding has_room
room-types b = refl

pub room-ctors : (b : Block) → has_room b 2 ≡ (ltb (ctor_count b.table) 256 && ltb (length (last_declared b.table)) 32)
unfolding has_room
room-ctors b = refl

pub room-clauses : (b : Block) → has_room b 4 ≡ ltb (length b.rows) 64
unfolding has_room
room-clauses b = refl

-- 10: every count is within its limit
pub record WithinLimits (f : Findings) : Type 0 where
  pub first_calls : f.reached.calls ≤ 65536
  pub second_calls : f.missing.calls ≤ 65536
  pub first_cells : f.reached.peak ≤ 16384
  pub second_cells : f.missing.peak ≤ 16384
  pub missing_nodes : nodes_in f.missing.result ≤ 4096

pub not_too_much : (f : Findings) → too_much f ≡ false → WithinLimits f
unfolding too_much
not_too_much f h =
    let a = ltb 65536 f.reached.calls in
    let b = ltb 65536 f.missing.calls in
    let c = ltb 16384 f.reached.peak in
    let d = ltb 16384 f.missing.peak in
    let e = ltb 4096 (nodes_in f.missing.result) in
    let s = neither (a || b || c || d) e h in
    let r = neither (a || b || c) d s.0 in
    let q = neither (a || b) c r.0 in
    let p = neither a b q.0 in
    record {
      first_calls = ltb-false 65536 f.reached.calls p.0;
      second_calls = ltb-false 65536 f.missing.calls p.1;
      first_cells = ltb-false 16384 f.reached.peak q.1;
      second_cells = ltb-false 16384 f.missing.peak r.1;
      missing_nodes = ltb-false 4096 (nodes_in f.missing.result) s.1;
    }

pub within_limits : (f : Findings) → WithinLimits f → too_much f ≡ false
unfolding too_much
within_limits f w = rw (le-ltb 65536 f.reached.calls w.first_calls, le-ltb 65536 f.missing.calls w.second_calls, le-ltb 16384 f.reached.peak w.first_cells, le-ltb 16384 f.missing.peak w.second_cells, le-ltb 4096 (nodes_in f.missing.result) w.missing_nodes)
