-- `rules::suits_kind` meets its contract: each kind of pattern.
use mathlib.Core.Path.{refl}
use Rattle.rules.specs.Kinds.{suits_kind}
use Rattle.rules.proofs.Decisions.{wanting, other}
use Rattle.rules.proofs.suits_kind.Goals as goal
use Rattle.rules.proofs.suits_kind.Goals.{in-Ok-Integer, in-Ok-ByteString, in-Ok-List, in-Ok-Constructor, in-Ok-Pair, in-Ok-Tuple, in-Err}

pub returns-in-Ok-Discard : goal.returns-in-Ok-Discard
unfolding suits_kind
returns-in-Ok-Discard c = rw (c.in-Ok-Discard.ensures, c.in-Ok-Discard.field-0-is)

pub returns-in-Ok-Variable : goal.returns-in-Ok-Variable
unfolding suits_kind
returns-in-Ok-Variable c = rw (c.in-Ok-Variable.ensures, c.in-Ok-Variable.field-0-is)

pub returns-in-Ok-Assign : goal.returns-in-Ok-Assign
unfolding suits_kind
returns-in-Ok-Assign c = rw (c.in-Ok-Assign.ensures, c.in-Ok-Assign.field-0-is)

pub returns : goal.returns
unfolding suits_kind
returns c =
    elim c.match-try_from.branch [
      | in-Ok-Integer w ↦ wanting _ c.args.what c.args.kind c.try_from-2.result c.try_from-2.ensures c.match-try_from.wanted _ w.wanted-is c.eq.result c.eq.ensures w.in-Ok-Integer.field-0 _ w.in-Ok-Integer.ensures w.in-Ok-Integer.field-0-is refl
      | in-Ok-ByteString w ↦ wanting _ c.args.what c.args.kind c.try_from-2.result c.try_from-2.ensures c.match-try_from.wanted _ w.wanted-is c.eq.result c.eq.ensures w.in-Ok-ByteString.field-0 _ w.in-Ok-ByteString.ensures w.in-Ok-ByteString.field-0-is refl
      | in-Ok-List w ↦ wanting _ c.args.what c.args.kind c.try_from-2.result c.try_from-2.ensures c.match-try_from.wanted _ w.wanted-is c.eq.result c.eq.ensures w.in-Ok-List.field-0 _ w.in-Ok-List.ensures w.in-Ok-List.field-0-is refl
      | in-Ok-Constructor w ↦ wanting _ c.args.what c.args.kind c.try_from-2.result c.try_from-2.ensures c.match-try_from.wanted _ w.wanted-is c.eq.result c.eq.ensures w.in-Ok-Constructor.field-0 _ w.in-Ok-Constructor.ensures w.in-Ok-Constructor.field-0-is refl
      | in-Ok-Pair w ↦ wanting _ c.args.what c.args.kind c.try_from-2.result c.try_from-2.ensures c.match-try_from.wanted _ w.wanted-is c.eq.result c.eq.ensures w.in-Ok-Pair.field-0 _ w.in-Ok-Pair.ensures w.in-Ok-Pair.field-0-is refl
      | in-Ok-Tuple w ↦ wanting _ c.args.what c.args.kind c.try_from-2.result c.try_from-2.ensures c.match-try_from.wanted _ w.wanted-is c.eq.result c.eq.ensures w.in-Ok-Tuple.field-0 _ w.in-Ok-Tuple.ensures w.in-Ok-Tuple.field-0-is refl
      | in-Err w ↦ other _ c.args.what c.args.kind c.try_from-2.result c.try_from-2.ensures c.match-try_from.wanted _ w.wanted-is c.eq.result c.eq.ensures w.in-Err.ensures refl
    ]
