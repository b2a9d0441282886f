-- `suits::suits` meets its contract: the kind of the type, then each kind of pattern.
use mathlib.Core.Path.{refl}
use Rattle.suits.specs.Suits.{form_of}
use Rattle.suits.proofs.Small.{is_unfit, is-kind, is-other}
use Rattle.suits.proofs.suits.Goals as goal

pub returns-then-not-suits_kind-clause-suits : goal.returns-then-not-suits_kind-clause-suits
returns-then-not-suits_kind-clause-suits c =
    let a = c.args in
    let b = a.types.now in
    is_unfit b.bytes.now b.kinds.now b.counts.now b.arities.now a.at a.t c.get-what.result c.kind.result c.suits_kind.result c.get-what.ensures c.kind.ensures c.suits_kind.ensures c.if-not-suits_kind.true

pub returns-in-Ok-Discard-clause-suits : goal.returns-in-Ok-Discard-clause-suits
unfolding form_of
returns-in-Ok-Discard-clause-suits c =
    let a = c.args in
    let b = a.types.now in
    is-kind b.bytes.now b.kinds.now b.counts.now b.arities.now a.at a.t c.get-what.result c.kind.result c.suits_kind.result c.get-what.ensures c.kind.ensures c.suits_kind.ensures _ c.in-Ok-Discard.field-0 _ c.if-not-suits_kind.false c.in-Ok-Discard.ensures c.in-Ok-Discard.field-0-is refl

pub returns-in-Ok-Variable-clause-suits : goal.returns-in-Ok-Variable-clause-suits
unfolding form_of
returns-in-Ok-Variable-clause-suits c =
    let a = c.args in
    let b = a.types.now in
    is-kind b.bytes.now b.kinds.now b.counts.now b.arities.now a.at a.t c.get-what.result c.kind.result c.suits_kind.result c.get-what.ensures c.kind.ensures c.suits_kind.ensures _ c.in-Ok-Variable.field-0 _ c.if-not-suits_kind.false c.in-Ok-Variable.ensures c.in-Ok-Variable.field-0-is refl

pub returns-in-Ok-Assign-clause-suits : goal.returns-in-Ok-Assign-clause-suits
unfolding form_of
returns-in-Ok-Assign-clause-suits c =
    let a = c.args in
    let b = a.types.now in
    is-kind b.bytes.now b.kinds.now b.counts.now b.arities.now a.at a.t c.get-what.result c.kind.result c.suits_kind.result c.get-what.ensures c.kind.ensures c.suits_kind.ensures _ c.in-Ok-Assign.field-0 _ c.if-not-suits_kind.false c.in-Ok-Assign.ensures c.in-Ok-Assign.field-0-is refl

pub returns-in-Ok-Integer-clause-suits : goal.returns-in-Ok-Integer-clause-suits
unfolding form_of
returns-in-Ok-Integer-clause-suits c =
    let a = c.args in
    let b = a.types.now in
    is-kind b.bytes.now b.kinds.now b.counts.now b.arities.now a.at a.t c.get-what.result c.kind.result c.suits_kind.result c.get-what.ensures c.kind.ensures c.suits_kind.ensures _ c.in-Ok-Integer.field-0 _ c.if-not-suits_kind.false c.in-Ok-Integer.ensures c.in-Ok-Integer.field-0-is (cc)

pub returns-in-Ok-ByteString-clause-suits : goal.returns-in-Ok-ByteString-clause-suits
unfolding form_of
returns-in-Ok-ByteString-clause-suits c =
    let a = c.args in
    let b = a.types.now in
    is-kind b.bytes.now b.kinds.now b.counts.now b.arities.now a.at a.t c.get-what.result c.kind.result c.suits_kind.result c.get-what.ensures c.kind.ensures c.suits_kind.ensures _ c.in-Ok-ByteString.field-0 _ c.if-not-suits_kind.false c.in-Ok-ByteString.ensures c.in-Ok-ByteString.field-0-is (cc)

pub returns-in-Ok-List-clause-suits : goal.returns-in-Ok-List-clause-suits
unfolding form_of
returns-in-Ok-List-clause-suits c =
    let a = c.args in
    let b = a.types.now in
    is-kind b.bytes.now b.kinds.now b.counts.now b.arities.now a.at a.t c.get-what.result c.kind.result c.suits_kind.result c.get-what.ensures c.kind.ensures c.suits_kind.ensures _ c.in-Ok-List.field-0 _ c.if-not-suits_kind.false c.in-Ok-List.ensures c.in-Ok-List.field-0-is (cc)

pub returns-in-Ok-Constructor-clause-suits : goal.returns-in-Ok-Constructor-clause-suits
unfolding form_of
returns-in-Ok-Constructor-clause-suits c =
    let a = c.args in
    let b = a.types.now in
    is-kind b.bytes.now b.kinds.now b.counts.now b.arities.now a.at a.t c.get-what.result c.kind.result c.suits_kind.result c.get-what.ensures c.kind.ensures c.suits_kind.ensures _ c.in-Ok-Constructor.field-0 _ c.if-not-suits_kind.false c.in-Ok-Constructor.ensures c.in-Ok-Constructor.field-0-is (cc)

pub returns-in-Ok-Pair-clause-suits : goal.returns-in-Ok-Pair-clause-suits
unfolding form_of
returns-in-Ok-Pair-clause-suits c =
    let a = c.args in
    let b = a.types.now in
    is-kind b.bytes.now b.kinds.now b.counts.now b.arities.now a.at a.t c.get-what.result c.kind.result c.suits_kind.result c.get-what.ensures c.kind.ensures c.suits_kind.ensures _ c.in-Ok-Pair.field-0 _ c.if-not-suits_kind.false c.in-Ok-Pair.ensures c.in-Ok-Pair.field-0-is (cc)

pub returns-in-Ok-Tuple-clause-suits : goal.returns-in-Ok-Tuple-clause-suits
unfolding form_of
returns-in-Ok-Tuple-clause-suits c =
    let a = c.args in
    let b = a.types.now in
    is-kind b.bytes.now b.kinds.now b.counts.now b.arities.now a.at a.t c.get-what.result c.kind.result c.suits_kind.result c.get-what.ensures c.kind.ensures c.suits_kind.ensures _ c.in-Ok-Tuple.field-0 _ c.if-not-suits_kind.false c.in-Ok-Tuple.ensures c.in-Ok-Tuple.field-0-is (cc)

pub returns-in-Err-clause-suits : goal.returns-in-Err-clause-suits
unfolding form_of
returns-in-Err-clause-suits c =
    let a = c.args in
    let b = a.types.now in
    is-other b.bytes.now b.kinds.now b.counts.now b.arities.now a.at a.t c.get-what.result c.kind.result c.suits_kind.result c.get-what.ensures c.kind.ensures c.suits_kind.ensures _ c.if-not-suits_kind.false c.in-Err.ensures (cc)
