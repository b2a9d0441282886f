-- `reading::line::enter_line` meets its contract: the tests, then what the frame of its kind adds.
use mathlib.Core.Path.{refl, ap, subst, sym}
use lib.ListN.{drop}
use Rattle.std.specs.Prelude.{Result}
use Rattle.scope.specs.Blocks.{framed}
use Rattle.scope.specs.Numbers.{number_of, frame_byte}
use Rattle.scope.specs.declared.refusal.Refusal.{Refusal}
use Rattle.order.specs.declared.State.{State}
use Rattle.reading.specs.Said.{held_in, said_step, Stepped}
use Rattle.reading.proofs.Relent.{subject-lent, clause-lent, asks-lent, raised}
use Rattle.reading.proofs.Stepping.{as_kind, as_refused, type_asks, ctor_asks, clause_asks, line_refused, type-line, ctor-line, subject-line, clause-line, end_line}
use Rattle.reading.proofs.line.enter_line.Goals as goal

pub returns-in_err-kind : goal.returns-in_err-kind
returns-in_err-kind c =
    let e = c.in_err-kind.field-0.0 in
    λ σ w. subst (λ (r : Result State Refusal). Stepped (held_in c.args.bytes.now c.args.t.now c.args.rows.now) (said_step r) (framed σ (drop c.args.at c.args.bytes.now))) (sym (raised c.from_residual.result e c.from_residual.ensures)) (line_refused w c.last_ctors.result c.last_ctors.ensures c.args.at (number_of e) (as_refused c.args.bytes.now c.args.at c.args.s c.last_ctors.result c.kind_of.result c.kind_of.ensures e c.in_err-kind.was))

pub add_type-requires-clause-types_bound : goal.add_type-requires-clause-types_bound
add_type-requires-clause-types_bound c =
    let k = as_kind c.args.bytes.now c.args.at c.args.s c.last_ctors.result c.kind_of.result c.kind_of.ensures c.in_ok-kind.kind c.in_ok-kind.was in
    type_asks c.requires.known.says c.last_ctors.result c.last_ctors.ensures c.args.at c.requires.at_in_bounds (frame_byte c.in_ok-kind.kind) k.0 k.1.0 k.1.1 (ap frame_byte c.in-TypeFrame.is)

pub enter_ctor-requires-clause-types_nonzero : goal.enter_ctor-requires-clause-types_nonzero
enter_ctor-requires-clause-types_nonzero c =
    let k = as_kind c.args.bytes.now c.args.at c.args.s c.last_ctors.result c.kind_of.result c.kind_of.ensures c.in_ok-kind.kind c.in_ok-kind.was in
    (ctor_asks c.requires.known.says c.last_ctors.result c.last_ctors.ensures c.args.at c.requires.at_in_bounds (frame_byte c.in_ok-kind.kind) k.0 k.1.0 k.1.1 (ap frame_byte c.in-ConstructorFrame.is)).0

pub enter_ctor-requires-clause-types_bound_2 : goal.enter_ctor-requires-clause-types_bound_2
enter_ctor-requires-clause-types_bound_2 c =
    let k = as_kind c.args.bytes.now c.args.at c.args.s c.last_ctors.result c.kind_of.result c.kind_of.ensures c.in_ok-kind.kind c.in_ok-kind.was in
    (ctor_asks c.requires.known.says c.last_ctors.result c.last_ctors.ensures c.args.at c.requires.at_in_bounds (frame_byte c.in_ok-kind.kind) k.0 k.1.0 k.1.1 (ap frame_byte c.in-ConstructorFrame.is)).1.1

pub enter_clause-requires : goal.enter_clause-requires
enter_clause-requires c =
    let k = as_kind c.args.bytes.now c.args.at c.args.s c.last_ctors.result c.kind_of.result c.kind_of.ensures c.in_ok-kind.kind c.in_ok-kind.was in
    let l = c.lend-in-ClauseFrame.ensures in
    asks-lent l.bytes l.fields (clause_asks c.requires.known.says c.last_ctors.result c.last_ctors.ensures c.args.at c.requires.at_in_bounds (frame_byte c.in_ok-kind.kind) k.0 k.1.0 k.1.1 (ap frame_byte c.in-ClauseFrame.is) c.requires.bytes_len_bound c.requires.bytes_len_bound_2)

pub returns-in-TypeFrame : goal.returns-in-TypeFrame
returns-in-TypeFrame c =
    let k = as_kind c.args.bytes.now c.args.at c.args.s c.last_ctors.result c.kind_of.result c.kind_of.ensures c.in_ok-kind.kind c.in_ok-kind.was in
    let e = c.add_type.ensures in
    λ σ w. type-line w c.last_ctors.result c.last_ctors.ensures c.args.at c.requires.at_in_bounds (frame_byte c.in_ok-kind.kind) k.0 k.1.0 k.1.1 c.requires.bytes_len_bound (ap frame_byte c.in-TypeFrame.is) c.add_type.result e.entered e.names_stay e.labels_stay

pub returns-in-ConstructorFrame : goal.returns-in-ConstructorFrame
returns-in-ConstructorFrame c =
    let k = as_kind c.args.bytes.now c.args.at c.args.s c.last_ctors.result c.kind_of.result c.kind_of.ensures c.in_ok-kind.kind c.in_ok-kind.was in
    λ σ w. ctor-line w c.last_ctors.result c.last_ctors.ensures c.args.at c.requires.at_in_bounds (frame_byte c.in_ok-kind.kind) k.0 k.1.0 k.1.1 c.requires.bytes_len_bound (ap frame_byte c.in-ConstructorFrame.is) c.enter_ctor.result c.enter_ctor.ensures.entered c.enter_ctor.ensures.kinds_stay

pub returns-in-SubjectFrame : goal.returns-in-SubjectFrame
returns-in-SubjectFrame c =
    let k = as_kind c.args.bytes.now c.args.at c.args.s c.last_ctors.result c.kind_of.result c.kind_of.ensures c.in_ok-kind.kind c.in_ok-kind.was in
    let l = c.lend.ensures in
    λ σ w. subject-line w c.last_ctors.result c.last_ctors.ensures c.args.at c.requires.at_in_bounds (frame_byte c.in_ok-kind.kind) k.0 k.1.0 k.1.1 c.requires.bytes_len_bound (ap frame_byte c.in-SubjectFrame.is) c.enter_subject.result (subject-lent l.bytes l.kinds l.counts l.arities l.starts l.fields c.enter_subject.ensures)

pub returns-in-ClauseFrame : goal.returns-in-ClauseFrame
returns-in-ClauseFrame c =
    let k = as_kind c.args.bytes.now c.args.at c.args.s c.last_ctors.result c.kind_of.result c.kind_of.ensures c.in_ok-kind.kind c.in_ok-kind.was in
    let l = c.lend-in-ClauseFrame.ensures in
    λ σ w. clause-line w c.last_ctors.result c.last_ctors.ensures c.args.at c.requires.at_in_bounds (frame_byte c.in_ok-kind.kind) k.0 k.1.0 k.1.1 c.requires.bytes_len_bound (ap frame_byte c.in-ClauseFrame.is) c.enter_clause.result (clause-lent l.bytes l.kinds l.counts l.arities l.starts l.fields c.enter_clause.ensures)

pub returns-in-EndFrame : goal.returns-in-EndFrame
returns-in-EndFrame c =
    let k = as_kind c.args.bytes.now c.args.at c.args.s c.last_ctors.result c.kind_of.result c.kind_of.ensures c.in_ok-kind.kind c.in_ok-kind.was in
    λ σ w. end_line w c.last_ctors.result c.last_ctors.ensures c.args.at c.requires.at_in_bounds (frame_byte c.in_ok-kind.kind) k.0 k.1.0 k.1.1 c.requires.bytes_len_bound (ap frame_byte c.in-EndFrame.is) _ (record { phase_is = refl; types_are = refl; ctors_are = refl; fields_are = refl; subject_is = refl; clauses_are = refl; used_is = refl; count_is = refl })
