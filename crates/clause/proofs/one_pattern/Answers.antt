-- `clause::one_pattern` meets its contract, by the kind of pattern.
use Prim.Native.Nat.{◌+◌}
use mathlib.Core.Path.{refl, ap, ◌∙◌}
use mathlib.Core.Bool.{true}
use native.Mathlib.Omega.{arith}
use lib.ListN.{length, drop}
use Rattle.scope.specs.Patterns.{discard, variable, assign, pair_of, integer_of, byte_string_of}
use Rattle.scope.specs.Frames.{small_name, is_decimal, text_from}
use Rattle.scope.specs.Numbers.{pattern_byte}
use Rattle.fields.proofs.Readers.{told}
use Rattle.clause.specs.Written.{leaving}
use Rattle.clause.proofs.Written.{pattern-tells, leaving-give, found-pattern, pattern-end, pattern-at, pattern-none}
use Rattle.clause.proofs.one_pattern.Goals as goal

pub returns-then-bytes-at-clause-result_value : goal.returns-then-bytes-at-clause-result_value
returns-then-bytes-at-clause-result_value c =
    pattern-tells _ _ _ (pattern-end c.args.bytes.now c.args.at c.requires c.if-bytes-at.true)

pub returns-in-Ok-Discard-clause-result_value : goal.returns-in-Ok-Discard-clause-result_value
returns-in-Ok-Discard-clause-result_value c =
    pattern-tells _ _ _ (found-pattern c.args.bytes.now (c.args.at + 1) discard (omega arith) ∙ pattern-at c.args.bytes.now c.args.at 0 c.if-bytes-at.false (c.in-Ok-Discard.ensures ∙ ap pattern_byte c.in-Ok-Discard.field-0-is))

pub returns-in-Ok-Variable-clause-result_value : goal.returns-in-Ok-Variable-clause-result_value
returns-in-Ok-Variable-clause-result_value c =
    pattern-tells _ _ _ (c.leaving.ensures ∙ ap (leaving 0) (told _ _ c.name.result c.name.ensures) ∙ leaving-give (length c.args.bytes.now) (small_name (drop (c.args.at + 1) c.args.bytes.now)) variable 0 (λ n. refl) ∙ pattern-at c.args.bytes.now c.args.at 1 c.if-bytes-at.false (c.in-Ok-Variable.ensures ∙ ap pattern_byte c.in-Ok-Variable.field-0-is))

pub returns-in-Ok-Assign-clause-result_value : goal.returns-in-Ok-Assign-clause-result_value
returns-in-Ok-Assign-clause-result_value c =
    pattern-tells _ _ _ (c.leaving-in-Ok-Assign.ensures ∙ ap (leaving 1) (told _ _ c.name-in-Ok-Assign.result c.name-in-Ok-Assign.ensures) ∙ leaving-give (length c.args.bytes.now) (small_name (drop (c.args.at + 1) c.args.bytes.now)) assign 1 (λ n. refl) ∙ pattern-at c.args.bytes.now c.args.at 2 c.if-bytes-at.false (c.in-Ok-Assign.ensures ∙ ap pattern_byte c.in-Ok-Assign.field-0-is))

pub returns-in-Ok-Integer-clause-result_value : goal.returns-in-Ok-Integer-clause-result_value
returns-in-Ok-Integer-clause-result_value c =
    pattern-tells _ _ _ (c.leaving-in-Ok-Integer.ensures ∙ ap (leaving 0) (told _ _ c.text.result c.text.ensures) ∙ leaving-give (length c.args.bytes.now) (text_from 1 is_decimal (drop (c.args.at + 1) c.args.bytes.now)) integer_of 0 (λ t. refl) ∙ pattern-at c.args.bytes.now c.args.at 3 c.if-bytes-at.false (c.in-Ok-Integer.ensures ∙ ap pattern_byte c.in-Ok-Integer.field-0-is))

pub returns-in-Ok-ByteString-clause-result_value : goal.returns-in-Ok-ByteString-clause-result_value
returns-in-Ok-ByteString-clause-result_value c =
    pattern-tells _ _ _ (c.leaving-in-Ok-ByteString.ensures ∙ ap (leaving 0) (told _ _ c.text-in-Ok-ByteString.result c.text-in-Ok-ByteString.ensures) ∙ leaving-give (length c.args.bytes.now) (text_from 0 (λ t. true) (drop (c.args.at + 1) c.args.bytes.now)) byte_string_of 0 (λ t. refl) ∙ pattern-at c.args.bytes.now c.args.at 4 c.if-bytes-at.false (c.in-Ok-ByteString.ensures ∙ ap pattern_byte c.in-Ok-ByteString.field-0-is))

pub returns-in-Ok-List-clause-result_value : goal.returns-in-Ok-List-clause-result_value
returns-in-Ok-List-clause-result_value c =
    pattern-tells _ _ _ (c.list_pattern.ensures.value ∙ pattern-at c.args.bytes.now c.args.at 5 c.if-bytes-at.false (c.in-Ok-List.ensures ∙ ap pattern_byte c.in-Ok-List.field-0-is))

pub returns-in-Ok-Constructor-clause-result_value : goal.returns-in-Ok-Constructor-clause-result_value
returns-in-Ok-Constructor-clause-result_value c =
    pattern-tells _ _ _ (c.constructor_pattern.ensures.value ∙ pattern-at c.args.bytes.now c.args.at 6 c.if-bytes-at.false (c.in-Ok-Constructor.ensures ∙ ap pattern_byte c.in-Ok-Constructor.field-0-is))

pub returns-in-Ok-Pair-clause-result_value : goal.returns-in-Ok-Pair-clause-result_value
returns-in-Ok-Pair-clause-result_value c =
    pattern-tells _ _ _ (found-pattern c.args.bytes.now (c.args.at + 1) pair_of (omega arith) ∙ pattern-at c.args.bytes.now c.args.at 7 c.if-bytes-at.false (c.in-Ok-Pair.ensures ∙ ap pattern_byte c.in-Ok-Pair.field-0-is))

pub returns-in-Ok-Tuple-clause-result_value : goal.returns-in-Ok-Tuple-clause-result_value
returns-in-Ok-Tuple-clause-result_value c =
    pattern-tells _ _ _ (c.tuple_pattern.ensures.value ∙ pattern-at c.args.bytes.now c.args.at 8 c.if-bytes-at.false (c.in-Ok-Tuple.ensures ∙ ap pattern_byte c.in-Ok-Tuple.field-0-is))

pub returns-in-Err-clause-result_value : goal.returns-in-Err-clause-result_value
returns-in-Err-clause-result_value c =
    pattern-tells _ _ _ (pattern-none c.args.bytes.now c.args.at c.if-bytes-at.false c.in-Err.ensures)
