-- Goals of `value_of` that the tactics leave open.
use Rattle.std.proofs.Common.{◌<◌, length, arith, sym, ◌∙◌}
use Rattle.std.proofs.lemmas.Grind.{common_steps}
use Rattle.ras_text.proofs.Values.{value_is, not_digit, over, ended}
use Rattle.ras_text.proofs.numbers.value_of.Goals as goal

pub returns-then-digit-base : goal.returns-then-digit-base
returns-then-digit-base c =
    let some : 0 < length c.args.digits.now = grind (arith, common_steps) in
    sym (value_is _ c.requires _ some ∙ c.loop-byte.invariant
    ∙ not_digit _ _ _ _ c.loop-byte-test.true (omega (arith, c.digit_of-digit.ensures)))

pub returns-in_err-value : goal.returns-in_err-value
returns-in_err-value c =
    let some : 0 < length c.args.digits.now = grind (arith, common_steps) in
    c.from_residual.ensures
    ∙ sym (value_is _ c.requires _ some ∙ c.loop-byte.invariant
    ∙ over _ _ _ _ _ c.loop-byte-test.true c.digit_of-digit.ensures (omega arith) c.in_err-value.ensures)

pub returns : goal.returns
returns c =
    let some : 0 < length c.args.digits.now = grind (arith, common_steps) in
    sym (value_is _ c.requires _ some ∙ c.loop-byte.invariant ∙ ended _ _ _ _ c.loop-byte-test.false)
