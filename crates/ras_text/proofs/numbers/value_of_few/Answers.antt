-- Goals of `value_of_few` that the tactics leave open.
use Rattle.std.proofs.Common.{◌<◌, ◌≤◌, length, arith, sym, ◌∙◌}
use Rattle.std.proofs.lemmas.Grind.{common_steps}
use Rattle.ras_text.proofs.Values.{value_is, not_digit, ended, onto_digit, one_digit_more, nineteen_digits}
use Rattle.ras_text.proofs.numbers.value_of_few.Goals as goal

pub returns-then-digit-ge10 : goal.returns-then-digit-ge10
returns-then-digit-ge10 c =
    let some : 0 < length c.args.digits.now = grind (arith, common_steps) in
    let low : 1 ≤ 10 = omega arith in
    sym (value_is 10 low _ some ∙ c.loop-byte.invariant.same
    ∙ not_digit 10 _ _ _ c.loop-byte-test.true (c.decimal_digit_of-digit.ensures.other (omega arith)))

pub overflow_mul-value : goal.overflow_mul-value
overflow_mul-value c =
    let l = c.loop-byte in
    let top = nineteen_digits l.value 0 l.byte-index l.invariant.few (omega arith)
    (omega arith) in
    omega (arith, top)

pub overflow_add-value : goal.overflow_add-value
overflow_add-value c =
    let l = c.loop-byte in
    let top = nineteen_digits l.value c.decimal_digit_of-digit.result l.byte-index l.invariant.few (omega arith)
    (omega arith) in
    omega (arith, top)

pub loop-byte-preserved : goal.loop-byte-preserved
loop-byte-preserved c =
    let l = c.loop-byte in
    let d = c.decimal_digit_of-digit.result in
    let digit : d < 10 = omega arith in
    let top = nineteen_digits l.value d l.byte-index l.invariant.few (omega arith) digit in
    record {
      few = one_digit_more l.value d l.byte-index l.invariant.few digit;
      same = l.invariant.same
          ∙ onto_digit 10 l.value l.byte-index d c.args.digits.now c.loop-byte-test.true
          (c.decimal_digit_of-digit.ensures.digit digit) digit top;
    }

pub returns : goal.returns
returns c =
    let some : 0 < length c.args.digits.now = grind (arith, common_steps) in
    let low : 1 ≤ 10 = omega arith in
    sym (value_is 10 low _ some ∙ c.loop-byte.invariant.same ∙ ended 10 _ _ _ c.loop-byte-test.false)
