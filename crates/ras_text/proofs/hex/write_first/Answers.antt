-- Goals of `write_first` that the tactics leave open.
use Rattle.std.proofs.Common.{◌≡◌, ◌+◌, ◌-◌, false, arith}
use Rattle.std.proofs.lemmas.Fmt.{hex_one_digit}
use Rattle.std.proofs.lemmas.List.{drop-set}
use Rattle.ras_text.proofs.Glyphs.{length_one, length_two, two_digits}
use Rattle.ras_text.proofs.hex.write_first.Goals as goal

pub overflow_sub-buf : goal.overflow_sub-buf
overflow_sub-buf c = omega (arith, length_one c.args.n c.if-n-lt16.true)

pub bounds-buf-end : goal.bounds-buf-end
bounds-buf-end c = omega (arith, length_one c.args.n c.if-n-lt16.true)

pub overflow_sub-result : goal.overflow_sub-result
overflow_sub-result c = omega (arith, length_one c.args.n c.if-n-lt16.true)

pub returns-then-n-lt16-clause-start : goal.returns-then-n-lt16-clause-start
returns-then-n-lt16-clause-start c = omega (arith, length_one c.args.n c.if-n-lt16.true)

pub returns-then-n-lt16-clause-digits : goal.returns-then-n-lt16-clause-digits
returns-then-n-lt16-clause-digits c =
    let long = length_one c.args.n c.if-n-lt16.true in
    let next : c.args.end - 1 + 1 ≡ c.args.end = omega arith in
    rw (
      drop-set c.args.buf.now (c.args.end - 1) _ (omega arith),
      next,
      hex_one_digit false c.args.n c.if-n-lt16.true,
      c.glyph.ensures,
    )

pub overflow_sub-end : goal.overflow_sub-end
overflow_sub-end c = omega (arith, length_two c.args.n c.if-n-lt16.false c.ranges.n.fits)

pub write_pair-requires : goal.write_pair-requires
write_pair-requires c = omega (arith, length_two c.args.n c.if-n-lt16.false c.ranges.n.fits)

pub overflow_sub-result-2 : goal.overflow_sub-result-2
overflow_sub-result-2 c = omega (arith, length_two c.args.n c.if-n-lt16.false c.ranges.n.fits)

pub returns-clause-start : goal.returns-clause-start
returns-clause-start c = omega (arith, length_two c.args.n c.if-n-lt16.false c.ranges.n.fits)

pub returns-clause-digits : goal.returns-clause-digits
returns-clause-digits c =
    let long = length_two c.args.n c.if-n-lt16.false c.ranges.n.fits in
    let next : c.args.end - 2 + 2 ≡ c.args.end = omega arith in
    rw (c.write_pair.ensures.pair, next, two_digits c.args.n c.if-n-lt16.false c.ranges.n.fits)
