-- Goals of `digit_count` that the tactics leave open.
use Rattle.std.proofs.Common.{sym, arith}
use Rattle.ras_text.proofs.Glyphs.{length_by_bits}
use Rattle.ras_text.proofs.hex.digit_count.Goals as goal

pub returns-clause-count : goal.returns-clause-count
returns-clause-count c =
    sym (length_by_bits c.args.n c.ilog2.result (omega (arith, c.ilog2.ensures)) (omega (arith, c.ilog2.ensures))
    c.ranges.n.fits)
