-- Goals of `write_hex` that the tactics leave open.
use Rattle.std.proofs.Common.{◌≡◌, ◌+◌, ◌-◌, ◌≤◌, take, sym, ap, ◌∙◌, arith, append_assoc, take-take}
use Rattle.ras_text.proofs.Glyphs.{length_pair, pair_more}
use Rattle.ras_text.proofs.hex.write_hex.Goals as goal

pub overflow_sub-at : goal.overflow_sub-at
overflow_sub-at c = omega (arith, length_pair c.loop-left.left c.loop-left-test.true c.loop-left.auto.left-fits.fits)

pub write_pair-requires : goal.write_pair-requires
write_pair-requires c = omega (arith, length_pair c.loop-left.left c.loop-left-test.true c.loop-left.auto.left-fits.fits)

pub loop-left-preserved : goal.loop-left-preserved
loop-left-preserved c =
    let l = c.loop-left in
    let i = l.invariant in
    let long = length_pair l.left c.loop-left-test.true l.auto.left-fits.fits in
    let more = pair_more l.left c.loop-left-test.true l.auto.left-fits.fits in
    let back : l.at - 2 + 2 ≡ l.at = omega (arith, long, i.room) in
    record {
      room = omega (arith, long, i.room);
      within = omega (arith, i.within);
      start = omega (arith, long, i.room, i.start);
      digits = rw (c.write_pair.ensures.pair, back) (rw (more, append_assoc) at i.digits);
      before = c.write_pair.ensures.before
          ∙ sym (take-take (l.at - 2) l.at l.buf (omega arith))
          ∙ ap (take (l.at - 2)) i.before
          ∙ take-take (l.at - 2) l.at c.args.buf.now (omega arith);
    }

pub returns-clause-before : goal.returns-clause-before
returns-clause-before c =
    let l = c.loop-left in
    let from = c.write_first.result in
    let fewer : from ≤ l.at = omega (arith, c.write_first.ensures.start) in
    c.write_first.ensures.before
    ∙ sym (take-take from l.at l.buf fewer)
    ∙ ap (take from) l.invariant.before
    ∙ take-take from l.at c.args.buf.now fewer
