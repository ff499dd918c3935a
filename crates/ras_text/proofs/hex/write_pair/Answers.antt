-- Goals of `write_pair` that the tactics leave open.
use Rattle.std.proofs.Common.{◌≡◌, ◌+◌, ◌%◌, set, arith, length-set, false}
use Rattle.std.proofs.lemmas.List.{set_comm, drop-set}
use Rattle.std.specs.Fmt.{digit_glyph}
use Rattle.ras_text.proofs.Glyphs.{pair_at}
use Rattle.ras_text.proofs.hex.write_pair.Goals as goal

pub returns-clause-pair : goal.returns-clause-pair
returns-clause-pair c =
    let p = pair_at c.args.byte (omega (arith, c.ranges.byte.fits)) in
    let at = c.args.at in
    let buf = c.args.buf.now in
    let low = digit_glyph false (c.args.byte % 16) in
    let next : at + 1 + 1 ≡ at + 2 = omega arith in
    rw (
      p.0,
      p.1,
      set_comm buf at (at + 1) _ _ (λ x. omega arith),
      drop-set (set buf (at + 1) low) at _ (omega (arith, length-set buf (at + 1) low)),
      drop-set buf (at + 1) _ (omega arith),
      next,
    )
