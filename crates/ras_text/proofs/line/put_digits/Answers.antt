-- Goals of `put_digits` that the tactics leave open.
use Rattle.std.proofs.Common.{◌≡◌, ℕ, ◌+◌, length, decimal, take, ap, ◌∙◌, arith}
use Rattle.std.proofs.lemmas.List.{length-take}
use Rattle.ras_text.proofs.Glyphs.{length_decimal, placed}
use Rattle.ras_text.proofs.line.put_digits.Goals as goal

pub write_digits-first-requires : goal.write_digits-first-requires
write_digits-first-requires g c =
    let long = length_decimal c.ilog10.result c.args.n c.ilog10.ensures.power_le c.ilog10.ensures.next_power_gt c.ranges.n.fits in
    omega (arith, long, c.requires.room, length-take c.args.line.now.len c.args.line.now.bytes)

pub returns-clause-text : goal.returns-clause-text
returns-clause-text g c =
    let long = length_decimal c.ilog10.result c.args.n c.ilog10.ensures.power_le c.ilog10.ensures.next_power_gt c.ranges.n.fits in
    let len = c.args.line.now.len in
    let start : c.write_digits-first.result ≡ len = omega (arith, long, c.write_digits-first.ensures.start) in
    let end : len + c.ilog10.result + 1 ≡ len + length (decimal c.args.n) = omega (arith, long) in
    ap (λ (i : ℕ). take i c.write_digits-first.new.buf) end
    ∙ placed c.write_digits-first.new.buf c.args.line.now.bytes (decimal c.args.n) _ len
    (rw start at c.write_digits-first.ensures.before) (rw start at c.write_digits-first.ensures.written)
