-- Goals of `gather_1` that the tactics leave open.
use Rattle.std.proofs.Common.{◌<◌, length, arith, ap, ◌∙◌}
use Rattle.script_write.proofs.Gathers.{gathers_more}
use Rattle.script_write.proofs.moving.gather_1.Goals as goal

pub loop-i-preserved : goal.loop-i-preserved
loop-i-preserved c =
    let same = ap length c.as_slice-i-end.ensures in
    let within : c.loop-i.i < length c.args.banks.now = omega (arith, same, c.loop-i-test.true) in
    c.set.ensures
    ∙ gathers_more c.args.banks.now c.loop-i.banks c.as_slice.result.now c.loop-i.i _ within c.as_slice.ensures
    c.loop-i.invariant
