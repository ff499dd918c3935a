-- The overflow, where no pulse comes before it.
use Rattle.std.proofs.Common.{arith}
use Rattle.ras_pulse.proofs.Turns.{overflow_next}
use Rattle.ras_pulse.proofs.pmu.PmuDeviceErrorDevice.next.Goals as goal

pub returns : goal.returns
returns c =
    let d = c.args.self.now in
    overflow_next d.hart d.period d.before d.overflows (omega (arith, c.if-self-gt0.false))
    (omega (arith, c.if-self-eq0.false))
