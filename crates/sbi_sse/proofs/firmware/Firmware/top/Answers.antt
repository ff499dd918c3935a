-- Goals of `top` that the tactics leave open.
use Rattle.std.proofs.Common.{◌<◌, length, ap, sym, arith}
use Rattle.sse_base.specs.Machine.{Machine}
use Rattle.sbi_sse.proofs.Keeps.{newest_stands, runs_on_board}
use Rattle.sbi_sse.proofs.firmware.Firmware.top.Goals as goal

pub priority-requires : goal.priority-requires
priority-requires c =
    let l : c.args.hart < length c.self.inside.stacks.items =
    omega (arith, ap (λ (m : Machine). m.events.harts) c.self.view_is, c.self.invariant.kept.harts)
    in runs_on_board c.in-Some.at c.self.inside.table c.self.invariant.kept.each
    (newest_stands c.self.inside.table c.self.inside.targets.masks c.self.inside.stacks.items c.args.hart
    c.index.result.now c.in-Some.at c.self.invariant.kept l c.index.ensures (sym c.in-Some.ensures))
