-- The instance may wait now, or no longer.
use Rattle.std.proofs.Common.{sym, subst}
use Rattle.sse_base.specs.declared.arrows.Move.TheVariants.{Enable}
use Rattle.sse_target.specs.Lines.{HoldsBut}
use Rattle.sbi_sse.proofs.Queues.{moved_but}
use Rattle.sbi_sse.proofs.firmware.Firmware.enable.Goals as goal

pub renew-requires-clause-holds : goal.renew-requires-clause-holds
renew-requires-clause-holds c =
    subst (HoldsBut c.in-Ok.place.at c.self.inside.targets) (sym c.enable_at-code.ensures.next)
    (moved_but Enable c.in-Ok.place.at c.self.inside.targets c.self.inside.table c.in-Ok.ensures.place.on_board
    c.self.invariant.kept.each c.self.invariant.serves)
