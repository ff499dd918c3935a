-- The instance may wait now.
use Rattle.std.proofs.Common.{sym, subst, true}
use Rattle.sse_base.specs.Events.{Events}
use Rattle.sse_base.specs.Machine.{Machine}
use Rattle.sse_table.specs.Found.{IsPlace}
use Rattle.sse_target.specs.Lines.{HoldsBut}
use Rattle.sbi_sse.proofs.Queues.{marked_but}
use Rattle.sbi_sse.proofs.firmware.Firmware.signal_at.Goals as goal

pub renew-requires-clause-place : goal.renew-requires-clause-place
renew-requires-clause-place c =
    subst (λ (t : Events). IsPlace c.args.place t.instances) (sym c.signal_at.ensures)
    (subst (λ (m : Machine). IsPlace c.args.place m.events.instances) (sym c.self.view_is) c.requires)

pub renew-requires-clause-holds : goal.renew-requires-clause-holds
renew-requires-clause-holds c =
    let there : IsPlace c.args.place c.self.inside.table.instances =
    subst (λ (m : Machine). IsPlace c.args.place m.events.instances) (sym c.self.view_is) c.requires
    in subst (HoldsBut c.args.place.at c.self.inside.targets) (sym c.signal_at.ensures)
    (marked_but c.args.place.at true c.self.inside.targets c.self.inside.table there.on_board
    c.self.invariant.kept.each c.self.invariant.serves)
