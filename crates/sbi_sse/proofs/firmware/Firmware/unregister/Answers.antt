-- The instance waits nowhere, before and after.
use Rattle.std.proofs.Common.{sym, subst}
use Rattle.sse_base.specs.Events.{Events}
use Rattle.sbi_sse.specs.Kept.{IsKept, Serves}
use Rattle.sbi_sse.proofs.Keeps.{unregister_keeps}
use Rattle.sbi_sse.proofs.Queues.{unregister_serves}
use Rattle.sbi_sse.proofs.firmware.Firmware.unregister.Goals as goal

pub invariant_of-self : goal.invariant_of-self
invariant_of-self c = record {
  kept = subst (λ (t : Events). IsKept t c.self.inside.targets.masks c.self.inside.stacks.items)
      (sym c.unregister_at.ensures.next)
      (unregister_keeps c.in-Ok.place.at c.self.inside.table c.self.inside.targets.masks c.self.inside.stacks.items
      c.self.invariant.kept);
  serves = subst (Serves c.self.inside.targets) (sym c.unregister_at.ensures.next)
      (unregister_serves c.in-Ok.place.at c.self.inside.targets c.self.inside.table c.in-Ok.ensures.place.on_board
      c.self.invariant.kept.each c.self.invariant.serves);
}
