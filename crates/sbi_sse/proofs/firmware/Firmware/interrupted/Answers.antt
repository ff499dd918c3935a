-- An instance that doesn't run has no handler on any hart.
use Rattle.std.proofs.Common.{ap, sym, ◌∙◌}
use Rattle.sse_base.specs.declared.events.Event.{Event}
use Rattle.sse_base.specs.Machine.{Machine}
use Rattle.sse_base.specs.Calls.{interrupted_on}
use Rattle.sbi_sse.proofs.Interrupted.{rests}
use Rattle.sbi_sse.proofs.firmware.Firmware.interrupted.Goals as goal

pub returns-in_default : goal.returns-in_default
returns-in_default c = λ attr.
    c.nothing.ensures attr
    ∙ sym (rests attr c.args.place.at c.self.inside.table c.self.inside.targets.masks c.self.inside.stacks.items
    c.event_at.result.now.state c.self.invariant.kept (ap (λ (e : Event). e.state) c.event_at.ensures)
    c.in_default.not-Running)
    ∙ ap (λ (m : Machine). interrupted_on attr c.args.place.at m.stacks) c.self.view_is
