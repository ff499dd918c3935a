-- Goals of `deliver` that the tactics leave open.
use Rattle.std.proofs.Common.{◌<◌, Bool, false, List, length, set, refl, ap, sym, ◌∙◌, subst, arith}
use Rattle.std.proofs.lemmas.List.{length-set}
use Rattle.sse_base.specs.declared.ids.Instance.{Instance}
use Rattle.sse_base.specs.Machine.{Machine}
use Rattle.sse_base.specs.Ids.{place}
use Rattle.sse_base.specs.Events.{Events}
use Rattle.sse_base.specs.Contexts.{deliver}
use Rattle.sse_table.specs.Found.{IsPlace}
use Rattle.sse_target.specs.Lines.{HoldsBut}
use Rattle.sbi_sse.specs.Kept.{IsKept}
use Rattle.sbi_sse.proofs.Begins.{next_begins}
use Rattle.sbi_sse.proofs.Queues.{delivered_but, served}
use Rattle.sbi_sse.proofs.Keeps.{room_for, delivering_keeps}
use Rattle.sbi_sse.proofs.firmware.Firmware.deliver.Goals as goal

pub place_of-place-requires : goal.place_of-place-requires
place_of-place-requires c =
    (next_begins c.args.hart c.self.inside.table c.self.inside.targets.masks c.self.inside.stacks.items
    c.self.inside.memory c.args.self.now c.in-Some.at c.in-Some.at c.self.invariant.kept c.self.view_is
    c.in-Some.ensures refl).on_board

pub set_running_at-requires-clause-enabled : goal.set_running_at-requires-clause-enabled
set_running_at-requires-clause-enabled c =
    (next_begins c.args.hart c.self.inside.table c.self.inside.targets.masks c.self.inside.stacks.items
    c.self.inside.memory c.args.self.now c.place_of-place.result.at c.in-Some.at c.self.invariant.kept c.self.view_is
    c.in-Some.ensures c.place_of-place.ensures.at).enabled

pub renew-requires-clause-place : goal.renew-requires-clause-place
renew-requires-clause-place c =
    subst (λ (t : Events). IsPlace c.place_of-place.result t.instances) (sym c.set_running_at.ensures)
    c.place_of-place.ensures.place

pub renew-requires-clause-holds : goal.renew-requires-clause-holds
renew-requires-clause-holds c =
    subst (HoldsBut c.place_of-place.result.at c.self.inside.targets) (sym c.set_running_at.ensures)
    (delivered_but c.place_of-place.result.at c.self.inside.targets c.self.inside.table
    c.place_of-place.ensures.place.on_board c.self.invariant.kept.each c.self.invariant.serves)

pub deliver-requires : goal.deliver-requires
deliver-requires c =
    let l : c.args.hart < length c.self.inside.stacks.items =
    omega (arith, ap (λ (m : Machine). m.events.harts) c.self.view_is, c.self.invariant.kept.harts)
    in let b = next_begins c.args.hart c.self.inside.table c.self.inside.targets.masks c.self.inside.stacks.items
    c.self.inside.memory c.args.self.now c.in-Some.at c.in-Some.at c.self.invariant.kept c.self.view_is
    c.in-Some.ensures refl
    in room_for c.self.inside.table c.self.inside.targets.masks c.self.inside.stacks.items c.args.hart
    c.index_mut-stack.result.now c.in-Some.at c.self.invariant.kept l
    c.index_mut-stack.ensures.value b.on_board b.may_run b.enabled

pub invariant_of-self : goal.invariant_of-self
invariant_of-self c =
    let l : c.args.hart < length c.self.inside.stacks.items =
    omega (arith, ap (λ (m : Machine). m.events.harts) c.self.view_is, c.self.invariant.kept.harts)
    in let own = c.place_of-place.ensures.at
    in let b = next_begins c.args.hart c.self.inside.table c.self.inside.targets.masks c.self.inside.stacks.items
    c.self.inside.memory c.args.self.now c.place_of-place.result.at c.in-Some.at c.self.invariant.kept c.self.view_is
    c.in-Some.ensures c.place_of-place.ensures.at
    in record {
      kept = subst (λ (ms : List Bool). IsKept c.set_running_at.new.self ms (set c.self.inside.stacks.items c.args.hart
          c.deliver.new.self)) (sym c.renew.ensures.masks)
          (delivering_keeps c.self.inside.table c.set_running_at.new.self c.self.inside.targets.masks
          c.self.inside.stacks.items c.args.hart c.event_at-event.result.now.entry c.event_at-event.result.now.arg
          c.index_mut-stack.result.now c.deliver.new.self c.place_of-place.result.at c.self.invariant.kept l
          c.index_mut-stack.ensures.value b.on_board b.may_run b.enabled
          (c.deliver.ensures ∙ ap (λ (x : Instance). deliver x c.event_at-event.result.now.entry
          c.event_at-event.result.now.arg c.args.hart c.index_mut-stack.result.now) (sym own))
          c.set_running_at.ensures);
      serves = served c.self.inside.targets c.renew.new.self c.self.inside.table c.set_running_at.new.self
          c.self.invariant.serves c.renew.ensures.holds
          (ap (λ (t : Events). t.instances) c.set_running_at.ensures)
          (ap (λ (t : Events). length t.marks) c.set_running_at.ensures
          ∙ length-set c.self.inside.table.marks
          (place c.place_of-place.result.at c.self.inside.table.instances) false);
    }
