-- One instance changed.
use Rattle.std.proofs.Common.{◌≡◌, ◌∙◌, refl, sym, ap, subst, Bool, List, length, arith}
use Rattle.std.specs.Prelude.{Some}
use Rattle.std.specs.List.{refill}
use Rattle.sse_base.specs.declared.events.Event.{Event}
use Rattle.sse_base.specs.declared.events.Slot.{Slot}
use Rattle.sse_queue.specs.declared.urgency.Waiting.{Waiting}
use Rattle.sse_target.specs.Lines.{Lines, Holds, HoldsBut}
use Rattle.sse_target.specs.Steps.{shown}
use Rattle.sse_target.proofs.Waits.{refilled}
use Rattle.sse_target.proofs.Changes.{IsSlotOf, change_takes, change_holds}
use Rattle.sse_target.proofs.targets.Targets.renew.Goals as goal

pub renew-requires : goal.renew-requires
renew-requires c =
    let l : Lines = record { masks = c.as_slice.result.now; queues = c.as_mut_slice.result.now }
    in let same : l ≡ c.args.self.now = cc
    in let held : HoldsBut c.args.place.at l c.args.table.now =
    subst (λ x. HoldsBut c.args.place.at x c.args.table.now) (sym same) c.requires.holds
    in let s : Slot = shown c.args.place.at c.event_at-event.result.now c.is_pending_at-pending.result
    in let slot : IsSlotOf c.args.place.at s c.args.place.index c.args.table.now =
    record {
      slot = c.is_pending_at-pending.ensures.slot
          ∙ ap (λ (e : Event). Some (shown c.args.place.at e c.is_pending_at-pending.result))
          (sym c.event_at-event.ensures);
      own = refl;
      event = c.event_at-event.ensures;
    }
    in λ h k y. change_takes c.args.place.at l c.args.table.now s c.args.place.index h c.requires.board slot held k y

pub returns-clause-holds : goal.returns-clause-holds
returns-clause-holds c =
    let l : Lines = record { masks = c.as_slice.result.now; queues = c.as_mut_slice.result.now }
    in let same : l ≡ c.args.self.now = cc
    in let held : HoldsBut c.args.place.at l c.args.table.now =
    subst (λ x. HoldsBut c.args.place.at x c.args.table.now) (sym same) c.requires.holds
    in let s : Slot = shown c.args.place.at c.event_at-event.result.now c.is_pending_at-pending.result
    in let slot : IsSlotOf c.args.place.at s c.args.place.index c.args.table.now =
    record {
      slot = c.is_pending_at-pending.ensures.slot
          ∙ ap (λ (e : Event). Some (shown c.args.place.at e c.is_pending_at-pending.result))
          (sym c.event_at-event.ensures);
      own = refl;
      event = c.event_at-event.ensures;
    }
    in let long : length c.renew.new.queues ≡ length c.as_mut_slice.result.now = omega arith
    in let now =
    change_holds c.args.place.at l c.args.table.now s c.args.place.index c.renew.new.queues c.requires.board slot held
    long c.renew.ensures
    in let wide : length c.renew.new.queues ≡ length c.self.inside.queues.items = long
    ∙ ap length c.as_mut_slice.ensures.value
    in let back = refilled c.self.inside.queues.items c.renew.new.queues wide
    in let put : Holds (record {
      masks = c.as_slice.result.now;
      queues = refill (length c.self.inside.queues.items) c.self.inside.queues.items c.renew.new.queues;
    })
    c.args.table.now =
    subst (λ (qs : List (List Waiting)). Holds (record {
      masks = c.as_slice.result.now;
      queues = qs;
    }) c.args.table.now) (sym back) now
    in subst (λ (ms : List Bool). Holds (record {
      masks = ms;
      queues = refill (length c.self.inside.queues.items) c.self.inside.queues.items c.renew.new.queues;
    })
    c.args.table.now)
    c.as_slice.ensures.value put
