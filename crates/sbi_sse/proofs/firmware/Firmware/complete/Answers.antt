-- Goals of `complete` that the tactics leave open.
use Rattle.std.proofs.Common.{◌<◌, Bool, List, length, set, ap, sym, ◌∙◌, subst, arith}
use Rattle.std.specs.Prelude.{Some}
use Rattle.sse_base.specs.declared.ids.Instance.{Instance}
use Rattle.sse_base.specs.Machine.{Machine}
use Rattle.sse_base.specs.Events.{Events, event, is_running}
use Rattle.sse_table.specs.Found.{IsPlace}
use Rattle.sse_target.specs.Lines.{HoldsBut}
use Rattle.sbi_sse.specs.Kept.{IsKept}
use Rattle.sbi_sse.proofs.Queues.{completed_but, served}
use Rattle.sbi_sse.proofs.Keeps.{newest_stands, runs_on_board, completing_keeps}
use Rattle.sbi_sse.proofs.firmware.Firmware.complete.Goals as goal

pub place_of-done-requires : goal.place_of-done-requires
place_of-done-requires c =
    let l : c.args.hart < length c.self.inside.stacks.items =
    omega (arith, ap (λ (m : Machine). m.events.harts) c.self.view_is, c.self.invariant.kept.harts)
    in runs_on_board c.in-Some.at c.self.inside.table c.self.invariant.kept.each
    (newest_stands c.self.inside.table c.self.inside.targets.masks c.self.inside.stacks.items c.args.hart
    c.index_mut-stack.result.now c.in-Some.at c.self.invariant.kept l
    c.index_mut-stack.ensures.value (sym c.in-Some.ensures.which))

pub set_completed_at-requires-clause-running : goal.set_completed_at-requires-clause-running
set_completed_at-requires-clause-running c =
    let l : c.args.hart < length c.self.inside.stacks.items =
    omega (arith, ap (λ (m : Machine). m.events.harts) c.self.view_is, c.self.invariant.kept.harts)
    in ap (λ (x : Instance). is_running (event x c.self.inside.table).state) c.place_of-done.ensures.at
    ∙ newest_stands c.self.inside.table c.self.inside.targets.masks c.self.inside.stacks.items c.args.hart
    c.index_mut-stack.result.now c.in-Some.at c.self.invariant.kept l
    c.index_mut-stack.ensures.value (sym c.in-Some.ensures.which)

pub renew-requires-clause-place : goal.renew-requires-clause-place
renew-requires-clause-place c =
    subst (λ (t : Events). IsPlace c.place_of-done.result t.instances) (sym c.set_completed_at.ensures)
    c.place_of-done.ensures.place

pub renew-requires-clause-holds : goal.renew-requires-clause-holds
renew-requires-clause-holds c =
    subst (HoldsBut c.place_of-done.result.at c.self.inside.targets) (sym c.set_completed_at.ensures)
    (completed_but c.place_of-done.result.at c.self.inside.targets c.self.inside.table
    c.place_of-done.ensures.place.on_board c.self.invariant.kept.each c.self.invariant.serves)

pub invariant_of-self : goal.invariant_of-self
invariant_of-self c =
    let l : c.args.hart < length c.self.inside.stacks.items =
    omega (arith, ap (λ (m : Machine). m.events.harts) c.self.view_is, c.self.invariant.kept.harts)
    in let own = c.place_of-done.ensures.at
    in record {
      kept = subst (λ (ms : List Bool). IsKept c.set_completed_at.new.self ms (set c.self.inside.stacks.items
          c.args.hart c.complete.new.self)) (sym c.renew.ensures.masks)
          (completing_keeps c.self.inside.table c.set_completed_at.new.self c.self.inside.targets.masks
          c.self.inside.stacks.items c.args.hart c.index_mut-stack.result.now c.complete.new.self
          c.place_of-done.result.at c.self.invariant.kept l c.index_mut-stack.ensures.value
          (sym c.in-Some.ensures.which ∙ ap (λ (x : Instance). Some x) (sym own))
          c.complete.ensures.next c.set_completed_at.ensures);
      serves = served c.self.inside.targets c.renew.new.self c.self.inside.table c.set_completed_at.new.self
          c.self.invariant.serves c.renew.ensures.holds
          (ap (λ (t : Events). t.instances) c.set_completed_at.ensures)
          (ap (λ (t : Events). length t.marks) c.set_completed_at.ensures);
    }
