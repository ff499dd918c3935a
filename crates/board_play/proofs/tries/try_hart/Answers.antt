-- A hart's try is a step, which is told of, or is passed over.
use Rattle.std.proofs.Common.{length, ap, arith}
use Rattle.sse_base.specs.Machine.{Machine}
use Rattle.board_plan.specs.declared.plan.Plan.{Plan}
use Rattle.board_core.specs.Played.{note_if}
use Rattle.board_play.proofs.Telling.{hart-tells, made-step, tells-nil}
use Rattle.board_play.proofs.Trying.{hart-goes, no-hart}
use Rattle.board_play.proofs.tries.try_hart.Goals as goal

pub returns-then-hart-plan : goal.returns-then-hart-plan
returns-then-hart-plan g c =
    record {
      goes = λ left.
          no-hart c.args.board.now c.args.hart left (omega (
            arith,
            c.if-hart-plan.true,
            c.firmware.ensures.harts,
            c.harts-harts.ensures.harts,
            c.harts-harts.ensures.stacks,
            ap (λ (p : Plan). p.harts) c.plan.ensures,
            ap (λ (m : Machine). length m.stacks) c.firmware.ensures.machine,
          ));
      tells = tells-nil g.W.Watch.told c.args.board.now c.args.watch.now;
    }

pub returns : goal.returns
returns g c =
    let made = c.hart_step-made.result in
    let note = c.hart_step-made.new.outcome.note in
    record {
      goes = λ left.
          hart-goes c.args.board.now c.args.hart c.hart_step-made.new.self (note_if made note) made left
          c.hart_step-made.ensures.next c.hart_step-made.ensures.note
          (made-step made note c.hart_step-made.ensures.text);
      tells = hart-tells g.W.Watch.told c.args.board.now c.args.hart c.hart_step-made.new.self made note
          c.args.watch.now c.tell_if.new.watch c.hart_step-made.ensures.next c.hart_step-made.ensures.note
          c.hart_step-made.ensures.text c.tell_if.ensures;
    }
