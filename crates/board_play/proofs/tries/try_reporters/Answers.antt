-- One reporter more.
use Rattle.std.proofs.Common.{Bool, ◌||◌, refl, sym, ap, ◌∙◌}
use Rattle.board_plan.specs.declared.notes.Step.TheVariants.{Reporter}
use Rattle.board_play.proofs.Playing.{goes-more, goes-nil}
use Rattle.board_play.proofs.Telling.{tells-nil, tells-then}
use Rattle.board_play.specs.Tried.{lefts}
use Rattle.board_play.proofs.tries.try_reporters.Goals as goal
use Rattle.board_play.proofs.tries.try_reporters.Goals.{then-made, else-made}

pub loop-reporter-init : goal.loop-reporter-init
loop-reporter-init g c =
    record {
      goes = goes-nil c.args.board.now (lefts g.D.ErrorDevice.left c.args.devices.now);
      tells = tells-nil g.W.Watch.told c.args.board.now c.args.watch.now;
      plan = refl;
    }

pub loop-reporter-preserved : goal.loop-reporter-preserved
loop-reporter-preserved g c =
    let moved = c.try_reporter-moved.result in
    record {
      goes = goes-more _ _ _ _ _ _ Reporter c.loop-reporter.reporter c.loop-reporter.made moved c.if-made.made
          c.loop-reporter.invariant.goes c.try_reporter-moved.ensures.goes
          (elim c.if-made.branch [
            | then-made w ↦ ap (λ (b : Bool). b || moved) w.if-made.true ∙ sym w.if-made.true ∙ sym w.made-is
            | else-made w ↦ ap (λ (b : Bool). b || moved) w.if-made.false ∙ sym w.made-is
          ]);
      tells = tells-then g.W.Watch.told _ _ _ _ _ _ c.loop-reporter.invariant.tells
          c.try_reporter-moved.ensures.tells;
      plan = c.try_reporter-moved.ensures.goes.plan ∙ c.loop-reporter.invariant.plan;
    }
