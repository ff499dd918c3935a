-- One step more.
use Rattle.std.specs.Prelude.{slice_index_or}
use Rattle.std.proofs.lemmas.List.{take_more}
use Rattle.board_plan.specs.declared.notes.Step.TheVariants.{Hart}
use Rattle.board_play.proofs.Playing.{plays-more, plays-nil}
use Rattle.board_play.proofs.Telling.{tells-nil, tells-then}
use Rattle.board_play.specs.Tried.{lefts}
use Rattle.board_play.proofs.tries.try_steps.Goals as goal

pub loop-step-init : goal.loop-step-init
loop-step-init g c =
    record {
      plays = plays-nil c.args.board.now (lefts g.D.ErrorDevice.left c.args.devices.now);
      tells = tells-nil g.W.Watch.told c.args.board.now c.args.watch.now;
    }

pub loop-step-preserved : goal.loop-step-preserved
loop-step-preserved g c =
    record {
      plays = plays-more _ _ _ _ _ _ _ _ (slice_index_or c.args.steps.now c.loop-step.step-index (Hart 0)) _
          (take_more c.args.steps.now c.loop-step.step-index (Hart 0) c.loop-step-test.true)
          c.loop-step.invariant.plays c.try_step.ensures.goes;
      tells = tells-then g.W.Watch.told _ _ _ _ _ _ c.loop-step.invariant.tells c.try_step.ensures.tells;
    }
