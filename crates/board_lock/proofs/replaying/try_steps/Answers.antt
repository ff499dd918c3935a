-- One step more.
use Rattle.board_lock.proofs.Trying.{goes_more}
use Rattle.board_lock.proofs.replaying.try_steps.Goals as goal

pub loop-step-preserved : goal.loop-step-preserved
loop-step-preserved g c =
    record {
      goes = goes_more _ _ _ _ _ _ c.args.steps.now c.loop-step.step-index _ c.try_as.result c.loop-step-test.true
          c.loop-step.invariant.goes c.try_as.ensures;
    }
