-- Each round so far made a step.
use Rattle.std.proofs.Common.{◌-◌, length}
use Rattle.board_plan.specs.Plans.{most_steps}
use Rattle.board_play.specs.Tried.{AreFollowed, Tells, lefts}
use Rattle.board_play.proofs.rounds.try_rounds.Given as goal

abbrev pub invariant-loop : goal.invariant-loop
invariant-loop g l = record {
  followed : AreFollowed l.fn.board (lefts g.D.ErrorDevice.left l.fn.devices) l.board
      (lefts g.D.ErrorDevice.left l.devices);
  tells : Tells g.W.Watch.told l.fn.board l.board l.fn.watch l.watch;
}

abbrev pub decreases-loop : goal.decreases-loop
decreases-loop g l = most_steps l.board.plan - length l.board.steps
