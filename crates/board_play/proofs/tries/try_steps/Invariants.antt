-- After some of the steps.
use Rattle.std.proofs.Common.{take}
use Rattle.board_play.specs.Tried.{Plays, Tells, lefts}
use Rattle.board_play.proofs.tries.try_steps.Given as goal

abbrev pub invariant-loop-step : goal.invariant-loop-step
invariant-loop-step g l = record {
  plays : Plays l.fn.board (lefts g.D.ErrorDevice.left l.fn.devices) (take l.step-index l.steps) l.board
      (lefts g.D.ErrorDevice.left l.devices);
  tells : Tells g.W.Watch.told l.fn.board l.board l.fn.watch l.watch;
}
