-- After some of the steps.
use Rattle.std.proofs.Common.{map, take}
use Rattle.board_lock.specs.Trying.{Goes}
use Rattle.board_lock.specs.Workers.{hand_of}
use Rattle.board_lock.proofs.replaying.try_steps.Given as goal

abbrev pub invariant-loop-step : goal.invariant-loop-step
invariant-loop-step g l = record {
  goes : Goes (g.B.Lent.played l.fn.board) (map (hand_of g.D.ErrorDevice.left) l.fn.workers) (take l.step-index l.steps)
      (g.B.Lent.played l.board)
      (map (hand_of g.D.ErrorDevice.left) l.workers);
}
