-- After some tries.
use Rattle.board_lock.specs.Hand.{Stays}
use Rattle.board_lock.specs.Workers.{hand_of}
use Rattle.board_lock.proofs.lock.work.Given as goal

abbrev pub invariant-loop : goal.invariant-loop
invariant-loop g l = record {
  stays : Stays (hand_of g.D.ErrorDevice.left l.fn.worker) (hand_of g.D.ErrorDevice.left l.worker);
}
