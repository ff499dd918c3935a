-- Each round so far made a step.
use Rattle.std.proofs.Common.{◌-◌, length, map}
use Rattle.board_plan.specs.Plans.{most_steps}
use Rattle.board_lock.specs.Trying.{WentBusy}
use Rattle.board_lock.specs.Workers.{hand_of}
use Rattle.board_lock.proofs.replaying.try_rounds.Given as goal

abbrev pub invariant-loop : goal.invariant-loop
invariant-loop g l = record {
  busy : WentBusy (g.B.Lent.played l.fn.board) (map (hand_of g.D.ErrorDevice.left) l.fn.workers)
      (g.B.Lent.played l.board)
      (map (hand_of g.D.ErrorDevice.left) l.workers);
}

abbrev pub decreases-loop : goal.decreases-loop
decreases-loop g l = most_steps (g.B.Lent.played l.board).plan - length (g.B.Lent.played l.board).steps
