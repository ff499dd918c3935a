-- After some rounds.
use Rattle.std.proofs.Common.{map}
use Rattle.board_lock.specs.Hand.{EachStays}
use Rattle.board_lock.specs.Workers.{hand_of}
use Rattle.board_lock.proofs.lock.rounds.Given as goal

abbrev pub invariant-loop : goal.invariant-loop
invariant-loop g l = record {
  stays : EachStays (map (hand_of g.D.ErrorDevice.left) l.fn.workers) (map (hand_of g.D.ErrorDevice.left) l.workers);
}
