-- The workers so far.
use Rattle.std.proofs.Common.{◌≡◌, map}
use Rattle.std.specs.List.{range_with_len}
use Rattle.board_lock.specs.Hand.{hart_hand}
use Rattle.board_lock.specs.Workers.{hand_of}
use Rattle.board_lock.proofs.hiring.hire_harts.Given as goal

abbrev pub invariant-loop-hart : goal.invariant-loop-hart
invariant-loop-hart g l = map (hand_of g.D.ErrorDevice.left) l.workers ≡ map hart_hand (range_with_len 0 l.hart)
