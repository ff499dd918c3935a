-- The workers so far, and the devices for the others.
use Rattle.std.proofs.Common.{◌≡◌, ◌++◌, map}
use Rattle.std.specs.List.{range_with_len}
use Rattle.board_lock.specs.Hiring.{reporter_hand}
use Rattle.board_lock.specs.Views.{left_or_none}
use Rattle.board_lock.specs.Workers.{hand_of}
use Rattle.board_lock.proofs.Shelves.{IsKept}
use Rattle.board_lock.proofs.hiring.hire_reporters.Given as goal

abbrev pub invariant-loop-number : goal.invariant-loop-number
invariant-loop-number g l = record {
  hands : map (hand_of g.D.ErrorDevice.left) l.workers ≡ map (hand_of g.D.ErrorDevice.left) l.fn.workers
      ++ map (reporter_hand l.fn.plan (map (left_or_none g.D.ErrorDevice.left) l.fn.shelf)) (range_with_len 0 l.number);
  kept : IsKept l.fn.plan l.number (map (left_or_none g.D.ErrorDevice.left) l.fn.shelf)
      (map (left_or_none g.D.ErrorDevice.left) l.shelf);
}
