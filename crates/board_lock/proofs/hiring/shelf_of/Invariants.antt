-- The devices so far.
use Rattle.std.proofs.Common.{◌≡◌, map}
use Rattle.board_lock.specs.Hiring.{left_in}
use Rattle.board_lock.specs.Views.{left_or_none}
use Rattle.board_lock.proofs.hiring.shelf_of.Given as goal

abbrev pub invariant-loop-device : goal.invariant-loop-device
invariant-loop-device g l =
    map (left_or_none g.D.ErrorDevice.left) l.shelf ≡ left_in g.D.ErrorDevice.left l.yielded
