-- A device is taken.
use Rattle.std.proofs.Common.{ap}
use Rattle.board_lock.specs.Views.{left_or_none}
use Rattle.board_lock.proofs.Shelves.{taken}
use Rattle.board_lock.proofs.hiring.take.Goals as goal

pub returns-clause-shelf : goal.returns-clause-shelf
returns-clause-shelf g c =
    taken (left_or_none g.D.ErrorDevice.left) c.args.shelf.now c.args.device c.in-Some.number c.from-place.result
    c.take.new.self c.in-Some.is c.from-place.ensures (ap (left_or_none g.D.ErrorDevice.left) c.take.ensures.after)
