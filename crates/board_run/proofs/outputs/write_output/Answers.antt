-- What a move writes, whatever the devices have.
use Rattle.board_run.specs.Play.{lists_of}
use Rattle.board_run.proofs.outputs.write_output.Goals as goal

pub returns-in-Move-clause-wrote : goal.returns-in-Move-clause-wrote
returns-in-Move-clause-wrote g c =
    let moved = c.write_move.ensures.wrote (lists_of g.D.ErrorDevice.left c.args.devices.items) in
    rw c.in-Move.is moved
