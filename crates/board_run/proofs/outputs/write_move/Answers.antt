-- The moved plan's text, for each text of the plan.
use Rattle.board_run.proofs.Moved.{move_wrote}
use Rattle.board_run.proofs.outputs.write_move.Goals as goal

pub returns-clause-wrote : goal.returns-clause-wrote
returns-clause-wrote g c =
    λ devices.
    move_wrote devices c.args.plan c.moved.new.plan _ _ c.write.result c.status_of.result c.requires
    c.moved.ensures.moved c.moved.ensures.again c.status_of.ensures c.write.ensures.bytes
