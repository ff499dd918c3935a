-- Goals of `write_run` that the tactics leave open.
use Rattle.board_lock.specs.Hiring.{left_in}
use Rattle.board_run.proofs.Finished.{run_whole, run_front}
use Rattle.board_run.proofs.running.write_run.Goals as goal

pub returns-in-Ok-report_brief-clause-wrote : goal.returns-in-Ok-report_brief-clause-wrote
returns-in-Ok-report_brief-clause-wrote g c =
    run_whole (left_in g.D.ErrorDevice.left c.args.devices.items) c.args.plan c.in-Ok.board _ _
    c.in-Ok-report_brief.field-0 c.in-Ok.ensures c.in-Ok-report_brief.ensures.bytes

pub returns-clause-wrote : goal.returns-clause-wrote
returns-clause-wrote g c =
    run_front (left_in g.D.ErrorDevice.left c.args.devices.items) c.args.plan c.in-Ok.board _ _ c.in-Err.field-0
    c.in-Ok.ensures c.in-Err.ensures.bytes
