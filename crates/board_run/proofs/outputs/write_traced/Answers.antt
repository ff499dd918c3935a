-- The trace and the report behind it, or a front of the trace.
use Rattle.board_run.specs.declared.command.Shown.TheVariants.{Traced}
use Rattle.board_run.specs.declared.status.Status.TheVariants as answers
use Rattle.board_run.specs.Play.{lists_of}
use Rattle.board_run.proofs.Given.{each_reports, are_reports}
use Rattle.board_run.proofs.Joined.{broken_off, joined_status}
use Rattle.board_run.proofs.Written.{play_wrote}
use Rattle.board_run.proofs.outputs.write_traced.Goals as goal

pub returns-in-Ok-written-clause-wrote : goal.returns-in-Ok-written-clause-wrote
returns-in-Ok-written-clause-wrote g c =
    let devices = lists_of g.D.ErrorDevice.left c.args.devices.items in
    play_wrote Traced c.args.plan devices c.in-Ok.traced.board _ _ c.status_of.result c.requires.plan
    (are_reports c.args.plan devices c.requires.reports (each_reports g.D.ErrorDevice.left c.args.devices.items))
    c.in-Ok.ensures.run (joined_status _ _ _ _ _ _ c.report_brief.result _ _ c.in-Ok-written.is c.status_of.ensures
    c.in-Ok.ensures.bytes c.report_brief.ensures.bytes)

pub returns-clause-wrote : goal.returns-clause-wrote
returns-clause-wrote g c =
    let devices = lists_of g.D.ErrorDevice.left c.args.devices.items in
    play_wrote Traced c.args.plan devices c.in-Ok.traced.board _ _ answers.WriteFault c.requires.plan
    (are_reports c.args.plan devices c.requires.reports (each_reports g.D.ErrorDevice.left c.args.devices.items))
    c.in-Ok.ensures.run (broken_off _ _ _ _ _ _ c.in-Err.is c.in-Ok.ensures.bytes)
