-- What the board shows, for each text of its plan.
use Rattle.std.proofs.Common.{sym, ◌∙◌}
use Rattle.board_run.specs.Play.{lists_of}
use Rattle.board_run.proofs.Given.{each_reports, are_reports}
use Rattle.board_run.proofs.Written.{play_wrote}
use Rattle.board_run.proofs.outputs.write_play.Goals as goal

pub returns-clause-wrote : goal.returns-clause-wrote
returns-clause-wrote g c =
    play_wrote c.args.what c.args.plan (lists_of g.D.ErrorDevice.left c.args.devices.items) c.in-Ok.board _ _
    c.write_shown.result c.requires.plan (are_reports c.args.plan
    (lists_of g.D.ErrorDevice.left c.args.devices.items) c.requires.reports
    (each_reports g.D.ErrorDevice.left c.args.devices.items)) c.in-Ok.ensures.run
    (c.write_shown.ensures.wrote (sym c.is_traced.ensures ∙ c.if-is_traced.false))
