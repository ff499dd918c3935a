-- What a device gives is a report.
use Rattle.board_play.proofs.Asking.{given_report}
use Rattle.board_play.proofs.devices.next.Goals as goal

pub returns-in-Some-clause-report : goal.returns-in-Some-clause-report
returns-in-Some-clause-report g c =
    given_report g.D.ErrorDevice.left c.in-Some.device c.next.result (g.D.ErrorDevice.left c.next.new.self).acts
    c.next.ensures
