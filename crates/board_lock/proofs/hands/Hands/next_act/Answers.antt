-- What the device gives is a report.
use Rattle.std.proofs.Common.{subst, sym}
use Rattle.ras_device.specs.Acts.{HasReports}
use Rattle.board_lock.proofs.Given.{first_report, one_more_report}
use Rattle.board_lock.proofs.hands.Hands.next_act.Goals as goal

pub invariant_of-self-2-clause-reports : goal.invariant_of-self-2-clause-reports
invariant_of-self-2-clause-reports g c =
    subst HasReports (sym c.push_reserved.ensures.items)
    (one_more_report c.args.self.now.given.items c.in_ok-act.act c.args.self.now.reports
    (first_report (g.D.ErrorDevice.left c.in-Some.device) (g.D.ErrorDevice.left c.next.new.self).acts
    c.in_ok-act.act c.in_ok-act.ensures))

pub returns-clause-report : goal.returns-clause-report
returns-clause-report g c =
    first_report (g.D.ErrorDevice.left c.in-Some.device) (g.D.ErrorDevice.left c.next.new.self).acts
    c.in_ok-act.act c.in_ok-act.ensures
