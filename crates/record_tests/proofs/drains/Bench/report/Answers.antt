-- An error keeps what the drain has read.
use Rattle.ras_drain.proofs.Errors.{report_keeps_fit}
use Rattle.record_tests.proofs.drains.Bench.report.Goals as goal

pub invariant_of-self : goal.invariant_of-self
invariant_of-self c =
    let fits = report_keeps_fit c.self.inside.drain c.self.inside.bank c.report.new.self _ c.report.result
    c.self.invariant.0 c.report.ensures.records c.report.ensures.unchanged in
    (fits, c.self.invariant.1)
