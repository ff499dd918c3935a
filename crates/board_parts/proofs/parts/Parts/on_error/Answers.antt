-- The error goes to its bank, or is stray.
use Rattle.std.proofs.Common.{suc}
use Rattle.board_parts.proofs.AtReporters.{error_made, error_stray}
use Rattle.board_parts.proofs.parts.Parts.on_error.Goals as goal

pub returns-then-report-clause-takes : goal.returns-then-report-clause-takes
returns-then-report-clause-takes c =
    λ plan s h early.
    error_made plan s c.report.new.self c.args.report.now c.report.result c.report.new.note c.if-report.true
    (c.report.ensures.takes plan s (suc s.steps) h early)

pub returns-clause-takes : goal.returns-clause-takes
returns-clause-takes c =
    λ plan s h early.
    error_stray plan s c.report.new.self c.args.report.now c.report.result c.report.new.note c.if-report.false
    (c.report.ensures.takes plan s (suc s.steps) h early)
