-- Runs and traces are kept.
use Rattle.move_laws.proofs.Reports.{runs_kept, traces_kept}
use Rattle.move_laws.proofs.laws.move_keeps_runs.Goals as goal

pub returns-clause-runs : goal.returns-clause-runs
returns-clause-runs c = runs_kept

pub returns-clause-traces : goal.returns-clause-traces
returns-clause-traces c = traces_kept
