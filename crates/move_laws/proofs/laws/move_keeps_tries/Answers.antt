-- Tries are kept.
use Rattle.move_laws.proofs.Reports.{tries_kept}
use Rattle.move_laws.proofs.laws.move_keeps_tries.Goals as goal

pub returns-clause-tries : goal.returns-clause-tries
returns-clause-tries c = tries_kept
