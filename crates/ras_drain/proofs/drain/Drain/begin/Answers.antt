-- A drain that begins fits any bank.
use Rattle.ras_drain.proofs.Beginning.{fresh_fits}
use Rattle.ras_drain.proofs.drain.Drain.begin.Goals as goal

pub returns-clause-fits : goal.returns-clause-fits
returns-clause-fits c = λ bank. fresh_fits _ bank
