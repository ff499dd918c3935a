use Rattle.drain_laws.proofs.Tries.{at_most_twelve_claims}
use Rattle.drain_laws.proofs.at_most_twelve_claims.Goals as goal

pub returns : goal.returns
returns c = at_most_twelve_claims
