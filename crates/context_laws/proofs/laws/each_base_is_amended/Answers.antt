-- The base is amended at depth 0.
use Rattle.context_laws.proofs.Following.{each_base_is_amended}
use Rattle.context_laws.proofs.laws.each_base_is_amended.Goals as goal

pub returns : goal.returns
returns c = record { base = each_base_is_amended }
