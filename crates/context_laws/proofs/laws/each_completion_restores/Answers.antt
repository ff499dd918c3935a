-- A completion restores what was amended.
use Rattle.context_laws.proofs.Following.{each_completion_restores}
use Rattle.context_laws.proofs.laws.each_completion_restores.Goals as goal

pub returns : goal.returns
returns c = record { live = each_completion_restores }
