-- Handlers nest in rising urgency.
use Rattle.event_laws.proofs.Framing.{each_nest_rises}
use Rattle.event_laws.proofs.laws.each_nest_rises.Goals as goal

pub returns : goal.returns
returns c = each_nest_rises
