-- A hart has few handlers.
use Rattle.event_laws.proofs.Depths.{each_nest_is_few}
use Rattle.event_laws.proofs.laws.each_nest_is_few.Goals as goal

pub returns : goal.returns
returns c = each_nest_is_few
