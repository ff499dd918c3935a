-- An event keeps its state or follows an arrow.
use Rattle.event_laws.proofs.Following.{each_change_is_an_arrow}
use Rattle.event_laws.proofs.laws.each_change_is_an_arrow.Goals as goal

pub returns : goal.returns
returns c = each_change_is_an_arrow
