-- Notes tell which events are pending.
use Rattle.event_laws.proofs.Marks.{each_mark_is_told}
use Rattle.event_laws.proofs.laws.each_mark_is_told.Goals as goal

pub returns : goal.returns
returns c = each_mark_is_told
