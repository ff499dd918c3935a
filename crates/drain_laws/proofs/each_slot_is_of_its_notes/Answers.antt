use Rattle.drain_laws.proofs.Slots.{each_slot_is_of_its_notes}
use Rattle.drain_laws.proofs.each_slot_is_of_its_notes.Goals as goal

pub returns : goal.returns
returns c = each_slot_is_of_its_notes
