use Rattle.drain_laws.proofs.Slots.{each_copy_stands}
use Rattle.drain_laws.proofs.each_copy_stands.Goals as goal

pub returns : goal.returns
returns c = each_copy_stands
