use Rattle.drain_laws.proofs.Homes.{each_drain_is_sound}
use Rattle.drain_laws.proofs.each_drain_is_sound.Goals as goal

pub returns : goal.returns
returns c = each_drain_is_sound
