use Rattle.drain_laws.proofs.Slots.{each_signalled_block_rests}
use Rattle.drain_laws.proofs.each_signalled_block_rests.Goals as goal

pub returns : goal.returns
returns c = each_signalled_block_rests
