use Rattle.drain_laws.proofs.Tries.{each_torn_check_rises}
use Rattle.drain_laws.proofs.each_torn_check_rises.Goals as goal

pub returns : goal.returns
returns c = each_torn_check_rises
