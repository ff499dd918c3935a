use Rattle.drain_laws.proofs.Showing.{each_signalled_asks}
use Rattle.drain_laws.proofs.each_signalled_asks.Goals as goal

pub returns : goal.returns
returns c = each_signalled_asks
