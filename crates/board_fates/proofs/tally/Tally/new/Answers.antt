-- Before the first note nothing is counted, and no record is marked.
use Rattle.board_fates.proofs.Pushed.{tally_first}
use Rattle.board_fates.proofs.tally.Tally.new.Goals as goal

pub returns : goal.returns
returns c plan is = tally_first plan is
