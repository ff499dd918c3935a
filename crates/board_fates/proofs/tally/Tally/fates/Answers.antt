-- The counts are those of the notes.
use Rattle.board_fates.proofs.Pushed.{fates_are}
use Rattle.board_fates.proofs.tally.Tally.fates.Goals as goal

pub returns : goal.returns
returns c plan ns h = fates_are plan ns c.args.self.now h
