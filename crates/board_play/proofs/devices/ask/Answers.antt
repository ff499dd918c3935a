-- One device was asked, and the others have what they had.
use Rattle.board_play.specs.Tried.{after_asked}
use Rattle.board_play.proofs.Asking.{lefts_set}
use Rattle.board_play.proofs.devices.ask.Goals as goal

pub returns-clause-left : goal.returns-clause-left
returns-clause-left g c =
    lefts_set g.D.ErrorDevice.left c.args.devices.now c.args.number c.ask_or_drop.new.place c.index-devices-at.result
    (after_asked c.args.wanted) c.if-at-devices.false c.ask_or_drop.ensures.left
