-- What a note adds keeps a tally that of the notes.
use Rattle.std.proofs.Common.{◌∷◌, ◌++◌, [], sym, subst}
use Rattle.board_fates.specs.Tallied.{Tallies}
use Rattle.board_fates.proofs.Pushed.{tally_push}
use Rattle.board_fates.proofs.tally.Tally.count.Goals as goal

pub returns-then-tells_of_an_error : goal.returns-then-tells_of_an_error
returns-then-tells_of_an_error c plan ns by h next =
    subst (Tallies plan (ns ++ record { by = by; note = c.args.note.now } ∷ [])) (sym c.add.ensures)
    (tally_push plan ns by c.args.note.now c.args.self.now h next)

pub returns-else-tells_of_an_error : goal.returns-else-tells_of_an_error
returns-else-tells_of_an_error c plan ns by h next =
    subst (Tallies plan (ns ++ record { by = by; note = c.args.note.now } ∷ []))
    (c.tells_of_an_error.ensures c.args.self.now c.if-tells_of_an_error.false)
    (tally_push plan ns by c.args.note.now c.args.self.now h next)
