-- A new board.
use Rattle.std.proofs.Common.{ap, ◌∙◌}
use Rattle.board_core.specs.Played.{fresh}
use Rattle.board_core.proofs.BoardNotes.{fresh_board}
use Rattle.board_core.proofs.board.Board.new.Goals as goal

pub invariant_of-result : goal.invariant_of-result
invariant_of-result c =
    fresh_board _ c.args.plan.now c.requires.plan c.requires.reports
    (c.in_ok-brief.ensures.fresh ∙ ap fresh c.in_ok-plan.ensures)
    c.in_ok-notes.ensures.items (c.in_ok-notes.ensures.room ∙ c.places.ensures)
