-- When a turn is idle, and that it changes nothing then.
use Rattle.std.proofs.Common.{sym, ◌∙◌}
use Rattle.board_lock.specs.Workers.{hand_of}
use Rattle.board_lock.proofs.Idling.{idle_board, idle_hand, idle_is}
use Rattle.board_lock.proofs.worker.Worker.turn.Goals as goal

pub returns-clause-idle : goal.returns-clause-idle
returns-clause-idle g c =
    let w = hand_of g.D.ErrorDevice.left c.args.self.now in
    let is = idle_is c.args.board.now w w.actor in
    let note = c.note_if.ensures ∙ c.try_step-made.ensures.note in
    (λ e. is.0 (sym note ∙ e), λ i. note ∙ is.1 i)

pub returns-clause-still : goal.returns-clause-still
returns-clause-still g c idle =
    let w = hand_of g.D.ErrorDevice.left c.args.self.now in
    let b = c.args.board.now in
    let note = sym (c.note_if.ensures ∙ c.try_step-made.ensures.note) ∙ idle in (
      c.try_step-made.ensures.board ∙ idle_board b w w.actor note,
      c.try_step-made.ensures.hand ∙ idle_hand b w w.actor note,
    )
