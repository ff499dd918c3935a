-- A reporter that isn't wanted makes no step, and one that is wanted is on the board.
use Rattle.std.proofs.Common.{ap, sym, ◌∙◌}
use Rattle.board_plan.specs.Step.{wants}
use Rattle.board_core.specs.Played.{Played, state_of}
use Rattle.board_lock.specs.Hand.{handed_act}
use Rattle.board_lock.specs.Views.{hand_in_hands}
use Rattle.board_lock.proofs.Turning.{unwanted_stays, unwanted_idle, wanted_low}
use Rattle.board_lock.proofs.hands.Hands.turn.Goals as goal

pub returns-then-not-wants-clause-board : goal.returns-then-not-wants-clause-board
returns-then-not-wants-clause-board g c =
    let b = g.B.Lent.played c.args.board.now in
    let r = c.args.self.now.reporter in
    unwanted_stays r b (handed_act (hand_in_hands g.D.ErrorDevice.left c.args.self.now) b r)
    (sym (ap (λ (p : Played). wants p.plan r (state_of p)) c.brief-brief.ensures) ∙ sym c.wants.ensures
    ∙ c.if-not-wants.true)

pub returns-then-not-wants-clause-note : goal.returns-then-not-wants-clause-note
returns-then-not-wants-clause-note g c =
    let b = g.B.Lent.played c.args.board.now in
    let r = c.args.self.now.reporter in
    unwanted_idle r b (handed_act (hand_in_hands g.D.ErrorDevice.left c.args.self.now) b r)
    (sym (ap (λ (p : Played). wants p.plan r (state_of p)) c.brief-brief.ensures) ∙ sym c.wants.ensures
    ∙ c.if-not-wants.true)

pub step_reporter-requires-clause-there : goal.step_reporter-requires-clause-there
step_reporter-requires-clause-there g c =
    let b = g.B.Lent.played c.args.board.now in
    wanted_low b.plan c.args.self.now.reporter (state_of b)
    (sym (ap (λ (p : Played). wants p.plan c.args.self.now.reporter (state_of p)) c.brief-brief.ensures)
    ∙ sym c.wants.ensures ∙ c.if-not-wants.false)

pub step_reporter-requires-2-clause-there : goal.step_reporter-requires-2-clause-there
step_reporter-requires-2-clause-there g c =
    let b = g.B.Lent.played c.args.board.now in
    wanted_low b.plan c.args.self.now.reporter (state_of b)
    (sym (ap (λ (p : Played). wants p.plan c.args.self.now.reporter (state_of p)) c.brief-brief.ensures)
    ∙ sym c.wants.ensures ∙ c.if-not-wants.false)
