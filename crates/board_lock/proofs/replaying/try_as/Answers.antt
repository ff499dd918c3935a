-- A try by the worker of an actor, and none where it has no worker.
use Rattle.std.proofs.Common.{◌≡◌, length, ap, sym, subst, ◌∙◌, arith}
use Rattle.sse_base.specs.Machine.{Machine}
use Rattle.board_core.specs.Played.{IsPlayed, Played, note_if, state_of}
use Rattle.board_lock.specs.Workers.{hand_of}
use Rattle.board_lock.proofs.Trying.{nobody, went_nobody, went_turn}
use Rattle.board_lock.proofs.replaying.try_as.Goals as goal

pub returns-in_default : goal.returns-in_default
returns-in_default g c =
    let b = g.B.Lent.played c.args.board.now in
    let harts : length (state_of b).machine.stacks ≡ b.plan.harts =
    omega (
      arith,
      c.firmware.ensures.harts,
      ap (λ (p : Played). p.plan.harts) c.brief-brief.ensures,
      ap (λ (p : Played). length (state_of p).machine.stacks) c.brief-brief.ensures,
      c.harts-harts.ensures.harts,
      c.harts-harts.ensures.stacks,
      ap (λ (m : Machine). length m.stacks) c.firmware.ensures.machine,
    ) in
    went_nobody b _ c.args.actor harts
    (nobody (hand_of g.D.ErrorDevice.left) c.args.workers.now c.args.actor
    (sym c.in_default.is ∙ c.place.ensures.first))

pub returns : goal.returns
returns g c =
    went_turn (hand_of g.D.ErrorDevice.left) c.args.workers.now (g.B.Lent.played c.args.board.now)
    (g.B.Lent.played c.try_step.new.board) c.args.actor c.in-Some.at c.index-workers-at.result c.try_step.new.self
    (note_if c.try_step.result c.try_step.new.outcome.note) c.try_step.result
    (subst IsPlayed c.brief-brief.ensures c.steps-steps.ensures.played)
    (sym c.in-Some.is ∙ c.place.ensures.first) c.try_step.ensures.board c.try_step.ensures.hand c.try_step.ensures.note
    c.try_step.ensures.made
