-- The replayed board is a whole run.
use Rattle.std.proofs.Common.{List, map, ap, subst, ◌∙◌}
use Rattle.board_plan.specs.Run.{lists}
use Rattle.board_core.specs.Played.{Played}
use Rattle.board_lock.specs.Hand.{EachStays, Hand}
use Rattle.board_lock.specs.Hiring.{hired, left_in}
use Rattle.board_lock.specs.Workers.{hand_of}
use Rattle.board_lock.proofs.Ends.{whole_run}
use Rattle.board_lock.proofs.Hires.{ready}
use Rattle.board_lock.proofs.running.run_plan.Goals as goal

pub returns : goal.returns
returns g c =
    let left = g.D.ErrorDevice.left in
    let hand = hand_of left in
    let plan = c.args.plan in
    let devices = left_in left c.args.devices.items in
    let fresh = c.in_ok-board.ensures.fresh in
    let each : EachStays (hired plan devices) (map hand c.rounds.new.workers) =
    subst (λ (ws : List Hand). EachStays ws (map hand c.rounds.new.workers))
    (ap (map hand) c.as_mut_slice-workers.ensures.value ∙ c.in_ok-all.ensures) c.rounds.ensures in
    let agrees = ready plan devices (map hand c.rounds.new.workers) (map hand c.rewind_all.new.workers)
    c.in_ok-board.board each c.rewind_all.ensures fresh in
    whole_run left c.args.devices.items plan c.in_ok-board.board c.replay_on.new.board
    (map hand c.replay_on.new.workers)
    c.steps.result.now c.requires.plan c.requires.reports (ap (λ (b : Played). b.plan) fresh)
    c.steps-steps.ensures.played (c.replay_on.ensures.tries (lists plan devices) agrees)
    (c.replay_on.ensures.agrees (lists plan devices) agrees)
