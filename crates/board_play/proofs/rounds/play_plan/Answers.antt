-- The schedule or rounds, from a board before its first step and with devices that have all of their acts.
use Rattle.std.proofs.Common.{map, ap, sym, ◌∙◌}
use Rattle.board_play.specs.Tried.{lefts}
use Rattle.board_play.proofs.Playing.{run-scheduled, run-rounds}
use Rattle.board_play.proofs.Telling.{told-run}
use Rattle.board_play.proofs.rounds.play_plan.Goals as goal
use Rattle.board_play.proofs.rounds.play_plan.Goals.{in-Some, in-None}

pub returns-clause-run : goal.returns-clause-run
returns-clause-run g c =
    let devices = map (λ d. (g.D.ErrorDevice.left d).acts) c.args.devices.items in
    elim c.match-schedule-2.branch [
      | in-Some w ↦
          run-scheduled c.args.plan devices (lefts g.D.ErrorDevice.left c.as_mut_slice-places.result.now) _
          c.in_ok-board.board _ c.match-schedule-2.board _ _ c.in_ok-board.ensures.fresh c.requires.plan.named_once
          (ap (lefts g.D.ErrorDevice.left) c.as_mut_slice-places.ensures.value ∙ c.in_ok-places.ensures)
          (sym c.in_ok-schedule.ensures ∙ w.in-Some.is)
          w.as_slice.ensures w.try_steps.ensures.plays w.board-is
      | in-None w ↦
          run-rounds c.args.plan devices (lefts g.D.ErrorDevice.left c.as_mut_slice-places.result.now)
          c.in_ok-board.board _ c.match-schedule-2.board c.in_ok-board.ensures.fresh c.requires.plan.named_once
          (ap (lefts g.D.ErrorDevice.left) c.as_mut_slice-places.ensures.value ∙ c.in_ok-places.ensures)
          (sym c.in_ok-schedule.ensures ∙ w.in-None.is)
          w.try_rounds.ensures.rounds w.try_rounds.ensures.plan w.board-is
    ]

pub returns-clause-told : goal.returns-clause-told
returns-clause-told g c =
    elim c.match-schedule-2.branch [
      | in-Some w ↦
          told-run g.W.Watch.told c.args.plan c.in_ok-board.board _ c.match-schedule-2.board c.args.watch.now _
          c.match-schedule-2.watch c.in_ok-board.ensures.fresh w.try_steps.ensures.tells w.board-is w.watch-is
      | in-None w ↦
          told-run g.W.Watch.told c.args.plan c.in_ok-board.board _ c.match-schedule-2.board c.args.watch.now _
          c.match-schedule-2.watch c.in_ok-board.ensures.fresh w.try_rounds.ensures.tells w.board-is w.watch-is
    ]
