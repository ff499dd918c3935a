-- A reporter's try is a step or is passed over.
use Rattle.std.proofs.Common.{List, length, is_some, sym, ap, ◌∙◌, arith}
use Rattle.std.specs.Prelude.{slice_get}
use Rattle.std.proofs.lemmas.Bool.{ltb-false}
use Rattle.board_plan.specs.declared.plan.Reporter.{Reporter}
use Rattle.board_plan.specs.declared.plan.Plan.{Plan}
use Rattle.board_core.specs.Played.{note_if}
use Rattle.board_play.specs.Tried.{lefts}
use Rattle.board_play.proofs.Asking.{is_there, listed_handed, names_device}
use Rattle.board_play.proofs.Telling.{made-step, reporter-tells, tells-nil}
use Rattle.board_play.proofs.Trying.{no-reporter, reporter-goes}
use Rattle.board_play.proofs.tries.try_reporter.Goals as goal

pub returns-in_default : goal.returns-in_default
returns-in_default g c =
    let same = c.as_slice.ensures ∙ ap (λ (p : Plan). p.reporters) c.plan.ensures in
    record {
      goes = no-reporter c.args.board.now c.args.reporter (lefts g.D.ErrorDevice.left c.args.devices.now) (omega (
        arith,
        ltb-false c.args.reporter (length c.as_slice.result.now)
            (sym c.get.ensures.lookup.0 ∙ ap is_some c.in_default.is),
        ap (λ (rs : List Reporter). length rs) same,
      ));
      tells = tells-nil g.W.Watch.told c.args.board.now c.args.watch.now;
    }

pub reporter_step-made-requires-clause-list : goal.reporter_step-made-requires-clause-list
reporter_step-made-requires-clause-list g c list =
    let same = c.as_slice.ensures ∙ ap (λ (p : Plan). p.reporters) c.plan.ensures in
    listed_handed (slice_get c.args.board.now.plan.reporters c.args.reporter) c.in-Some.decl.now.device _ _ _ _ _
    (names_device c.args.board.now.plan.reporters c.as_slice.result.now c.args.reporter c.in-Some.decl.now _ same
    c.in-Some.ensures.lookup.0 c.in-Some.ensures.lookup.1) list c.next_act-act.ensures.hands

pub returns : goal.returns
returns g c =
    let same = c.as_slice.ensures ∙ ap (λ (p : Plan). p.reporters) c.plan.ensures in
    let rs = c.args.board.now.plan.reporters in
    let made = c.reporter_step-made.result in
    let note = c.reporter_step-made.new.outcome.note in
    let there = is_there rs c.as_slice.result.now c.args.reporter same c.in-Some.ensures.lookup.0 in
    record {
      goes = reporter-goes c.args.board.now c.args.reporter c.in-Some.decl.now.device
          (lefts g.D.ErrorDevice.left c.args.devices.now) (lefts g.D.ErrorDevice.left c.next_act-act.new.devices)
          c.next_act-act.result c.reporter_step-made.new.self (note_if made note) made c.steps-steps.ensures.played
          there (names_device rs c.as_slice.result.now c.args.reporter c.in-Some.decl.now _ same
          c.in-Some.ensures.lookup.0 c.in-Some.ensures.lookup.1) c.next_act-act.ensures.hands
          c.reporter_step-made.ensures.next c.reporter_step-made.ensures.note
          (made-step made note c.reporter_step-made.ensures.text);
      tells = reporter-tells g.W.Watch.told c.args.board.now c.args.reporter c.next_act-act.result
          c.reporter_step-made.new.self made note c.args.watch.now c.tell_if.new.watch c.steps-steps.ensures.played
          there c.reporter_step-made.ensures.next c.reporter_step-made.ensures.note c.reporter_step-made.ensures.text
          c.tell_if.ensures;
    }
