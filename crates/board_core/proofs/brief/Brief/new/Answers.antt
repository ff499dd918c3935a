-- A new board.
use Rattle.std.proofs.Common.{List, refl, subst, sym}
use Rattle.board_plan.specs.declared.plan.Reporter.{Reporter}
use Rattle.board_core.specs.declared.brief.Brief.TheInside.{Inside}
use Rattle.board_plan.specs.State.{start_state}
use Rattle.board_parts.specs.declared.parts.Parts.{Parts}
use Rattle.board_parts.specs.Shows.{Shows}
use Rattle.board_core.specs.OwnActs.{IsNew, Paired}
use Rattle.board_core.specs.Rooms.{HasRoom}
use Rattle.board_core.proofs.Onward.{fresh_brief, fresh_is}
use Rattle.board_core.proofs.Safe.{is_safe}
use Rattle.board_core.proofs.brief.Brief.new.Goals as goal

pub invariant_of-result : goal.invariant_of-result
invariant_of-result c =
    fresh_brief _ c.args.plan c.requires.plan c.requires.reports refl
    (subst (λ (p : Parts). Shows c.args.plan (start_state c.args.plan) p) (sym c.in_ok-housed.ensures)
    c.in_ok-parts.ensures.shows)
    (subst (λ (rs : List Reporter). Paired IsNew rs c.in_ok-acts.acts.items) c.as_slice.ensures c.in_ok-acts.ensures)
    c.in_ok-log.ensures.steps c.in_ok-log.ensures.published
    (subst (λ n. HasRoom n c.in_ok-log.log) c.most_steps.ensures c.in_ok-log.ensures.room)
    (c.new-4.ensures c.args.plan c.requires.plan)

pub returns-clause-fresh : goal.returns-clause-fresh
returns-clause-fresh c =
    let y : Inside =
    record {
      plan = c.args.plan;
      parts = c.in_ok-housed.housed;
      acts = c.in_ok-acts.acts;
      log = c.in_ok-log.log;
      tally = c.new-4.result;
    } in
    fresh_is y c.args.plan refl
    (subst (λ (rs : List Reporter). Paired IsNew rs c.in_ok-acts.acts.items) c.as_slice.ensures c.in_ok-acts.ensures)
    c.in_ok-log.ensures.steps

pub returns-clause-safe : goal.returns-clause-safe
returns-clause-safe c = is_safe _ (invariant_of-result c).keeps.played
