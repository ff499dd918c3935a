-- An error goes to the bank's records; the slot and the drain stay.
use Rattle.std.proofs.Common.{sym, subst}
use Rattle.ras_drain.proofs.Errors.{report_keeps_fit}
use Rattle.board_bank.specs.Standing.{StandsFor}
use Rattle.board_bank.proofs.Steps.{reports}
use Rattle.board_bank.proofs.drained.BoardBank.report.Goals as goal

pub invariant_of-self : goal.invariant_of-self
invariant_of-self c =
    record {
      fits = report_keeps_fit c.self.inside.drain c.self.inside.bank c.report.new.self c.args.report.now c.report.result
          c.self.invariant.fits c.report.ensures.records c.report.ensures.unchanged;
      room = c.self.invariant.room;
      some = c.self.invariant.some;
      few = c.self.invariant.few;
      gathers = c.self.invariant.gathers;
    }

pub returns : goal.returns
returns c =
    λ plan s step early h.
    let inside = subst (StandsFor plan s) (sym c.self.view_is) h in
    reports plan s step c.args.report.now _ c.report.new.self c.report.result inside c.report.ensures.none
    (c.report.ensures.stands plan.origins s.history step early inside.stands)
    (λ origin there. c.report.ensures.answer plan.origins s.history step origin early inside.stands there)
