-- A drain that begins fits its bank.
use Rattle.std.proofs.Common.{◌&&◌, sym, ap, ◌∙◌}
use Rattle.reri_fields.specs.Drain.{is_free}
use Rattle.board_bank.proofs.Steps.{fresh_fits, fresh_room}
use Rattle.board_bank.proofs.drained.BoardBank.begin.Goals as goal

pub invariant_of-self : goal.invariant_of-self
invariant_of-self c =
    let i = c.self.inside in
    let may = ap (λ b. b.bank.asks && is_free b.slot) c.self.view_is ∙ sym c.may_begin.ensures
    ∙ c.if-not-may_begin.false in
    record {
      fits = fresh_fits c.begin.new.self.drain c.begin.new.self.gathered i.bank c.begin.ensures.begins;
      room = fresh_room c.begin.new.self.drain i.bank.asks i.slot c.begin.ensures.begins may;
      some = c.self.invariant.some;
      few = c.self.invariant.few;
      gathers = λ _. c.begin.ensures.gathers;
    }
