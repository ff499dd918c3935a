-- The flag, and whether the slot is free.
use Rattle.std.proofs.Common.{◌&&◌, sym, ap, ◌∙◌}
use Rattle.reri_fields.specs.Drain.{is_free}
use Rattle.board_bank.proofs.Steps.{free_is}
use Rattle.board_bank.proofs.drained.BoardBank.may_begin.Goals as goal

pub returns-then-asks : goal.returns-then-asks
returns-then-asks c =
    let free = is_free c.self.inside.slot in
    free_is c.self.inside.slot c.is_free.result c.is_free.ensures
    ∙ ap (λ a. a && free) (sym (sym c.asks.ensures ∙ c.if-asks.true))
    ∙ ap (λ b. b.bank.asks && is_free b.slot) c.self.view_is
