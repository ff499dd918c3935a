-- The drain that is due takes its next phase.
use Rattle.std.proofs.Common.{sym, ◌∙◌}
use Rattle.board_bank.proofs.Steps.{no_step, found, at_begun, draws}
use Rattle.board_bank.proofs.drained.BoardBank.step.Goals as goal

pub advance-requires : goal.advance-requires
advance-requires c = sym c.begin.ensures.under_way ∙ c.if-not-begin.false

pub returns-then-not-begin : goal.returns-then-not-begin
returns-then-not-begin c =
    λ plan s h. (
      no_step plan s c.args.self.now c.begin.new.self (c.begin.ensures.due plan s h)
          (sym c.begin.ensures.under_way ∙ c.if-not-begin.true),
      c.begin.ensures.stays c.if-not-begin.true,
    )

pub returns : goal.returns
returns c =
    λ plan s h.
    let b = c.begin.ensures.due plan s h in
    let d = found c.begin.new.self.drain (sym c.begin.ensures.under_way ∙ c.if-not-begin.false) in
    draws plan s c.args.self.now c.begin.new.self c.advance.new.self d.0 c.advance.result.0 c.advance.result.1 b d.1
    (c.advance.ensures plan s d.0 d.1 (b.gather ∙ h.gather_is) (at_begun plan s c.args.self.now c.begin.new.self h b))
