-- One hart more.
use Rattle.std.proofs.Common.{◌++◌, [], ◌∷◌, ap, ◌∙◌}
use Rattle.board_plan.specs.State.{budget_of}
use Rattle.board_parts.proofs.MadeOf.{one_more_of}
use Rattle.board_parts.proofs.making.budgets.Goals as goal

pub loop-hart-preserved : goal.loop-hart-preserved
loop-hart-preserved c =
    c.in_ok-push.ensures.ok ∙ ap (λ b. c.loop-hart.budgets ++ b ∷ []) c.budget.ensures
    ∙ one_more_of (λ h. budget_of h c.args.starts.now) c.loop-hart.budgets c.loop-hart.hart c.loop-hart.invariant
