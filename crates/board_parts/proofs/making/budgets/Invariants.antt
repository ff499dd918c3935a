-- The budgets so far.
use Rattle.std.proofs.Common.{◌≡◌, map}
use Rattle.std.specs.List.{range_with_len}
use Rattle.board_plan.specs.State.{budget_of}
use Rattle.board_parts.proofs.making.budgets.Given as goal

abbrev pub invariant-loop-hart : goal.invariant-loop-hart
invariant-loop-hart l = l.budgets ≡ map (λ h. budget_of h l.starts) (range_with_len 0 l.hart)
