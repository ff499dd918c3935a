-- No start so far names the hart.
use Rattle.std.proofs.Common.{◌≡◌, drop}
use Rattle.board_plan.specs.State.{budget_of}
use Rattle.board_parts.proofs.making.budget.Given as goal

abbrev pub invariant-loop-start : goal.invariant-loop-start
invariant-loop-start l = budget_of l.hart l.starts ≡ budget_of l.hart (drop l.start-index l.starts)
