-- Goals of `start_of` that the tactics leave open.
use Rattle.std.proofs.Common.{◌≡◌, ◌+◌, arith, ap, ◌∙◌}
use Rattle.board_plan.specs.declared.plan.Start.{Start}
use Rattle.board_plan.specs.Script.{total_budget}
use Rattle.board_script.proofs.Tables.{total_budget-added}
use Rattle.board_script.proofs.half.Half.start_of.Goals as goal

pub invariant_of-self-2 : goal.invariant_of-self-2
invariant_of-self-2 c =
    let i = c.self.invariant in
    let start : Start = record { hart = c.in_ok-hart.hart; pc = c.in_ok-pc.pc; budget = c.in_ok-budget.field-0 } in
    let more : total_budget c.push.new.self ≡ total_budget c.self.inside.starts + c.in_ok-budget.field-0 =
    ap total_budget c.in_ok-push.ensures.ok ∙ total_budget-added c.self.inside.starts start in
    (i.0, i.1, i.2, i.3, omega (arith, more, i.4), omega arith)
