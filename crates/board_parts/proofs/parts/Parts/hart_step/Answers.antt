-- A hart within its budget makes its step, which is counted.
use Rattle.std.proofs.Common.{◌≡◌, ◌<◌, ◌≤◌, List, length, get_or, set, refl, ap, sym, ◌∙◌, subst, arith}
use Rattle.std.proofs.lemmas.List.{get_or_read}
use Rattle.board_plan.specs.declared.notes.Counts.{Counts}
use Rattle.board_plan.specs.State.{budget_of, counts_of, no_counts}
use Rattle.board_plan.specs.Step.{board_reach, own_step}
use Rattle.board_parts.specs.Came.{Acts, came}
use Rattle.board_parts.proofs.AtHarts.{budget_is, counts_is, stack_there, spent, idles, makes_step}
use Rattle.board_parts.proofs.parts.Parts.hart_step.Goals as goal

pub count-requires : goal.count-requires
count-requires c =
    let p = c.args.self.now in
    let before = get_or_read p.counts.items c.args.hart c.index.result.now (omega (arith, p.counted, c.requires))
    c.index.ensures no_counts in
    let now = get_or_read c.act.new.self.counts.items c.args.hart c.index_mut.result.now
    (omega (arith, p.counted, c.requires, ap (λ (cs : List Counts). length cs) c.act.ensures.counts))
    c.index_mut.ensures.value no_counts in
    let same : c.index_mut.result.now ≡ c.index.result.now =
    now ∙ ap (λ (cs : List Counts). get_or cs c.args.hart no_counts) c.act.ensures.counts ∙ sym before in
    omega (arith, c.if-steps-from.false, c.from.ensures, c.steps.ensures, ap (λ (x : Counts). x.steps) same)

pub returns-then-steps-from-clause-steps : goal.returns-then-steps-from-clause-steps
returns-then-steps-from-clause-steps c =
    λ plan s h.
    let p = c.args.self.now in
    let stack = stack_there plan s p c.args.hart h (omega (
      arith,
      c.harts-harts.ensures.stacks,
      c.harts-harts.ensures.harts,
      c.requires,
    )) in
    let budget = budget_is plan s p c.args.hart c.index-2.result.now h (omega
    (arith, p.budgeted, c.requires)) c.index-2.ensures in
    let was = counts_is plan s p c.args.hart c.index.result.now h (omega
    (arith, p.counted, c.requires)) c.index.ensures in
    let out : budget_of c.args.hart plan.starts ≤ (counts_of c.args.hart s).steps =
    omega (arith, c.if-steps-from.true, c.from.ensures, c.steps.ensures, budget, ap (λ (x : Counts). x.steps) was) in
    spent plan s p c.args.hart stack.0 h stack.1 out

pub returns-then-not-act-clause-steps : goal.returns-then-not-act-clause-steps
returns-then-not-act-clause-steps c =
    λ plan s h.
    let p = c.args.self.now in
    let stack = stack_there plan s p c.args.hart h (omega (
      arith,
      c.harts-harts.ensures.stacks,
      c.harts-harts.ensures.harts,
      c.requires,
    )) in
    let budget = budget_is plan s p c.args.hart c.index-2.result.now h (omega
    (arith, p.budgeted, c.requires)) c.index-2.ensures in
    let was = counts_is plan s p c.args.hart c.index.result.now h (omega
    (arith, p.counted, c.requires)) c.index.ensures in
    let low : (counts_of c.args.hart s).steps < budget_of c.args.hart plan.starts =
    omega (arith, c.if-steps-from.false, c.from.ensures, c.steps.ensures, budget, ap (λ (x : Counts). x.steps) was) in
    idles plan s c.act.new.self c.args.hart stack.0 stack.1 low
    (subst (λ b. Acts c.args.hart plan s (own_step c.args.hart plan s.machine.stacks
    (board_reach stack.0 s)) c.act.new.self (came b c.act.new.outcome))
    c.if-not-act.true (c.act.ensures.acts plan s stack.0 h stack.1))

pub returns-clause-steps : goal.returns-clause-steps
returns-clause-steps c =
    λ plan s h.
    let p = c.args.self.now in
    let stack = stack_there plan s p c.args.hart h (omega (
      arith,
      c.harts-harts.ensures.stacks,
      c.harts-harts.ensures.harts,
      c.requires,
    )) in
    let budget = budget_is plan s p c.args.hart c.index-2.result.now h (omega
    (arith, p.budgeted, c.requires)) c.index-2.ensures in
    let was = counts_is plan s p c.args.hart c.index.result.now h (omega
    (arith, p.counted, c.requires)) c.index.ensures in
    let low : (counts_of c.args.hart s).steps < budget_of c.args.hart plan.starts =
    omega (arith, c.if-steps-from.false, c.from.ensures, c.steps.ensures, budget, ap (λ (x : Counts). x.steps) was) in
    let before = c.index_mut.result.now in
    let kept = counts_is plan s p c.args.hart before h (omega (arith, p.counted, c.requires))
    (c.index_mut.ensures.value ∙ ap (λ (cs : List Counts). get_or cs c.args.hart before) c.act.ensures.counts) in
    makes_step plan s c.act.new.self _ c.args.hart stack.0 c.act.new.outcome before stack.1 low
    (subst (λ b. Acts c.args.hart plan s (own_step c.args.hart plan s.machine.stacks
    (board_reach stack.0 s)) c.act.new.self (came b c.act.new.outcome))
    c.if-not-act.false (c.act.ensures.acts plan s stack.0 h stack.1)) kept
    (record {
      firmware = refl;
      index = refl;
      decls = refl;
      banks = refl;
      budgets = refl;
      limits = refl;
      reporters = refl;
      counts = ap (set c.act.new.self.counts.items c.args.hart) c.count.ensures;
    })
