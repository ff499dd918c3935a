-- An op of the hart's own, or one that reaches a bank or a reporter.
use Rattle.std.proofs.Common.{Some, refl, sym, ap, ◌∙◌}
use Rattle.std.specs.Option.{option_copied}
use Rattle.hart_ctx.specs.declared.regs.Regs.{Regs}
use Rattle.board_plan.specs.declared.ops.Op.{Op}
use Rattle.board_plan.specs.declared.ops.Op.TheVariants as ops
use Rattle.board_parts.proofs.AtHarts.{op_acts, no_op, own_acts, with_machine}
use Rattle.board_parts.proofs.parts.Parts.on_op.Goals as goal

pub returns-in_default-clause-acts : goal.returns-in_default-clause-acts
returns-in_default-clause-acts c =
    λ plan s stack h there.
    no_op plan s c.args.self.now _ c.args.hart stack c.regs.result.now.pc h there
    (ap (λ (r : Regs). r.pc) c.regs.ensures)
    (sym (ap option_copied c.in_default.is) ∙ c.get.ensures plan.ops h.index)
    (with_machine plan s c.args.self.now _ s.machine h
    (record { index = refl; decls = refl; budgets = refl; counts = refl; limits = refl; reporters = refl }) h.machine
    refl)

pub returns-in-Ack-clause-acts : goal.returns-in-Ack-clause-acts
returns-in-Ack-clause-acts c =
    λ plan s stack h there.
    op_acts plan s c.args.self.now c.on_ack.new.self c.args.hart stack (ops.Ack c.in-Ack.bank) _
    c.regs.result.now.pc h there (ap (λ (r : Regs). r.pc) c.regs.ensures)
    (ap (λ (op : Op). Some op) (sym c.in-Ack.is) ∙ sym (ap option_copied c.in-Some.is)
    ∙ c.get.ensures plan.ops h.index)
    (c.on_ack.ensures.acts plan s stack (with_machine plan s c.args.self.now _ s.machine h
    (record { index = refl; decls = refl; budgets = refl; counts = refl; limits = refl; reporters = refl }) h.machine
    refl) there)

pub returns-in-Unplug-clause-acts : goal.returns-in-Unplug-clause-acts
returns-in-Unplug-clause-acts c =
    λ plan s stack h there.
    op_acts plan s c.args.self.now c.on_unplug.new.self c.args.hart stack (ops.Unplug c.in-Unplug.reporter) _
    c.regs.result.now.pc h there (ap (λ (r : Regs). r.pc) c.regs.ensures)
    (ap (λ (op : Op). Some op) (sym c.in-Unplug.is) ∙ sym (ap option_copied c.in-Some.is)
    ∙ c.get.ensures plan.ops h.index)
    (c.on_unplug.ensures.acts plan s stack (with_machine plan s c.args.self.now _ s.machine h
    (record { index = refl; decls = refl; budgets = refl; counts = refl; limits = refl; reporters = refl }) h.machine
    refl) there)

pub returns-in_default-op-clause-acts : goal.returns-in_default-op-clause-acts
returns-in_default-op-clause-acts c =
    λ plan s stack h there.
    op_acts plan s c.args.self.now _ c.args.hart stack c.in-Some.op.now _
    c.regs.result.now.pc h there (ap (λ (r : Regs). r.pc) c.regs.ensures)
    (sym (ap option_copied c.in-Some.is) ∙ c.get.ensures plan.ops h.index)
    (own_acts plan s c.args.self.now _ c.args.hart stack c.in-Some.op.now c.step.new.note _ h there
    c.in_default-op.not-Ack c.in_default-op.not-Unplug
    (record { index = refl; decls = refl; budgets = refl; counts = refl; limits = refl; reporters = refl }) refl
    c.step.ensures refl)

pub returns-in_default-op-clause-harts : goal.returns-in_default-op-clause-harts
returns-in_default-op-clause-harts c = c.step.ensures.harts
