-- The bank's block is acknowledged by a hart that is past the op.
use Rattle.std.proofs.Common.{refl, sym, ◌∙◌}
use Rattle.board_plan.specs.declared.ops.Op.TheVariants as ops
use Rattle.board_parts.proofs.AtHarts.{at_past, passes, illegal_is, ack_made, ack_stray}
use Rattle.board_parts.proofs.parts.Parts.on_ack.Goals as goal

pub returns-then-acknowledge-clause-acts : goal.returns-then-acknowledge-clause-acts
returns-then-acknowledge-clause-acts c =
    λ plan s stack h there.
    ack_made plan s _ c.args.hart stack c.args.bank c.acknowledge.result _ c.if-acknowledge.true
    (sym (illegal_is plan s c.args.self.now c.args.hart stack (ops.Ack c.args.bank) h there)
    ∙ sym c.is_illegal-illegal.ensures ∙ c.if-illegal.false)
    (c.acknowledge.ensures.takes plan (at_past c.args.hart s stack)
    (passes plan s c.args.self.now _ c.args.hart stack h there
    (record { index = refl; decls = refl; budgets = refl; counts = refl; limits = refl; reporters = refl }) refl
    c.pass.ensures))

pub returns-clause-acts : goal.returns-clause-acts
returns-clause-acts c =
    λ plan s stack h there.
    ack_stray plan s _ c.args.hart stack c.args.bank c.acknowledge.result c.acknowledge.new.note
    c.if-acknowledge.false
    (sym (illegal_is plan s c.args.self.now c.args.hart stack (ops.Ack c.args.bank) h there)
    ∙ sym c.is_illegal-illegal.ensures ∙ c.if-illegal.false)
    (c.acknowledge.ensures.takes plan (at_past c.args.hart s stack)
    (passes plan s c.args.self.now _ c.args.hart stack h there
    (record { index = refl; decls = refl; budgets = refl; counts = refl; limits = refl; reporters = refl }) refl
    c.pass.ensures))
