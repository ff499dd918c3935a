-- The reporter is unplugged by a hart that is past the op.
use Rattle.std.proofs.Common.{refl, sym, ◌∙◌}
use Rattle.board_plan.specs.declared.ops.Op.TheVariants as ops
use Rattle.board_parts.proofs.AtHarts.{at_past, passes, illegal_is, unplug_acts}
use Rattle.board_parts.proofs.parts.Parts.on_unplug.Goals as goal

pub returns-clause-acts : goal.returns-clause-acts
returns-clause-acts c =
    λ plan s stack h there.
    unplug_acts plan s _ c.args.hart stack c.args.reporter c.unplug-was.result _
    (sym (illegal_is plan s c.args.self.now c.args.hart stack (ops.Unplug c.args.reporter) h there)
    ∙ sym c.is_illegal-illegal.ensures ∙ c.if-illegal.false)
    (c.unplug-was.ensures.shows plan (at_past c.args.hart s stack)
    (passes plan s c.args.self.now _ c.args.hart stack h there
    (record { index = refl; decls = refl; budgets = refl; counts = refl; limits = refl; reporters = refl }) refl
    c.pass.ensures))
    (c.unplug-was.ensures.was plan (at_past c.args.hart s stack)
    (passes plan s c.args.self.now _ c.args.hart stack h there
    (record { index = refl; decls = refl; budgets = refl; counts = refl; limits = refl; reporters = refl }) refl
    c.pass.ensures))
    refl
