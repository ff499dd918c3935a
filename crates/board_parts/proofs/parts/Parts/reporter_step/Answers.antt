-- A reporter that is wanted makes its act.
use Rattle.std.proofs.Common.{true, Some, ap, ◌∙◌, subst}
use Rattle.board_parts.specs.Shows.{Shows}
use Rattle.board_parts.specs.Came.{with_act_counted}
use Rattle.ras_device.specs.declared.act.Act.TheVariants as act
use Rattle.board_parts.proofs.AtReporters.{no_act, unwanted, makes_act}
use Rattle.board_parts.proofs.parts.Parts.reporter_step.Goals as goal

pub returns-in_default-clause-steps : goal.returns-in_default-clause-steps
returns-in_default-clause-steps c =
    λ plan s h early. no_act plan s c.args.self.now c.args.reporter c.args.act h c.in_default.is

pub returns-then-not-count_act-clause-steps : goal.returns-then-not-count_act-clause-steps
returns-then-not-count_act-clause-steps c =
    λ plan s h early.
    unwanted plan s c.count_act.new.self c.args.reporter c.args.act c.in-Some.act
    (subst (λ b. Shows plan (with_act_counted c.args.reporter s b) c.count_act.new.self) c.if-not-count_act.true
    (c.count_act.ensures.shows plan s h))
    c.in-Some.is (c.count_act.ensures.wanted plan s h ∙ c.if-not-count_act.true)

pub returns-in-Error-clause-steps : goal.returns-in-Error-clause-steps
returns-in-Error-clause-steps c =
    λ plan s h early.
    rw (c.forget.ensures.published) (
    makes_act plan s c.on_error.new.self c.args.reporter c.args.act (act.Error c.in-Error.report) _
    (c.in-Some.is ∙ ap (λ a. Some a) c.in-Error.is)
    (c.count_act.ensures.wanted plan s h ∙ c.if-not-count_act.false)
    (c.on_error.ensures.takes plan (with_act_counted c.args.reporter s true)
    (subst (λ b. Shows plan (with_act_counted c.args.reporter s b) c.count_act.new.self) c.if-not-count_act.false
    (c.count_act.ensures.shows plan s h))
    early))

pub returns-in-Raise-clause-steps : goal.returns-in-Raise-clause-steps
returns-in-Raise-clause-steps c =
    λ plan s h early.
    rw (c.forget.ensures.published) (
    makes_act plan s c.on_raise.new.self c.args.reporter c.args.act
    (act.Raise c.in-Raise.id c.in-Raise.hart) _
    (c.in-Some.is ∙ ap (λ a. Some a) c.in-Raise.is)
    (c.count_act.ensures.wanted plan s h ∙ c.if-not-count_act.false)
    (c.on_raise.ensures.takes plan (with_act_counted c.args.reporter s true)
    (subst (λ b. Shows plan (with_act_counted c.args.reporter s b) c.count_act.new.self) c.if-not-count_act.false
    (c.count_act.ensures.shows plan s h))))
