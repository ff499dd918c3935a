-- The first that applies.
use Rattle.std.proofs.Common.{None, refl, sym, ap, ◌∙◌}
use Rattle.std.proofs.lemmas.Option.{MatchOption-at_none, MatchOption-at_some}
use Rattle.sse_base.specs.declared.ids.EventId.{EventId}
use Rattle.board_plan.specs.declared.notes.StepNote.TheVariants as note
use Rattle.board_parts.specs.Came.{outcome_of}
use Rattle.board_parts.proofs.AtHarts.{with_machine, first_drains, chosen_acts, then_delivers}
use Rattle.board_parts.proofs.parts.Parts.act.Goals as goal

pub returns-in-Some-clause-acts : goal.returns-in-Some-clause-acts
returns-in-Some-clause-acts c =
    λ plan s stack h there.
    first_drains plan s c.drain.new.self c.args.hart stack c.in-Some.bank _ there
    (c.due.ensures.which plan s h ∙ c.in-Some.is) (c.drain.ensures.takes plan s h)

pub returns-in-Some-deliver-clause-acts : goal.returns-in-Some-deliver-clause-acts
returns-in-Some-deliver-clause-acts c =
    λ plan s stack h there.
    rw (c.forget.ensures.published) (
    then_delivers plan s c.args.self.now _ c.args.hart stack c.in-Some-deliver.at _ h there
    (c.due.ensures.which plan s h ∙ c.in_default.is) (sym c.in-Some-deliver.is ∙ c.deliver.ensures.which)
    (record { index = refl; decls = refl; budgets = refl; counts = refl; limits = refl; reporters = refl }) refl
    (MatchOption-at_some _ _ c.in-Some-deliver.at c.in-Some-deliver.is c.deliver.ensures.next)
    (ap (λ n. outcome_of n None) c.delivered.ensures ∙ ap (λ (id : EventId). outcome_of (note.Deliver id.0) None) c.id.ensures))

pub returns-clause-acts : goal.returns-clause-acts
returns-clause-acts c =
    λ plan s stack h there.
    let still = MatchOption-at_none _ _ c.in_default-deliver.is c.deliver.ensures.next in
    rw (c.forget.ensures.published) (
    chosen_acts plan s c.args.self.now c.on_op.new.self c.args.hart stack _ None h there
    (c.due.ensures.which plan s h ∙ c.in_default.is) (sym c.in_default-deliver.is ∙ c.deliver.ensures.which)
    (c.on_op.ensures.acts plan s stack
    (with_machine plan s c.args.self.now _ s.machine h (record {
      index = refl;
      decls = refl;
      budgets = refl;
      counts = refl;
      limits = refl;
      reporters = refl;
    }) (still ∙ h.machine) refl) there))
