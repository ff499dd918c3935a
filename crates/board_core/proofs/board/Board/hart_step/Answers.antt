-- A hart's step is kept with its note, and where there is none all stays.
use Rattle.std.proofs.Common.{refl, sym, ap, ◌∙◌}
use Rattle.board_plan.specs.Step.{hart_step}
use Rattle.board_core.specs.Played.{Played, after_hart, note_if, note_of, state_of}
use Rattle.board_core.proofs.BoardNotes.{hart_idle, hart_went, has_place, on_board}
use Rattle.board_core.proofs.board.Board.hart_step.Goals as goal

pub invariant_of-self : goal.invariant_of-self
invariant_of-self c =
    let x = c.self.inside in
    hart_idle x _ c.args.hart c.self.invariant c.hart_step.ensures.next refl
    (sym (ap (λ q. note_if q c.hart_step.new.outcome.note) c.if-not-hart_step.true) ∙ c.hart_step.ensures.note)

pub returns-then-not-hart_step-clause-next : goal.returns-then-not-hart_step-clause-next
returns-then-not-hart_step-clause-next c = c.hart_step.ensures.next ∙ ap (after_hart c.args.hart) c.self.view_is

pub returns-then-not-hart_step-clause-note : goal.returns-then-not-hart_step-clause-note
returns-then-not-hart_step-clause-note c =
    sym (ap (λ q. note_if q c.hart_step.new.outcome.note) c.if-not-hart_step.true) ∙ c.hart_step.ensures.note
    ∙ ap (λ (b : Played). note_of (hart_step c.args.hart b.plan (state_of b))) c.self.view_is

pub push-requires : goal.push-requires
push-requires c =
    let x = c.self.inside in
    let next = c.hart_step.new.self in
    let n = c.hart_step.new.outcome.note in
    has_place x next n c.self.invariant
    (hart_went c.args.hart x.brief next n c.hart_step.ensures.next
    (sym (ap (λ q. note_if q n) c.if-not-hart_step.false) ∙ c.hart_step.ensures.note)
    (c.hart_step.ensures.text c.if-not-hart_step.false))
    c.steps-steps.ensures.played

pub invariant_of-self-2 : goal.invariant_of-self-2
invariant_of-self-2 c =
    let x = c.self.inside in
    let next = c.hart_step.new.self in
    let n = c.hart_step.new.outcome.note in
    on_board x _ n c.self.invariant
    (hart_went c.args.hart x.brief next n c.hart_step.ensures.next
    (sym (ap (λ q. note_if q n) c.if-not-hart_step.false) ∙ c.hart_step.ensures.note)
    (c.hart_step.ensures.text c.if-not-hart_step.false))
    c.steps-steps.ensures.played c.push.ensures.items c.push.ensures.room

pub returns-clause-next : goal.returns-clause-next
returns-clause-next c = c.hart_step.ensures.next ∙ ap (after_hart c.args.hart) c.self.view_is

pub returns-clause-note : goal.returns-clause-note
returns-clause-note c =
    sym (ap (λ q. note_if q c.hart_step.new.outcome.note) c.if-not-hart_step.false) ∙ c.hart_step.ensures.note
    ∙ ap (λ (b : Played). note_of (hart_step c.args.hart b.plan (state_of b))) c.self.view_is
