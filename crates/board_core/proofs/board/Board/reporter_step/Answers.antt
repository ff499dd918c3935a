-- A reporter's step is kept with its note, and where there is none all stays.
use Rattle.std.proofs.Common.{◌≡◌, ◌<◌, true, length, refl, sym, ap, ◌∙◌, subst, arith}
use Rattle.board_plan.specs.Step.{reporter_step}
use Rattle.board_core.specs.Played.{Played, after_reporter, is_list, listed, note_if, note_of, state_of}
use Rattle.board_core.proofs.BoardNotes.{act_idle, act_went, has_place, on_board}
use Rattle.board_core.proofs.board.Board.reporter_step.Goals as goal

pub reporter_step-requires-clause-list : goal.reporter_step-requires-clause-list
reporter_step-requires-clause-list c =
    subst (λ (b : Played). is_list b.plan c.args.reporter ≡ true → c.args.act ≡ listed b c.args.reporter)
    (sym c.self.view_is) c.requires.list

pub invariant_of-self : goal.invariant_of-self
invariant_of-self c =
    let x = c.self.inside in
    act_idle x _ c.args.reporter c.args.act c.self.invariant c.reporter_step.ensures.next refl
    (sym (ap (λ q. note_if q c.reporter_step.new.outcome.note) c.if-not-reporter_step.true)
    ∙ c.reporter_step.ensures.note)

pub returns-then-not-reporter_step-clause-next : goal.returns-then-not-reporter_step-clause-next
returns-then-not-reporter_step-clause-next c =
    c.reporter_step.ensures.next ∙ ap (after_reporter c.args.reporter c.args.act) c.self.view_is

pub returns-then-not-reporter_step-clause-note : goal.returns-then-not-reporter_step-clause-note
returns-then-not-reporter_step-clause-note c =
    sym (ap (λ q. note_if q c.reporter_step.new.outcome.note) c.if-not-reporter_step.true)
    ∙ c.reporter_step.ensures.note
    ∙ ap (λ (b : Played). note_of (reporter_step c.args.reporter b.plan c.args.act (state_of b))) c.self.view_is

pub push-requires : goal.push-requires
push-requires c =
    let x = c.self.inside in
    let next = c.reporter_step.new.self in
    let n = c.reporter_step.new.outcome.note in
    let low : c.args.reporter < length x.brief.plan.reporters =
    omega (arith, c.requires.there, ap (λ (b : Played). length b.plan.reporters) c.self.view_is) in
    has_place x next n c.self.invariant
    (act_went c.args.reporter c.args.act x.brief next n low c.self.invariant.played
    c.reporter_step.ensures.next
    (sym (ap (λ q. note_if q n) c.if-not-reporter_step.false) ∙ c.reporter_step.ensures.note)
    (c.reporter_step.ensures.text c.if-not-reporter_step.false))
    c.steps-steps.ensures.played

pub invariant_of-self-2 : goal.invariant_of-self-2
invariant_of-self-2 c =
    let x = c.self.inside in
    let next = c.reporter_step.new.self in
    let n = c.reporter_step.new.outcome.note in
    let low : c.args.reporter < length x.brief.plan.reporters =
    omega (arith, c.requires.there, ap (λ (b : Played). length b.plan.reporters) c.self.view_is) in
    on_board x _ n c.self.invariant
    (act_went c.args.reporter c.args.act x.brief next n low c.self.invariant.played
    c.reporter_step.ensures.next
    (sym (ap (λ q. note_if q n) c.if-not-reporter_step.false) ∙ c.reporter_step.ensures.note)
    (c.reporter_step.ensures.text c.if-not-reporter_step.false))
    c.steps-steps.ensures.played c.push.ensures.items c.push.ensures.room

pub returns-clause-next : goal.returns-clause-next
returns-clause-next c = c.reporter_step.ensures.next ∙ ap (after_reporter c.args.reporter c.args.act) c.self.view_is

pub returns-clause-note : goal.returns-clause-note
returns-clause-note c =
    sym (ap (λ q. note_if q c.reporter_step.new.outcome.note) c.if-not-reporter_step.false)
    ∙ c.reporter_step.ensures.note
    ∙ ap (λ (b : Played). note_of (reporter_step c.args.reporter b.plan c.args.act (state_of b))) c.self.view_is
