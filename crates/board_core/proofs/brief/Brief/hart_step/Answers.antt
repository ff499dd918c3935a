-- A hart's step is kept, and where there is none all stays.
use Rattle.std.proofs.Common.{◌<◌, refl, ap, ◌∙◌, arith}
use Rattle.board_plan.specs.Step.{hart_step}
use Rattle.board_core.specs.declared.brief.Brief.TheInside.{Inside}
use Rattle.board_core.specs.Inside.{played}
use Rattle.board_core.specs.Played.{Played, acts_of, after_hart, note_of, state_of}
use Rattle.board_core.proofs.Onward.{hart_brief, hart_came, hart_fits, hart_next, hart_note, hart_stays, hart_still, hart_text, idle_brief, none_noted}
use Rattle.board_core.proofs.Safe.{is_safe}
use Rattle.board_laws.proofs.Safe.{run_is_safe}
use Rattle.board_core.proofs.brief.Brief.hart_step.Goals as goal

pub invariant_of-self : goal.invariant_of-self
invariant_of-self c =
    let x = c.self.inside in
    let s = state_of (played x) in
    let o = hart_step c.args.hart x.plan s in
    idle_brief x _ o c.self.invariant refl refl refl refl c.hart_step.ensures.harts
    (hart_stays x c.args.hart c.hart_step.new.self c.hart_step.result c.hart_step.new.outcome c.self.invariant
    c.hart_step.ensures.steps c.if-not-hart_step.true)

pub returns-then-not-hart_step-clause-next : goal.returns-then-not-hart_step-clause-next
returns-then-not-hart_step-clause-next c =
    let x = c.self.inside in
    hart_still x c.args.hart c.hart_step.new.self
    (hart_stays x c.args.hart c.hart_step.new.self c.hart_step.result c.hart_step.new.outcome c.self.invariant
    c.hart_step.ensures.steps c.if-not-hart_step.true)
    ∙ ap (after_hart c.args.hart) c.self.view_is

pub returns-then-not-hart_step-clause-note : goal.returns-then-not-hart_step-clause-note
returns-then-not-hart_step-clause-note c =
    let x = c.self.inside in
    let s = state_of (played x) in
    let o = hart_step c.args.hart x.plan s in
    none_noted x.plan s o c.hart_step.new.self
    (hart_stays x c.args.hart c.hart_step.new.self c.hart_step.result c.hart_step.new.outcome c.self.invariant
    c.hart_step.ensures.steps c.if-not-hart_step.true)
    ∙ ap (λ (b : Played). note_of (hart_step c.args.hart b.plan (state_of b))) c.self.view_is

pub returns-then-not-hart_step-clause-safe : goal.returns-then-not-hart_step-clause-safe
returns-then-not-hart_step-clause-safe c = is_safe (played c.self.inside) c.self.invariant.keeps.played

pub keep-requires-clause-steps : goal.keep-requires-clause-steps
keep-requires-clause-steps c =
    let x = c.self.inside in
    let low : c.args.hart < x.plan.harts =
    omega (arith, c.requires, ap (λ (b : Played). b.plan.harts) c.self.view_is) in
    (hart_fits x c.args.hart c.hart_step.new.self c.hart_step.new.outcome low c.self.invariant
    (hart_came x c.args.hart c.hart_step.new.self c.hart_step.result c.hart_step.new.outcome c.self.invariant
    c.hart_step.ensures.steps c.if-not-hart_step.false)).steps

pub keep-requires-clause-published : goal.keep-requires-clause-published
keep-requires-clause-published c =
    let x = c.self.inside in
    let low : c.args.hart < x.plan.harts =
    omega (arith, c.requires, ap (λ (b : Played). b.plan.harts) c.self.view_is) in
    (hart_fits x c.args.hart c.hart_step.new.self c.hart_step.new.outcome low c.self.invariant
    (hart_came x c.args.hart c.hart_step.new.self c.hart_step.result c.hart_step.new.outcome c.self.invariant
    c.hart_step.ensures.steps c.if-not-hart_step.false)).published

pub invariant_of-self-2 : goal.invariant_of-self-2
invariant_of-self-2 c =
    let x = c.self.inside in
    let low : c.args.hart < x.plan.harts =
    omega (arith, c.requires, ap (λ (b : Played). b.plan.harts) c.self.view_is) in
    let kept = c.keep.ensures in
    hart_brief x _ c.args.hart c.hart_step.new.outcome low c.self.invariant refl refl c.hart_step.ensures.harts
    (hart_came x c.args.hart c.hart_step.new.self c.hart_step.result c.hart_step.new.outcome c.self.invariant
    c.hart_step.ensures.steps c.if-not-hart_step.false)
    (record { steps = kept.steps; published = kept.published; room = kept.room }) c.count.ensures

pub returns-clause-next : goal.returns-clause-next
returns-clause-next c =
    let x = c.self.inside in
    let kept = c.keep.ensures in
    let y : Inside =
    record {
      plan = x.plan;
      parts = c.hart_step.new.self;
      acts = x.acts;
      log = c.keep.new.self;
      tally = c.count.new.self;
    } in
    hart_next x y c.args.hart c.hart_step.new.outcome refl refl
    (hart_came x c.args.hart c.hart_step.new.self c.hart_step.result c.hart_step.new.outcome c.self.invariant
    c.hart_step.ensures.steps c.if-not-hart_step.false)
    (record { steps = kept.steps; published = kept.published; room = kept.room })
    ∙ ap (after_hart c.args.hart) c.self.view_is

pub returns-clause-note : goal.returns-clause-note
returns-clause-note c =
    let x = c.self.inside in
    hart_note x c.args.hart c.hart_step.new.self c.hart_step.new.outcome
    (hart_came x c.args.hart c.hart_step.new.self c.hart_step.result c.hart_step.new.outcome c.self.invariant
    c.hart_step.ensures.steps c.if-not-hart_step.false)
    ∙ ap (λ (b : Played). note_of (hart_step c.args.hart b.plan (state_of b))) c.self.view_is

pub returns-clause-text : goal.returns-clause-text
returns-clause-text c =
    λ made.
    let x = c.self.inside in
    hart_text x c.args.hart c.hart_step.new.self c.hart_step.new.outcome
    (hart_came x c.args.hart c.hart_step.new.self c.hart_step.result c.hart_step.new.outcome c.self.invariant
    c.hart_step.ensures.steps c.if-not-hart_step.false)

pub returns-clause-safe : goal.returns-clause-safe
returns-clause-safe c =
    let x = c.self.inside in
    run_is_safe x.plan (acts_of (played x)) c.keep.new.self.steps.items.items c.self.invariant.keeps.played.is_plan
    c.self.invariant.keeps.played.reports
