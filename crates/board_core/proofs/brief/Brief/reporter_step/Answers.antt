-- A reporter's step is kept with its act, and where there is none all stays.
use Rattle.std.proofs.Common.{◌≡◌, ◌<◌, true, Some, length, refl, sym, ap, ◌∙◌, subst, arith}
use Rattle.std.specs.Vec.{with_item}
use Rattle.board_plan.specs.Step.{reporter_step}
use Rattle.board_core.specs.declared.brief.Brief.TheInside.{Inside}
use Rattle.board_core.specs.Inside.{played}
use Rattle.board_core.specs.Played.{IsReport, IsSafe, Played, after_reporter, is_list, listed, note_of, state_of}
use Rattle.board_core.proofs.Onward.{act_brief, act_came, act_fits, act_has_place, act_is, act_next, act_note, act_stays, act_still, act_text, idle_brief, no_act_idle, none_noted}
use Rattle.board_core.proofs.Safe.{act_safe, is_safe}
use Rattle.board_core.proofs.brief.Brief.reporter_step.Goals as goal

pub returns-in_default-clause-note : goal.returns-in_default-clause-note
returns-in_default-clause-note c =
    no_act_idle c.args.reporter c.args.self.now.plan (state_of c.args.self.now) c.args.act c.in_default.is

pub invariant_of-self : goal.invariant_of-self
invariant_of-self c =
    let x = c.self.inside in
    let s = state_of (played x) in
    let r = c.args.reporter in
    let a = c.in-Some.next in
    let o = reporter_step r x.plan (Some a) s in
    idle_brief x _ o c.self.invariant refl refl refl refl c.reporter_step.ensures.harts
    (act_stays x r a c.reporter_step.new.self c.reporter_step.result c.reporter_step.new.outcome c.self.invariant
    c.reporter_step.ensures.steps c.if-not-reporter_step.true)

pub returns-then-not-reporter_step-clause-next : goal.returns-then-not-reporter_step-clause-next
returns-then-not-reporter_step-clause-next c =
    let x = c.self.inside in
    let r = c.args.reporter in
    let a = c.in-Some.next in
    act_still x r a c.reporter_step.new.self
    (act_stays x r a c.reporter_step.new.self c.reporter_step.result c.reporter_step.new.outcome c.self.invariant
    c.reporter_step.ensures.steps c.if-not-reporter_step.true)
    ∙ ap (after_reporter r (Some a)) c.self.view_is
    ∙ ap (λ b. after_reporter r b c.args.self.now) (sym c.in-Some.is)

pub returns-then-not-reporter_step-clause-note : goal.returns-then-not-reporter_step-clause-note
returns-then-not-reporter_step-clause-note c =
    let x = c.self.inside in
    let s = state_of (played x) in
    let r = c.args.reporter in
    let a = c.in-Some.next in
    let o = reporter_step r x.plan (Some a) s in
    none_noted x.plan s o c.reporter_step.new.self
    (act_stays x r a c.reporter_step.new.self c.reporter_step.result c.reporter_step.new.outcome c.self.invariant
    c.reporter_step.ensures.steps c.if-not-reporter_step.true)
    ∙ ap (λ (b : Played). note_of (reporter_step r b.plan (Some a) (state_of b))) c.self.view_is
    ∙ ap (λ b. note_of (reporter_step r c.args.self.now.plan b (state_of c.args.self.now))) (sym c.in-Some.is)

pub returns-then-not-reporter_step-clause-safe : goal.returns-then-not-reporter_step-clause-safe
returns-then-not-reporter_step-clause-safe c = is_safe (played c.self.inside) c.self.invariant.keeps.played

pub add-requires : goal.add-requires
add-requires c =
    let x = c.self.inside in
    let r = c.args.reporter in
    let a = c.in-Some.next in
    let low : r < length x.plan.reporters =
    omega (arith, c.requires.there, ap (λ (b : Played). length b.plan.reporters) c.self.view_is) in
    act_has_place x r a c.reporter_step.new.self c.reporter_step.new.outcome c.index_mut.result.now low
    c.self.invariant
    (act_came x r a c.reporter_step.new.self c.reporter_step.result c.reporter_step.new.outcome c.self.invariant
    c.reporter_step.ensures.steps c.if-not-reporter_step.false)
    c.index_mut.ensures.value

pub keep-requires-clause-steps : goal.keep-requires-clause-steps
keep-requires-clause-steps c =
    let x = c.self.inside in
    let r = c.args.reporter in
    let a = c.in-Some.next in
    (act_fits x r a c.reporter_step.new.self c.reporter_step.new.outcome c.self.invariant
    (act_came x r a c.reporter_step.new.self c.reporter_step.result c.reporter_step.new.outcome c.self.invariant
    c.reporter_step.ensures.steps c.if-not-reporter_step.false)).steps

pub keep-requires-clause-published : goal.keep-requires-clause-published
keep-requires-clause-published c =
    let x = c.self.inside in
    let r = c.args.reporter in
    let a = c.in-Some.next in
    (act_fits x r a c.reporter_step.new.self c.reporter_step.new.outcome c.self.invariant
    (act_came x r a c.reporter_step.new.self c.reporter_step.result c.reporter_step.new.outcome c.self.invariant
    c.reporter_step.ensures.steps c.if-not-reporter_step.false)).published

pub invariant_of-self-2 : goal.invariant_of-self-2
invariant_of-self-2 c =
    let x = c.self.inside in
    let r = c.args.reporter in
    let a = c.in-Some.next in
    let low : r < length x.plan.reporters =
    omega (arith, c.requires.there, ap (λ (b : Played). length b.plan.reporters) c.self.view_is) in
    let handed : is_list x.plan r ≡ true → Some a ≡ listed (played x) r =
    subst (λ (b : Played). is_list b.plan r ≡ true → Some a ≡ listed b r) (sym c.self.view_is)
    (λ q. sym c.in-Some.is ∙ c.requires.list q) in
    let kept = c.keep.ensures in
    act_brief x _ r a c.reporter_step.new.outcome low c.self.invariant refl c.reporter_step.ensures.harts
    (act_came x r a c.reporter_step.new.self c.reporter_step.result c.reporter_step.new.outcome c.self.invariant
    c.reporter_step.ensures.steps c.if-not-reporter_step.false)
    handed (subst IsReport c.in-Some.is c.requires.report)
    (record {
      old = c.index_mut.result.now;
      new = c.add.new.self;
      read = c.index_mut.ensures.value;
      added = c.add.ensures;
      acts = refl;
    })
    (record { steps = kept.steps; published = kept.published; room = kept.room }) c.count.ensures

pub returns-clause-next : goal.returns-clause-next
returns-clause-next c =
    let x = c.self.inside in
    let r = c.args.reporter in
    let a = c.in-Some.next in
    let low : r < length x.plan.reporters =
    omega (arith, c.requires.there, ap (λ (b : Played). length b.plan.reporters) c.self.view_is) in
    let handed : is_list x.plan r ≡ true → Some a ≡ listed (played x) r =
    subst (λ (b : Played). is_list b.plan r ≡ true → Some a ≡ listed b r) (sym c.self.view_is)
    (λ q. sym c.in-Some.is ∙ c.requires.list q) in
    let kept = c.keep.ensures in
    let y : Inside =
    record {
      plan = x.plan;
      parts = c.reporter_step.new.self;
      acts = with_item x.acts r c.add.new.self;
      log = c.keep.new.self;
      tally = c.count.new.self;
    } in
    act_next x y r a c.reporter_step.new.outcome
    (act_came x r a c.reporter_step.new.self c.reporter_step.result c.reporter_step.new.outcome c.self.invariant
    c.reporter_step.ensures.steps c.if-not-reporter_step.false)
    (act_is x y r a c.reporter_step.new.outcome low c.self.invariant refl handed
    (record {
      old = c.index_mut.result.now;
      new = c.add.new.self;
      read = c.index_mut.ensures.value;
      added = c.add.ensures;
      acts = refl;
    })
    (record { steps = kept.steps; published = kept.published; room = kept.room }))
    ∙ ap (after_reporter r (Some a)) c.self.view_is
    ∙ ap (λ b. after_reporter r b c.args.self.now) (sym c.in-Some.is)

pub returns-clause-note : goal.returns-clause-note
returns-clause-note c =
    let x = c.self.inside in
    let r = c.args.reporter in
    let a = c.in-Some.next in
    act_note x r a c.reporter_step.new.self c.reporter_step.new.outcome
    (act_came x r a c.reporter_step.new.self c.reporter_step.result c.reporter_step.new.outcome c.self.invariant
    c.reporter_step.ensures.steps c.if-not-reporter_step.false)
    ∙ ap (λ (b : Played). note_of (reporter_step r b.plan (Some a) (state_of b))) c.self.view_is
    ∙ ap (λ b. note_of (reporter_step r c.args.self.now.plan b (state_of c.args.self.now))) (sym c.in-Some.is)

pub returns-clause-text : goal.returns-clause-text
returns-clause-text c =
    λ made.
    let x = c.self.inside in
    let r = c.args.reporter in
    let a = c.in-Some.next in
    act_text x r a c.reporter_step.new.self c.reporter_step.new.outcome
    (act_came x r a c.reporter_step.new.self c.reporter_step.result c.reporter_step.new.outcome c.self.invariant
    c.reporter_step.ensures.steps c.if-not-reporter_step.false)

pub returns-clause-safe : goal.returns-clause-safe
returns-clause-safe c =
    let x = c.self.inside in
    let r = c.args.reporter in
    let a = c.in-Some.next in
    let low : r < length x.plan.reporters =
    omega (arith, c.requires.there, ap (λ (b : Played). length b.plan.reporters) c.self.view_is) in
    let handed : is_list x.plan r ≡ true → Some a ≡ listed (played x) r =
    subst (λ (b : Played). is_list b.plan r ≡ true → Some a ≡ listed b r) (sym c.self.view_is)
    (λ q. sym c.in-Some.is ∙ c.requires.list q) in
    let kept = c.keep.ensures in
    let y : Inside =
    record {
      plan = x.plan;
      parts = c.reporter_step.new.self;
      acts = with_item x.acts r c.add.new.self;
      log = c.keep.new.self;
      tally = c.count.new.self;
    } in
    subst IsSafe
    (sym (act_is x y r a c.reporter_step.new.outcome low c.self.invariant refl handed
    (record {
      old = c.index_mut.result.now;
      new = c.add.new.self;
      read = c.index_mut.ensures.value;
      added = c.add.ensures;
      acts = refl;
    })
    (record { steps = kept.steps; published = kept.published; room = kept.room })))
    (act_safe r a (played x) c.self.invariant.keeps.played low (subst IsReport c.in-Some.is c.requires.report))
