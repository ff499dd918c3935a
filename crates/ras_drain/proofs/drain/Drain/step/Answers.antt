-- A step is one phase.
use Rattle.std.proofs.Common.{◌≡◌, List, [], Some, None, refl, sym, ap, ◌∙◌, subst}
use Rattle.std.proofs.lemmas.Option.{same_Some}
use Rattle.reri_fields.specs.Records.{Origin}
use Rattle.reri_fields.specs.Banks.{BankEvent}
use Rattle.reri_fields.specs.Drain.{BankPlan, BankState, Draining, phase_step}
use Rattle.ras_drain.specs.Steps.{IsAt, Took}
use Rattle.ras_drain.specs.Inside.{draining, where_is}
use Rattle.ras_drain.proofs.Meaning.{torn_means, stood_means}
use Rattle.ras_drain.proofs.drain.Drain.step.Goals as goal
use Rattle.ras_drain.proofs.drain.Drain.step.Goals.{After-advance-next}

at_is : (c : After-advance-next) (d : Draining) → c.args.self.now.drain ≡ Some d → draining c.in-Some.at ≡ d
at_is c d here = same_Some (draining c.in-Some.at) d (sym (ap where_is c.in-Some.is)
    ∙ ap (λ v. v.drain) c.self.view_is ∙ here)

took : (c : After-advance-next) (plan : BankPlan) (s : BankState) (d : Draining) → c.args.self.now.drain ≡ Some d
    → c.self.inside.gather ≡ plan.gather → IsAt plan s c.args.bank.now c.args.slot.now
    → Took plan (phase_step plan s d d.phase) (where_is c.advance-next.result.0) c.advance-next.new.bank
    c.advance-next.new.slot c.advance-next.result.1
took c plan s d here same is =
    subst (λ e. Took plan (phase_step plan s e e.phase) (where_is c.advance-next.result.0) c.advance-next.new.bank
    c.advance-next.new.slot c.advance-next.result.1) (at_is c d here) (c.advance-next.ensures.does plan s same is)

pub returns-clause-does : goal.returns-clause-does
returns-clause-does c = λ plan s d here same is. took c.before plan s d here (ap (λ v. v.gather) c.self.view_is
    ∙ same) is

-- a plan and a state that this history and the slot are of
plan_of : (c : After-advance-next) → List Origin → BankPlan
plan_of c origins = record { origins = origins; gather = c.self.inside.gather }

state_of : (c : After-advance-next) → List BankEvent → BankState
state_of c history = record { history = history; published = []; slot = c.args.slot.now; drain = None }

pub returns-clause-torn : goal.returns-clause-torn
unfolding plan_of state_of
returns-clause-torn c =
    λ origins history d here origin later before check known stands came any.
    let plan = plan_of c.before origins in
    let s = state_of c.before history in
    let told = (took c.before plan s d here refl (record { stands = stands; slot_is = refl })).note_is in
    torn_means plan s d c.args.bank.now c.advance-next.result.1 told origin later before check known stands came any

pub returns-clause-stood : goal.returns-clause-stood
unfolding plan_of state_of
returns-clause-stood c =
    λ origins history d here origin later before check known stands came on.
    let plan = plan_of c.before origins in
    let s = state_of c.before history in
    let told = (took c.before plan s d here refl (record { stands = stands; slot_is = refl })).note_is in
    stood_means plan s d c.args.bank.now c.advance-next.result.1 told origin later before check known stands came on
