-- What one try makes of a board and of its devices.
use Rattle.std.proofs.Common.{◌≡◌, ◌≢◌, ℕ, ◌≤◌, ◌<◌, Bool, true, false, List, [], ◌∷◌, ◌++◌, length, slice_get, Option, Some, None, refl, sym, ap, ◌∙◌, subst, append-nil, length-append, arith}
use Rattle.std.specs.Prelude.{slice_index_or}
use Rattle.std.proofs.lemmas.Bool.{cond-false, true≢false}
use Rattle.std.proofs.lemmas.Option.{none-some, slice_get_past}
use Rattle.ras_device.specs.declared.act.Act.{Act}
use Rattle.board_plan.specs.declared.notes.Step.{Step}
use Rattle.board_plan.specs.declared.notes.Step.TheVariants.{Hart, Reporter}
use Rattle.board_plan.specs.declared.notes.StepNote.{StepNote}
use Rattle.board_plan.specs.declared.notes.StepNote.TheVariants as note
use Rattle.board_plan.specs.declared.plan.Reporter as plan_reporter
use Rattle.board_plan.specs.declared.plan.Plan.{Plan}
use Rattle.board_plan.specs.State.{BoardState, start_state}
use Rattle.board_plan.specs.Step.{Stepped, acts_made, hart_step, is_wanted, next_act, reporter_step, step, step_of, wants}
use Rattle.board_plan.specs.Run.{Ran, acts_from, copies, lists, noted, notes, published, ran, run, state_after}
use Rattle.board_core.specs.Played.{Played, IsPlayed, after_act, after_hart, after_hart_step, after_reporter, listed, listed_act, listed_for, note_of, own_run, state_of, with_act, with_step}
use Rattle.board_core.proofs.Early.{hart_not_idle, acted_not_idle}
use Rattle.board_core.proofs.Going.{copies-append, gone_on, goes_on, notes-append, run-append}
use Rattle.board_core.proofs.Steps.{hart_goes_on, reporter_goes_on}
use Rattle.board_plan.specs.Plans.{named_by}
use Rattle.board_play.specs.Tried.{Fits, Goes, Hands, Tied, Went, asked, is_step, some_made}
use Rattle.board_play.proofs.Fitting.{asked_tied, first_left, fits_after, hart_fits, listed_tied}

-- ---- One try ----

-- a note that isn't that of an idle actor is that of a step
step-told : (n : StepNote) → n ≢ note.Idle → is_step n ≡ true
step-told note.Idle not_idle = absurd (not_idle refl)
step-told n not_idle = refl

-- an idle try changes nothing of a run
stays-on : (plan : Plan) (acts : ℕ → List Act) (ts : List Step) (t : Step)
    → step plan acts t (ran plan acts ts).state ≡ None → ran plan acts (ts ++ t ∷ []) ≡ ran plan acts ts
unfolding ran
stays-on plan acts ts t is =
    let s = start_state plan in
    let state = run-append plan acts s ts (t ∷ []) ∙ ap (state_after (run plan acts s ts)) is in
    let told = notes-append plan acts s ts (t ∷ []) ∙ ap (λ o. notes plan acts s ts ++ noted t o []) is
    ∙ append-nil (notes plan acts s ts) in
    let shown = copies-append plan acts s ts (t ∷ []) ∙ ap (λ o. copies plan acts s ts ++ published o []) is
    ∙ append-nil (copies plan acts s ts) in
    λ i. record { state = state i; notes = told i; published = shown i }

-- a try that has no step
idle-try : (plan : Plan) (devices : List (List Act)) (b : Played) (t : Step)
    → step plan (lists plan devices) t (state_of b) ≡ None → Went plan devices b (t ∷ []) false b
idle-try plan devices b t is =
    record {
      goes_on = λ done has.
          has ∙ sym (stays-on plan (lists plan devices) done t
          (ap (λ (r : Ran). step plan (lists plan devices) t r.state) (sym has) ∙ is));
      state = sym (ap (state_after (state_of b)) is);
      told = sym (ap (λ (o : Option Stepped). some_made (noted t o [])) is);
    }

-- a try that makes a step
busy-try : (plan : Plan) (devices : List (List Act)) (b c : Played) (t : Step) (d : Stepped)
    → step plan (lists plan devices) t (state_of b) ≡ Some d → own_run c ≡ gone_on (own_run b) t d
    → Went plan devices b (t ∷ []) true c
busy-try plan devices b c t d is goes =
    record {
      goes_on = λ done has.
          goes ∙ ap (λ r. gone_on r t d) has ∙ sym (goes_on plan (lists plan devices) done t d
          (ap (λ (r : Ran). step plan (lists plan devices) t r.state) (sym has) ∙ is));
      state = ap (λ (r : Ran). r.state) goes ∙ sym (ap (state_after (state_of b)) is);
      told = sym (ap (λ (o : Option Stepped). some_made (noted t o [])) is);
    }

-- the same with what is left of the devices
idle-goes : (b : Played) (t : Step) (left rest : List (List Act))
    → ((devices : List (List Act)) → Fits devices b left → step b.plan (lists b.plan devices) t (state_of b) ≡ None)
    → ((devices : List (List Act)) → Fits devices b left → Fits devices b rest) → Goes b left (t ∷ []) false b rest
idle-goes b t left rest none fits =
    record {
      plan = refl;
      keeps = omega arith;
      grows = λ e. absurd (true≢false (sym e));
      went = λ devices f. idle-try b.plan devices b t (none devices f);
      fits = fits;
    }

busy-goes : (b c : Played) (t : Step) (d : Stepped) (left rest : List (List Act)) → c.plan ≡ b.plan
    → c.steps ≡ b.steps ++ t ∷ [] → own_run c ≡ gone_on (own_run b) t d
    → ((devices : List (List Act)) → Fits devices b left
    → step b.plan (lists b.plan devices) t (state_of b) ≡ Some d)
    → ((devices : List (List Act)) → Fits devices b left → Fits devices c rest) → Goes b left (t ∷ []) true c rest
busy-goes b c t d left rest plan steps goes made fits =
    record {
      plan = plan;
      keeps = omega (arith, ap length steps, length-append b.steps (t ∷ []));
      grows = λ e. omega (arith, ap length steps, length-append b.steps (t ∷ []));
      went = λ devices f. busy-try b.plan devices b c t d (made devices f) goes;
      fits = fits;
    }

-- the state that a step has come to
come-to : (b c : Played) (t : Step) (d : Stepped) (o : Option Stepped) → own_run c ≡ gone_on (own_run b) t d
    → o ≡ Some d → state_of c ≡ state_after (state_of b) o
come-to b c t d o goes is = ap (λ (r : Ran). r.state) goes ∙ sym (ap (state_after (state_of b)) is)

-- ---- A hart's try ----

pub hart-goes : (b : Played) (h : ℕ) (c : Played) (n : StepNote) (made : Bool) (left : List (List Act))
    → c ≡ after_hart h b → n ≡ note_of (hart_step h b.plan (state_of b)) → made ≡ is_step n
    → Goes b left (Hart h ∷ []) made c left
unfolding step
hart-goes b h c n made left next told is =
    subst (λ m. Goes b left (Hart h ∷ []) m c left) (sym (is ∙ ap is_step told))
    (subst (λ (x : Played). Goes b left (Hart h ∷ []) (is_step (note_of (hart_step h b.plan (state_of b)))) x left)
    (sym next) (go (hart_step h b.plan (state_of b)) refl))
  where
    go : (o : Option Stepped) → hart_step h b.plan (state_of b) ≡ o
        → Goes b left (Hart h ∷ []) (is_step (note_of o)) (after_hart_step h b o) left
    go None is = idle-goes b (Hart h) left left (λ devices f. is) (λ devices f. f)
    go (Some d) is =
        let c : Played = with_step (Hart h) b in
        let goes = hart_goes_on h b d is in
        subst (λ m. Goes b left (Hart h ∷ []) m c left)
        (sym (step-told d.note (hart_not_idle h b.plan (state_of b) d is)))
        (busy-goes b c (Hart h) d left left refl refl goes (λ devices f. is)
        (λ devices f.
        hart_fits devices b c h left refl (come-to b c (Hart h) d (hart_step h b.plan (state_of b)) goes is) f))

-- a hart that the board hasn't
pub no-hart : (b : Played) (h : ℕ) (left : List (List Act)) → length (state_of b).machine.stacks ≤ h
    → Goes b left (Hart h ∷ []) false b left
unfolding step hart_step
no-hart b h left past =
    idle-goes b (Hart h) left left
    (λ devices f. ap (step_of h b.plan (state_of b)) (slice_get_past (state_of b).machine.stacks h past))
    (λ devices f. f)

-- ---- A reporter's try ----

-- the act that a list has next is that of the plan's lists, whatever the devices have
listed-is : (devices : List (List Act)) (o : Option plan_reporter.Reporter) (n : ℕ) → named_by o ≡ None
    → listed_for o n ≡ slice_get (acts_from devices o) n
listed-is devices None n none = refl
listed-is devices (Some r) n none =
    (elim r.device as (λ device. device ≡ None → listed_act device r.acts n
    ≡ slice_get (acts_from devices (Some (record r { device = device }))) n) [
      | None ↦ λ e. refl
      | Some k ↦ λ e. absurd (none-some k (sym e))
    ]) none

-- a reporter that isn't wanted has no step, with whatever act
unwanted-step : (plan : Plan) (s : BoardState) (r : ℕ) (o : Option Act) → wants plan r s ≡ false
    → reporter_step r plan o s ≡ None
unfolding reporter_step
unwanted-step plan s r None not = refl
unwanted-step plan s r (Some a) not = cond-false (wants plan r s) _ None not

-- what a device is asked for is what comes next
asked-is : (devices : List (List Act)) (b : Played) (r k : ℕ) (left : List (List Act)) (w : Bool)
    → wants b.plan r (state_of b) ≡ w → named_by (slice_get b.plan.reporters r) ≡ Some k → Fits devices b left
    → reporter_step r b.plan (asked w (slice_index_or left k [])) (state_of b)
    ≡ reporter_step r b.plan (next_act (lists b.plan devices) r (state_of b)) (state_of b)
asked-is devices b r k left true was names fits =
    ap (λ x. reporter_step r b.plan x (state_of b))
    (ap (λ (xs : List Act). slice_get xs 0) (fits.tied r k names was)
    ∙ first_left (acts_made r (state_of b)) (lists b.plan devices r))
asked-is devices b r k left false was names fits =
    unwanted-step b.plan (state_of b) r None was
    ∙ sym (unwanted-step b.plan (state_of b) r (next_act (lists b.plan devices) r (state_of b)) was)

-- what a reporter is handed makes its step, and what is left fits the state that this comes to
agrees : (devices : List (List Act)) (b : Played) (r : ℕ) (device : Option ℕ) (left rest : List (List Act))
    (a : Option Act) → named_by (slice_get b.plan.reporters r) ≡ device
    → Hands device (wants b.plan r (state_of b)) (listed b r) left a rest → Fits devices b left
    → reporter_step r b.plan a (state_of b) ≡ step b.plan (lists b.plan devices) (Reporter r) (state_of b)
unfolding step
agrees devices b r None left rest a names hands fits =
    ap (λ x. reporter_step r b.plan x (state_of b))
    (hands.0 ∙ listed-is devices (slice_get b.plan.reporters r) (acts_made r (state_of b)) names)
agrees devices b r (Some k) left rest a names hands fits =
    ap (λ x. reporter_step r b.plan x (state_of b)) hands.0
    ∙ asked-is devices b r k left (wants b.plan r (state_of b)) refl names fits

handed-tied : (devices : List (List Act)) (b : Played) (r : ℕ) (device : Option ℕ) (left rest : List (List Act))
    (a : Option Act) → named_by (slice_get b.plan.reporters r) ≡ device
    → Hands device (wants b.plan r (state_of b)) (listed b r) left a rest → Fits devices b left
    → Tied b.plan (lists b.plan devices)
    (state_after (state_of b) (step b.plan (lists b.plan devices) (Reporter r) (state_of b))) rest
handed-tied devices b r None left rest a names hands fits =
    let acts = lists b.plan devices in
    subst (Tied b.plan acts (state_after (state_of b) (step b.plan acts (Reporter r) (state_of b)))) (sym hands.1)
    (listed_tied b.plan acts r (state_of b) left names fits.tied)
handed-tied devices b r (Some k) left rest a names hands fits =
    let acts = lists b.plan devices in
    subst (Tied b.plan acts (state_after (state_of b) (step b.plan acts (Reporter r) (state_of b)))) (sym hands.1)
    (asked_tied b.plan acts r k (state_of b) left fits.once names fits.tied)

pub reporter-goes : (b : Played) (r : ℕ) (device : Option ℕ) (left rest : List (List Act)) (a : Option Act)
    (c : Played) (n : StepNote) (made : Bool) → IsPlayed b → r < length b.plan.reporters
    → named_by (slice_get b.plan.reporters r) ≡ device
    → Hands device (wants b.plan r (state_of b)) (listed b r) left a rest → c ≡ after_reporter r a b
    → n ≡ note_of (reporter_step r b.plan a (state_of b)) → made ≡ is_step n
    → Goes b left (Reporter r ∷ []) made c rest
unfolding reporter_step
reporter-goes b r device left rest a c n made played there names hands next told is =
    subst (λ m. Goes b left (Reporter r ∷ []) m c rest) (sym (is ∙ ap is_step told))
    (subst
    (λ (x : Played). Goes b left (Reporter r ∷ []) (is_step (note_of (reporter_step r b.plan a (state_of b)))) x rest)
    (sym next) (go a (reporter_step r b.plan a (state_of b)) refl
    (λ devices f. agrees devices b r device left rest a names hands f)))
  where
    fits : (c : Played) → c.plan ≡ b.plan → (devices : List (List Act)) → Fits devices b left
        → state_of c ≡ state_after (state_of b) (step b.plan (lists b.plan devices) (Reporter r) (state_of b))
        → Fits devices c rest
    fits c plan devices f state =
        fits_after devices b c (Reporter r) left rest plan state f.once
        (handed-tied devices b r device left rest a names hands f)

    stays : (a : Option Act) → reporter_step r b.plan a (state_of b) ≡ None
        → ((devices : List (List Act)) → Fits devices b left → reporter_step r b.plan a (state_of b)
        ≡ step b.plan (lists b.plan devices) (Reporter r) (state_of b)) → Goes b left (Reporter r ∷ []) false b rest
    stays a is agree =
        idle-goes b (Reporter r) left rest (λ devices f. sym (agree devices f) ∙ is)
        (λ devices f. fits b refl devices f (sym (ap (state_after (state_of b)) (sym (agree devices f) ∙ is))))

    go : (a : Option Act) (o : Option Stepped) → reporter_step r b.plan a (state_of b) ≡ o
        → ((devices : List (List Act)) → Fits devices b left → reporter_step r b.plan a (state_of b)
        ≡ step b.plan (lists b.plan devices) (Reporter r) (state_of b))
        → Goes b left (Reporter r ∷ []) (is_step (note_of o)) (after_act r b a o) rest
    go None None is agree = stays None is agree
    go None (Some d) is agree = absurd (none-some d is)
    go (Some a) None is agree = stays (Some a) is agree
    go (Some a) (Some d) is agree =
        let c : Played = with_step (Reporter r) (with_act r a b) in
        let goes =
        reporter_goes_on r a b d (omega (arith, there, played.reporters)) played.all_made (played.used r) is in
        subst (λ m. Goes b left (Reporter r ∷ []) m c rest)
        (sym (step-told d.note (acted_not_idle r b.plan (state_of b) (Some a) d is)))
        (busy-goes b c (Reporter r) d left rest refl refl goes (λ devices f. sym (agree devices f) ∙ is)
        (λ devices f.
        fits c refl devices f (come-to b c (Reporter r) d
        (step b.plan (lists b.plan devices) (Reporter r) (state_of b)) goes (sym (agree devices f) ∙ is))))

-- a reporter that the board hasn't
unwanted : (plan : Plan) (s : BoardState) (r : ℕ) → length plan.reporters ≤ r → wants plan r s ≡ false
unfolding wants
unwanted plan s r past =
    ap (λ (o : Option plan_reporter.Reporter). is_wanted o (slice_get s.reporters r))
    (slice_get_past plan.reporters r past)

pub no-reporter : (b : Played) (r : ℕ) (left : List (List Act)) → length b.plan.reporters ≤ r
    → Goes b left (Reporter r ∷ []) false b left
unfolding step
no-reporter b r left past =
    idle-goes b (Reporter r) left left
    (λ devices f. unwanted-step b.plan (state_of b) r (next_act (lists b.plan devices) r (state_of b))
    (unwanted b.plan (state_of b) r past)) (λ devices f. f)
