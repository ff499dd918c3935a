-- One turn of a worker: a try of its actor, whose acts the worker hands on.
use Rattle.std.proofs.Common.{◌≡◌, ◌≢◌, ℕ, ◌<◌, ◌≤◌, ◌&&◌, nat_lt, Bool, true, false, List, [], ◌∷◌, ◌++◌, length, slice_get, Option, Some, None, is_none, refl, sym, ap, ◌∙◌, subst, append-nil, length-append, arith}
use Rattle.std.proofs.lemmas.Bool.{cond-true, cond-false, ltb-true}
use Rattle.std.proofs.lemmas.Option.{none-some, slice_get_past, slice_get_within}
use Rattle.ras_device.specs.declared.act.Act.{Act}
use Rattle.board_plan.specs.declared.notes.Step.{Step}
use Rattle.board_plan.specs.declared.notes.Step.TheVariants.{Hart, Reporter}
use Rattle.board_plan.specs.declared.notes.StepNote.{StepNote}
use Rattle.board_plan.specs.declared.notes.StepNote.TheVariants as note
use Rattle.board_plan.specs.declared.plan.Reporter as plan_reporter
use Rattle.board_plan.specs.declared.plan.Plan.{Plan}
use Rattle.board_plan.specs.State.{BoardState, ReporterState}
use Rattle.board_plan.specs.Step.{Stepped, acts_made, hart_step, is_wanted, made_by, next_act, reporter_step, step, step_of, wants}
use Rattle.board_plan.specs.Run.{Ran, noted, state_after, steps_of}
use Rattle.board_core.specs.Played.{IsPlayed, Played, after_act, after_hart, after_hart_step, after_reporter, has_list, is_list, listed, listed_act, listed_for, note_of, own_run, state_of, with_act, with_step}
use Rattle.board_core.proofs.Early.{acted_not_idle, hart_not_idle}
use Rattle.board_core.proofs.Going.{gone_on}
use Rattle.board_core.proofs.Steps.{hart_goes_on, reporter_goes_on}
use Rattle.board_lock.specs.Hand.{Hand, act_at_hand, board_after, handed_act, turn_note, whole}
use Rattle.board_lock.specs.Replaying.{Agrees, Tries, worker_of}
use Rattle.board_lock.specs.Trying.{is_step}
use Rattle.board_lock.proofs.Moving.{next_whole}

-- ---- Who is there ----

pub no_hart : (b : Played) (h : ℕ) → length (state_of b).machine.stacks ≤ h → hart_step h b.plan (state_of b) ≡ None
unfolding hart_step
no_hart b h past =
    ap (step_of h b.plan (state_of b)) (slice_get_past (state_of b).machine.stacks h past)

pub unwanted_none : (r : ℕ) (plan : Plan) (a : Option Act) (s : BoardState) → wants plan r s ≡ false
    → reporter_step r plan a s ≡ None
unfolding reporter_step
unwanted_none r plan None s unwanted = refl
unwanted_none r plan (Some a) s unwanted = cond-false (wants plan r s) _ None unwanted

pub wanted_acts : (r : ℕ) (plan : Plan) (a : Act) (s : BoardState) → wants plan r s ≡ true
    → reporter_step r plan (Some a) s ≡ None → ⊥
unfolding reporter_step
wanted_acts r plan a s wanted none = none-some _ (sym none ∙ cond-true (wants plan r s) (Some _) None wanted)

pub none_handed : (r : ℕ) (plan : Plan) (s : BoardState) → reporter_step r plan None s ≡ None
unfolding reporter_step
none_handed r plan s = refl

-- a reporter that is wanted
pub record IsThere (plan : Plan) (r : ℕ) (s : BoardState) : Type 0 where
  pub decl : plan_reporter.Reporter
  pub declared : slice_get plan.reporters r ≡ Some decl
  pub low : acts_made r s < decl.limit

pub wanted_there : (plan : Plan) (r : ℕ) (s : BoardState) → wants plan r s ≡ true → IsThere plan r s
unfolding wants
wanted_there plan r s wanted = go (slice_get plan.reporters r) (slice_get s.reporters r) refl refl wanted
  where
    second : (p q : Bool) → (p && q) ≡ true → q ≡ true
    second true q is = is
    second false q is = absurd (cc)

    go : (o : Option plan_reporter.Reporter) (q : Option ReporterState) → slice_get plan.reporters r ≡ o
        → slice_get s.reporters r ≡ q → is_wanted o q ≡ true → IsThere plan r s
    go None q declared there wanted = absurd (cc)
    go (Some d) None declared there wanted = absurd (cc)
    go (Some d) (Some x) declared there wanted =
        record {
          decl = d;
          declared = declared;
          low = subst (λ (n : ℕ). n < d.limit) (sym (ap made_by there))
              (ltb-true x.made d.limit (second x.plugged (nat_lt x.made d.limit) wanted));
        }

pub wanted_low : (plan : Plan) (r : ℕ) (s : BoardState) → wants plan r s ≡ true → r < length plan.reporters
wanted_low plan r s wanted =
    let there = wanted_there plan r s wanted in
    slice_get_within plan.reporters r there.decl there.declared

pub not_on_board : (plan : Plan) (r : ℕ) (s : BoardState) → length plan.reporters ≤ r → wants plan r s ≡ false
unfolding wants
not_on_board plan r s past =
    ap (λ (o : Option plan_reporter.Reporter). is_wanted o (slice_get s.reporters r))
    (slice_get_past plan.reporters r past)

-- ---- The act that is handed ----

listed_is : (device : Option ℕ) (acts : List Act) (n : ℕ) → is_none device ≡ true
    → listed_act device acts n ≡ slice_get acts n
listed_is None acts n is = refl
listed_is (Some k) acts n is = absurd (cc)

-- a wanted reporter is handed the act that comes next in its list or in all acts of its worker
pub act_is : (acts : ℕ → List Act) (b : Played) (ws : List Hand) (w : Hand) (r : ℕ) → IsPlayed b → Agrees acts b ws
    → worker_of (Reporter r) ws ≡ Some w → IsThere b.plan r (state_of b)
    → handed_act w b r ≡ next_act acts r (state_of b)
act_is acts b ws w r played agrees found there =
    go (is_none there.decl.device) refl
  where
    s : BoardState
    s = state_of b

    lists : is_list b.plan r ≡ is_none there.decl.device
    lists = ap has_list there.declared

    go : (q : Bool) → is_none there.decl.device ≡ q → handed_act w b r ≡ next_act acts r s
    go true is =
        cond-true (is_list b.plan r) (listed b r) (act_at_hand w) (lists ∙ is)
        ∙ ap (λ (o : Option plan_reporter.Reporter). listed_for o (acts_made r s)) there.declared
        ∙ listed_is there.decl.device there.decl.acts (acts_made r s) is
        ∙ ap (λ (xs : List Act). slice_get xs (acts_made r s))
        (sym (agrees.hired.lists r there.decl there.declared is))
    go false is =
        let hired = agrees.hired.devices r there.decl w there.declared is found in
        let many : length w.handed ≡ acts_made r s =
        ap length (agrees.handed r there.decl w there.declared is found) ∙ sym (played.used r) in
        cond-false (is_list b.plan r) (listed b r) (act_at_hand w) (lists ∙ is)
        ∙ next_whole w (omega (arith, many, hired.limit, there.low))
        ∙ ap (slice_get (whole w)) many
        ∙ ap (λ (xs : List Act). slice_get xs (acts_made r s)) hired.acts

-- ---- A try ----

pub idle_tries : (acts : ℕ → List Act) (b : Played) (t : Step) → step b.plan acts t (state_of b) ≡ None
    → Tries acts b (t ∷ []) b
idle_tries acts b t is =
    record {
      plan = refl;
      state = sym (ap (state_after (state_of b)) is);
      steps = sym (ap (λ (o : Option Stepped). b.steps ++ steps_of (noted t o [])) is ∙ append-nil b.steps);
    }

busy_tries : (acts : ℕ → List Act) (b c : Played) (t : Step) (d : Stepped)
    → step b.plan acts t (state_of b) ≡ Some d → c.plan ≡ b.plan → own_run c ≡ gone_on (own_run b) t d
    → c.steps ≡ b.steps ++ t ∷ [] → Tries acts b (t ∷ []) c
busy_tries acts b c t d is plan goes steps =
    record {
      plan = plan;
      state = ap (λ (r : Ran). r.state) goes ∙ sym (ap (state_after (state_of b)) is);
      steps = steps ∙ sym (ap (λ (o : Option Stepped). b.steps ++ steps_of (noted t o [])) is);
    }

hart_tries : (acts : ℕ → List Act) (b : Played) (h : ℕ) → Tries acts b (Hart h ∷ []) (after_hart h b)
unfolding step
hart_tries acts b h = go (hart_step h b.plan (state_of b)) refl
  where
    go : (o : Option Stepped) → hart_step h b.plan (state_of b) ≡ o
        → Tries acts b (Hart h ∷ []) (after_hart_step h b o)
    go None is = idle_tries acts b (Hart h) is
    go (Some d) is = busy_tries acts b (with_step (Hart h) b) (Hart h) d is refl (hart_goes_on h b d is) refl

-- a step that none is made of changes nothing
pub not_made : (r : ℕ) (b : Played) (a : Option Act) → after_act r b a None ≡ b
not_made r b None = refl
not_made r b (Some a) = refl

pub unwanted_stays : (r : ℕ) (b : Played) (a : Option Act) → wants b.plan r (state_of b) ≡ false
    → b ≡ after_reporter r a b
unwanted_stays r b a unwanted =
    sym (ap (after_act r b a) (unwanted_none r b.plan a (state_of b) unwanted) ∙ not_made r b a)

pub unwanted_idle : (r : ℕ) (b : Played) (a : Option Act) → wants b.plan r (state_of b) ≡ false
    → note.Idle ≡ note_of (reporter_step r b.plan a (state_of b))
unwanted_idle r b a unwanted = sym (ap note_of (unwanted_none r b.plan a (state_of b) unwanted))

made_tries : (acts : ℕ → List Act) (b : Played) (r : ℕ) (a : Option Act) → IsPlayed b → r < length b.plan.reporters
    → a ≡ next_act acts r (state_of b) → (o : Option Stepped) → reporter_step r b.plan a (state_of b) ≡ o
    → Tries acts b (Reporter r ∷ []) (after_act r b a o)
unfolding step
made_tries acts b r a played low next None is =
    subst (Tries acts b (Reporter r ∷ [])) (sym (not_made r b a))
    (idle_tries acts b (Reporter r) (ap (λ x. reporter_step r b.plan x (state_of b)) (sym next) ∙ is))
made_tries acts b r None played low next (Some d) is =
    absurd (none-some d (sym (none_handed r b.plan (state_of b)) ∙ is))
made_tries acts b r (Some a) played low next (Some d) is =
    busy_tries acts b (with_step (Reporter r) (with_act r a b)) (Reporter r) d
    (ap (λ x. reporter_step r b.plan x (state_of b)) (sym next) ∙ is) refl
    (reporter_goes_on r a b d (omega (arith, low, played.reporters)) played.all_made (played.used r) is) refl

reporter_tries : (acts : ℕ → List Act) (b : Played) (ws : List Hand) (w : Hand) (r : ℕ) → IsPlayed b
    → Agrees acts b ws → worker_of (Reporter r) ws ≡ Some w
    → Tries acts b (Reporter r ∷ []) (after_reporter r (handed_act w b r) b)
unfolding step
reporter_tries acts b ws w r played agrees found = go (wants b.plan r (state_of b)) refl
  where
    a : Option Act
    a = handed_act w b r

    s : BoardState
    s = state_of b

    go : (q : Bool) → wants b.plan r s ≡ q → Tries acts b (Reporter r ∷ []) (after_reporter r a b)
    go true wanted =
        let there = wanted_there b.plan r s wanted in
        made_tries acts b r a played (slice_get_within b.plan.reporters r there.decl there.declared)
        (act_is acts b ws w r played agrees found there) (reporter_step r b.plan a s) refl
    go false unwanted =
        subst (λ (c : Played). Tries acts b (Reporter r ∷ []) c)
        (sym (ap (after_act r b a) (unwanted_none r b.plan a s unwanted) ∙ not_made r b a))
        (idle_tries acts b (Reporter r) (unwanted_none r b.plan (next_act acts r s) s unwanted))

-- a turn is one try
pub turn_tries : (acts : ℕ → List Act) (b : Played) (ws : List Hand) (w : Hand) (t : Step) → IsPlayed b
    → Agrees acts b ws → worker_of t ws ≡ Some w → Tries acts b (t ∷ []) (board_after t w b)
turn_tries acts b ws w (Hart h) played agrees found = hart_tries acts b h
turn_tries acts b ws w (Reporter r) played agrees found = reporter_tries acts b ws w r played agrees found

-- ---- Whether a step was made ----

-- an idle turn changes nothing of the board, and any other adds a step
pub record Came (b : Played) (made : Bool) (c : Played) : Type 0 where
  pub still : made ≡ false → c ≡ b
  pub grows : made ≡ true → length b.steps < length c.steps

step_told : (n : StepNote) → n ≢ note.Idle → is_step n ≡ true
step_told note.Idle not_idle = absurd (not_idle refl)
step_told n not_idle = refl

idle_came : (b : Played) → Came b false b
idle_came b = record { still = λ e. refl; grows = λ e. absurd (cc) }

busy_came : (b c : Played) (t : Step) (n : StepNote) → n ≢ note.Idle → c.steps ≡ b.steps ++ t ∷ []
    → Came b (is_step n) c
busy_came b c t n not_idle steps =
    let told = step_told n not_idle in
    record {
      still = λ e. absurd (true_false (sym told ∙ e));
      grows = λ e. omega (arith, ap length steps, length-append b.steps (t ∷ []));
    }
  where
    true_false : true ≡ false → ⊥
    true_false e = cc

hart_came : (b : Played) (h : ℕ) (o : Option Stepped) → hart_step h b.plan (state_of b) ≡ o
    → Came b (is_step (note_of o)) (after_hart_step h b o)
hart_came b h None is = idle_came b
hart_came b h (Some d) is =
    busy_came b (with_step (Hart h) b) (Hart h) d.note (hart_not_idle h b.plan (state_of b) d is) refl

reporter_came : (b : Played) (r : ℕ) (a : Option Act) (o : Option Stepped)
    → reporter_step r b.plan a (state_of b) ≡ o → Came b (is_step (note_of o)) (after_act r b a o)
reporter_came b r a None is = subst (Came b false) (sym (not_made r b a)) (idle_came b)
reporter_came b r None (Some d) is = absurd (none-some d (sym (none_handed r b.plan (state_of b)) ∙ is))
reporter_came b r (Some a) (Some d) is =
    busy_came b (with_step (Reporter r) (with_act r a b)) (Reporter r) d.note
    (acted_not_idle r b.plan (state_of b) (Some a) d is) refl

pub turn_came : (b : Played) (w : Hand) (t : Step) → Came b (is_step (turn_note t w b)) (board_after t w b)
turn_came b w (Hart h) = hart_came b h (hart_step h b.plan (state_of b)) refl
turn_came b w (Reporter r) =
    reporter_came b r (handed_act w b r) (reporter_step r b.plan (handed_act w b r) (state_of b)) refl
