-- A replayed board is a whole run of its plan.
use Rattle.std.proofs.Common.{◌≡◌, ℕ, zero, suc, ◌<◌, ◌≤◌, Bool, true, false, List, [], ◌∷◌, ◌++◌, length, take, get_or, slice_get, Option, Some, None, is_some, is_none, refl, inl, inr, sym, ap, ◌∙◌, arith}
use Rattle.std.proofs.lemmas.Bool.{cases_lt}
use Rattle.std.proofs.lemmas.Option.{none-some}
use Rattle.ras_device.specs.declared.act.Act.{Act}
use Rattle.ras_device.specs.declared.act.Act.TheVariants as act
use Rattle.ras_device.specs.Acts.{HasReports, Remaining}
use Rattle.board_plan.specs.declared.notes.Step.{Step}
use Rattle.board_plan.specs.declared.notes.Step.TheVariants.{Reporter}
use Rattle.board_plan.specs.declared.plan.Reporter as plan_reporter
use Rattle.board_plan.specs.declared.plan.Plan.{Plan}
use Rattle.board_plan.specs.Plans.{AreReports, IsPlan}
use Rattle.board_plan.specs.Step.{step}
use Rattle.board_plan.specs.Run.{Ran, acts_from, lists, ran, steps_of}
use Rattle.board_laws.proofs.Safe.{run_is_safe}
use Rattle.board_core.specs.Played.{AreListsReports, IsPlayed, Played, acts_of, own_run, state_of}
use Rattle.board_core.proofs.Going.{ran_longer}
use Rattle.board_lock.specs.Hand.{Hand}
use Rattle.board_lock.specs.Hiring.{IsWholeRun, left_in}
use Rattle.board_lock.specs.Replaying.{Agrees, Replays, worker_of}

-- ---- The acts that were made begin the lists ----

front_get : (xs ys : List Act) (k : ℕ) (a : Act) → slice_get xs k ≡ Some a → slice_get (xs ++ ys) k ≡ Some a
front_get [] ys k a is = absurd (none-some a is)
front_get (x ∷ xs) ys zero a is = is
front_get (x ∷ xs) ys (suc k) a is = front_get xs ys k a is

take_get : (n : ℕ) (xs : List Act) (k : ℕ) (a : Act) → slice_get (take n xs) k ≡ Some a → slice_get xs k ≡ Some a
take_get zero xs k a is = absurd (none-some a is)
take_get (suc n) [] k a is = is
take_get (suc n) (x ∷ xs) zero a is = is
take_get (suc n) (x ∷ xs) (suc k) a is = take_get n xs k a is

begins : (acts : ℕ → List Act) (c : Played) (ws : List Hand) (r k : ℕ) (a : Act) → IsPlayed c → Agrees acts c ws
    → slice_get (acts_of c r) k ≡ Some a → slice_get (acts r) k ≡ Some a
begins acts c ws r k a played agrees made =
    elim (cases_lt r (length c.plan.reporters)) as (λ _. slice_get (acts r) k ≡ Some a) [
      | inl low ↦ on_board (slice_get c.plan.reporters r) refl low
      | inr past ↦ absurd (none-some a (sym (none past) ∙ made))
    ]
  where
    none : length c.plan.reporters ≤ r → slice_get (acts_of c r) k ≡ None
    none past = ap (λ (xs : List Act). slice_get xs k) (nothing c.acts r (omega (arith, played.reporters, past)))
      where
        nothing : (all : List (List Act)) (r : ℕ) → length all ≤ r → get_or all r [] ≡ []
        nothing [] r past = refl
        nothing (x ∷ all) zero past = absurd (omega (arith, past))
        nothing (x ∷ all) (suc r) past = nothing all r (omega (arith, past))

    by_worker : (d : plan_reporter.Reporter) → slice_get c.plan.reporters r ≡ Some d → is_none d.device ≡ false
        → (o : Option Hand) → worker_of (Reporter r) ws ≡ o → is_some o ≡ true → slice_get (acts r) k ≡ Some a
    by_worker d declared device None found has = absurd (cc)
    by_worker d declared device (Some w) found has =
        ap (λ (xs : List Act). slice_get xs k) (sym (agrees.hired.devices r d w declared device found).acts)
        ∙ front_get w.handed (w.kept ++ w.left) k a
        (ap (λ (xs : List Act). slice_get xs k) (agrees.handed r d w declared device found) ∙ made)

    by_kind : (d : plan_reporter.Reporter) → slice_get c.plan.reporters r ≡ Some d → r < length c.plan.reporters
        → (q : Bool) → is_none d.device ≡ q → slice_get (acts r) k ≡ Some a
    by_kind d declared low true is =
        ap (λ (xs : List Act). slice_get xs k) (agrees.hired.lists r d declared is)
        ∙ take_get (length (acts_of c r)) d.acts k a
        (ap (λ (xs : List Act). slice_get xs k) (sym (played.listed r d declared is)) ∙ made)
    by_kind d declared low false is =
        by_worker d declared is (worker_of (Reporter r) ws) refl (agrees.hired.has (Reporter r) low)

    on_board : (o : Option plan_reporter.Reporter) → slice_get c.plan.reporters r ≡ o → r < length c.plan.reporters
        → slice_get (acts r) k ≡ Some a
    on_board None none low = absurd (past_none c.plan.reporters r none low)
      where
        past_none : (rs : List plan_reporter.Reporter) (r : ℕ) → slice_get rs r ≡ None → r < length rs → ⊥
        past_none [] r none low = omega (arith, low)
        past_none (x ∷ rs) zero none low = none-some x (sym none)
        past_none (x ∷ rs) (suc r) none low = past_none rs r none (omega (arith, low))
    on_board (Some d) declared low = by_kind d declared low (is_none d.device) refl

-- the board's own run is that with all acts
own_is : (acts : ℕ → List Act) (c : Played) (ws : List Hand) → IsPlayed c → Agrees acts c ws
    → ran c.plan acts c.steps ≡ own_run c
own_is acts c ws played agrees =
    ran_longer c.plan (acts_of c) acts c.steps
    (record { fronts = λ r k a made. begins acts c ws r k a played agrees made }) played.all_made

-- ---- Reports ----

-- what a device that is there gives are reports
device_reports : {D : Type 0} (left : D → Remaining) (devices : List D) (k : ℕ)
    → HasReports (get_or (left_in left devices) k [])
device_reports left [] k i report is = absurd (none-some (act.Error report) is)
device_reports left (d ∷ devices) zero i report is = (left d).reports i report is
device_reports left (d ∷ devices) (suc k) i report is = device_reports left devices k i report is

all_reports : {D : Type 0} (left : D → Remaining) (devices : List D) (plan : Plan) → AreListsReports plan
    → AreReports (lists plan (left_in left devices))
all_reports {D} left devices plan reports r = by_decl (slice_get plan.reporters r) refl
  where
    by_decl : (o : Option plan_reporter.Reporter) → slice_get plan.reporters r ≡ o
        → HasReports (acts_from (left_in left devices) o)
    by_decl None is i report there = absurd (none-some (act.Error report) there)
    by_decl (Some d) is i report there = by_device d.device is i report there
      where
        by_device : (o : Option ℕ) → slice_get plan.reporters r ≡ Some (record d { device = o })
            → HasReports (acts_from (left_in left devices) (Some (record d { device = o })))
        by_device None is i report there =
            reports r i report (ap (λ o. slice_get (acts_from [] o) i) is ∙ there)
        by_device (Some k) is i report there = device_reports left devices k i report there

-- ---- The whole run ----

pub whole_run : {D : Type 0} (left : D → Remaining) (devices : List D) (plan : Plan) (b c : Played) (ws : List Hand)
    (steps : List Step) → IsPlan plan → AreListsReports plan → b.plan ≡ plan → IsPlayed c
    → Replays (lists plan (left_in left devices)) b steps c → Agrees (lists plan (left_in left devices)) c ws
    → IsWholeRun plan (left_in left devices) c
whole_run left devices plan b c ws steps is_plan reports same played replays agrees =
    let acts = lists plan (left_in left devices) in
    let plan_is : c.plan ≡ plan = replays.tries.plan ∙ same in
    let own : own_run c ≡ ran plan acts c.steps =
    sym (own_is acts c ws played agrees) ∙ ap (λ (p : Plan). ran p acts c.steps) plan_is in
    record {
      same_plan = plan_is;
      whole = record {
        all_made = ap (λ (x : Ran). steps_of x.notes) (sym own) ∙ played.all_made;
        over = λ t.
            ap (λ (x : Ran). step plan acts t x.state) (sym own)
            ∙ ap (λ (p : Plan). step p acts t (state_of c)) (sym plan_is) ∙ replays.over t;
      };
      same_run = own;
      safe = run_is_safe plan acts c.steps is_plan (all_reports left devices plan reports);
    }
