-- A board that keeps its run keeps it by one step more.
use Rattle.std.proofs.Common.{◌≡◌, ◌≢◌, ℕ, zero, suc, ◌+◌, ◌<◌, ◌≤◌, true, List, [], ◌∷◌, ◌++◌, map, length, take, get_or, slice_get, Option, Some, None, is_none, refl, inl, inr, sym, ap, ◌∙◌, subst, arith, length-append}
use Rattle.std.proofs.Math.Seq.{take-suc}
use Rattle.std.proofs.lemmas.Bool.{cases_eq}
use Rattle.std.proofs.lemmas.List.{length-map, length-set, map_push, get_or-set_same, get_or-set_other}
use Rattle.std.proofs.lemmas.Option.{get_or_from_slice_get, none-some, slice_get_within}
use Rattle.reri_fields.specs.declared.report.Report.{Report}
use Rattle.ras_device.specs.declared.act.Act.{Act}
use Rattle.ras_device.specs.declared.act.Act.TheVariants as act
use Rattle.reri_bank.proofs.Stands.{get-set_same, get-set_other}
use Rattle.board_plan.specs.declared.notes.Published.{Published}
use Rattle.board_plan.specs.declared.notes.Step.{Step}
use Rattle.board_plan.specs.declared.notes.Step.TheVariants.{Hart, Reporter}
use Rattle.board_plan.specs.declared.plan.Plan.{Plan}
use Rattle.board_plan.specs.declared.plan.Reporter as plan_reporter
use Rattle.board_plan.specs.Plans.{IsPlan, AreReports, most_steps}
use Rattle.board_plan.specs.State.{BoardState, ReporterState, fresh_reporter}
use Rattle.board_plan.specs.Step.{Stepped, acts_made, hart_step, made_by, one_more, reporter_step}
use Rattle.board_plan.specs.Run.{Noted, Ran, ran, steps_of, with_copy}
use Rattle.board_core.specs.Played.{IsPlayed, IsReport, Played, AreListsReports, acts_of, fresh, has_list, is_list, listed, listed_act, listed_for, own_run, state_of, with_act, with_step}
use Rattle.board_core.specs.Reached.{IsReached, Keeps}
use Rattle.board_core.proofs.Early.{ReporterStep, hart_makes, made_each, reporter_makes}
use Rattle.board_core.proofs.Going.{gone_on}
use Rattle.board_core.proofs.Spent.{few_steps, reached_hart, reached_reporter, reached_start}
use Rattle.board_core.proofs.Steps.{hart_goes_on, reporter_goes_on}

-- ---- How many acts were made ----

made_is : (rs : List ReporterState) (r : ℕ) → made_by (slice_get rs r) ≡ get_or (made_each rs) r 0
made_is [] r = refl
made_is (x ∷ rs) zero = refl
made_is (x ∷ rs) (suc r) = made_is rs r

same_made : (s d : BoardState) (r : ℕ) → made_each d.reporters ≡ made_each s.reporters
    → acts_made r d ≡ acts_made r s
same_made s d r same =
    made_is d.reporters r ∙ ap (λ ms. get_or ms r 0) same ∙ sym (made_is s.reporters r)

none_made : (rs : List plan_reporter.Reporter) (r : ℕ) → made_by (slice_get (map fresh_reporter rs) r) ≡ 0
none_made [] r = refl
none_made (x ∷ rs) zero = refl
none_made (x ∷ rs) (suc r) = none_made rs r

abbrev no_act : List Act
no_act = []

no_acts : (rs : List plan_reporter.Reporter) (r : ℕ)
    → get_or (map (λ (x : plan_reporter.Reporter). no_act) rs) r [] ≡ []
no_acts [] r = refl
no_acts (x ∷ rs) zero = refl
no_acts (x ∷ rs) (suc r) = no_acts rs r

none_reported : (plan : Plan) → AreReports (acts_of (fresh plan))
none_reported plan r i report is =
    absurd (none-some (act.Error report) (nothing i
    (subst (λ (xs : List Act). slice_get xs i ≡ Some (act.Error report)) (no_acts plan.reporters r) is)))
  where
    nothing : (i : ℕ) → slice_get no_act i ≡ Some (act.Error report) → None ≡ Some (act.Error report)
    nothing i is = is

-- ---- The start ----

pub keeps_fresh : (plan : Plan) → IsPlan plan → AreListsReports plan → Keeps (fresh plan) []
unfolding ran
keeps_fresh plan is_plan reports =
    record {
      played = record {
        is_plan = is_plan;
        reporters = length-map plan.reporters (λ (x : plan_reporter.Reporter). no_act);
        all_made = refl;
        few = omega arith;
        used = λ r. none_made plan.reporters r ∙ sym (ap length (no_acts plan.reporters r));
        listed = λ r d declared is. nothing (acts_of (fresh plan) r) d (no_acts plan.reporters r);
        reports = none_reported plan;
      };
      reached = reached_start plan;
      many = refl;
      published_are = refl;
      few_published = omega arith;
      lists_reports = reports;
    }
  where
    nothing : (xs : List Act) (d : plan_reporter.Reporter) → xs ≡ [] → xs ≡ take (length xs) d.acts
    nothing xs d is = subst (λ (ys : List Act). ys ≡ take (length ys) d.acts) (sym is) refl

-- ---- A step ----

-- what a run with one step more has, of a board whose own run it is
pub record Goes (b c : Played) (t : Step) (d : Stepped) : Type 0 where
  pub plan : c.plan ≡ b.plan
  pub steps : c.steps ≡ b.steps ++ t ∷ []
  pub run : own_run c ≡ gone_on (own_run b) t d

state_is : (b c : Played) (t : Step) (d : Stepped) → Goes b c t d → state_of c ≡ d.state
state_is b c t d goes = ap (λ (r : Ran). r.state) goes.run

copies_few : (o : Option Published) → length (with_copy o []) ≤ 1
copies_few None = omega arith
copies_few (Some p) = omega arith

keeps_on : (b c : Played) (t : Step) (d : Stepped) (published : List Published)
    → Keeps b published → Goes b c t d → d.state.steps ≡ suc (state_of b).steps → IsReached b.plan d.state
    → length c.acts ≡ length b.acts → ((r : ℕ) → acts_made r d.state ≡ length (acts_of c r))
    → ((r : ℕ) (p : plan_reporter.Reporter) → slice_get b.plan.reporters r ≡ Some p → is_none p.device ≡ true
    → acts_of c r ≡ take (length (acts_of c r)) p.acts)
    → AreReports (acts_of c) → Keeps c (published ++ with_copy d.published [])
keeps_on b c t d published keeps goes number reached acts used lists reports =
    let plan_is = goes.plan in
    let state = state_is b c t d goes in
    let many : (state_of c).steps ≡ length c.steps =
    ap (λ (s : BoardState). s.steps) state ∙ number ∙ ap suc keeps.many
    ∙ sym (ap length goes.steps ∙ length-append b.steps (t ∷ []) ∙ one (length b.steps)) in
    let within : d.state.steps ≤ most_steps b.plan = few_steps b.plan d.state reached in
    record {
      played = record {
        is_plan = subst IsPlan (sym plan_is) keeps.played.is_plan;
        reporters = acts ∙ keeps.played.reporters
            ∙ ap (λ (p : Plan). length p.reporters) (sym plan_is);
        all_made = ap (λ (r : Ran). steps_of r.notes) goes.run
            ∙ map_push (λ (n : Noted). n.by) (own_run b).notes (record { by = t; note = d.note })
            ∙ ap (λ ts. ts ++ t ∷ []) keeps.played.all_made ∙ sym goes.steps;
        few = omega (
          arith,
          many,
          within,
          ap (λ (s : BoardState). s.steps) state,
          ap most_steps plan_is,
        );
        used = λ r. ap (acts_made r) state ∙ used r;
        listed = λ r p there is. lists r p (ap (λ (q : Plan). slice_get q.reporters r) (sym plan_is) ∙ there) is;
        reports = reports;
      };
      reached = subst (λ (p : Plan). IsReached p (state_of c)) (sym plan_is)
          (subst (IsReached b.plan) (sym state) reached);
      many = many;
      published_are = ap (λ ps. ps ++ with_copy d.published []) keeps.published_are
          ∙ sym (ap (λ (r : Ran). r.published) goes.run);
      few_published = omega (
        arith,
        keeps.few_published,
        length-append published (with_copy d.published []),
        copies_few d.published,
        ap length goes.steps,
        length-append b.steps (t ∷ []),
      );
      lists_reports = subst AreListsReports (sym plan_is) keeps.lists_reports;
    }
  where
    one : (n : ℕ) → n + 1 ≡ suc n
    one n = omega arith

pub keeps_hart : (h : ℕ) (b : Played) (d : Stepped) (published : List Published)
    → h < b.plan.harts → Keeps b published → hart_step h b.plan (state_of b) ≡ Some d
    → Keeps (with_step (Hart h) b) (published ++ with_copy d.published [])
keeps_hart h b d published low keeps is =
    let makes = hart_makes h b.plan (state_of b) d is in
    keeps_on b (with_step (Hart h) b) (Hart h) d published keeps
    (record { plan = refl; steps = refl; run = hart_goes_on h b d is })
    makes.number (reached_hart h b.plan (state_of b) d low keeps.reached is) refl
    (λ r. same_made (state_of b) d.state r makes.same ∙ keeps.played.used r) keeps.played.listed keeps.played.reports

-- ---- An act ----

-- the acts of a reporter that made one more, and of the others
acts_same : (r : ℕ) (a : Act) (b : Played) → r < length b.acts
    → acts_of (with_act r a b) r ≡ acts_of b r ++ a ∷ []
acts_same r a b there = get_or-set_same b.acts r (acts_of b r ++ a ∷ []) [] there

acts_other : (r k : ℕ) (a : Act) (b : Played) → k ≢ r → acts_of (with_act r a b) k ≡ acts_of b k
acts_other r k a b other = get_or-set_other b.acts r k (acts_of b r ++ a ∷ []) [] other

used_on : (r k : ℕ) (a : Act) (b : Played) (d : Stepped) → r < length b.acts
    → ((k : ℕ) → acts_made k (state_of b) ≡ length (acts_of b k)) → ReporterStep r b.plan (state_of b) d
    → acts_made k d.state ≡ length (acts_of (with_act r a b) k)
used_on r k a b d there used makes =
    elim (cases_eq k r) as (λ _. acts_made k d.state ≡ length (acts_of (with_act r a b) k)) [
      | inl same ↦
          ap (λ j. acts_made j d.state) same ∙ here
          ∙ ap (λ j. length (acts_of (with_act r a b) j)) (sym same)
      | inr other ↦
          ap (λ (rs : List ReporterState). made_by (slice_get rs k)) makes.reporters
          ∙ ap made_by (get-set_other (state_of b).reporters r k (one_more makes.was) other) ∙ used k
          ∙ ap length (sym (acts_other r k a b other))
    ]
  where
    low : r < length (state_of b).reporters
    low = slice_get_within (state_of b).reporters r makes.was makes.there

    one : (n : ℕ) → n + 1 ≡ suc n
    one n = omega arith

    here : acts_made r d.state ≡ length (acts_of (with_act r a b) r)
    here =
        ap (λ (rs : List ReporterState). made_by (slice_get rs r)) makes.reporters
        ∙ ap made_by (get-set_same (state_of b).reporters r (one_more makes.was) low)
        ∙ ap suc (ap made_by (sym makes.there) ∙ used r)
        ∙ sym (ap length (acts_same r a b there) ∙ length-append (acts_of b r) (a ∷ []) ∙ one (length (acts_of b r)))

-- the next act of a list is the one behind the first so many
pub one_taken : (xs all : List Act) (a : Act) → xs ≡ take (length xs) all → slice_get all (length xs) ≡ Some a
    → xs ++ a ∷ [] ≡ take (length (xs ++ a ∷ [])) all
one_taken xs all a is next =
    let low = slice_get_within all (length xs) a next in
    let size : suc (length xs) ≡ length (xs ++ a ∷ []) = omega (arith, length-append xs (a ∷ [])) in
    ap (λ ys. ys ++ a ∷ []) is
    ∙ ap (λ x. take (length xs) all ++ x ∷ []) (sym (get_or_from_slice_get all (length xs) a a next))
    ∙ sym (take-suc all (length xs) a low) ∙ ap (λ n. take n all) size

-- what is listed is the item of the plan's list
pub listed_is : (b : Played) (r : ℕ) (p : plan_reporter.Reporter) → slice_get b.plan.reporters r ≡ Some p
    → is_none p.device ≡ true → listed b r ≡ slice_get p.acts (acts_made r (state_of b))
listed_is b r p there is =
    ap (λ (o : Option plan_reporter.Reporter). listed_for o (acts_made r (state_of b))) there
    ∙ own p.device p.acts (acts_made r (state_of b)) is
  where
    own : (o : Option ℕ) (acts : List Act) (n : ℕ) → is_none o ≡ true → listed_act o acts n ≡ slice_get acts n
    own None acts n is = refl
    own (Some device) acts n is = absurd (cc)

listed_on : (r k : ℕ) (a : Act) (b : Played) (p : plan_reporter.Reporter) → r < length b.acts → IsPlayed b
    → (is_list b.plan r ≡ true → Some a ≡ listed b r) → slice_get b.plan.reporters k ≡ Some p
    → is_none p.device ≡ true
    → acts_of (with_act r a b) k ≡ take (length (acts_of (with_act r a b) k)) p.acts
listed_on r k a b p there played handed declared is =
    elim (cases_eq k r) as (λ _. acts_of (with_act r a b) k ≡ take (length (acts_of (with_act r a b) k)) p.acts) [
      | inl same ↦
          subst (λ j. acts_of (with_act r a b) j ≡ take (length (acts_of (with_act r a b) j)) p.acts) (sym same)
          (here (ap (slice_get b.plan.reporters) (sym same) ∙ declared))
      | inr other ↦
          subst (λ (xs : List Act). xs ≡ take (length xs) p.acts) (sym (acts_other r k a b other))
          (played.listed k p declared is)
    ]
  where
    here : slice_get b.plan.reporters r ≡ Some p
        → acts_of (with_act r a b) r ≡ take (length (acts_of (with_act r a b) r)) p.acts
    here declared =
        let list : is_list b.plan r ≡ true =
        ap (λ (o : Option plan_reporter.Reporter). has_list o) declared ∙ is in
        let next : slice_get p.acts (length (acts_of b r)) ≡ Some a =
        ap (slice_get p.acts) (sym (played.used r)) ∙ sym (listed_is b r p declared is) ∙ sym (handed list) in
        subst (λ (xs : List Act). xs ≡ take (length xs) p.acts) (sym (acts_same r a b there))
        (one_taken (acts_of b r) p.acts a (played.listed r p declared is) next)

-- acts with one more that is a report
one_reported : (xs : List Act) (a : Act)
    → ((i : ℕ) (report : Report) → slice_get xs i ≡ Some (act.Error report) → report.priority < 4) → IsReport (Some a)
    → (i : ℕ) (report : Report) → slice_get (xs ++ a ∷ []) i ≡ Some (act.Error report) → report.priority < 4
one_reported [] a reports last zero report is = last report is
one_reported [] a reports last (suc i) report is = absurd (none-some (act.Error report) is)
one_reported (x ∷ xs) a reports last zero report is = reports zero report is
one_reported (x ∷ xs) a reports last (suc i) report is = one_reported xs a (λ j. reports (suc j)) last i report is

pub reports_on : (r : ℕ) (a : Act) (b : Played) → r < length b.acts → AreReports (acts_of b) → IsReport (Some a)
    → AreReports (acts_of (with_act r a b))
reports_on r a b there reports last k i report =
    elim (cases_eq k r)
    as (λ _. slice_get (acts_of (with_act r a b) k) i ≡ Some (act.Error report) → report.priority < 4) [
      | inl same ↦
          subst (λ j. slice_get (acts_of (with_act r a b) j) i ≡ Some (act.Error report) → report.priority < 4)
          (sym same)
          (subst (λ (xs : List Act). slice_get xs i ≡ Some (act.Error report) → report.priority < 4)
          (sym (acts_same r a b there)) (one_reported (acts_of b r) a (reports r) last i report))
      | inr other ↦
          subst (λ (xs : List Act). slice_get xs i ≡ Some (act.Error report) → report.priority < 4)
          (sym (acts_other r k a b other)) (reports k i report)
    ]

pub keeps_reporter : (r : ℕ) (a : Act) (b : Played) (d : Stepped) (published : List Published)
    → r < length b.plan.reporters → Keeps b published
    → (is_list b.plan r ≡ true → Some a ≡ listed b r) → IsReport (Some a)
    → reporter_step r b.plan (Some a) (state_of b) ≡ Some d
    → Keeps (with_step (Reporter r) (with_act r a b)) (published ++ with_copy d.published [])
keeps_reporter r a b d published low keeps handed report is =
    let c = with_step (Reporter r) (with_act r a b) in
    let there : r < length b.acts = omega (arith, low, keeps.played.reporters) in
    let makes = reporter_makes r b.plan (state_of b) (Some a) d is in
    keeps_on b c (Reporter r) d published keeps
    (record {
      plan = refl;
      steps = refl;
      run = reporter_goes_on r a b d there keeps.played.all_made (keeps.played.used r) is;
    })
    makes.number (reached_reporter r b.plan (state_of b) (Some a) d keeps.reached is)
    (length-set b.acts r (acts_of b r ++ a ∷ []))
    (λ k. used_on r k a b d there keeps.played.used makes)
    (λ k p declared list. listed_on r k a b p there keeps.played handed declared list)
    (reports_on r a b there keeps.played.reports report)
