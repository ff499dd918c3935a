-- Harts and reporters stay within their budgets and limits, so that no more steps are made than these allow.
use Rattle.std.proofs.Common.{◌≡◌, ℕ, zero, suc, ◌+◌, ◌<◌, ◌≤◌, ◌==◌, cond, List, [], ◌∷◌, map, length, get_or, set, replicate, Option, Some, refl, inl, inr, sym, ap, ◌∙◌, subst, arith}
use Rattle.std.specs.Option.{option_map}
use Rattle.std.specs.Prelude.{sum_by}
use Rattle.std.specs.List.{sum, range_with_len}
use Rattle.std.proofs.lemmas.Bool.{cases_eq, eq-eqb, ne_eqb}
use Rattle.std.proofs.lemmas.List.{length-map, map-set}
use Rattle.std.proofs.lemmas.List.FromFn.{get_or-map-range_with_len, length-map-range_with_len, map-range_with_len_more}
use Rattle.std.proofs.lemmas.List.Sums.{sum_by-cons, sum_by-set, sum_by_push, sum-map}
use Rattle.std.proofs.Math.Numerals.{add-one}
use Rattle.std.proofs.lemmas.Option.{get_or_from_slice_get, slice_get-map, slice_get_within}
use Rattle.board_plan.specs.declared.notes.Counts.{Counts}
use Rattle.board_plan.specs.declared.notes.StepNote.{StepNote}
use Rattle.board_plan.specs.declared.notes.StepNote.TheVariants as note
use Rattle.board_plan.specs.declared.plan.Plan.{Plan}
use Rattle.board_plan.specs.declared.plan.Reporter as plan_reporter
use Rattle.board_plan.specs.declared.plan.Start.{Start}
use Rattle.board_plan.specs.Plans.{most_steps}
use Rattle.board_plan.specs.State.{BoardState, ReporterState, budget_of, counts_of, fresh_reporter, no_counts, start_state}
use Rattle.board_plan.specs.Step.{Stepped, counted, hart_step, one_more, reporter_step}
use Rattle.ras_device.specs.declared.act.Act.{Act}
use Rattle.board_parts.specs.Shows.{budgets, limits}
use Rattle.board_core.specs.Reached.{AreWithin, IsReached, made, spent}
use Rattle.board_core.proofs.Early.{HartStep, ReporterStep, early_start, hart_makes, reporter_makes}

-- ---- Numbers within others ----

within_many : (xs ys : List ℕ) → AreWithin xs ys → length xs ≡ length ys
within_many [] [] within = refl
within_many [] (y ∷ ys) within = absurd within
within_many (x ∷ xs) [] within = absurd within
within_many (x ∷ xs) (y ∷ ys) within = ap suc (within_many xs ys within.1)

within_sum : (xs ys : List ℕ) → AreWithin xs ys → sum xs ≤ sum ys
within_sum [] [] within = omega arith
within_sum [] (y ∷ ys) within = absurd within
within_sum (x ∷ xs) [] within = absurd within
within_sum (x ∷ xs) (y ∷ ys) within =
    omega (
      arith,
      sum_by-cons (λ n. n) x xs,
      sum_by-cons (λ n. n) y ys,
      within.0,
      within_sum xs ys within.1,
    )

within_set : (xs ys : List ℕ) (i n : ℕ) → AreWithin xs ys → n ≤ get_or ys i 0 → AreWithin (set xs i n) ys
within_set [] [] i n within low = tt
within_set [] (y ∷ ys) i n within low = absurd within
within_set (x ∷ xs) [] i n within low = absurd within
within_set (x ∷ xs) (y ∷ ys) zero n within low = (low, within.1)
within_set (x ∷ xs) (y ∷ ys) (suc i) n within low = (within.0, within_set xs ys i n within.1 low)

-- ---- At the start ----

no_acts : (rs : List plan_reporter.Reporter)
    → AreWithin (map (λ r. r.made) (map fresh_reporter rs)) (map (λ r. r.limit) rs)
no_acts [] = tt
no_acts (r ∷ rs) = (omega arith, no_acts rs)

no_steps : (f : ℕ → ℕ) (a n : ℕ)
    → AreWithin (map (λ c. c.steps) (replicate n no_counts)) (map f (range_with_len a n))
no_steps f a zero = tt
no_steps f a (suc n) = (omega arith, no_steps f (a + 1) n)

nothing_spent : (n : ℕ) → sum_by (λ (c : Counts). c.steps) (replicate n no_counts) ≡ 0
nothing_spent zero = refl
nothing_spent (suc n) =
    sum_by-cons (λ (c : Counts). c.steps) no_counts (replicate n no_counts) ∙ ap (λ m. 0 + m) (nothing_spent n)

nothing_made : (rs : List plan_reporter.Reporter) → sum_by (λ (r : ReporterState). r.made) (map fresh_reporter rs) ≡ 0
nothing_made [] = refl
nothing_made (r ∷ rs) =
    sum_by-cons (λ (r : ReporterState). r.made) (fresh_reporter r) (map fresh_reporter rs)
    ∙ ap (λ m. 0 + m) (nothing_made rs)

pub reached_start : (plan : Plan) → IsReached plan (start_state plan)
reached_start plan =
    record {
      early = early_start plan;
      within_budgets = no_steps (λ h. budget_of h plan.starts) 0 plan.harts;
      within_limits = no_acts plan.reporters;
      total = omega (arith, nothing_spent plan.harts, nothing_made plan.reporters);
    }

-- ---- A step ----

counted_steps : (n : StepNote) (c : Counts) → (counted n c).steps ≡ suc c.steps
counted_steps (note.Call eid fid args code written) c = omega arith
counted_steps n c = omega arith

pub reached_hart : (h : ℕ) (plan : Plan) (s : BoardState) (d : Stepped) → h < plan.harts → IsReached plan s
    → hart_step h plan s ≡ Some d → IsReached plan d.state
reached_hart h plan s d low reached is =
    let step = hart_makes h plan s d is in
    hart_reached h plan s d low reached step
  where
    hart_reached : (h : ℕ) (plan : Plan) (s : BoardState) (d : Stepped) → h < plan.harts → IsReached plan s
        → HartStep h plan s d → IsReached plan d.state
    hart_reached h plan s d low reached step =
        let c = counts_of h s in
        let n = counted_steps d.note c in
        let many : length s.counts ≡ plan.harts =
        sym (length-map s.counts (λ (x : Counts). x.steps))
        ∙ within_many (spent s) (budgets plan) reached.within_budgets
        ∙ length-map-range_with_len (λ h. budget_of h plan.starts) 0 plan.harts in
        let there : h < length s.counts = omega (arith, many) in
        let budget : get_or (budgets plan) h 0 ≡ budget_of h plan.starts =
        get_or-map-range_with_len (λ h. budget_of h plan.starts) 0 plan.harts h h 0 low (omega arith) in
        let spent_is : spent d.state ≡ set (spent s) h (suc c.steps) =
        ap (map (λ (x : Counts). x.steps)) step.counts
        ∙ map-set (λ (x : Counts). x.steps) s.counts h (counted d.note c) ∙ ap (set (spent s) h) n in
        let counts_sum : sum_by (λ (x : Counts). x.steps) d.state.counts ≡ sum_by (λ (x : Counts). x.steps)
        (set s.counts h (counted d.note c)) =
        ap (sum_by (λ (x : Counts). x.steps)) step.counts in
        let made_sum : sum_by (λ (r : ReporterState). r.made) d.state.reporters ≡ sum_by (λ (r : ReporterState). r.made)
        s.reporters =
        sym (sum-map (λ (r : ReporterState). r.made) d.state.reporters) ∙ ap sum step.same
        ∙ sum-map (λ (r : ReporterState). r.made) s.reporters in
        record {
          early = (step.before (record { each = reached.early })).each;
          within_budgets = subst (λ xs. AreWithin xs (budgets plan)) (sym spent_is)
              (within_set (spent s) (budgets plan) h (suc c.steps) reached.within_budgets
              (omega (arith, budget, step.allowed)));
          within_limits = subst (λ xs. AreWithin xs (limits plan)) (sym step.same) reached.within_limits;
          total = omega (
            arith,
            step.number,
            reached.total,
            counts_sum,
            made_sum,
            sum_by-set (λ (x : Counts). x.steps) s.counts h (counted d.note c) no_counts there,
            n,
          );
        }

pub reached_reporter : (r : ℕ) (plan : Plan) (s : BoardState) (a : Option Act) (d : Stepped) → IsReached plan s
    → reporter_step r plan a s ≡ Some d → IsReached plan d.state
reached_reporter r plan s a d reached is =
    let step = reporter_makes r plan s a d is in
    reporter_reached r plan s d reached step
  where
    reporter_reached : (r : ℕ) (plan : Plan) (s : BoardState) (d : Stepped) → IsReached plan s
        → ReporterStep r plan s d → IsReached plan d.state
    reporter_reached r plan s d reached step =
        let low = slice_get_within s.reporters r step.was step.there in
        let was : get_or s.reporters r step.was ≡ step.was =
        get_or_from_slice_get s.reporters r step.was step.was step.there in
        let limit : get_or (limits plan) r 0 ≡ step.decl.limit =
        get_or_from_slice_get (limits plan) r step.decl.limit 0
        (slice_get-map (λ (r : plan_reporter.Reporter). r.limit) plan.reporters r
        ∙ ap (option_map (λ (r : plan_reporter.Reporter). r.limit)) step.declared) in
        let made_is : made d.state ≡ set (made s) r (suc step.was.made) =
        ap (map (λ (x : ReporterState). x.made)) step.reporters
        ∙ map-set (λ (x : ReporterState). x.made) s.reporters r (one_more step.was) in
        record {
          early = (step.before (record { each = reached.early })).each;
          within_budgets = subst (λ (cs : List Counts). AreWithin (map (λ c. c.steps) cs) (budgets plan))
              (sym step.counts) reached.within_budgets;
          within_limits = subst (λ xs. AreWithin xs (limits plan)) (sym made_is)
              (within_set (made s) (limits plan) r (suc step.was.made) reached.within_limits
              (omega (arith, limit, step.allowed)));
          total = omega (
            arith,
            step.number,
            reached.total,
            ap (sum_by (λ (x : Counts). x.steps)) step.counts,
            ap (sum_by (λ (x : ReporterState). x.made)) step.reporters,
            sum_by-set (λ (x : ReporterState). x.made) s.reporters r (one_more step.was) step.was low,
            ap (λ (x : ReporterState). x.made) was,
          );
        }

-- ---- All in all ----

more : (f : ℕ → ℕ) (n : ℕ) → sum (map f (range_with_len 0 (suc n))) ≡ sum (map f (range_with_len 0 n)) + f n
more f n =
    ap (λ m. sum (map f (range_with_len 0 m))) (sym (add-one n))
    ∙ ap sum (map-range_with_len_more f 0 n n (omega arith))
    ∙ sum_by_push (λ x. x) (map f (range_with_len 0 n)) (f n)

-- numbers that are those of another function but at one place
abbrev at_one : ℕ → ℕ → (ℕ → ℕ) → ℕ → ℕ
at_one a b k h = cond (a == h) b (k h)

before_it : (a b : ℕ) (k : ℕ → ℕ) (n : ℕ) → n ≤ a
    → sum (map (at_one a b k) (range_with_len 0 n)) ≤ sum (map k (range_with_len 0 n))
before_it a b k zero low = omega arith
before_it a b k (suc n) low =
    let other : at_one a b k n ≡ k n = ap (λ q. cond q b (k n)) (ne_eqb a n (λ e. absurd (omega (arith, e)))) in
    omega (arith, more (at_one a b k) n, more k n, other, before_it a b k n (omega arith))

once : (a b : ℕ) (k : ℕ → ℕ) (n : ℕ)
    → sum (map (at_one a b k) (range_with_len 0 n)) ≤ b + sum (map k (range_with_len 0 n))
once a b k zero = omega arith
once a b k (suc n) =
    elim (cases_eq a n) [
      | inl it ↦
          let here : at_one a b k n ≡ b = ap (λ q. cond q b (k n)) (eq-eqb a n it) in
          omega (arith, more (at_one a b k) n, more k n, here, before_it a b k n (omega (arith, it)))
      | inr other ↦
          let same : at_one a b k n ≡ k n = ap (λ q. cond q b (k n)) (ne_eqb a n other) in
          omega (arith, more (at_one a b k) n, more k n, same, once a b k n)
    ]

none_at_all : (n : ℕ) → sum (map (λ h. 0) (range_with_len 0 n)) ≡ 0
none_at_all zero = refl
none_at_all (suc n) = omega (arith, more (λ h. 0) n, none_at_all n)

-- the harts' budgets are those of starts, each start at most once
budgets_few : (starts : List Start) (n : ℕ)
    → sum (map (λ h. budget_of h starts) (range_with_len 0 n)) ≤ sum_by (λ s. s.budget) starts
budgets_few [] n = omega (arith, none_at_all n)
budgets_few (s ∷ ss) n =
    omega (
      arith,
      once s.hart s.budget (λ h. budget_of h ss) n,
      sum_by-cons (λ (x : Start). x.budget) s ss,
      budgets_few ss n,
    )

pub few_steps : (plan : Plan) (s : BoardState) → IsReached plan s → s.steps ≤ most_steps plan
few_steps plan s reached =
    omega (
      arith,
      reached.total,
      sum-map (λ (c : Counts). c.steps) s.counts,
      sum-map (λ (r : ReporterState). r.made) s.reporters,
      sum-map (λ (r : plan_reporter.Reporter). r.limit) plan.reporters,
      within_sum (spent s) (budgets plan) reached.within_budgets,
      within_sum (made s) (limits plan) reached.within_limits,
      budgets_few plan.starts plan.harts,
    )
