-- The plan of a script is one that a board can be made of.
use Rattle.std.proofs.Common.{◌≡◌, ℕ, zero, suc, ◌+◌, ◌*◌, ◌<◌, ◌≤◌, ◌==◌, ◌⊎◌, inl, inr, Bool, true, false, ◌||◌, if◌then◌else◌, List, [], ◌∷◌, ◌++◌, length, slice_get, Option, Some, None, IfOk, Result, Ok, Err, refl, sym, ap, ◌∙◌, subst, arith, length-append, sum_by}
use Rattle.std.proofs.lemmas.Bool.{eqb-true, eq-eqb, or_left, or_right, or_from, and_from, not_from_false, true≢false}
use Rattle.std.proofs.lemmas.Option.{none-some}
use Rattle.std.specs.List.{list_any}
use Rattle.std.proofs.lemmas.List.Sums.{sum_by-cons}
use Rattle.std.proofs.lemmas.List.Folds.{list_any-append}
use Rattle.sse_base.specs.declared.events.EventDecl.{EventDecl}
use Rattle.sse_base.specs.Start.{has_id, are_distinct}
use Rattle.reri_fields.specs.declared.report.Report.{Report}
use Rattle.ras_device.specs.declared.act.Act.{Act}
use Rattle.ras_device.specs.declared.act.Act.TheVariants.{Error}
use Rattle.board_plan.specs.declared.plan.BankDecl.{BankDecl}
use Rattle.board_plan.specs.declared.plan.RecDecl.{RecDecl}
use Rattle.board_plan.specs.declared.plan.Start.{Start}
use Rattle.board_plan.specs.declared.plan.Reporter.{Reporter}
use Rattle.board_plan.specs.declared.plan.Plan.{Plan}
use Rattle.board_plan.specs.Script.{has_event, is_number, total_budget, steps_of, most_harts, most_records, Reads}
use Rattle.board_plan.specs.Plans.{IsPlan, AreNamedOnce, AreReports, named_by}
use Rattle.board_plan.specs.Run.{acts_from, lists}
use Rattle.board_plan.specs.declared.notes.Step.{Step}
use Rattle.board_plan.specs.declared.notes.Step.TheVariants as step
use Rattle.move_laws.specs.Moves.{GathersByVersion}
use Rattle.board_script.specs.Reading.{IsOfBoard, EntriesAreOfBoard}
use Rattle.board_script.proofs.Chains.{Each, Each-at, EachFits}
use Rattle.board_script.proofs.Fits.{DeviceFits, devices_of, EventFits, RecFits, StartFits, ActFits, SourceFits, ReporterFits, StepFits, PlanFits}
use Rattle.board_script.proofs.Tables.{total_budget-added}
use Rattle.board_script.proofs.Kept.{script_fits}

-- ---- Events ----

events_few : (before es : List EventDecl) → length before ≤ 8 → EachFits EventFits before es
    → length before + length es ≤ 8
events_few before [] few f = omega arith
events_few before (e ∷ es) few f =
    let room : length before < 8 = f.0.room in
    let more : length (before ++ e ∷ []) ≡ length before + 1 = length-append before (e ∷ []) in
    omega (arith, events_few (before ++ e ∷ []) es (omega arith) f.1)

other_id : (e d : ℕ) (before : List EventDecl) (b : Bool) → (e == d) ≡ b → has_event d before ≡ true
    → has_event e before ≡ false → b ≡ false
other_id e d before false is there fresh = refl
other_id e d before true is there fresh =
    let same : e ≡ d = eqb-true e d is in
    let no : has_event d before ≡ false = ap (λ i. has_event i before) (sym same) ∙ fresh in
    cc

there_still : (id : ℕ) (before : List EventDecl) (e : EventDecl) → has_event id before ≡ true
    → has_event id (before ++ e ∷ []) ≡ true
unfolding has_event
there_still id before e there =
    list_any-append (λ (d : EventDecl). d.id.0 == id) before (e ∷ []) ∙ or_left _ _ there

there_now : (before : List EventDecl) (e : EventDecl) → has_event e.id.0 (before ++ e ∷ []) ≡ true
unfolding has_event
there_now before e =
    list_any-append (λ (d : EventDecl). d.id.0 == e.id.0) before (e ∷ [])
    ∙ or_right _ _ (ap (λ b. b || false) (eq-eqb e.id.0 e.id.0 refl))

-- an id that was there is none of the further ones
not_again : (id : ℕ) (before es : List EventDecl) → has_event id before ≡ true → EachFits EventFits before es
    → has_id id es ≡ false
not_again id before [] there f = refl
not_again id before (e ∷ es) there f =
    or_from (e.id.0 == id) (has_id id es) (other_id e.id.0 id before _ refl there f.0.fresh)
    (not_again id (before ++ e ∷ []) es (there_still id before e there) f.1)

distinct : (before es : List EventDecl) → EachFits EventFits before es → are_distinct es ≡ true
distinct before [] f = refl
distinct before (e ∷ es) f =
    and_from _ _ (not_from_false _ (not_again e.id.0 (before ++ e ∷ []) es (there_now before e) f.1))
    (distinct (before ++ e ∷ []) es f.1)

-- ---- Sums ----

budgets_low : (harts : ℕ) (before ss : List Start) → total_budget before ≤ 80000 → EachFits (StartFits harts) before ss
    → total_budget before + sum_by (λ s. s.budget) ss ≤ 80000
budgets_low harts before [] low f = omega arith
budgets_low harts before (s ∷ ss) low f =
    let room : total_budget before + s.budget ≤ 80000 = f.0.room in
    let more : total_budget (before ++ s ∷ []) ≡ total_budget before + s.budget = total_budget-added before s in
    let sum = sum_by-cons (λ (t : Start). t.budget) s ss in
    omega (arith, budgets_low harts (before ++ s ∷ []) ss (omega arith) f.1)

source_low : (device : Option ℕ) (limit : ℕ) (acts : List Act) → SourceFits device limit acts → limit ≤ 10000
source_low None limit acts f = f.1
source_low (Some k) limit acts f = f.1

limits_low : (rs : List Reporter) → Each ReporterFits rs → sum_by (λ r. r.limit) rs ≤ 10000 * length rs
limits_low [] f = omega arith
limits_low (r ∷ rs) f =
    let low : r.limit ≤ 10000 = source_low r.device r.limit r.acts f.0 in
    let sum = sum_by-cons (λ (t : Reporter). t.limit) r rs in
    omega (arith, limits_low rs f.1)

-- ---- Devices ----

-- a device that is named already isn't named again
not_named_again : (before : List (Option ℕ)) (rs : List Reporter) (k i : ℕ) → list_any (is_number k) before ≡ true
    → EachFits DeviceFits before (devices_of rs) → named_by (slice_get rs i) ≡ Some k → ⊥
not_named_again before [] k i there f named = none-some k named
not_named_again before (r ∷ rs) k zero there f named =
    true≢false (sym there ∙ subst (DeviceFits before) named f.0)
not_named_again before (r ∷ rs) k (suc i) there f named =
    not_named_again (before ++ r.device ∷ []) rs k i
    (list_any-append (is_number k) before (r.device ∷ []) ∙ or_left _ _ there) f.1 named

named_now : (before : List (Option ℕ)) (device : Option ℕ) (k : ℕ) → device ≡ Some k
    → list_any (is_number k) (before ++ device ∷ []) ≡ true
unfolding is_number
named_now before device k e =
    ap (λ d. list_any (is_number k) (before ++ d ∷ [])) e
    ∙ list_any-append (is_number k) before (Some k ∷ [])
    ∙ or_right _ _ (ap (λ b. b || false) (eq-eqb k k refl))

named_once : (before : List (Option ℕ)) (rs : List Reporter) → EachFits DeviceFits before (devices_of rs)
    → AreNamedOnce rs
named_once before [] f i j k here there = absurd (none-some k here)
named_once before (r ∷ rs) f zero zero k here there = refl
named_once before (r ∷ rs) f zero (suc j) k here there =
    absurd (not_named_again (before ++ r.device ∷ []) rs k j (named_now before r.device k here) f.1 there)
named_once before (r ∷ rs) f (suc i) zero k here there =
    absurd (not_named_again (before ++ r.device ∷ []) rs k i (named_now before r.device k there) f.1 here)
named_once before (r ∷ rs) f (suc i) (suc j) k here there =
    ap suc (named_once (before ++ r.device ∷ []) rs f.1 i j k here there)

-- ---- The whole ----

pub records_few : (version : ℕ) → most_records version ≤ 63
records_few version = few (version == 1)
  where
    few : (b : Bool) → (if b then 16 else 63) ≤ 63
    few true = omega arith
    few false = omega arith

pub harts_few : (version : ℕ) → most_harts version ≤ 32
harts_few version = few (version == 1)
  where
    few : (b : Bool) → (if b then 8 else 32) ≤ 32
    few true = omega arith
    few false = omega arith

controls_low : (banks : List BankDecl) (before rs : List RecDecl) → EachFits (RecFits banks) before rs
    → Each (λ r. r.control ≤ 0xff) rs
controls_low banks before [] f = tt
controls_low banks before (r ∷ rs) f = (f.0.control, controls_low banks (before ++ r ∷ []) rs f.1)

none : total_budget [] ≤ 80000
unfolding total_budget
none = omega arith

no_budgets : total_budget [] ≡ 0
unfolding total_budget
no_budgets = refl

pub script_is_plan : (text : List ℕ) (p : Plan) → Reads text p → IsPlan p
script_is_plan text p e =
    let f = script_fits text p e in
    record {
      harts = f.head.some;
      few_harts = omega (arith, harts_few p.version, f.head.few);
      few_events = let few = events_few [] p.events (omega arith) f.events in omega arith;
      distinct = distinct [] p.events f.events;
      few_banks = f.banks.few;
      banks = λ i d is_d. let g = Each-at _ p.banks i d f.banks.each is_d in
          record {
            home = g.home;
            some = g.some;
            few = omega (arith, records_few p.version, g.few);
            gathers = g.gather.0;
            gathers_few = g.gather.1;
          };
      controls = λ i r is_r. Each-at _ p.recs i r (controls_low p.banks [] p.recs f.recs) is_r;
      few_reporters = f.reporters.few;
      named_once = named_once [] p.reporters f.reporters.devices;
      few_steps =
          let starts = budgets_low p.harts [] p.starts none f.starts in
          let limits = limits_low p.reporters f.reporters.each in
          omega (arith, starts, limits, f.reporters.few, no_budgets);
    }

-- ---- Acts ----

error_low : (a : Act) (r : Report) → a ≡ Error r → ActFits a → r.priority < 4
error_low a r e f = let g = subst ActFits e f in omega (arith, g.priority)

act_low : (device : Option ℕ) (limit : ℕ) (acts : List Act) (i : ℕ) (r : Report) → SourceFits device limit acts
    → slice_get (acts_from [] (Some (record { device = device; limit = limit; acts = acts }))) i ≡ Some (Error r)
    → r.priority < 4
act_low None limit acts i r f e = error_low (Error r) r refl (Each-at ActFits acts i (Error r) f.2 e)
act_low (Some k) limit acts i r f e = cc

pub script_has_reports : (text : List ℕ) (p : Plan) → Reads text p → AreReports (lists p [])
script_has_reports text p e n i r is = at (slice_get p.reporters n) refl is
  where
    f : PlanFits p
    f = script_fits text p e

    at : (o : Option Reporter) → slice_get p.reporters n ≡ o → slice_get (acts_from [] o) i ≡ Some (Error r)
        → r.priority < 4
    at None is_o got = cc
    at (Some s) is_o got =
        act_low s.device s.limit s.acts i r (Each-at ReporterFits p.reporters n s f.reporters.each is_o) got

-- ---- The schedule ----

step_named : (p : Plan) (t : Step) → StepFits p.harts (length p.reporters) t → IsOfBoard p t
step_named p (step.Hart h) f = f.0
step_named p (step.Reporter r) f = f.0

script_names : (text : List ℕ) (p : Plan) → Reads text p → EntriesAreOfBoard p
script_names text p e i t is_t =
    step_named p t (Each-at _ (steps_of p.schedule) i t (script_fits text p e).schedule.each is_t)

-- ---- What banks gather ----

by_version : (p : Plan) → PlanFits p → (p.version ≡ 1) ⊎ (p.version ≡ 2) → GathersByVersion p
by_version p f (inl one) = inr (one, λ i d is. (Each-at _ p.banks i d f.banks.each is).gather.2 one)
by_version p f (inr two) = inl two

script_gathers : (text : List ℕ) (p : Plan) → Reads text p → GathersByVersion p
script_gathers text p e = let f = script_fits text p e in by_version p f f.head.known

-- ---- What is answered ----

module _ {E : Type 0} (text : List ℕ) where
  pub answered_plan : (r : Result Plan E) → IfOk r (λ p. Reads text p) → IfOk r (λ p. IsPlan p)
  answered_plan (Ok p) e = script_is_plan text p e
  answered_plan (Err x) e = tt

  pub answered_reports : (r : Result Plan E) → IfOk r (λ p. Reads text p) → IfOk r (λ p. AreReports (lists p []))
  answered_reports (Ok p) e = script_has_reports text p e
  answered_reports (Err x) e = tt

  pub answered_entries : (r : Result Plan E) → IfOk r (λ p. Reads text p) → IfOk r (λ p. EntriesAreOfBoard p)
  answered_entries (Ok p) e = script_names text p e
  answered_entries (Err x) e = tt

  pub answered_gathers : (r : Result Plan E) → IfOk r (λ p. Reads text p) → IfOk r (λ p. GathersByVersion p)
  answered_gathers (Ok p) e = script_gathers text p e
  answered_gathers (Err x) e = tt
