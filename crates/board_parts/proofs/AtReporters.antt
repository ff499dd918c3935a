-- What the parts of a reporter's step make of the board.
use Rattle.std.proofs.Common.{◌≡◌, ℕ, suc, ◌<◌, ◌≤◌, ◌&&◌, nat_lt, Bool, true, false, List, length, get_or, set, slice_get, Option, Some, None, refl, sym, ap, ◌∙◌, subst, arith}
use Rattle.std.specs.Option.{option_map}
use Rattle.std.specs.Prelude.{unwrap_or}
use Rattle.std.proofs.lemmas.Bool.{cond-true, cond-false}
use Rattle.std.proofs.lemmas.List.{length-map}
use Rattle.std.proofs.lemmas.Option.{same_Some, slice_get-map, slice_get_read, slice_get_past}
use Rattle.reri_fields.specs.declared.report.Report.{Report}
use Rattle.reri_fields.specs.Drain.BankTry.{Reports}
use Rattle.reri_bank.proofs.Stands.{get_there}
use Rattle.ras_device.specs.declared.act.Act.{Act}
use Rattle.board_plan.specs.declared.notes.StepNote.{StepNote}
use Rattle.board_plan.specs.declared.notes.StepNote.TheVariants as note
use Rattle.board_plan.specs.declared.plan.Reporter as plan_reporter
use Rattle.board_plan.specs.declared.plan.Plan.{Plan}
use Rattle.board_plan.specs.State.{BoardState, ReporterState}
use Rattle.board_plan.specs.Step.{Effect, after_reporter, at_bank, is_wanted, on_act, on_error, one_more, reporter_step, wants, with_one_more}
use Rattle.board_ops.specs.Indexes.{Indexes}
use Rattle.board_parts.specs.declared.outcome.Outcome.{Outcome}
use Rattle.board_parts.specs.declared.parts.Parts.{Parts}
use Rattle.board_parts.specs.Shows.{AreBanks, Shows}
use Rattle.board_parts.specs.Came.{Takes, Steps, came as came_of, outcome_of, with_act_counted, with_effect_on}

-- ---- An error ----

error_of : (plan : Plan) (s : BoardState) (q : Parts) (report : Report) (o : Option Effect) (came : Option Outcome)
    → Takes plan s o q came
    → Takes plan s (Some (unwrap_or o (record {
      events = s.machine.events;
      banks = s.banks;
      note = note.Error report
          None;
      published = None;
    }))) q
    (Some (unwrap_or came (outcome_of (note.Error report None) None)))
error_of plan s q report None came takes =
    record {
      outcome = ap (λ c. Some (unwrap_or c (outcome_of
          (note.Error report None) None))) takes.outcome;
      shows = takes.shows;
    }
error_of plan s q report (Some e) came takes =
    record {
      outcome = ap (λ c. Some (unwrap_or c (outcome_of
          (note.Error report None) None))) takes.outcome;
      shows = takes.shows;
    }

error_takes : (plan : Plan) (s : BoardState) (q : Parts) (report : Report) (came : Option Outcome) (last : Outcome)
    → Takes plan s (at_bank report.bank (Reports (record { step = suc s.steps; report = report })) plan
    s.machine.events s.banks) q came
    → last ≡ unwrap_or came (outcome_of (note.Error report None) None)
    → Takes plan s (Some (on_error plan report s)) q (Some last)
error_takes plan s q report came last takes told =
    subst (λ c. Takes plan s (Some (on_error plan report s)) q (Some c)) (sym told)
    (error_of plan s q report (at_bank report.bank (Reports (record { step = suc s.steps; report = report })) plan
    s.machine.events s.banks) came takes)

-- where the board has the bank, and where it hasn't
pub error_made : (plan : Plan) (s : BoardState) (q : Parts) (report : Report) (made : Bool) (n : StepNote) → made ≡ true
    → Takes plan s (at_bank report.bank (Reports (record { step = suc s.steps; report = report })) plan
    s.machine.events s.banks) q (came_of made (outcome_of n None))
    → Takes plan s (Some (on_error plan report s)) q (Some (outcome_of n None))
error_made plan s q report made n is takes =
    error_takes plan s q report (Some (outcome_of n None)) (outcome_of n None)
    (subst (λ b. Takes plan s (at_bank report.bank (Reports (record { step = suc s.steps; report = report })) plan
    s.machine.events s.banks) q (came_of b (outcome_of n None))) is takes) refl

pub error_stray : (plan : Plan) (s : BoardState) (q : Parts) (report : Report) (made : Bool) (n : StepNote)
    → made ≡ false
    → Takes plan s (at_bank report.bank (Reports (record { step = suc s.steps; report = report })) plan
    s.machine.events s.banks) q (came_of made (outcome_of n None))
    → Takes plan s (Some (on_error plan report s)) q (Some (outcome_of (note.Error report None) None))
error_stray plan s q report made n is takes =
    error_takes plan s q report None (outcome_of (note.Error report None) None)
    (subst (λ b. Takes plan s (at_bank report.bank (Reports (record { step = suc s.steps; report = report })) plan
    s.machine.events s.banks) q (came_of b (outcome_of n None))) is takes) refl

-- ---- Whether a reporter is wanted ----

reporters_many : (plan : Plan) (s : BoardState) (p : Parts) → Shows plan s p
    → length p.limits.items ≡ length plan.reporters
reporters_many plan s p shows =
    ap length shows.limits_are ∙ length-map plan.reporters (λ (r : plan_reporter.Reporter). r.limit)

pub no_reporter : (plan : Plan) (s : BoardState) (p : Parts) (r : ℕ) → Shows plan s p → length p.reporters.items ≤ r
    → wants plan r s ≡ false
unfolding wants
no_reporter plan s p r shows past =
    let none : slice_get plan.reporters r ≡ None =
    slice_get_past plan.reporters r (omega (arith, p.limited, reporters_many plan s p shows)) in
    let nowhere : slice_get s.reporters r ≡ None =
    slice_get_past s.reporters r (omega (arith, ap (λ (xs : List ReporterState). length xs) shows.reporters)) in
    ap (λ (o : Option plan_reporter.Reporter). is_wanted o (slice_get s.reporters r)) none ∙ ap (is_wanted None) nowhere

reporter_is : (plan : Plan) (s : BoardState) (p : Parts) (r : ℕ) (x : ReporterState) → Shows plan s p
    → r < length p.reporters.items → x ≡ get_or p.reporters.items r x → slice_get s.reporters r ≡ Some x
reporter_is plan s p r x shows low read =
    ap (λ (xs : List ReporterState). slice_get xs r) (sym shows.reporters)
    ∙ slice_get_read p.reporters.items (length p.reporters.items) r x refl low read

pub reporter_wanted : (plan : Plan) (s : BoardState) (p : Parts) (r : ℕ) (x : ReporterState) (y : ℕ) → Shows plan s p
    → r < length p.reporters.items → x ≡ get_or p.reporters.items r x → y ≡ get_or p.limits.items r y
    → wants plan r s ≡ (x.plugged && nat_lt x.made y)
unfolding wants
reporter_wanted plan s p r x y shows low read limit =
    let d = get_there plan.reporters r (omega (arith, p.limited, reporters_many plan s p shows)) in
    let is : Some y ≡ Some d.0.limit =
    sym (slice_get_read p.limits.items (length p.limits.items) r y refl (omega (arith, p.limited)) limit)
    ∙ ap (λ (ls : List ℕ). slice_get ls r) shows.limits_are
    ∙ slice_get-map (λ (d : plan_reporter.Reporter). d.limit) plan.reporters r
    ∙ ap (option_map (λ (d : plan_reporter.Reporter). d.limit)) d.1 in
    ap (λ (o : Option plan_reporter.Reporter). is_wanted o (slice_get s.reporters r)) d.1
    ∙ ap (is_wanted (Some d.0)) (reporter_is plan s p r x shows low read)
    ∙ ap (λ l. x.plugged && nat_lt x.made l) (sym (same_Some y d.0.limit is))

-- an act is counted
pub act_counted : (plan : Plan) (s : BoardState) (p q : Parts) (r : ℕ) (x : ReporterState) → Shows plan s p
    → r < length p.reporters.items → x ≡ get_or p.reporters.items r x → q.firmware ≡ p.firmware → q.index ≡ p.index
    → q.decls.items ≡ p.decls.items → q.banks.items ≡ p.banks.items → q.budgets.items ≡ p.budgets.items
    → q.counts.items ≡ p.counts.items → q.limits.items ≡ p.limits.items
    → q.reporters.items ≡ set p.reporters.items r (one_more x) → Shows plan (with_act_counted r s true) q
act_counted plan s p q r x shows low read firmware index decls banks budgets counts limits reporters =
    record {
      machine = firmware ∙ shows.machine;
      index = subst (Indexes plan.ops) (sym index) shows.index;
      decls = decls ∙ shows.decls;
      banks = subst (AreBanks plan s.banks) (sym banks) shows.banks;
      budgets_are = budgets ∙ shows.budgets_are;
      counts = counts ∙ shows.counts;
      limits_are = limits ∙ shows.limits_are;
      reporters = reporters ∙ ap (λ (xs : List ReporterState). set xs r (one_more x)) shows.reporters
          ∙ ap (with_one_more r s.reporters) (sym (reporter_is plan s p r x shows low read));
    }

-- ---- A step ----

pub no_act : (plan : Plan) (s : BoardState) (p : Parts) (r : ℕ) (a : Option Act) → Shows plan s p → a ≡ None
    → Steps plan s (reporter_step r plan a s) p None
unfolding reporter_step
no_act plan s p r a shows is =
    subst (λ b. Steps plan s (reporter_step r plan b s) p None) (sym is) (record { outcome = refl; shows = shows })

pub unwanted : (plan : Plan) (s : BoardState) (p : Parts) (r : ℕ) (a : Option Act) (next : Act) → Shows plan s p
    → a ≡ Some next
    → wants plan r s ≡ false → Steps plan s (reporter_step r plan a s) p None
unfolding reporter_step
unwanted plan s p r a next shows is not_wanted =
    let none : reporter_step r plan a s ≡ None =
    ap (λ b. reporter_step r plan b s) is
    ∙ cond-false (wants plan r s) (Some (after_reporter r s (on_act plan s next))) None not_wanted in
    subst (λ o. Steps plan s o p None) (sym none) (record { outcome = refl; shows = shows })

with_steps : (plan : Plan) (s : BoardState) (q : Parts) (n : ℕ) → Shows plan s q → Shows plan (record s { steps = n }) q
with_steps plan s q n shows =
    record {
      machine = shows.machine;
      index = shows.index;
      decls = shows.decls;
      banks = shows.banks;
      budgets_are = shows.budgets_are;
      counts = shows.counts;
      limits_are = shows.limits_are;
      reporters = shows.reporters;
    }

pub makes_act : (plan : Plan) (s : BoardState) (q : Parts) (r : ℕ) (a : Option Act) (next : Act) (came : Outcome)
    → a ≡ Some next
    → wants plan r s ≡ true → Takes plan (with_act_counted r s true) (Some (on_act plan s next)) q (Some came)
    → Steps plan s (reporter_step r plan a s) q (Some came)
unfolding reporter_step
makes_act plan s q r a next came is wanted takes =
    let e = on_act plan s next in
    let made : reporter_step r plan a s ≡ Some (after_reporter r s e) =
    ap (λ b. reporter_step r plan b s) is ∙ cond-true (wants plan r s) (Some (after_reporter r s e)) None wanted in
    subst (λ o. Steps plan s o q (Some came)) (sym made)
    (record {
      outcome = takes.outcome;
      shows = with_steps plan (with_effect_on (with_act_counted r s true) e) q
          (suc s.steps) takes.shows;
    })
