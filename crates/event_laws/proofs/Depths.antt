-- A hart has no more handlers than the plan has events, and only its own steps change what it runs.
use Rattle.std.proofs.Common.{◌≡◌, ℕ, zero, suc, ◌+◌, ◌<◌, ◌≤◌, Bool, true, false, List, [], ◌∷◌, length, get_or, ltb, slice_get, Some, refl, sym, ap, ◌∙◌, subst, inl, inr, length-append, arith}
use Rattle.std.specs.Prelude.{filter, ◌==◌}
use Rattle.std.specs.List.{flat_map}
use Rattle.std.proofs.lemmas.Bool.{cases_Bool, cases_lt, eq-eqb, le-ltb, true≢false}
use Rattle.std.proofs.lemmas.Bool.Decides.{nat_tests}
use Rattle.std.proofs.lemmas.List.Elements.{filter-append}
use Rattle.std.proofs.lemmas.Option.{slice_get_within, get_or_from_slice_get}
use Rattle.sse_base.specs.declared.ids.EventId.{EventId}
use Rattle.sse_base.specs.declared.ids.Instance.{Instance}
use Rattle.sse_base.specs.declared.ids.Instance.TheVariants.{Local}
use Rattle.sse_base.specs.declared.events.EventDecl.{EventDecl}
use Rattle.sse_base.specs.Ids.{in_order, instances_of_event, is_global, may_run_on, on_harts}
use Rattle.sse_base.specs.Contexts.{Stack, bit}
use Rattle.sse_base.specs.Events.{event, is_running}
use Rattle.sse_base.specs.Machine.{Machine}
use Rattle.sse_table.proofs.Orders.{order_length}
use Rattle.sbi_sse.specs.Kept.{times, ats}
use Rattle.sbi_sse.proofs.Counting.{ats_length, no_longer, part_of_running, passing, placed_stands}
use Rattle.sbi_sse.proofs.Keeps.{runs_on_board}
use Rattle.ras_device.specs.declared.act.Act.{Act}
use Rattle.board_plan.specs.declared.notes.Step.{Step}
use Rattle.board_plan.specs.declared.notes.Step.TheVariants.{Hart, Reporter}
use Rattle.board_plan.specs.declared.plan.Plan.{Plan}
use Rattle.board_plan.specs.Plans.{IsPlan}
use Rattle.board_plan.specs.Run.{ran}
use Rattle.board_plan.specs.State.{BoardState}
use Rattle.board_plan.specs.Step.{Stepped}
use Rattle.event_laws.specs.Depth.{EachNestIsFew, EachStepLeavesOthers}
use Rattle.event_laws.proofs.Beginning.{run_keeps_machine}
use Rattle.event_laws.proofs.Lasting.{instances_last}
use Rattle.event_laws.proofs.Outcomes.{hart_made, reporter_made}
use Rattle.event_laws.proofs.Standing.{Keeps, framed_runs, set_other}

-- ---- Each event has one instance for a hart at most ----

on_one : (id : EventId) (h n : ℕ) → length (filter (may_run_on h) (on_harts id n)) ≡ bit (ltb h n)
on_one id h zero = rw (le-ltb h 0 (omega arith)) refl
on_one id h (suc n) =
    let last : length (filter (may_run_on h) (Local id n ∷ [])) ≡ bit (n == h) =
    elim (cases_Bool (n == h)) [ inl e ↦ rw e refl | inr e ↦ rw e refl ] in
    let whole : bit (ltb h (suc n)) ≡ bit (ltb h n) + bit (n == h) = grind (arith, nat_tests) in
    omega (
      arith,
      ap length (filter-append (may_run_on h) (on_harts id n) (Local id n ∷ [])),
      length-append (filter (may_run_on h) (on_harts id n)) (filter (may_run_on h) (Local id n ∷ [])),
      on_one id h n,
    )

at_most_one : (b : Bool) → bit b ≤ 1
at_most_one true = omega arith
at_most_one false = omega arith

event_few : (n : ℕ) (id : EventId) (h : ℕ) → length (filter (may_run_on h) (instances_of_event n id)) ≤ 1
event_few n id h =
    elim (cases_Bool (is_global id.0)) [
      | inl whole ↦ rw whole (omega arith)
      | inr own ↦ rw own (omega (arith, on_one id h n, at_most_one (ltb h n)))
    ]

all_few : (n h : ℕ) (ds : List EventDecl)
    → length (filter (may_run_on h) (flat_map (λ d. instances_of_event n d.id) ds)) ≤ length ds
all_few n h [] = omega arith
all_few n h (d ∷ ds) =
    let rest : List Instance = flat_map (λ e. instances_of_event n e.id) ds in
    omega (
      arith,
      ap length (filter-append (may_run_on h) (instances_of_event n d.id) rest),
      length-append (filter (may_run_on h) (instances_of_event n d.id)) (filter (may_run_on h) rest),
      event_few n d.id h,
      all_few n h ds,
    )

-- ---- A hart's handlers are of different instances, each of which may run there ----

one_frame : (m : Machine) (h : ℕ) (s : Stack) (x : Instance) → Keeps m → slice_get m.stacks h ≡ Some s
    → times x (ats s.frames) ≤ times x (filter (may_run_on h) m.events.instances)
one_frame m h s x k there =
    elim (cases_lt 0 (times x (ats s.frames))) [
      | inl some ↦
          let runs = framed_runs m.events m.masks m.stacks h s x k.kept there some in
          let low : h < length m.stacks = slice_get_within m.stacks h s there in
          let own : get_or m.stacks h s ≡ s = get_or_from_slice_get m.stacks h s s there in
          let here : 0 < times x (ats (get_or m.stacks h s).frames) =
          subst (λ (y : Stack). 0 < times x (ats y.frames)) (sym own) some in
          let same : times x (ats (get_or m.stacks h s).frames) ≡ times x (ats s.frames) =
          ap (λ (y : Stack). times x (ats y.frames)) own in
          omega (
            arith,
            same,
            part_of_running x m.stacks h s low,
            k.kept.framed x,
            at_most_one (is_running (event x m.events).state),
            placed_stands x m.events.instances (runs_on_board x m.events k.kept.each runs),
            passing h x m.events.instances (k.kept.own h s x low here),
          )
      | inr none ↦ omega (arith, none)
    ]

few_frames : (m : Machine) (h : ℕ) (s : Stack) → Keeps m → slice_get m.stacks h ≡ Some s
    → length s.frames ≤ length (filter (may_run_on h) m.events.instances)
few_frames m h s k there =
    omega (
      arith,
      ats_length s.frames,
      no_longer (ats s.frames) (filter (may_run_on h) m.events.instances) (λ x. one_frame m h s x k there),
    )

pub each_nest_is_few : (plan : Plan) (acts : ℕ → List Act) (tries : List Step) → IsPlan plan
    → EachNestIsFew plan (ran plan acts tries).state
each_nest_is_few plan acts tries p h x there =
    let m = (ran plan acts tries).state.machine in
    omega (
      arith,
      few_frames m h x (run_keeps_machine plan acts tries p) there,
      ap (λ (is : List Instance). length (filter (may_run_on h) is)) (instances_last plan acts tries),
      all_few plan.harts h (in_order plan.events),
      order_length plan.events,
    )

-- ---- Others ----

pub others_stay : (plan : Plan) (acts : ℕ → List Act) (s : BoardState) → EachStepLeavesOthers plan acts s
others_stay plan acts s (Hart k) d h is other =
    let made = hart_made plan acts k s d is in
    ap (λ (e : Stepped). slice_get e.state.machine.stacks h) made.is
    ∙ set_other s.machine.stacks k h made.made.reach.own.stack
    (λ same. true≢false (sym (eq-eqb k h (sym same)) ∙ other))
others_stay plan acts s (Reporter r) d h is other =
    let made = reporter_made plan acts r s d is in
    ap (λ (e : Stepped). slice_get e.state.machine.stacks h) made.is

pub each_step_leaves_others : (plan : Plan) (acts : ℕ → List Act) (tries : List Step) → IsPlan plan
    → EachStepLeavesOthers plan acts (ran plan acts tries).state
each_step_leaves_others plan acts tries p = others_stay plan acts (ran plan acts tries).state
