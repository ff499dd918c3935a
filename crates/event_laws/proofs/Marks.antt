-- An event is pending exactly where a step since its last delivery signalled it.
use Rattle.std.proofs.Common.{◌≡◌, ℕ, zero, suc, ◌<◌, Bool, true, false, cond, List, [], ◌∷◌, length, get_or, map, set, slice_get, Option, Some, None, refl, sym, ap, ◌∙◌, subst, inl, inr, arith}
use Rattle.std.specs.Prelude.{◌&&◌, ◌||◌, is_some}
use Rattle.std.proofs.lemmas.Bool.{cases_Bool, both_ways, true≢false}
use Rattle.std.proofs.lemmas.List.{get_or-set_same, get_or-set_other}
use Rattle.sse_base.specs.declared.functions.Function.{Function}
use Rattle.sse_base.specs.declared.functions.Function.TheVariants as functions
use Rattle.sse_base.specs.declared.arrows.Move.{Move}
use Rattle.sse_base.specs.declared.codes.SbiCode.{SbiCode}
use Rattle.sse_base.specs.declared.codes.SbiCode.TheVariants.{Success}
use Rattle.sse_base.specs.declared.ids.Instance.{Instance}
use Rattle.sse_base.specs.Codes.{is_success}
use Rattle.sse_base.specs.Events.{Events, IsOnBoard, is_on_board, is_pending, mark, signal}
use Rattle.sse_base.specs.Functions.{function_of}
use Rattle.sse_base.specs.Ids.{id_of, instance_of, place, same_instance}
use Rattle.sse_base.specs.Contexts.{Stack, newest}
use Rattle.sse_base.specs.Machine.{Machine, Reach}
use Rattle.sse_base.specs.Choice.{next_for, top_urgency}
use Rattle.sse_base.specs.Calls.{Answer, argument_at, call, completed_at, delivered, no_words, padded}
use Rattle.sse_base.proofs.Instances.{same_is}
use Rattle.sbi_sse.proofs.Chosen.{chosen_begins}
use Rattle.sbi_sse.proofs.Counting.{same_place}
use Rattle.ras_device.specs.declared.act.Act.{Act}
use Rattle.board_plan.specs.declared.notes.Step.{Step}
use Rattle.board_plan.specs.declared.notes.Step.TheVariants.{Hart, Reporter}
use Rattle.board_plan.specs.declared.notes.StepNote.{StepNote}
use Rattle.board_plan.specs.declared.notes.StepNote.TheVariants as note
use Rattle.board_plan.specs.declared.plan.BankDecl.{BankDecl}
use Rattle.board_plan.specs.declared.plan.Plan.{Plan}
use Rattle.board_plan.specs.Ops.{past}
use Rattle.board_plan.specs.Plans.{IsPlan}
use Rattle.board_plan.specs.Run.{noted, notes, ran, run, state_after}
use Rattle.board_plan.specs.Sound.{is_move_of}
use Rattle.board_plan.specs.State.{BoardState, start_state}
use Rattle.board_plan.specs.Step.{Stepped, board_reach, event_signalled, signal_event, step}
use Rattle.event_laws.specs.Pending.{EachMarkIsTold, at_home, delivered_by, is_inject, is_of, pending_after, pending_with, signalled_by}
use Rattle.event_laws.proofs.Beginning.{start_keeps}
use Rattle.event_laws.proofs.Calls.{call_cases}
use Rattle.event_laws.proofs.Lasting.{instances_last, step_lasts}
use Rattle.event_laws.proofs.Outcomes.{StepCases, act_cases, hart_made, is_drains, is_plain, own_cases, reporter_made}
use Rattle.event_laws.proofs.Standing.{Keeps, step_keeps}

-- ---- Marks ----

marked : (at i : Instance) (b : Bool) (t : Events) → length t.marks ≡ length t.instances → IsOnBoard at t
    → is_pending at (mark i b t) ≡ cond (same_instance i at) b (is_pending at t)
marked at i b t marks on =
    elim (cases_Bool (same_instance i at)) [
      | inl same ↦
          let is : i ≡ at = same_is i at same in
          let low : place i t.instances < length t.marks =
          subst (λ (x : Instance). place x t.instances < length t.marks) (sym is) (omega (arith, on, marks)) in
          let new : List Bool = set t.marks (place i t.instances) b in
          rw same (ap (λ (x : Instance). get_or new (place x t.instances) false) (sym is)
          ∙ get_or-set_same t.marks (place i t.instances) b false low)
      | inr other ↦
          rw other (get_or-set_other t.marks (place i t.instances) (place at t.instances) b false
          (λ same. both_ways (same_instance i at) other
          (same_place at i t.instances same (omega (arith, same, on)))))
    ]

-- ---- Notes that tell of no signal and no delivery ----

quiet_note : (plan : Plan) (at : Instance) (by : Step) (n : StepNote) (was : Bool) → delivered_by by n ≡ None
    → signalled_by plan n ≡ None → was ≡ pending_with plan at (record { by = by; note = n }) was
quiet_note plan at by n was no_delivery no_signal =
    sym (ap (λ (o : Option Instance). cond (is_of at o) false (is_of at (signalled_by plan n) || was)) no_delivery
    ∙ ap (λ (o : Option Instance). is_of at o || was) no_signal)

drains_deliver : (h : ℕ) (n : StepNote) → is_drains n ≡ true → delivered_by (Hart h) n ≡ None
drains_deliver h (note.Deliver id) is = absurd (true≢false (sym is))
drains_deliver h n is = refl

drains_signal : (plan : Plan) (n : StepNote) → is_drains n ≡ true → signalled_by plan n ≡ None
drains_signal plan (note.Signal bank level id) is = absurd (true≢false (sym is))
drains_signal plan (note.Call eid fid args code written) is = absurd (true≢false (sym is))
drains_signal plan (note.Raise id h true) is = absurd (true≢false (sym is))
drains_signal plan n is = refl

plain_deliver : (h : ℕ) (n : StepNote) → is_plain n ≡ true → delivered_by (Hart h) n ≡ None
plain_deliver h (note.Deliver id) is = absurd (true≢false (sym is))
plain_deliver h n is = refl

plain_signal : (plan : Plan) (n : StepNote) → is_plain n ≡ true → signalled_by plan n ≡ None
plain_signal plan (note.Signal bank level id) is = absurd (true≢false (sym is))
plain_signal plan (note.Call eid fid args code written) is = absurd (true≢false (sym is))
plain_signal plan (note.Raise id h true) is = absurd (true≢false (sym is))
plain_signal plan n is = refl

moves_inject : (f : Option Function) (mv : Move) → is_move_of f mv ≡ true → is_inject f ≡ false
moves_inject (Some functions.Inject) mv is = absurd (true≢false (sym is))
moves_inject f mv is = refl

or_cond : (b was : Bool) → cond b true was ≡ (b || was)
or_cond true was = refl
or_cond false was = refl

-- ---- A hart's step ----

module _
    (plan : Plan) (m : Machine) (h : ℕ) (x : Stack) (k : Keeps m) (at : Instance) (on : IsOnBoard at m.events)
  where
    abbrev own : Reach
    own = record { stack = x; events = m.events; masks = m.masks; memory = m.memory }

    abbrev IsTold : Reach → StepNote → Type 0
    IsTold q n =
        is_pending at q.events ≡ pending_with plan at (record { by = Hart h; note = n }) (is_pending at m.events)

    abbrev quiet : (n : StepNote) → delivered_by (Hart h) n ≡ None → signalled_by plan n ≡ None
        → is_pending at m.events ≡ pending_with plan at (record { by = Hart h; note = n }) (is_pending at m.events)
    quiet n no_delivery no_signal = quiet_note plan at (Hart h) n (is_pending at m.events) no_delivery no_signal

    signals : (bank level : ℕ) (d : BankDecl) → slice_get plan.banks bank ≡ Some d → (o : Option ℕ)
        → is_pending at (signal_event d.home m.events o)
        ≡ pending_with plan at (record { by = Hart h; note = note.Signal bank level o }) (is_pending at m.events)
    signals bank level d known None =
        quiet (note.Signal bank level None) refl (ap (λ (b : Option BankDecl). at_home b None) known)
    signals bank level d known (Some id) =
        marked at (instance_of id d.home) true m.events k.marks on
        ∙ or_cond (same_instance (instance_of id d.home) at) (is_pending at m.events)
        ∙ sym (ap (λ (b : Option BankDecl). is_of at (at_home b (Some id)) || is_pending at m.events) known)

    delivers : (new : Instance) → next_for h own ≡ Some new → IsTold (delivered h new own) (note.Deliver (id_of new).0)
    delivers new next =
        let t = m.events in
        let b = chosen_begins h t m.masks m.stacks m.masks (top_urgency x.frames t) new k.kept next in
        marked at new false t k.marks on
        ∙ ap (λ (y : Instance). cond (same_instance y at) false (is_pending at t))
        (sym (k.proper.meant h new b.on_board b.may_run))

    completes : (o : Option Instance) (r : Reach) → is_pending at (completed_at o r).events ≡ is_pending at r.events
    completes None r = refl
    completes (Some i) r = refl

    -- a call that injects nothing
    quiet_call : (eid fid : ℕ) (args : List ℕ) (code : SbiCode) (written : List ℕ)
        → (is_success code && is_inject (function_of fid)) ≡ false
        → is_pending at m.events
        ≡ pending_with plan at (record { by = Hart h; note = note.Call eid fid args code written })
        (is_pending at m.events)
    quiet_call eid fid args code written no_inject =
        quiet (note.Call eid fid args code written) refl
        (ap (λ (b : Bool). cond b (Some (instance_of (argument_at args 0) (argument_at args 1))) None) no_inject)

    calls : (r : Reach) (eid fid : ℕ) (args : List ℕ) (stacks : List Stack) → r.events ≡ m.events
        → IsTold (call h eid fid args stacks r).reach
        (note.Call eid fid args (call h eid fid args stacks r).code (call h eid fid args stacks r).written)
    calls r eid fid args stacks same =
        let was : is_pending at r.events ≡ is_pending at m.events = ap (is_pending at) same in
        call_cases (λ (a : Answer). IsTold a.reach (note.Call eid fid args a.code a.written)) h eid fid args stacks r
        (record {
          refuses = λ code bad.
              was ∙ quiet_call eid fid args code no_words (ap (λ (b : Bool). b && is_inject (function_of fid)) bad);
          reads = λ memory is. was ∙ quiet_call eid fid args Success no_words (ap is_inject is);
          writes = λ i base words here is named write. was
              ∙ quiet_call eid fid args Success (padded words) (ap is_inject is);
          makes_move = λ i mv state new named move is.
              was ∙ quiet_call eid fid args Success no_words (moves_inject (function_of fid) mv move.of_call);
          completes = λ here is.
              completes (newest r.stack.frames) r ∙ was
              ∙ quiet_call eid fid args Success no_words (ap is_inject is);
          injects = λ i is named.
              (let new = instance_of (argument_at args 0) (argument_at args 1) in
              ap (λ (t : Events). is_pending at (signal new t)) same
              ∙ marked at new true m.events k.marks on
              ∙ or_cond (same_instance new at) (is_pending at m.events)
              ∙ sym (ap (λ (f : Option Function). is_of at (cond (is_inject f) (Some new) None)
              || is_pending at m.events) is));
          unmasks = λ is. was ∙ quiet_call eid fid args Success no_words (ap is_inject is);
          masks = λ is. was ∙ quiet_call eid fid args Success no_words (ap is_inject is);
        })

    tells : (stacks : List Stack) → StepCases h plan stacks own IsTold
    tells stacks =
        record {
          drains = λ n is. quiet n (drains_deliver h n is) (drains_signal plan n is);
          signals = λ bank level d known. signals bank level d known (event_signalled d m.events level);
          delivers = delivers;
          executes = λ none. record {
            plain = λ n to memory is. quiet n (plain_deliver h n is) (plain_signal plan n is);
            sets = λ reg value. refl;
            loads = λ reg word. refl;
            srets = refl;
            calls = λ eid fid args. calls (past own) eid fid args stacks refl;
          };
        }

-- ---- Any step ----

raise_if : (plan : Plan) (r : ℕ) (t : Events) (at : Instance) → length t.marks ≡ length t.instances → IsOnBoard at t
    → (id h : ℕ) (b : Bool)
    → is_pending at (signal_event h t (cond b (Some id) None))
    ≡ pending_with plan at (record { by = Reporter r; note = note.Raise id h (is_some (cond b (Some id) None)) })
    (is_pending at t)
raise_if plan r t at marks on id h true =
    marked at (instance_of id h) true t marks on ∙ or_cond (same_instance (instance_of id h) at) (is_pending at t)
raise_if plan r t at marks on id h false = refl

abbrev TellsNext : Plan → Instance → BoardState → Step → Stepped → Type 0
TellsNext plan at s t d =
    is_pending at d.state.machine.events
    ≡ pending_with plan at (record { by = t; note = d.note }) (is_pending at s.machine.events)

step_tells : (plan : Plan) (acts : ℕ → List Act) (t : Step) (s : BoardState) (d : Stepped) (at : Instance)
    → Keeps s.machine → IsOnBoard at s.machine.events → step plan acts t s ≡ Some d → TellsNext plan at s t d
step_tells plan acts (Hart h) s d at k on is =
    let made = hart_made plan acts h s d is in
    subst (TellsNext plan at s (Hart h)) (sym made.is)
    (own_cases (λ (q : Reach) (n : StepNote). is_pending at q.events
    ≡ pending_with plan at (record { by = Hart h; note = n }) (is_pending at s.machine.events)) h plan
    s.machine.stacks (board_reach made.stack s) made.made
    (tells plan s.machine h made.stack k at on s.machine.stacks) made.makes)
step_tells plan acts (Reporter r) s d at k on is =
    let made = reporter_made plan acts r s d is in
    subst (TellsNext plan at s (Reporter r)) (sym made.is)
    (act_cases (λ (t : Events) (n : StepNote). is_pending at t
    ≡ pending_with plan at (record { by = Reporter r; note = n }) (is_pending at s.machine.events)) plan s made.next
    (record {
      reports = λ report logged. refl;
      raises = λ id h.
          raise_if plan r s.machine.events at k.marks on id h (is_on_board (instance_of id h) s.machine.events);
    }))

-- ---- Runs ----

-- the steps after a try tell, so those from the try on do
abbrev TellsOn : Plan → (ℕ → List Act) → Instance → List Step → BoardState → Type 0
TellsOn plan acts at ts s =
    Keeps s.machine → IsOnBoard at s.machine.events
    → is_pending at (run plan acts s ts).machine.events
    ≡ pending_after plan at (is_pending at s.machine.events) (notes plan acts s ts)

try_tells : (plan : Plan) (acts : ℕ → List Act) (t : Step) (ts : List Step) (s : BoardState) (at : Instance)
    → Keeps s.machine → IsOnBoard at s.machine.events → ((u : BoardState) → TellsOn plan acts at ts u)
    → (o : Option Stepped) → step plan acts t s ≡ o
    → is_pending at (run plan acts (state_after s o) ts).machine.events
    ≡ pending_after plan at (is_pending at s.machine.events) (noted t o (notes plan acts (state_after s o) ts))
try_tells plan acts t ts s at k on rest None is = rest s k on
try_tells plan acts t ts s at k on rest (Some d) is =
    rest d.state (step_keeps plan acts t s d is k)
    (subst (λ (is : List Instance). place at is < length is) (sym (step_lasts plan acts t s d is)) on)
    ∙ ap (λ (b : Bool). pending_after plan at b (notes plan acts d.state ts)) (step_tells plan acts t s d at k on is)

run_tells : (plan : Plan) (acts : ℕ → List Act) (tries : List Step) (s : BoardState) (at : Instance)
    → TellsOn plan acts at tries s
run_tells plan acts [] s at k on = refl
run_tells plan acts (t ∷ ts) s at k on =
    try_tells plan acts t ts s at k on (λ u. run_tells plan acts ts u at) (step plan acts t s) refl

unmarked : (xs : List Instance) (i : ℕ) → get_or (map (λ (at : Instance). false) xs) i false ≡ false
unmarked [] i = refl
unmarked (x ∷ xs) zero = refl
unmarked (x ∷ xs) (suc i) = unmarked xs i

pub each_mark_is_told : (plan : Plan) (acts : ℕ → List Act) (tries : List Step) → IsPlan plan
    → EachMarkIsTold plan (ran plan acts tries)
unfolding ran
each_mark_is_told plan acts tries p at on =
    let s = start_state plan in
    let there : IsOnBoard at s.machine.events =
    subst (λ (is : List Instance). place at is < length is) (instances_last plan acts tries) on in
    run_tells plan acts tries s at (start_keeps plan p) there
    ∙ ap (λ (b : Bool). pending_after plan at b (notes plan acts s tries))
    (unmarked s.machine.events.instances (place at s.machine.events.instances))
