-- What a step can do to the machine: a property of what a hart's step leaves of its reach, or of the events that a
-- reporter's step leaves, and of its note, holds if it holds of each kind of outcome.
use Rattle.std.proofs.Common.{◌≡◌, ℕ, suc, ◌+◌, ◌%◌, ◌^◌, Bool, true, false, cond, List, slice_get, Option, Some, None, nat_lt, refl, sym, subst}
use Rattle.std.specs.Prelude.{◌&&◌, unwrap_or, is_some}
use Rattle.std.specs.Option.{option_map}
use Rattle.std.proofs.lemmas.Bool.{cond_both}
use Rattle.std.proofs.lemmas.Option.{none-some, same_Some}
use Rattle.sse_base.specs.declared.ids.Instance.{Instance}
use Rattle.sse_base.specs.Ids.{id_of}
use Rattle.sse_base.specs.Contexts.{Stack, with_pc}
use Rattle.sse_base.specs.Events.{Events}
use Rattle.sse_base.specs.Machine.{Reach}
use Rattle.sse_base.specs.Choice.{next_for}
use Rattle.sse_base.specs.Words.{load, store}
use Rattle.sse_base.specs.Calls.{call, delivered, with_events, with_memory}
use Rattle.reri_fields.specs.declared.drain.DrainNote.{DrainNote}
use Rattle.reri_fields.specs.declared.drain.DrainNote.TheVariants as drain
use Rattle.reri_fields.specs.declared.report.Logged.{Logged}
use Rattle.reri_fields.specs.declared.report.Report.{Report}
use Rattle.reri_fields.specs.Records.{Error}
use Rattle.reri_fields.specs.Drain.{BankNote, BankPlan, BankState, BankStep, BankTry, Draining, bank_step, drained_by, due_drain}
use Rattle.reri_fields.specs.Drain.BankNote.{Heard, Drew, Acknowledged}
use Rattle.reri_fields.specs.Drain.BankTry.{Reports, Drains, Acknowledges}
use Rattle.ras_device.specs.declared.act.Act.{Act}
use Rattle.ras_device.specs.declared.act.Act.TheVariants as act
use Rattle.board_plan.specs.declared.notes.Step.TheVariants.{Hart, Reporter}
use Rattle.board_plan.specs.declared.notes.StepNote.{StepNote}
use Rattle.board_plan.specs.declared.notes.StepNote.TheVariants as note
use Rattle.board_plan.specs.declared.ops.Op.{Op}
use Rattle.board_plan.specs.declared.ops.Op.TheVariants as ops
use Rattle.board_plan.specs.declared.ops.Reg.{Reg}
use Rattle.board_plan.specs.declared.plan.BankDecl.{BankDecl}
use Rattle.board_plan.specs.declared.plan.Plan.{Plan}
use Rattle.board_plan.specs.State.{BoardState, ReporterState, bank_plan, budget_of, counts_of}
use Rattle.board_plan.specs.Ops.{Done, done, on_stack, is_user, needs_supervisor, op_at, past, register, returned, set_register, loaded, stored, risen, jumped}
use Rattle.board_plan.specs.Step.{BoardReach, Made, Effect, Stepped, quietly, bank_effect, bank_note, event_signalled, events_after, signal_event, on_board, tried_at, at_bank, bank_due, with_effect, unplugged, apply, allowed, on_chosen, on_due, own_step, after_hart, board_reach, step_of, hart_step, on_act, on_error, wants, after_reporter, reporter_step, next_act, step}

-- ---- Notes ----

-- the notes of a drain's steps, but for the last one
abbrev pub is_drains : StepNote → Bool
is_drains (note.Scan bank rec) = true
is_drains (note.Claim bank rec) = true
is_drains (note.Read bank rec register) = true
is_drains (note.Check bank rec torn) = true
is_drains (note.Invalidate bank rec cleared) = true
is_drains n = false

-- the notes of ops that leave registers, handlers and events: but for the pc nothing changes, or a word of memory
abbrev pub is_plain : StepNote → Bool
is_plain note.Nop = true
is_plain (note.Save addr value) = true
is_plain (note.Store addr value) = true
is_plain (note.Inc addr value) = true
is_plain (note.Jump pc) = true
is_plain (note.Jlt taken) = true
is_plain (note.Ack bank was) = true
is_plain (note.Unplug reporter was) = true
is_plain note.Illegal = true
is_plain note.Fault = true
is_plain n = false

-- ---- A hart's op ----

-- a plain op: another pc, and perhaps another memory
abbrev pub gone_on : ℕ → List ℕ → Reach → Reach
gone_on pc memory r = with_memory memory (on_stack (with_pc pc) r)

-- what an op on a hart that is past it leaves
pub record OpCases (h : ℕ) (stacks : List Stack) (r : Reach) (P : Reach → StepNote → Type 0) : Type 0 where
  pub plain : (n : StepNote) (pc : ℕ) (memory : List ℕ) → is_plain n ≡ true → P (gone_on pc memory r) n
  pub sets : (reg : Reg) (value : ℕ) → P (on_stack (set_register reg value) r) (note.Set reg value)
  pub loads : (reg : Reg) (word : ℕ) → P (on_stack (set_register reg word) r)
      (note.Load reg (register reg (set_register reg word r.stack)))
  pub srets : P (on_stack returned r) note.Sret
  pub calls : (eid fid : ℕ) (args : List ℕ) → P (call h eid fid args stacks r).reach
      (note.Call eid fid args (call h eid fid args stacks r).code (call h eid fid args stacks r).written)

-- what a hart's step leaves: one of a drain, a drain's signal, a delivery, or an op
pub record StepCases (h : ℕ) (plan : Plan) (stacks : List Stack) (r : Reach) (P : Reach → StepNote → Type 0)
    : Type 0 where
  pub drains : (n : StepNote) → is_drains n ≡ true → P r n
  pub signals : (bank level : ℕ) (d : BankDecl) → slice_get plan.banks bank ≡ Some d
      → P (with_events (signal_event d.home r.events (event_signalled d r.events level)) r)
      (note.Signal bank level (event_signalled d r.events level))
  pub delivers : (at : Instance) → next_for h r ≡ Some at → P (delivered h at r) (note.Deliver (id_of at).0)
  pub executes : next_for h r ≡ None → OpCases h stacks (past r) P

-- ---- Proofs ----

some_mapped : {A B : Type 0} (P : B → Type 0) (f : A → B) (o : Option A) (y : B) → option_map f o ≡ Some y
    → ((x : A) → o ≡ Some x → P (f x)) → P y
some_mapped P f None y is all = absurd (none-some y is)
some_mapped P f (Some x) y is all = subst P (same_Some (f x) y is) (all x refl)

-- a bank's try that was made
tried : (P : Effect → Type 0) (plan : Plan) (bank : ℕ) (t : BankTry) (events : Events) (banks : List BankState)
    → ((d : BankDecl) (b : BankState) (s : BankStep) → slice_get plan.banks bank ≡ Some d
    → bank_step (bank_plan bank d plan.recs) b t ≡ Some s → P (bank_effect bank d events banks s))
    → (od : Option BankDecl) (ob : Option BankState) → slice_get plan.banks bank ≡ od → (e : Effect)
    → tried_at bank t plan events banks od ob ≡ Some e → P e
tried P plan bank t events banks all None ob known e is = absurd (none-some e is)
tried P plan bank t events banks all (Some d) None known e is = absurd (none-some e is)
tried P plan bank t events banks all (Some d) (Some b) known e is =
    some_mapped P (bank_effect bank d events banks) (bank_step (bank_plan bank d plan.recs) b t) e is
    (λ s made. all d b s known made)

pub at_bank_cases : (P : Effect → Type 0) (plan : Plan) (bank : ℕ) (t : BankTry) (events : Events)
    (banks : List BankState)
    → ((d : BankDecl) (b : BankState) (s : BankStep) → slice_get plan.banks bank ≡ Some d
    → bank_step (bank_plan bank d plan.recs) b t ≡ Some s → P (bank_effect bank d events banks s))
    → (e : Effect) → at_bank bank t plan events banks ≡ Some e → P e
unfolding at_bank
at_bank_cases P plan bank t events banks all e is =
    tried P plan bank t events banks all (slice_get plan.banks bank) (slice_get banks bank) refl e is

-- the bank's own notes, by what was tried
record IsDrew (n : BankNote) : Type 0 where
  rec : ℕ
  drain_note : DrainNote
  is : n ≡ Drew rec drain_note

drew_if : (plan : BankPlan) (b : BankState) (o : Option Draining) (s : BankStep) → drained_by plan b o ≡ Some s
    → IsDrew s.note
drew_if plan b None s is = absurd (none-some s is)
drew_if plan b (Some d) s is =
    subst (λ (x : BankStep). IsDrew x.note) (same_Some _ s is) (record { rec = d.rec; drain_note = _; is = refl })

drains_drew : (plan : BankPlan) (b : BankState) (s : BankStep) → bank_step plan b Drains ≡ Some s → IsDrew s.note
unfolding bank_step
drains_drew plan b s is = drew_if plan b (due_drain plan b b.drain) s is

record IsAcknowledged (n : BankNote) : Type 0 where
  full : Bool
  is : n ≡ Acknowledged full

acknowledges : (plan : BankPlan) (b : BankState) (s : BankStep) → bank_step plan b Acknowledges ≡ Some s
    → IsAcknowledged s.note
unfolding bank_step
acknowledges plan b s is =
    subst (λ (x : BankStep). IsAcknowledged x.note) (same_Some _ s is) (record { full = _; is = refl })

record IsHeard (n : BankNote) : Type 0 where
  report : Report
  logged : Option Logged
  is : n ≡ Heard report logged

hears : (plan : BankPlan) (b : BankState) (error : Error) (s : BankStep) → bank_step plan b (Reports error) ≡ Some s
    → IsHeard s.note
unfolding bank_step
hears plan b error s is =
    subst (λ (x : BankStep). IsHeard x.note) (same_Some _ s is) (record { report = _; logged = _; is = refl })

module _ (P : Reach → StepNote → Type 0) (h : ℕ) (plan : Plan) (stacks : List Stack) where
  -- one step of a drain
  drain_case : (r : Reach) → StepCases h plan stacks r P → (bank rec : ℕ) (d : BankDecl)
      → slice_get plan.banks bank ≡ Some d → (n : DrainNote)
      → P (with_events (events_after d r.events (Drew rec n)) r) (bank_note bank d r.events (Drew rec n))
  drain_case r c bank rec d known (drain.Scanned found) = c.drains _ refl
  drain_case r c bank rec d known drain.Over = c.drains _ refl
  drain_case r c bank rec d known drain.Claimed = c.drains _ refl
  drain_case r c bank rec d known (drain.Read register) = c.drains _ refl
  drain_case r c bank rec d known drain.Torn = c.drains _ refl
  drain_case r c bank rec d known (drain.Published copy) = c.drains _ refl
  drain_case r c bank rec d known (drain.Invalidated cleared) = c.drains _ refl
  drain_case r c bank rec d known (drain.Signal level) = c.signals bank level d known

  drained_case : (r : BoardReach) → StepCases h plan stacks r.own P → (bank : ℕ) (e : Effect)
      → at_bank bank Drains plan r.own.events r.banks ≡ Some e → P (with_events e.events r.own) e.note
  drained_case r c bank e is =
      at_bank_cases (λ (x : Effect). P (with_events x.events r.own) x.note) plan bank Drains r.own.events r.banks
      (λ d b s known made.
      let drew = drains_drew (bank_plan bank d plan.recs) b s made in
      subst (λ (n : BankNote). P (with_events (events_after d r.own.events n) r.own) (bank_note bank d r.own.events n))
      (sym drew.is) (drain_case r.own c bank drew.rec d known drew.drain_note)) e is

  -- ops

  stored_case : (r : Reach) → OpCases h stacks r P → (n : StepNote) → is_plain n ≡ true → (o : Option (List ℕ))
      → P (stored r n o).reach (stored r n o).note
  stored_case r c n plain None = c.plain note.Fault r.stack.live.pc r.memory refl
  stored_case r c n plain (Some memory) = c.plain n r.stack.live.pc memory plain

  loaded_case : (r : Reach) → OpCases h stacks r P → (reg : Reg) (o : Option ℕ)
      → P (loaded reg r o).reach (loaded reg r o).note
  loaded_case r c reg None = c.plain note.Fault r.stack.live.pc r.memory refl
  loaded_case r c reg (Some word) = c.loads reg word

  risen_case : (r : Reach) → OpCases h stacks r P → (addr : ℕ) (o : Option ℕ)
      → P (risen addr r o).reach (risen addr r o).note
  risen_case r c addr None = c.plain note.Fault r.stack.live.pc r.memory refl
  risen_case r c addr (Some word) =
      stored_case r c (note.Inc addr ((word + 1) % 2 ^ 64)) refl (store r.memory addr ((word + 1) % 2 ^ 64))

  jumped_case : (r : Reach) → OpCases h stacks r P → (value pc : ℕ) (o : Option ℕ)
      → P (jumped value pc r o).reach (jumped value pc r o).note
  jumped_case r c value pc None = c.plain note.Fault r.stack.live.pc r.memory refl
  jumped_case r c value pc (Some word) =
      cond_both (nat_lt word value) (done (on_stack (with_pc pc) r) (note.Jlt true)) (done r (note.Jlt false))
      (λ (d : Done). P d.reach d.note) (λ below. c.plain (note.Jlt true) pc r.memory refl)
      (λ above. c.plain (note.Jlt false) r.stack.live.pc r.memory refl)

  acknowledged_case : (r : BoardReach) → OpCases h stacks r.own P → (bank : ℕ) (o : Option Effect)
      → at_bank bank Acknowledges plan r.own.events r.banks ≡ o
      → P (unwrap_or (option_map (with_effect r) o) (quietly r (note.Ack bank None))).reach.own
      (unwrap_or (option_map (with_effect r) o) (quietly r (note.Ack bank None))).note
  acknowledged_case r c bank None is = c.plain (note.Ack bank None) r.own.stack.live.pc r.own.memory refl
  acknowledged_case r c bank (Some e) is =
      at_bank_cases (λ (x : Effect). P (with_events x.events r.own) x.note) plan bank Acknowledges r.own.events r.banks
      (λ d b s known made.
      let told = acknowledges (bank_plan bank d plan.recs) b s made in
      subst (λ (n : BankNote). P (with_events (events_after d r.own.events n) r.own) (bank_note bank d r.own.events n))
      (sym told.is) (c.plain (note.Ack bank (Some told.full)) r.own.stack.live.pc r.own.memory refl)) e is

  unplugged_case : (r : BoardReach) → OpCases h stacks r.own P → (reporter : ℕ) (o : Option ReporterState)
      → P (unplugged reporter r o).reach.own (unplugged reporter r o).note
  unplugged_case r c reporter None =
      c.plain (note.Unplug reporter false) r.own.stack.live.pc r.own.memory refl
  unplugged_case r c reporter (Some x) =
      c.plain (note.Unplug reporter x.plugged) r.own.stack.live.pc r.own.memory refl

  applied_case : (r : BoardReach) → OpCases h stacks r.own P → (op : Op)
      → P (apply h plan stacks r op).reach.own (apply h plan stacks r op).note
  applied_case r c ops.Nop = c.plain note.Nop r.own.stack.live.pc r.own.memory refl
  applied_case r c (ops.Sbi eid fid args) = c.calls eid fid args
  applied_case r c (ops.Set reg value) = c.sets reg value
  applied_case r c (ops.Load reg addr) = loaded_case r.own c reg (load r.own.memory addr)
  applied_case r c (ops.Save reg addr) =
      let value = register reg r.own.stack in
      stored_case r.own c (note.Save addr value) refl (store r.own.memory addr value)
  applied_case r c (ops.Store addr value) =
      stored_case r.own c (note.Store addr value) refl (store r.own.memory addr value)
  applied_case r c (ops.Inc addr) = risen_case r.own c addr (load r.own.memory addr)
  applied_case r c (ops.Jump pc) = c.plain (note.Jump pc) pc r.own.memory refl
  applied_case r c (ops.Jlt addr value pc) = jumped_case r.own c value pc (load r.own.memory addr)
  applied_case r c ops.Sret = c.srets
  applied_case r c (ops.Ack bank) =
      acknowledged_case r c bank (at_bank bank Acknowledges plan r.own.events r.banks) refl
  applied_case r c (ops.Unplug reporter) = unplugged_case r c reporter (slice_get r.reporters reporter)

  allowed_case : (r : BoardReach) → OpCases h stacks (past r.own) P → (op : Op)
      → P (allowed h plan stacks r op).reach.own (allowed h plan stacks r op).note
  allowed_case r c op =
      let next : BoardReach = record r { own = past r.own } in
      cond_both (is_user r.own.stack.live.privilege && needs_supervisor op) (quietly next note.Illegal)
      (apply h plan stacks next op) (λ (m : Made). P m.reach.own m.note)
      (λ not_for_it. c.plain note.Illegal next.own.stack.live.pc next.own.memory refl)
      (λ for_it. applied_case next c op)

  chosen_case : (r : BoardReach) → StepCases h plan stacks r.own P → (o : Option Instance) → next_for h r.own ≡ o
      → (m : Made) → on_chosen h plan stacks r o ≡ Some m → P m.reach.own m.note
  chosen_case r c None none m is =
      some_mapped (λ (x : Made). P x.reach.own x.note) (allowed h plan stacks r)
      (op_at r.own.stack.live.pc plan.ops) m is (λ op there. allowed_case r (c.executes none) op)
  chosen_case r c (Some at) next m is =
      subst (λ (x : Made). P x.reach.own x.note) (same_Some _ m is) (c.delivers at next)

  due_case : (r : BoardReach) → StepCases h plan stacks r.own P → (o : Option ℕ) (m : Made)
      → on_due h plan stacks r o ≡ Some m → P m.reach.own m.note
  due_case r c None m is = chosen_case r c (next_for h r.own) refl m is
  due_case r c (Some bank) m is =
      some_mapped (λ (x : Made). P x.reach.own x.note) (with_effect r)
      (at_bank bank Drains plan r.own.events r.banks) m is (λ e made. drained_case r c bank e made)

-- a hart's own step
pub own_cases : (P : Reach → StepNote → Type 0) (h : ℕ) (plan : Plan) (stacks : List Stack) (r : BoardReach) (m : Made)
    → StepCases h plan stacks r.own P → own_step h plan stacks r ≡ Some m → P m.reach.own m.note
own_cases P h plan stacks r m c is = due_case P h plan stacks r c (bank_due h plan r.banks) m is

-- ---- A hart's step on its board ----

-- a step that a hart made: its stack, and what it left
pub record HartMade (plan : Plan) (h : ℕ) (s : BoardState) (d : Stepped) : Type 0 where
  pub stack : Stack
  pub made : Made
  pub there : slice_get s.machine.stacks h ≡ Some stack
  pub makes : own_step h plan s.machine.stacks (board_reach stack s) ≡ Some made
  pub is : d ≡ after_hart h s made

cond_some : {A : Type 0} (b : Bool) (o : Option A) (x : A) → cond b o None ≡ Some x → o ≡ Some x
cond_some true o x is = is
cond_some false o x is = absurd (none-some x is)

stack_made : (plan : Plan) (h : ℕ) (s : BoardState) (d : Stepped) (o : Option Stack)
    → slice_get s.machine.stacks h ≡ o → step_of h plan s o ≡ Some d → HartMade plan h s d
stack_made plan h s d None there is = absurd (none-some d is)
stack_made plan h s d (Some stack) there is =
    let o = own_step h plan s.machine.stacks (board_reach stack s) in
    some_mapped (HartMade plan h s) (after_hart h s) o d
    (cond_some (nat_lt (counts_of h s).steps (budget_of h plan.starts)) (option_map (after_hart h s) o) d is)
    (λ m makes. record { stack = stack; made = m; there = there; makes = makes; is = refl })

pub hart_made : (plan : Plan) (acts : ℕ → List Act) (h : ℕ) (s : BoardState) (d : Stepped)
    → step plan acts (Hart h) s ≡ Some d → HartMade plan h s d
unfolding step hart_step
hart_made plan acts h s d is = stack_made plan h s d (slice_get s.machine.stacks h) refl is

-- ---- A reporter's step ----

-- the events that it leaves, and its note
pub record ActCases (t : Events) (P : Events → StepNote → Type 0) : Type 0 where
  pub reports : (report : Report) (logged : Option Logged) → P t (note.Error report logged)
  pub raises : (id h : ℕ) → P (signal_event h t (on_board h t (Some id)))
      (note.Raise id h (is_some (on_board h t (Some id))))

error_case : (P : Events → StepNote → Type 0) (plan : Plan) (report : Report) (s : BoardState)
    → ActCases s.machine.events P → (o : Option Effect)
    → at_bank report.bank (Reports (record { step = suc s.steps; report = report })) plan s.machine.events s.banks ≡ o
    → (e : Effect) → e ≡ unwrap_or o (record {
      events = s.machine.events;
      banks = s.banks;
      note = note.Error report None;
      published = None;
    }) → P e.events e.note
error_case P plan report s c None is e same =
    subst (λ (x : Effect). P x.events x.note) (sym same) (c.reports report None)
error_case P plan report s c (Some effect) is e same =
    subst (λ (x : Effect). P x.events x.note) (sym same)
    (at_bank_cases (λ (x : Effect). P x.events x.note) plan report.bank
    (Reports (record { step = suc s.steps; report = report })) s.machine.events s.banks
    (λ d b made known makes.
    let heard = hears (bank_plan report.bank d plan.recs) b (record { step = suc s.steps; report = report }) made
    makes in
    subst (λ (n : BankNote). P (events_after d s.machine.events n) (bank_note report.bank d s.machine.events n))
    (sym heard.is) (c.reports heard.report heard.logged)) effect is)

pub act_cases : (P : Events → StepNote → Type 0) (plan : Plan) (s : BoardState) (a : Act)
    → ActCases s.machine.events P → P (on_act plan s a).events (on_act plan s a).note
act_cases P plan s (act.Error report) c =
    error_case P plan report s c (at_bank report.bank (Reports (record { step = suc s.steps; report = report })) plan
    s.machine.events s.banks) refl (on_error plan report s) refl
act_cases P plan s (act.Raise id h) c = c.raises id h

-- a step that a reporter made: its act
pub record ReporterMade (plan : Plan) (r : ℕ) (s : BoardState) (d : Stepped) : Type 0 where
  pub next : Act
  pub wanted : wants plan r s ≡ true
  pub is : d ≡ after_reporter r s (on_act plan s next)

wanted_made : (plan : Plan) (r : ℕ) (s : BoardState) (d : Stepped) (a : Act) (b : Bool) → wants plan r s ≡ b
    → cond b (Some (after_reporter r s (on_act plan s a))) None ≡ Some d → ReporterMade plan r s d
wanted_made plan r s d a true wanted is = record { next = a; wanted = wanted; is = sym (same_Some _ d is) }
wanted_made plan r s d a false wanted is = absurd (none-some d is)

act_made : (plan : Plan) (r : ℕ) (s : BoardState) (d : Stepped) (o : Option Act) → reporter_step r plan o s ≡ Some d
    → ReporterMade plan r s d
unfolding reporter_step
act_made plan r s d None is = absurd (none-some d is)
act_made plan r s d (Some a) is = wanted_made plan r s d a (wants plan r s) refl is

pub reporter_made : (plan : Plan) (acts : ℕ → List Act) (r : ℕ) (s : BoardState) (d : Stepped)
    → step plan acts (Reporter r) s ≡ Some d → ReporterMade plan r s d
unfolding step
reporter_made plan acts r s d is = act_made plan r s d (next_act acts r s) is
