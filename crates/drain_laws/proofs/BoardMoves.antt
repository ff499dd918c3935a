-- What a step of a board makes of its banks: nothing, or a step of one of them.
use Rattle.std.proofs.Common.{◌≡◌, ℕ, suc, ◌+◌, ◌%◌, ◌^◌, ◌&&◌, Bool, true, false, cond, List, set, slice_get, Option, Some, None, nat_lt, refl, sym, ap, subst}
use Rattle.std.specs.Prelude.{unwrap_or}
use Rattle.std.specs.Option.{option_map}
use Rattle.std.proofs.lemmas.Option.{none-some, same_Some}
use Rattle.sse_base.specs.declared.ids.Instance.{Instance}
use Rattle.sse_base.specs.Contexts.{Stack, with_pc}
use Rattle.sse_base.specs.Events.{Events}
use Rattle.sse_base.specs.Machine.{Reach}
use Rattle.sse_base.specs.Choice.{next_for}
use Rattle.sse_base.specs.Words.{load, store}
use Rattle.reri_fields.specs.declared.report.Report.{Report}
use Rattle.reri_fields.specs.Records.{Error}
use Rattle.reri_fields.specs.Drain.{BankState, BankStep, BankTry, bank_step}
use Rattle.reri_fields.specs.Drain.BankTry.{Reports, Drains, Acknowledges}
use Rattle.ras_device.specs.declared.act.Act.{Act}
use Rattle.ras_device.specs.declared.act.Act.TheVariants as act
use Rattle.board_plan.specs.declared.notes.Published.{Published}
use Rattle.board_plan.specs.declared.notes.Step.{Step}
use Rattle.board_plan.specs.declared.notes.Step.TheVariants.{Hart, Reporter}
use Rattle.board_plan.specs.declared.notes.StepNote.{StepNote}
use Rattle.board_plan.specs.declared.notes.StepNote.TheVariants as note
use Rattle.board_plan.specs.declared.ops.Op.{Op}
use Rattle.board_plan.specs.declared.ops.Op.TheVariants as ops
use Rattle.board_plan.specs.declared.ops.Reg.{Reg}
use Rattle.board_plan.specs.declared.plan.BankDecl.{BankDecl}
use Rattle.board_plan.specs.declared.plan.Plan.{Plan}
use Rattle.board_plan.specs.State.{BoardState, ReporterState, bank_plan, budget_of, counts_of}
use Rattle.board_plan.specs.Ops.{Done, done, on_stack, is_user, needs_supervisor, op_at, past, register, loaded, save, stored, store_word, risen, jumped}
use Rattle.board_plan.specs.Step.{BoardReach, Made, Effect, Stepped, quietly, bank_effect, bank_note, published_by, tried_at, at_bank, bank_due, with_effect, unplugged, on_own, apply, allowed, on_chosen, on_due, own_step, after_hart, board_reach, step_of, hart_step, on_act, wants, after_reporter, reporter_step, next_act, step}

-- ---- What is made of banks ----

-- a note that tells of no step of a bank, but that an error may have come to one that isn't there
abbrev pub is_apart : StepNote → Bool
is_apart (note.Scan bank rec) = false
is_apart (note.Claim bank rec) = false
is_apart (note.Read bank rec register) = false
is_apart (note.Check bank rec torn) = false
is_apart (note.Invalidate bank rec cleared) = false
is_apart (note.Signal bank level id) = false
is_apart (note.Ack bank (Some full)) = false
is_apart n = true

-- How a try comes to a bank: a drain by the hart that it is due for, an acknowledgement by any hart, an error by the
-- reporter whose next act it is, with the number of its step.
abbrev pub Comes : Plan → (ℕ → List Act) → Step → BoardState → ℕ → BankTry → Type 0
Comes plan acts (Hart h) s bank (Reports error) = ⊥
Comes plan acts (Hart h) s bank Drains = bank_due h plan s.banks ≡ Some bank
Comes plan acts (Hart h) s bank Acknowledges = Unit {0}
Comes plan acts (Reporter r) s bank (Reports error) =
    (error.step ≡ suc s.steps) × (error.report.bank ≡ bank) × (next_act acts r s ≡ Some (act.Error error.report))
Comes plan acts (Reporter r) s bank Drains = ⊥
Comes plan acts (Reporter r) s bank Acknowledges = ⊥

-- a bank made a step: the banks before and after, the note, and the copy that it published
pub record AtBank (plan : Plan) (comes : ℕ → BankTry → Type 0) (before after : List BankState) (n : StepNote)
    (p : Option Published) : Type 0 where
  pub bank : ℕ
  pub come : BankTry
  pub decl : BankDecl
  pub state : BankState
  pub made : BankStep
  pub events : Events
  pub known : slice_get plan.banks bank ≡ Some decl
  pub there : slice_get before bank ≡ Some state
  pub makes : bank_step (bank_plan bank decl plan.recs) state come ≡ Some made
  pub after_is : after ≡ set before bank made.state
  pub note_is : n ≡ bank_note bank decl events made.note
  pub published_is : p ≡ published_by bank made.note
  pub by : comes bank come

pub data Touches (plan : Plan) (comes : ℕ → BankTry → Type 0) (before after : List BankState) (n : StepNote)
    (p : Option Published) : Type 0 where
  apart : is_apart n ≡ true → after ≡ before → p ≡ None → Touches plan comes before after n p
  at : AtBank plan comes before after n p → Touches plan comes before after n p

-- what a step does to the banks, and that it is one step more
pub record Does (plan : Plan) (acts : ℕ → List Act) (t : Step) (s : BoardState) (d : Stepped) : Type 0 where
  pub touches : Touches plan (Comes plan acts t s) s.banks d.state.banks d.note d.published
  pub steps : d.state.steps ≡ suc s.steps

-- ---- A try at a bank ----

mapped : {A B : Type 0} (f : A → B) (o : Option A) (y : B) → option_map f o ≡ Some y
    → (x : A) × (o ≡ Some x) × (f x ≡ y)
mapped f None y h = absurd (none-some y h)
mapped f (Some x) y h = (x, refl, same_Some (f x) y h)

tried : (plan : Plan) (comes : ℕ → BankTry → Type 0) (bank : ℕ) (t : BankTry) (events : Events)
    (banks : List BankState) (d : Option BankDecl) (b : Option BankState) (e : Effect)
    → slice_get plan.banks bank ≡ d → slice_get banks bank ≡ b → comes bank t
    → tried_at bank t plan events banks d b ≡ Some e → AtBank plan comes banks e.banks e.note e.published
tried plan comes bank t events banks None b e d_is b_is by h = absurd (none-some e h)
tried plan comes bank t events banks (Some d) None e d_is b_is by h = absurd (none-some e h)
tried plan comes bank t events banks (Some d) (Some b) e d_is b_is by h =
    let m = mapped (bank_effect bank d events banks) (bank_step (bank_plan bank d plan.recs) b t) e h in
    record {
      bank = bank;
      come = t;
      decl = d;
      state = b;
      made = m.0;
      events = events;
      known = d_is;
      there = b_is;
      makes = m.1;
      after_is = ap (λ (x : Effect). x.banks) (sym m.2);
      note_is = ap (λ (x : Effect). x.note) (sym m.2);
      published_is = ap (λ (x : Effect). x.published) (sym m.2);
      by = by;
    }

at_one : (plan : Plan) (comes : ℕ → BankTry → Type 0) (bank : ℕ) (t : BankTry) (events : Events)
    (banks : List BankState) (e : Effect) → comes bank t → at_bank bank t plan events banks ≡ Some e
    → AtBank plan comes banks e.banks e.note e.published
unfolding at_bank
at_one plan comes bank t events banks e by h =
    tried plan comes bank t events banks (slice_get plan.banks bank) (slice_get banks bank) e refl refl by h

-- ---- Ops ----

abbrev MadeSo : Plan → (ℕ → BankTry → Type 0) → BoardReach → Made → Type 0
MadeSo plan comes r m = Touches plan comes r.banks m.reach.banks m.note m.published

own_apart : (plan : Plan) (comes : ℕ → BankTry → Type 0) (r : BoardReach) (d : Done) → is_apart d.note ≡ true
    → MadeSo plan comes r (on_own r d)
own_apart plan comes r d k = apart k refl refl

loaded_apart : (reg : Reg) (r : Reach) (o : Option ℕ) → is_apart (loaded reg r o).note ≡ true
loaded_apart reg r None = refl
loaded_apart reg r (Some word) = refl

stored_apart : (r : Reach) (n : StepNote) (o : Option (List ℕ)) → is_apart n ≡ true
    → is_apart (stored r n o).note ≡ true
stored_apart r n None h = refl
stored_apart r n (Some memory) h = h

risen_apart : (addr : ℕ) (r : Reach) (o : Option ℕ) → is_apart (risen addr r o).note ≡ true
risen_apart addr r None = refl
risen_apart addr r (Some word) =
    let value = (word + 1) % 2 ^ 64 in
    stored_apart r (note.Inc addr value) (store r.memory addr value) refl

jumped_apart : (value pc : ℕ) (r : Reach) (o : Option ℕ) → is_apart (jumped value pc r o).note ≡ true
jumped_apart value pc r None = refl
jumped_apart value pc r (Some word) =
    let on = done (on_stack (with_pc pc) r) (note.Jlt true) in
    let past = done r (note.Jlt false) in
    elim (nat_lt word value) as (λ b. is_apart (cond b on past).note ≡ true)
    [ true ↦ refl | false ↦ refl ]

acknowledged : (plan : Plan) (comes : ℕ → BankTry → Type 0) (bank : ℕ) (r : BoardReach) (o : Option Effect)
    → comes bank Acknowledges → at_bank bank Acknowledges plan r.own.events r.banks ≡ o
    → MadeSo plan comes r (unwrap_or (option_map (with_effect r) o) (quietly r (note.Ack bank None)))
acknowledged plan comes bank r None by is = apart refl refl refl
acknowledged plan comes bank r (Some e) by is =
    at (at_one plan comes bank Acknowledges r.own.events r.banks e by is)

unplugged_apart : (plan : Plan) (comes : ℕ → BankTry → Type 0) (reporter : ℕ) (r : BoardReach)
    (o : Option ReporterState) → MadeSo plan comes r (unplugged reporter r o)
unplugged_apart plan comes reporter r None = apart refl refl refl
unplugged_apart plan comes reporter r (Some x) = apart refl refl refl

applied : (plan : Plan) (comes : ℕ → BankTry → Type 0) (by : (bank : ℕ) → comes bank Acknowledges) (h : ℕ)
    (stacks : List Stack) (r : BoardReach) (op : Op) → MadeSo plan comes r (apply h plan stacks r op)
applied plan comes by h stacks r ops.Nop = apart refl refl refl
applied plan comes by h stacks r (ops.Sbi eid fid args) = apart refl refl refl
applied plan comes by h stacks r (ops.Set reg value) = apart refl refl refl
applied plan comes by h stacks r (ops.Load reg addr) =
    own_apart plan comes r (loaded reg r.own (load r.own.memory addr))
    (loaded_apart reg r.own (load r.own.memory addr))
applied plan comes by h stacks r (ops.Save reg addr) =
    let value = register reg r.own.stack in
    own_apart plan comes r (save reg addr r.own)
    (stored_apart r.own (note.Save addr value) (store r.own.memory addr value) refl)
applied plan comes by h stacks r (ops.Store addr value) =
    own_apart plan comes r (store_word addr value r.own)
    (stored_apart r.own (note.Store addr value) (store r.own.memory addr value) refl)
applied plan comes by h stacks r (ops.Inc addr) =
    own_apart plan comes r (risen addr r.own (load r.own.memory addr))
    (risen_apart addr r.own (load r.own.memory addr))
applied plan comes by h stacks r (ops.Jump pc) = apart refl refl refl
applied plan comes by h stacks r (ops.Jlt addr value pc) =
    own_apart plan comes r (jumped value pc r.own (load r.own.memory addr))
    (jumped_apart value pc r.own (load r.own.memory addr))
applied plan comes by h stacks r ops.Sret = apart refl refl refl
applied plan comes by h stacks r (ops.Ack bank) =
    acknowledged plan comes bank r (at_bank bank Acknowledges plan r.own.events r.banks) (by bank) refl
applied plan comes by h stacks r (ops.Unplug reporter) =
    unplugged_apart plan comes reporter r (slice_get r.reporters reporter)

allowed_so : (plan : Plan) (comes : ℕ → BankTry → Type 0) (by : (bank : ℕ) → comes bank Acknowledges) (h : ℕ)
    (stacks : List Stack) (r : BoardReach) (op : Op) → MadeSo plan comes r (allowed h plan stacks r op)
allowed_so plan comes by h stacks r op =
    let next : BoardReach = record r { own = past r.own } in
    elim (is_user r.own.stack.live.privilege && needs_supervisor op) as (λ b. MadeSo plan comes r
    (cond b (quietly next note.Illegal) (apply h plan stacks next op))) [
      | true ↦ apart refl refl refl
      | false ↦ applied plan comes by h stacks next op
    ]

-- ---- A hart's step ----

chosen_so : (plan : Plan) (comes : ℕ → BankTry → Type 0) (by : (bank : ℕ) → comes bank Acknowledges) (h : ℕ)
    (stacks : List Stack) (r : BoardReach) (o : Option Instance) (m : Made)
    → on_chosen h plan stacks r o ≡ Some m → MadeSo plan comes r m
chosen_so plan comes by h stacks r None m is =
    let x = mapped (allowed h plan stacks r) (op_at r.own.stack.live.pc plan.ops) m is in
    subst (MadeSo plan comes r) x.2 (allowed_so plan comes by h stacks r x.0)
chosen_so plan comes by h stacks r (Some at_it) m is =
    subst (MadeSo plan comes r) (same_Some _ m is) (apart refl refl refl)

due_so : (plan : Plan) (comes : ℕ → BankTry → Type 0) (by : (bank : ℕ) → comes bank Acknowledges) (h : ℕ)
    (stacks : List Stack) (r : BoardReach) (o : Option ℕ) (m : Made)
    → ((bank : ℕ) → o ≡ Some bank → comes bank Drains)
    → on_due h plan stacks r o ≡ Some m → MadeSo plan comes r m
due_so plan comes by h stacks r None m drains is = chosen_so plan comes by h stacks r (next_for h r.own) m is
due_so plan comes by h stacks r (Some bank) m drains is =
    let x = mapped (with_effect r) (at_bank bank Drains plan r.own.events r.banks) m is in
    subst (MadeSo plan comes r) x.2 (at (at_one plan comes bank Drains r.own.events r.banks x.0 (drains bank refl) x.1))

if_so : {A : Type 0} (b : Bool) (o : Option A) (x : A) → cond b o None ≡ Some x → o ≡ Some x
if_so true o x h = h
if_so false o x h = absurd (none-some x h)

step_of_so : (plan : Plan) (acts : ℕ → List Act) (h : ℕ) (s : BoardState) (o : Option Stack) (d : Stepped)
    → step_of h plan s o ≡ Some d → Does plan acts (Hart h) s d
step_of_so plan acts h s None d is = absurd (none-some d is)
step_of_so plan acts h s (Some stack) d is =
    let made = if_so (nat_lt (counts_of h s).steps (budget_of h plan.starts))
    (option_map (after_hart h s) (own_step h plan s.machine.stacks (board_reach stack s))) d is in
    let x = mapped (after_hart h s) (own_step h plan s.machine.stacks (board_reach stack s)) d made in
    subst (Does plan acts (Hart h) s) x.2
    (record {
      touches = due_so plan (Comes plan acts (Hart h) s) (λ bank. tt) h s.machine.stacks (board_reach stack s)
          (bank_due h plan s.banks) x.0 (λ bank due. due) x.1;
      steps = refl;
    })

hart_does : (plan : Plan) (acts : ℕ → List Act) (h : ℕ) (s : BoardState) (d : Stepped) → hart_step h plan s ≡ Some d
    → Does plan acts (Hart h) s d
unfolding hart_step
hart_does plan acts h s d is = step_of_so plan acts h s (slice_get s.machine.stacks h) d is

-- ---- A reporter's step ----

abbrev ActsSo : Plan → (ℕ → BankTry → Type 0) → BoardState → Effect → Type 0
ActsSo plan comes s e = Touches plan comes s.banks e.banks e.note e.published

error_so : (plan : Plan) (comes : ℕ → BankTry → Type 0) (report : Report) (s : BoardState) (o : Option Effect)
    → comes report.bank (Reports (record { step = suc s.steps; report = report }))
    → at_bank report.bank (Reports (record { step = suc s.steps; report = report })) plan s.machine.events s.banks ≡ o
    → ActsSo plan comes s (unwrap_or o
    (record { events = s.machine.events; banks = s.banks; note = note.Error report None; published = None }))
error_so plan comes report s None by is = apart refl refl refl
error_so plan comes report s (Some e) by is =
    let error : Error = record { step = suc s.steps; report = report } in
    at (at_one plan comes report.bank (Reports error) s.machine.events s.banks e by is)

act_so : (plan : Plan) (acts : ℕ → List Act) (r : ℕ) (s : BoardState) (a : Act) → next_act acts r s ≡ Some a
    → ActsSo plan (Comes plan acts (Reporter r) s) s (on_act plan s a)
act_so plan acts r s (act.Error report) next =
    error_so plan (Comes plan acts (Reporter r) s) report s
    (at_bank report.bank (Reports (record { step = suc s.steps; report = report })) plan s.machine.events s.banks)
    (refl, refl, next) refl
act_so plan acts r s (act.Raise id h) next = apart refl refl refl

reporter_does : (plan : Plan) (acts : ℕ → List Act) (r : ℕ) (s : BoardState) (o : Option Act) (d : Stepped)
    → next_act acts r s ≡ o → reporter_step r plan o s ≡ Some d → Does plan acts (Reporter r) s d
unfolding reporter_step
reporter_does plan acts r s None d next is = absurd (none-some d is)
reporter_does plan acts r s (Some a) d next is =
    let made = if_so (wants plan r s) (Some (after_reporter r s (on_act plan s a))) d is in
    subst (Does plan acts (Reporter r) s) (same_Some _ d made)
    (record { touches = act_so plan acts r s a next; steps = refl })

-- ---- Any step ----

pub step_does : (plan : Plan) (acts : ℕ → List Act) (t : Step) (s : BoardState) (d : Stepped)
    → step plan acts t s ≡ Some d → Does plan acts t s d
unfolding step
step_does plan acts (Hart h) s d is = hart_does plan acts h s d is
step_does plan acts (Reporter r) s d is = reporter_does plan acts r s (next_act acts r s) d refl is
