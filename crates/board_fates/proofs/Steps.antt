-- What a step makes of the banks: nothing, or a step of one of them.
use Rattle.std.proofs.Common.{◌≡◌, ◌⊎◌, ℕ, suc, ◌+◌, ◌%◌, ◌^◌, ◌&&◌, Bool, true, false, cond, List, slice_get, set, Option, Some, None, nat_lt, refl, inl, inr, sym, ap, subst}
use Rattle.std.specs.Prelude.{unwrap_or}
use Rattle.std.specs.Option.{option_map}
use Rattle.std.proofs.lemmas.Option.{none-some, same_Some}
use Rattle.sse_base.specs.declared.ids.Instance.{Instance}
use Rattle.sse_base.specs.Contexts.{Stack, with_pc}
use Rattle.sse_base.specs.Events.{Events}
use Rattle.sse_base.specs.Machine.{Reach}
use Rattle.sse_base.specs.Choice.{next_for}
use Rattle.sse_base.specs.Words.{load, store}
use Rattle.reri_fields.specs.declared.report.Report.{Report}
use Rattle.reri_fields.specs.Records.{Error}
use Rattle.reri_fields.specs.Drain.{BankState, BankStep, BankTry, bank_step}
use Rattle.reri_fields.specs.Drain.BankTry.{Reports, Drains, Acknowledges}
use Rattle.ras_device.specs.declared.act.Act.{Act}
use Rattle.ras_device.specs.declared.act.Act.TheVariants as act
use Rattle.board_plan.specs.declared.notes.Step.{Step}
use Rattle.board_plan.specs.declared.notes.Step.TheVariants.{Hart, Reporter}
use Rattle.board_plan.specs.declared.notes.StepNote.{StepNote}
use Rattle.board_plan.specs.declared.notes.StepNote.TheVariants as note
use Rattle.board_plan.specs.declared.ops.Op.{Op}
use Rattle.board_plan.specs.declared.ops.Op.TheVariants as ops
use Rattle.board_plan.specs.declared.ops.Reg.{Reg}
use Rattle.board_plan.specs.declared.plan.BankDecl.{BankDecl}
use Rattle.board_plan.specs.declared.plan.Plan.{Plan}
use Rattle.board_plan.specs.State.{BoardState, ReporterState, bank_plan, budget_of, counts_of}
use Rattle.board_plan.specs.Ops.{Done, done, on_stack, is_user, needs_supervisor, op_at, past, register, loaded, save, stored, store_word, risen, jumped}
use Rattle.board_plan.specs.Step.{BoardReach, Made, Effect, Stepped, quietly, bank_effect, bank_note, tried_at, at_bank, bank_due, with_effect, unplugged, on_own, apply, allowed, on_chosen, on_due, own_step, after_hart, board_reach, step_of, hart_step, on_act, wants, after_reporter, reporter_step, next_act, step}

-- ---- What is touched ----

-- a note that says nothing of records
abbrev pub is_quiet : StepNote → Bool
is_quiet (note.Error report logged) = false
is_quiet (note.Claim bank rec) = false
is_quiet (note.Check bank rec torn) = false
is_quiet (note.Invalidate bank rec cleared) = false
is_quiet n = true

-- an error that comes to a bank is of the step after so many, and names the bank
abbrev pub Fits : ℕ → ℕ → BankTry → Type 0
Fits steps bank (Reports error) = (error.step ≡ suc steps) × (error.report.bank ≡ bank)
Fits steps bank Drains = Unit {0}
Fits steps bank Acknowledges = Unit {0}

-- a bank made a step
pub record AtBank (plan : Plan) (steps : ℕ) (before after : List BankState) (n : StepNote) : Type 0 where
  pub bank : ℕ
  pub come : BankTry
  pub decl : BankDecl
  pub state : BankState
  pub made : BankStep
  pub events : Events
  pub known : slice_get plan.banks bank ≡ Some decl
  pub there : slice_get before bank ≡ Some state
  pub makes : bank_step (bank_plan bank decl plan.recs) state come ≡ Some made
  pub after_is : after ≡ set before bank made.state
  pub note_is : n ≡ bank_note bank decl events made.note
  pub fits : Fits steps bank come

pub data Touches (plan : Plan) (steps : ℕ) (before after : List BankState) (n : StepNote) : Type 0 where
  quiet : is_quiet n ≡ true → after ≡ before → Touches plan steps before after n
  strays : (report : Report) → n ≡ note.Error report None → after ≡ before
      → (slice_get plan.banks report.bank ≡ None) ⊎ (slice_get before report.bank ≡ None)
      → Touches plan steps before after n
  at : AtBank plan steps before after n → Touches plan steps before after n

-- ---- A try at a bank ----

pub mapped : {A B : Type 0} (f : A → B) (o : Option A) (y : B) → option_map f o ≡ Some y
    → (x : A) × (o ≡ Some x) × (f x ≡ y)
mapped f None y h = absurd (none-some y h)
mapped f (Some x) y h = (x, refl, same_Some (f x) y h)

tried : (plan : Plan) (steps bank : ℕ) (t : BankTry) (events : Events) (banks : List BankState) (d : Option BankDecl)
    (b : Option BankState) (e : Effect) → slice_get plan.banks bank ≡ d → slice_get banks bank ≡ b → Fits steps bank t
    → tried_at bank t plan events banks d b ≡ Some e → AtBank plan steps banks e.banks e.note
tried plan steps bank t events banks None b e d_is b_is fits h = absurd (none-some e h)
tried plan steps bank t events banks (Some d) None e d_is b_is fits h = absurd (none-some e h)
tried plan steps bank t events banks (Some d) (Some b) e d_is b_is fits h =
    let m = mapped (bank_effect bank d events banks) (bank_step (bank_plan bank d plan.recs) b t) e h in
    record {
      bank = bank;
      come = t;
      decl = d;
      state = b;
      made = m.0;
      events = events;
      known = d_is;
      there = b_is;
      makes = m.1;
      after_is = ap (λ (x : Effect). x.banks) (sym m.2);
      note_is = ap (λ (x : Effect). x.note) (sym m.2);
      fits = fits;
    }

at_one : (plan : Plan) (steps bank : ℕ) (t : BankTry) (events : Events) (banks : List BankState) (e : Effect)
    → Fits steps bank t → at_bank bank t plan events banks ≡ Some e → AtBank plan steps banks e.banks e.note
unfolding at_bank
at_one plan steps bank t events banks e fits h =
    tried plan steps bank t events banks (slice_get plan.banks bank) (slice_get banks bank) e refl refl fits h

nowhere_tried : (plan : Plan) (bank : ℕ) (error : Error) (events : Events) (banks : List BankState)
    (d : Option BankDecl) (b : Option BankState)
    → slice_get plan.banks bank ≡ d → slice_get banks bank ≡ b
    → tried_at bank (Reports error) plan events banks d b ≡ None
    → (slice_get plan.banks bank ≡ None) ⊎ (slice_get banks bank ≡ None)
unfolding bank_step
nowhere_tried plan bank error events banks None b d_is b_is h = inl d_is
nowhere_tried plan bank error events banks (Some d) None d_is b_is h = inr b_is
nowhere_tried plan bank error events banks (Some d) (Some b) d_is b_is h = absurd (none-some _ (sym h))

nowhere : (plan : Plan) (bank : ℕ) (error : Error) (events : Events) (banks : List BankState)
    → at_bank bank (Reports error) plan events banks ≡ None
    → (slice_get plan.banks bank ≡ None) ⊎ (slice_get banks bank ≡ None)
unfolding at_bank
nowhere plan bank error events banks h =
    nowhere_tried plan bank error events banks (slice_get plan.banks bank) (slice_get banks bank) refl refl h

-- ---- Ops ----

abbrev MadeSo : Plan → ℕ → BoardReach → Made → Type 0
MadeSo plan steps r m = Touches plan steps r.banks m.reach.banks m.note

own_quiet : (plan : Plan) (steps : ℕ) (r : BoardReach) (d : Done) → is_quiet d.note ≡ true
    → MadeSo plan steps r (on_own r d)
own_quiet plan steps r d h = quiet h refl

loaded_quiet : (reg : Reg) (r : Reach) (o : Option ℕ) → is_quiet (loaded reg r o).note ≡ true
loaded_quiet reg r None = refl
loaded_quiet reg r (Some word) = refl

stored_quiet : (r : Reach) (n : StepNote) (o : Option (List ℕ)) → is_quiet n ≡ true
    → is_quiet (stored r n o).note ≡ true
stored_quiet r n None h = refl
stored_quiet r n (Some memory) h = h

risen_quiet : (addr : ℕ) (r : Reach) (o : Option ℕ) → is_quiet (risen addr r o).note ≡ true
risen_quiet addr r None = refl
risen_quiet addr r (Some word) =
    let value = (word + 1) % 2 ^ 64 in
    stored_quiet r (note.Inc addr value) (store r.memory addr value) refl

jumped_quiet : (value pc : ℕ) (r : Reach) (o : Option ℕ) → is_quiet (jumped value pc r o).note ≡ true
jumped_quiet value pc r None = refl
jumped_quiet value pc r (Some word) =
    let on = done (on_stack (with_pc pc) r) (note.Jlt true) in
    let past = done r (note.Jlt false) in
    elim (nat_lt word value) as (λ b. is_quiet (cond b on past).note ≡ true)
    [ true ↦ refl | false ↦ refl ]

acknowledged : (plan : Plan) (steps bank : ℕ) (r : BoardReach) (o : Option Effect)
    → at_bank bank Acknowledges plan r.own.events r.banks ≡ o
    → MadeSo plan steps r (unwrap_or (option_map (with_effect r) o) (quietly r (note.Ack bank None)))
acknowledged plan steps bank r None is = quiet refl refl
acknowledged plan steps bank r (Some e) is =
    at (at_one plan steps bank Acknowledges r.own.events r.banks e tt is)

unplugged_quiet : (plan : Plan) (steps reporter : ℕ) (r : BoardReach) (o : Option ReporterState)
    → MadeSo plan steps r (unplugged reporter r o)
unplugged_quiet plan steps reporter r None = quiet refl refl
unplugged_quiet plan steps reporter r (Some x) = quiet refl refl

applied : (plan : Plan) (steps h : ℕ) (stacks : List Stack) (r : BoardReach) (op : Op)
    → MadeSo plan steps r (apply h plan stacks r op)
applied plan steps h stacks r ops.Nop = quiet refl refl
applied plan steps h stacks r (ops.Sbi eid fid args) = quiet refl refl
applied plan steps h stacks r (ops.Set reg value) = quiet refl refl
applied plan steps h stacks r (ops.Load reg addr) =
    own_quiet plan steps r (loaded reg r.own (load r.own.memory addr))
    (loaded_quiet reg r.own (load r.own.memory addr))
applied plan steps h stacks r (ops.Save reg addr) =
    let value = register reg r.own.stack in
    own_quiet plan steps r (save reg addr r.own)
    (stored_quiet r.own (note.Save addr value) (store r.own.memory addr value) refl)
applied plan steps h stacks r (ops.Store addr value) =
    own_quiet plan steps r (store_word addr value r.own)
    (stored_quiet r.own (note.Store addr value) (store r.own.memory addr value) refl)
applied plan steps h stacks r (ops.Inc addr) =
    own_quiet plan steps r (risen addr r.own (load r.own.memory addr))
    (risen_quiet addr r.own (load r.own.memory addr))
applied plan steps h stacks r (ops.Jump pc) = quiet refl refl
applied plan steps h stacks r (ops.Jlt addr value pc) =
    own_quiet plan steps r (jumped value pc r.own (load r.own.memory addr))
    (jumped_quiet value pc r.own (load r.own.memory addr))
applied plan steps h stacks r ops.Sret = quiet refl refl
applied plan steps h stacks r (ops.Ack bank) =
    acknowledged plan steps bank r (at_bank bank Acknowledges plan r.own.events r.banks) refl
applied plan steps h stacks r (ops.Unplug reporter) =
    unplugged_quiet plan steps reporter r (slice_get r.reporters reporter)

allowed_so : (plan : Plan) (steps h : ℕ) (stacks : List Stack) (r : BoardReach) (op : Op)
    → MadeSo plan steps r (allowed h plan stacks r op)
allowed_so plan steps h stacks r op =
    let next : BoardReach = record r { own = past r.own } in
    elim (is_user r.own.stack.live.privilege && needs_supervisor op) as (λ b. MadeSo plan steps r
    (cond b (quietly next note.Illegal) (apply h plan stacks next op))) [
      | true ↦ quiet refl refl
      | false ↦ applied plan steps h stacks next op
    ]

-- ---- A hart's step ----

chosen_so : (plan : Plan) (steps h : ℕ) (stacks : List Stack) (r : BoardReach) (o : Option Instance) (m : Made)
    → on_chosen h plan stacks r o ≡ Some m → MadeSo plan steps r m
chosen_so plan steps h stacks r None m is =
    let x = mapped (allowed h plan stacks r) (op_at r.own.stack.live.pc plan.ops) m is in
    subst (MadeSo plan steps r) x.2 (allowed_so plan steps h stacks r x.0)
chosen_so plan steps h stacks r (Some at_it) m is = subst (MadeSo plan steps r) (same_Some _ m is) (quiet refl refl)

due_so : (plan : Plan) (steps h : ℕ) (stacks : List Stack) (r : BoardReach) (o : Option ℕ) (m : Made)
    → on_due h plan stacks r o ≡ Some m → MadeSo plan steps r m
due_so plan steps h stacks r None m is = chosen_so plan steps h stacks r (next_for h r.own) m is
due_so plan steps h stacks r (Some bank) m is =
    let x = mapped (with_effect r) (at_bank bank Drains plan r.own.events r.banks) m is in
    subst (MadeSo plan steps r) x.2 (at (at_one plan steps bank Drains r.own.events r.banks x.0 tt x.1))

-- what a step touches, and that it is one step more
pub record Goes (plan : Plan) (s : BoardState) (d : Stepped) : Type 0 where
  pub touches : Touches plan s.steps s.banks d.state.banks d.note
  pub steps : d.state.steps ≡ suc s.steps

if_so : {A : Type 0} (b : Bool) (o : Option A) (x : A) → cond b o None ≡ Some x → o ≡ Some x
if_so true o x h = h
if_so false o x h = absurd (none-some x h)

step_of_so : (plan : Plan) (h : ℕ) (s : BoardState) (o : Option Stack) (d : Stepped) → step_of h plan s o ≡ Some d
    → Goes plan s d
step_of_so plan h s None d is = absurd (none-some d is)
step_of_so plan h s (Some stack) d is =
    let made = if_so (nat_lt (counts_of h s).steps (budget_of h plan.starts))
    (option_map (after_hart h s) (own_step h plan s.machine.stacks (board_reach stack s))) d is in
    let x = mapped (after_hart h s) (own_step h plan s.machine.stacks (board_reach stack s)) d made in
    subst (Goes plan s) x.2
    (record {
      touches = due_so plan s.steps h s.machine.stacks (board_reach stack s) (bank_due h plan s.banks) x.0 x.1;
      steps = refl;
    })

pub hart_goes : (plan : Plan) (h : ℕ) (s : BoardState) (d : Stepped) → hart_step h plan s ≡ Some d → Goes plan s d
unfolding hart_step
hart_goes plan h s d is = step_of_so plan h s (slice_get s.machine.stacks h) d is

-- ---- A reporter's step ----

abbrev ActsSo : Plan → BoardState → Effect → Type 0
ActsSo plan s e = Touches plan s.steps s.banks e.banks e.note

error_so : (plan : Plan) (report : Report) (s : BoardState) (o : Option Effect)
    → at_bank report.bank (Reports (record { step = suc s.steps; report = report })) plan s.machine.events s.banks ≡ o
    → ActsSo plan s (unwrap_or o
    (record { events = s.machine.events; banks = s.banks; note = note.Error report None; published = None }))
error_so plan report s None is =
    strays report refl refl
    (nowhere plan report.bank (record { step = suc s.steps; report = report }) s.machine.events s.banks is)
error_so plan report s (Some e) is =
    let error : Error = record { step = suc s.steps; report = report } in
    at (at_one plan s.steps report.bank (Reports error) s.machine.events s.banks e (refl, refl) is)

act_so : (plan : Plan) (s : BoardState) (a : Act) → ActsSo plan s (on_act plan s a)
act_so plan s (act.Error report) =
    error_so plan report s (at_bank report.bank (Reports (record { step = suc s.steps; report = report })) plan
    s.machine.events s.banks) refl
act_so plan s (act.Raise id h) = quiet refl refl

pub reporter_goes : (plan : Plan) (r : ℕ) (s : BoardState) (o : Option Act) (d : Stepped)
    → reporter_step r plan o s ≡ Some d → Goes plan s d
unfolding reporter_step
reporter_goes plan r s None d is = absurd (none-some d is)
reporter_goes plan r s (Some a) d is =
    let made = if_so (wants plan r s) (Some (after_reporter r s (on_act plan s a))) d is in
    subst (Goes plan s) (same_Some _ d made) (record { touches = act_so plan s a; steps = refl })

-- ---- Any step ----

pub step_goes : (plan : Plan) (acts : ℕ → List Act) (t : Step) (s : BoardState) (d : Stepped)
    → step plan acts t s ≡ Some d → Goes plan s d
unfolding step
step_goes plan acts (Hart h) s d is = hart_goes plan h s d is
step_goes plan acts (Reporter r) s d is = reporter_goes plan r s (next_act acts r s) d is
