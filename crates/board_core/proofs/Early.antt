-- What each step keeps: errors came to the banks at steps that were made before, no step is noted as one that had
-- nothing to do, and of the reporters only the one whose step it is has made more.
use Rattle.std.proofs.Common.{◌≡◌, ◌≢◌, ℕ, suc, ◌+◌, ◌%◌, ◌^◌, ◌<◌, ◌≤◌, ◌&&◌, Bool, true, false, cond, nat_lt, List, [], ◌∷◌, map, length, set, slice_get, Option, Some, None, refl, inl, inr, sym, ap, ◌∙◌, subst, arith}
use Rattle.std.specs.Option.{option_map}
use Rattle.std.specs.Prelude.{unwrap_or}
use Rattle.std.proofs.Math.Seq.{map-set_same}
use Rattle.std.proofs.lemmas.Bool.{cases_eq, ltb-true}
use Rattle.std.proofs.lemmas.List.{length-set}
use Rattle.std.proofs.lemmas.Option.{get_or_from_slice_get, none-some, same_Some, slice_get-map, slice_get_within}
use Rattle.sse_base.specs.declared.ids.Instance.{Instance}
use Rattle.sse_base.specs.Contexts.{Stack, with_pc}
use Rattle.sse_base.specs.Events.{Events}
use Rattle.sse_base.specs.Words.{load, store}
use Rattle.sse_base.specs.Machine.{Reach}
use Rattle.sse_base.specs.Choice.{next_for}
use Rattle.reri_fields.specs.declared.drain.DrainNote.{DrainNote}
use Rattle.reri_fields.specs.declared.drain.DrainNote.TheVariants as drain
use Rattle.reri_fields.specs.declared.drain.Phase.{Phase}
use Rattle.reri_fields.specs.declared.drain.Phase.TheVariants.{Scan, Claim, Address, Info, Supplement, Time, Check, Invalidate, Signal}
use Rattle.reri_fields.specs.Records.{Error, Origin}
use Rattle.reri_fields.specs.Banks.{AllLogsBefore, BankEvent, least_signalled}
use Rattle.reri_fields.specs.Banks.BankEvent.{Logs, Claims, Invalidates, ScanOver}
use Rattle.reri_fields.specs.Drain.{BankPlan, BankState, BankTry, BankNote, BankStep, Draining, bank_start, bank_step, checked, checked_if, claimed_at, drained_by, due_drain, phase_step, scanned}
use Rattle.reri_bank.proofs.Stands.{get-set_same, get-set_other}
use Rattle.reri_fields.specs.Drain.BankTry.{Reports, Drains, Acknowledges}
use Rattle.reri_fields.specs.Drain.BankNote.{Heard, Drew, Acknowledged}
use Rattle.ras_device.specs.declared.act.Act.{Act}
use Rattle.ras_device.specs.declared.act.Act.TheVariants as act
use Rattle.board_plan.specs.declared.notes.Step.{Step}
use Rattle.board_plan.specs.declared.notes.Step.TheVariants.{Hart, Reporter}
use Rattle.board_plan.specs.declared.notes.StepNote.{StepNote}
use Rattle.board_plan.specs.declared.notes.StepNote.TheVariants as note
use Rattle.board_plan.specs.declared.ops.Op.{Op}
use Rattle.board_plan.specs.declared.ops.Op.TheVariants as ops
use Rattle.board_plan.specs.declared.ops.Reg.{Reg}
use Rattle.board_plan.specs.declared.plan.BankDecl.{BankDecl}
use Rattle.board_plan.specs.declared.plan.Reporter as plan_reporter
use Rattle.board_plan.specs.declared.plan.Plan.{Plan}
use Rattle.board_plan.specs.State.{BoardState, ReporterState, bank_plan, budget_of, counts_of, start_state}
use Rattle.board_plan.specs.Ops.{Done, done, is_user, jump, jumped, loaded, needs_supervisor, on_stack, op_at, past, register, risen, save, sbi, sret, store_word, stored, set as set_op}
use Rattle.board_plan.specs.Step.{BoardReach, Effect, Made, Stepped, after_hart, after_reporter, allowed, apply, at_bank, bank_due, bank_effect, bank_note, board_reach, counted, drain_note, hart_step, is_wanted, on_act, on_chosen, on_due, on_own, one_more, own_step, quietly, reporter_step, step_of, tried_at, unplugged, wants, with_effect, with_one_more, next_act, step}
use Rattle.board_parts.specs.Shows.{AreEarly}

-- ---- The histories of banks ----

-- each error came to its bank before the step of this number
pub record Before (n : ℕ) (banks : List BankState) : Type 0 where
  pub each : (i : ℕ) (x : BankState) → slice_get banks i ≡ Some x → AllLogsBefore n x.history

pub all_later : (n m : ℕ) (history : List BankEvent) → n ≤ m → AllLogsBefore n history → AllLogsBefore m history
all_later n m [] low before = tt
all_later n m (Logs error ∷ history) low before =
    (omega (arith, before.0), all_later n m history low before.1)
all_later n m (Claims rec ∷ history) low before = all_later n m history low before
all_later n m (Invalidates rec ∷ history) low before = all_later n m history low before
all_later n m (ScanOver ∷ history) low before = all_later n m history low before

pub later : (n m : ℕ) (banks : List BankState) → n ≤ m → Before n banks → Before m banks
later n m banks low before =
    record { each = λ i x there. all_later n m x.history low (before.each i x there) }

with_bank : (n : ℕ) (banks : List BankState) (at : ℕ) (x : BankState) → AllLogsBefore n x.history → Before n banks
    → Before n (set banks at x)
with_bank n banks at x early before =
    record {
      each = λ i y here.
          elim (cases_eq i at) as (λ _. AllLogsBefore n y.history) [
            | inl same ↦ subst (λ (z : BankState). AllLogsBefore n z.history) (it i y same here) early
            | inr other ↦ before.each i y (sym (get-set_other banks at i x other) ∙ here)
          ];
    }
  where
    it : (i : ℕ) (y : BankState) → i ≡ at → slice_get (set banks at x) i ≡ Some y → x ≡ y
    it i y same here =
        let low = slice_get_within (set banks at x) i y here in
        let there : at < length banks = omega (arith, low, same, length-set banks at x) in
        same_Some x y (sym (get-set_same banks at x there) ∙ ap (slice_get (set banks at x)) (sym same) ∙ here)

-- ---- A bank's step ----

-- what is tried came before the step of this number
abbrev pub IsTryBefore : ℕ → BankTry → Type 0
IsTryBefore n (Reports error) = error.step < n
IsTryBefore n t = Unit {0}

abbrev pub StepsBefore : ℕ → Option BankStep → Type 0
StepsBefore n None = Unit {0}
StepsBefore n (Some y) = AllLogsBefore n y.state.history

scan_before : (n : ℕ) (s : BankState) (d : Draining) (o : Option ℕ) → AllLogsBefore n s.history
    → AllLogsBefore n (scanned s d o).state.history
scan_before n s d None before = before
scan_before n s d (Some rec) before = before

if_before : (n : ℕ) (s : BankState) (d : Draining) (origin : Origin) (q : Bool) → AllLogsBefore n s.history
    → AllLogsBefore n (checked_if s d origin q).state.history
if_before n s d origin true before = before
if_before n s d origin false before = before

check_before : (n : ℕ) (s : BankState) (d : Draining) (o : Option Origin) → AllLogsBefore n s.history
    → AllLogsBefore n (checked s d o).state.history
check_before n s d None before = before
check_before n s d (Some origin) before = if_before n s d origin (claimed_at origin d.rec s.history) before

phase_before : (plan : BankPlan) (n : ℕ) (s : BankState) (d : Draining) (p : Phase) → AllLogsBefore n s.history
    → AllLogsBefore n (phase_step plan s d p).state.history
phase_before plan n s d Scan before = scan_before n s d (least_signalled plan.origins s.history) before
phase_before plan n s d Claim before = before
phase_before plan n s d Address before = before
phase_before plan n s d Info before = before
phase_before plan n s d Supplement before = before
phase_before plan n s d Time before = before
phase_before plan n s d Check before = check_before n s d (slice_get plan.origins d.rec) before
phase_before plan n s d Invalidate before = before
phase_before plan n s d Signal before = before

drained_before : (plan : BankPlan) (n : ℕ) (s : BankState) (o : Option Draining) → AllLogsBefore n s.history
    → StepsBefore n (drained_by plan s o)
drained_before plan n s None before = tt
drained_before plan n s (Some d) before = phase_before plan n s d d.phase before

bank_before : (plan : BankPlan) (n : ℕ) (s : BankState) (t : BankTry) → IsTryBefore n t → AllLogsBefore n s.history
    → StepsBefore n (bank_step plan s t)
unfolding bank_step
bank_before plan n s (Reports error) early before = (early, before)
bank_before plan n s Drains early before = drained_before plan n s (due_drain plan s s.drain) before
bank_before plan n s Acknowledges early before = before

-- ---- An effect on events and banks ----

abbrev pub is_idle : StepNote → Bool
is_idle note.Idle = true
is_idle n = false

pub record IsEffect (n : ℕ) (banks : List BankState) (e : Effect) : Type 0 where
  pub before : Before n banks → Before n e.banks
  pub told : is_idle e.note ≡ false

abbrev pub AreEffects : ℕ → List BankState → Option Effect → Type 0
AreEffects n banks None = Unit {0}
AreEffects n banks (Some e) = IsEffect n banks e

drain_told : (bank : ℕ) (d : BankDecl) (t : Events) (rec : ℕ) (n : DrainNote)
    → is_idle (drain_note bank d t rec n) ≡ false
drain_told bank d t rec (drain.Scanned found) = refl
drain_told bank d t rec drain.Over = refl
drain_told bank d t rec drain.Claimed = refl
drain_told bank d t rec (drain.Read register) = refl
drain_told bank d t rec drain.Torn = refl
drain_told bank d t rec (drain.Published copy) = refl
drain_told bank d t rec (drain.Invalidated cleared) = refl
drain_told bank d t rec (drain.Signal level) = refl

bank_told : (bank : ℕ) (d : BankDecl) (t : Events) (n : BankNote) → is_idle (bank_note bank d t n) ≡ false
bank_told bank d t (Heard report logged) = refl
bank_told bank d t (Drew rec n) = drain_told bank d t rec n
bank_told bank d t (Acknowledged full) = refl

one_effect : (n bank : ℕ) (d : BankDecl) (t : Events) (banks : List BankState) (o : Option BankStep)
    → (Before n banks → StepsBefore n o) → AreEffects n banks (option_map (bank_effect bank d t banks) o)
one_effect n bank d t banks None early = tt
one_effect n bank d t banks (Some y) early =
    record {
      before = λ before. with_bank n banks bank y.state (early before) before;
      told = bank_told bank d t y.note;
    }

tried_effect : (n bank : ℕ) (t : BankTry) (plan : Plan) (events : Events) (banks : List BankState)
    (o : Option BankDecl) (q : Option BankState) → IsTryBefore n t
    → (Before n banks → (x : BankState) → q ≡ Some x → AllLogsBefore n x.history)
    → AreEffects n banks (tried_at bank t plan events banks o q)
tried_effect n bank t plan events banks None q early here = tt
tried_effect n bank t plan events banks (Some d) None early here = tt
tried_effect n bank t plan events banks (Some d) (Some x) early here =
    one_effect n bank d events banks (bank_step (bank_plan bank d plan.recs) x t)
    (λ before. bank_before (bank_plan bank d plan.recs) n x t early (here before x refl))

pub at_effect : (n bank : ℕ) (t : BankTry) (plan : Plan) (events : Events) (banks : List BankState)
    → IsTryBefore n t → AreEffects n banks (at_bank bank t plan events banks)
unfolding at_bank
at_effect n bank t plan events banks early =
    tried_effect n bank t plan events banks (slice_get plan.banks bank) (slice_get banks bank) early
    (λ before. before.each bank)

-- ---- A hart's step ----

-- how many acts each reporter has made
abbrev pub made_each : List ReporterState → List ℕ
made_each reporters = map (λ x. x.made) reporters

pub record IsMade (n : ℕ) (r : BoardReach) (m : Made) : Type 0 where
  pub before : Before n r.banks → Before n m.reach.banks
  pub same : made_each m.reach.reporters ≡ made_each r.reporters
  pub told : is_idle m.note ≡ false

abbrev pub AreMade : ℕ → BoardReach → Option Made → Type 0
AreMade n r None = Unit {0}
AreMade n r (Some m) = IsMade n r m

effect_made : (n : ℕ) (r : BoardReach) (o : Option Effect) → AreEffects n r.banks o
    → AreMade n r (option_map (with_effect r) o)
effect_made n r None are = tt
effect_made n r (Some e) are = record { before = are.before; same = refl; told = are.told }

-- an op
quiet_made : (n : ℕ) (r : BoardReach) (m : StepNote) → is_idle m ≡ false → IsMade n r (quietly r m)
quiet_made n r m told = record { before = λ before. before; same = refl; told = told }

ack_made : (n bank : ℕ) (r : BoardReach) (o : Option Effect) → AreEffects n r.banks o
    → IsMade n r (unwrap_or (option_map (with_effect r) o) (quietly r (note.Ack bank None)))
ack_made n bank r None are = quiet_made n r (note.Ack bank None) refl
ack_made n bank r (Some e) are = record { before = are.before; same = refl; told = are.told }

unplug_made : (n reporter : ℕ) (r : BoardReach) (o : Option ReporterState)
    → slice_get r.reporters reporter ≡ o → IsMade n r (unplugged reporter r o)
unplug_made n reporter r None is = quiet_made n r (note.Unplug reporter false) refl
unplug_made n reporter r (Some x) is =
    record {
      before = λ before. before;
      same = map-set_same (λ (y : ReporterState). y.made) r.reporters reporter (record x { plugged = false }) x
          (ap (λ (y : ReporterState). y.made) (sym (get_or_from_slice_get r.reporters reporter x x is)));
      told = refl;
    }

own_made : (n : ℕ) (r : BoardReach) (d : Done) → is_idle d.note ≡ false → IsMade n r (on_own r d)
own_made n r d told = record { before = λ before. before; same = refl; told = told }

stored_told : (r : Reach) (n : StepNote) (o : Option (List ℕ)) → is_idle n ≡ false
    → is_idle (stored r n o).note ≡ false
stored_told r n None told = refl
stored_told r n (Some memory) told = told

loaded_told : (reg : Reg) (r : Reach) (o : Option ℕ) → is_idle (loaded reg r o).note ≡ false
loaded_told reg r None = refl
loaded_told reg r (Some word) = refl

risen_told : (addr : ℕ) (r : Reach) (o : Option ℕ) → is_idle (risen addr r o).note ≡ false
risen_told addr r None = refl
risen_told addr r (Some word) =
    let value = (word + 1) % 2 ^ 64 in
    stored_told r (note.Inc addr value) (store r.memory addr value) refl

jumped_told : (value pc : ℕ) (r : Reach) (o : Option ℕ) → is_idle (jumped value pc r o).note ≡ false
jumped_told value pc r None = refl
jumped_told value pc r (Some word) =
    elim (nat_lt word value) as (λ q. is_idle (cond q (done (on_stack (with_pc pc) r) (note.Jlt true)) (done r
    (note.Jlt false))).note ≡ false) [ true ↦ refl | false ↦ refl ]

apply_made : (n h : ℕ) (plan : Plan) (stacks : List Stack) (r : BoardReach) (op : Op)
    → IsMade n r (apply h plan stacks r op)
apply_made n h plan stacks r ops.Nop = quiet_made n r note.Nop refl
apply_made n h plan stacks r (ops.Sbi eid fid args) = own_made n r (sbi h eid fid args stacks r.own) refl
apply_made n h plan stacks r (ops.Set reg value) = own_made n r (set_op reg value r.own) refl
apply_made n h plan stacks r (ops.Load reg addr) =
    own_made n r (loaded reg r.own (load r.own.memory addr)) (loaded_told reg r.own (load r.own.memory addr))
apply_made n h plan stacks r (ops.Save reg addr) =
    own_made n r (save reg addr r.own) (stored_told r.own (note.Save addr (register reg r.own.stack))
    (store r.own.memory addr (register reg r.own.stack)) refl)
apply_made n h plan stacks r (ops.Store addr value) =
    own_made n r (store_word addr value r.own)
    (stored_told r.own (note.Store addr value) (store r.own.memory addr value) refl)
apply_made n h plan stacks r (ops.Inc addr) =
    own_made n r (risen addr r.own (load r.own.memory addr)) (risen_told addr r.own (load r.own.memory addr))
apply_made n h plan stacks r (ops.Jump pc) = own_made n r (jump pc r.own) refl
apply_made n h plan stacks r (ops.Jlt addr value pc) =
    own_made n r (jumped value pc r.own (load r.own.memory addr))
    (jumped_told value pc r.own (load r.own.memory addr))
apply_made n h plan stacks r ops.Sret = own_made n r (sret r.own) refl
apply_made n h plan stacks r (ops.Ack bank) =
    ack_made n bank r (at_bank bank Acknowledges plan r.own.events r.banks)
    (at_effect n bank Acknowledges plan r.own.events r.banks tt)
apply_made n h plan stacks r (ops.Unplug reporter) =
    unplug_made n reporter r (slice_get r.reporters reporter) refl

allowed_made : (n h : ℕ) (plan : Plan) (stacks : List Stack) (r : BoardReach) (op : Op)
    → IsMade n r (allowed h plan stacks r op)
allowed_made n h plan stacks r op =
    let next : BoardReach = record r { own = past r.own } in
    elim (is_user r.own.stack.live.privilege && needs_supervisor op) as (λ q. IsMade n r (cond q (quietly next
    note.Illegal) (apply h plan stacks next op))) [
      | true ↦ record { before = λ before. before; same = refl; told = refl }
      | false ↦ again (apply h plan stacks next op) (apply_made n h plan stacks next op)
    ]
  where
    again : (m : Made) → IsMade n (record r { own = past r.own }) m → IsMade n r m
    again m made = record { before = made.before; same = made.same; told = made.told }

op_made : (n h : ℕ) (plan : Plan) (stacks : List Stack) (r : BoardReach) (o : Option Op)
    → AreMade n r (option_map (allowed h plan stacks r) o)
op_made n h plan stacks r None = tt
op_made n h plan stacks r (Some op) = allowed_made n h plan stacks r op

chosen_made : (n h : ℕ) (plan : Plan) (stacks : List Stack) (r : BoardReach) (o : Option Instance)
    → AreMade n r (on_chosen h plan stacks r o)
chosen_made n h plan stacks r None = op_made n h plan stacks r (op_at r.own.stack.live.pc plan.ops)
chosen_made n h plan stacks r (Some at) = record { before = λ before. before; same = refl; told = refl }

due_made : (n h : ℕ) (plan : Plan) (stacks : List Stack) (r : BoardReach) (o : Option ℕ)
    → AreMade n r (on_due h plan stacks r o)
due_made n h plan stacks r None = chosen_made n h plan stacks r (next_for h r.own)
due_made n h plan stacks r (Some bank) =
    effect_made n r (at_bank bank Drains plan r.own.events r.banks)
    (at_effect n bank Drains plan r.own.events r.banks tt)

-- what a hart's step leaves
pub record HartStep (h : ℕ) (plan : Plan) (s : BoardState) (d : Stepped) : Type 0 where
  pub before : Before (suc s.steps) s.banks → Before (suc d.state.steps) d.state.banks
  pub number : d.state.steps ≡ suc s.steps
  pub told : is_idle d.note ≡ false
  pub same : made_each d.state.reporters ≡ made_each s.reporters
  pub counts : d.state.counts ≡ set s.counts h (counted d.note (counts_of h s))
  pub allowed : (counts_of h s).steps < budget_of h plan.starts

abbrev pub HartSteps : ℕ → Plan → BoardState → Option Stepped → Type 0
HartSteps h plan s None = Unit {0}
HartSteps h plan s (Some d) = HartStep h plan s d

made_steps : (h : ℕ) (plan : Plan) (s : BoardState) (stack : Stack) (o : Option Made)
    → AreMade (suc s.steps) (board_reach stack s) o
    → (counts_of h s).steps < budget_of h plan.starts → HartSteps h plan s (option_map (after_hart h s) o)
made_steps h plan s stack None are low = tt
made_steps h plan s stack (Some m) are low =
    record {
      before = λ before. later (suc s.steps) (suc (suc s.steps)) m.reach.banks (omega arith) (are.before before);
      number = refl;
      told = are.told;
      same = are.same;
      counts = refl;
      allowed = low;
    }

budget_steps : (h : ℕ) (plan : Plan) (s : BoardState) (stack : Stack) (o : Option Made) (q : Bool)
    → nat_lt (counts_of h s).steps (budget_of h plan.starts) ≡ q → AreMade (suc s.steps) (board_reach stack s) o
    → HartSteps h plan s (cond q (option_map (after_hart h s) o) None)
budget_steps h plan s stack o true is are =
    made_steps h plan s stack o are (ltb-true (counts_of h s).steps (budget_of h plan.starts) is)
budget_steps h plan s stack o false is are = tt

stack_steps : (h : ℕ) (plan : Plan) (s : BoardState) (o : Option Stack) → HartSteps h plan s (step_of h plan s o)
stack_steps h plan s None = tt
stack_steps h plan s (Some stack) =
    let r = board_reach stack s in
    budget_steps h plan s stack (own_step h plan s.machine.stacks r)
    (nat_lt (counts_of h s).steps (budget_of h plan.starts))
    refl (due_made (suc s.steps) h plan s.machine.stacks r (bank_due h plan s.banks))

hart_steps : (h : ℕ) (plan : Plan) (s : BoardState) → HartSteps h plan s (hart_step h plan s)
unfolding hart_step
hart_steps h plan s = stack_steps h plan s (slice_get s.machine.stacks h)

pub hart_makes : (h : ℕ) (plan : Plan) (s : BoardState) (d : Stepped) → hart_step h plan s ≡ Some d
    → HartStep h plan s d
hart_makes h plan s d is = subst (HartSteps h plan s) is (hart_steps h plan s)

-- ---- A reporter's step ----

-- what a reporter's step leaves
pub record ReporterStep (r : ℕ) (plan : Plan) (s : BoardState) (d : Stepped) : Type 0 where
  pub decl : plan_reporter.Reporter
  pub was : ReporterState
  pub declared : slice_get plan.reporters r ≡ Some decl
  pub there : slice_get s.reporters r ≡ Some was
  pub allowed : was.made < decl.limit
  pub before : Before (suc s.steps) s.banks → Before (suc d.state.steps) d.state.banks
  pub number : d.state.steps ≡ suc s.steps
  pub told : is_idle d.note ≡ false
  pub reporters : d.state.reporters ≡ set s.reporters r (one_more was)
  pub counts : d.state.counts ≡ s.counts

act_effect : (plan : Plan) (s : BoardState) (a : Act) → IsEffect (suc (suc s.steps)) s.banks (on_act plan s a)
act_effect plan s (act.Raise id h) = record { before = λ before. before; told = refl }
act_effect plan s (act.Error report) =
    let error : Error = record { step = suc s.steps; report = report } in
    error_effect (at_bank report.bank (Reports error) plan s.machine.events s.banks)
    (at_effect (suc (suc s.steps)) report.bank (Reports error) plan s.machine.events s.banks (omega arith))
  where
    error_effect : (o : Option Effect) → AreEffects (suc (suc s.steps)) s.banks o
        → IsEffect (suc (suc s.steps)) s.banks (unwrap_or o (record {
          events = s.machine.events;
          banks = s.banks;
          note = note.Error report None;
          published = None;
        }))
    error_effect None are = record { before = λ before. before; told = refl }
    error_effect (Some e) are = are

wanted_makes : (r : ℕ) (plan : Plan) (s : BoardState) (a : Act) (o : Option plan_reporter.Reporter)
    (q : Option ReporterState) → slice_get plan.reporters r ≡ o → slice_get s.reporters r ≡ q → is_wanted o q ≡ true
    → ReporterStep r plan s (after_reporter r s (on_act plan s a))
wanted_makes r plan s a None q declared there wanted = absurd (cc)
wanted_makes r plan s a (Some decl) None declared there wanted = absurd (cc)
wanted_makes r plan s a (Some decl) (Some x) declared there wanted =
    let effect = act_effect plan s a in
    record {
      decl = decl;
      was = x;
      declared = declared;
      there = there;
      allowed = ltb-true x.made decl.limit (second x.plugged (nat_lt x.made decl.limit) wanted);
      before = λ before. effect.before (later (suc s.steps) (suc (suc s.steps)) s.banks (omega arith) before);
      number = refl;
      told = effect.told;
      reporters = ap (with_one_more r s.reporters) there;
      counts = refl;
    }
  where
    second : (p q : Bool) → (p && q) ≡ true → q ≡ true
    second true q is = is
    second false q is = absurd (cc)

abbrev pub ReporterSteps : ℕ → Plan → BoardState → Option Stepped → Type 0
ReporterSteps r plan s None = Unit {0}
ReporterSteps r plan s (Some d) = ReporterStep r plan s d

wanted_steps : (r : ℕ) (plan : Plan) (s : BoardState) (a : Act) (q : Bool) → wants plan r s ≡ q
    → ReporterSteps r plan s (cond q (Some (after_reporter r s (on_act plan s a))) None)
unfolding wants
wanted_steps r plan s a true wanted =
    wanted_makes r plan s a (slice_get plan.reporters r) (slice_get s.reporters r) refl refl wanted
wanted_steps r plan s a false wanted = tt

reporter_steps : (r : ℕ) (plan : Plan) (s : BoardState) (a : Option Act)
    → ReporterSteps r plan s (reporter_step r plan a s)
unfolding reporter_step
reporter_steps r plan s None = tt
reporter_steps r plan s (Some a) = wanted_steps r plan s a (wants plan r s) refl

pub reporter_makes : (r : ℕ) (plan : Plan) (s : BoardState) (a : Option Act) (d : Stepped)
    → reporter_step r plan a s ≡ Some d → ReporterStep r plan s d
reporter_makes r plan s a d is = subst (ReporterSteps r plan s) is (reporter_steps r plan s a)

-- ---- The start, and any step ----

pub before_start : (plan : Plan) (n : ℕ) → Before n (start_state plan).banks
before_start plan n =
    record {
      each = λ i x there.
          empty (slice_get plan.banks i) x
          (sym (slice_get-map (λ (d : BankDecl). bank_start) plan.banks i) ∙ there);
    }
  where
    empty : (o : Option BankDecl) (x : BankState) → option_map (λ (d : BankDecl). bank_start) o ≡ Some x
        → AllLogsBefore n x.history
    empty None x is = absurd (none-some x is)
    empty (Some d) x is = subst (λ (y : BankState). AllLogsBefore n y.history) (same_Some bank_start x is) tt

pub early_start : (plan : Plan) → AreEarly (start_state plan)
early_start plan = (before_start plan 1).each

pub hart_early : (h : ℕ) (plan : Plan) (s : BoardState) (d : Stepped) → hart_step h plan s ≡ Some d → AreEarly s
    → AreEarly d.state
hart_early h plan s d is early = ((hart_makes h plan s d is).before (record { each = early })).each

pub reporter_early : (r : ℕ) (plan : Plan) (s : BoardState) (a : Option Act) (d : Stepped)
    → reporter_step r plan a s ≡ Some d → AreEarly s → AreEarly d.state
reporter_early r plan s a d is early = ((reporter_makes r plan s a d is).before (record { each = early })).each

pub early_step : (plan : Plan) (acts : ℕ → List Act) (t : Step) (s : BoardState) (d : Stepped)
    → step plan acts t s ≡ Some d → AreEarly s → AreEarly d.state
unfolding step
early_step plan acts (Hart h) s d is early = hart_early h plan s d is early
early_step plan acts (Reporter r) s d is early = reporter_early r plan s (next_act acts r s) d is early

pub steps_step : (plan : Plan) (acts : ℕ → List Act) (t : Step) (s : BoardState) (d : Stepped)
    → step plan acts t s ≡ Some d → d.state.steps ≡ suc s.steps
unfolding step
steps_step plan acts (Hart h) s d is = (hart_makes h plan s d is).number
steps_step plan acts (Reporter r) s d is = (reporter_makes r plan s (next_act acts r s) d is).number

-- no step is noted as one that had nothing to do
not_idle : (n : StepNote) → is_idle n ≡ false → n ≢ note.Idle
not_idle n told is = cc (ap is_idle is)

pub hart_not_idle : (h : ℕ) (plan : Plan) (s : BoardState) (d : Stepped) → hart_step h plan s ≡ Some d
    → d.note ≢ note.Idle
hart_not_idle h plan s d is = not_idle d.note (hart_makes h plan s d is).told

pub acted_not_idle : (r : ℕ) (plan : Plan) (s : BoardState) (a : Option Act) (d : Stepped)
    → reporter_step r plan a s ≡ Some d → d.note ≢ note.Idle
acted_not_idle r plan s a d is = not_idle d.note (reporter_makes r plan s a d is).told
