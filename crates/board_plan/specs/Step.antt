-- One step of a hart or a reporter of a whole board. A hart makes the first that it can of: the next phase of its
-- drain, the beginning of a drain, the delivery that is chosen for it, the op at its pc. A reporter makes its next act.
-- This order, budgets, limits and plugs are this project's own. Deliveries and calls are those of the event book (SBI
-- 3.0, "Supervisor Software Events"), a bank's steps those of the record book (RERI 1.0); which event stands for which
-- level of a bank is this project's own choice among SBI's RAS events.
use Rattle.std.specs.Prelude.{ℕ, suc, ◌+◌, ◌==◌, ◌&&◌, nat_lt, Bool, true, false, if◌then◌else◌, List, length, find, slice_get, slice_set, Option, Some, None, is_some, option_map, unwrap_or}
use Rattle.std.specs.List.{range_with_len}
use Rattle.sse_base.specs.declared.codes.SbiCode.{SbiCode}
use Rattle.sse_base.specs.declared.ids.Instance.{Instance}
use Rattle.sse_base.specs.Ids.{id_of, instance_of}
use Rattle.sse_base.specs.Codes.{number_of, is_success}
use Rattle.sse_base.specs.Events.{Events, is_on_board, signal}
use Rattle.sse_base.specs.Contexts.{Stack}
use Rattle.sse_base.specs.Words.{load}
use Rattle.sse_base.specs.Machine.{Reach, placed}
use Rattle.sse_base.specs.Choice.{next_for}
use Rattle.sse_base.specs.Calls.{delivered, with_events}
use Rattle.reri_fields.specs.declared.drain.DrainNote.{DrainNote}
use Rattle.reri_fields.specs.declared.drain.DrainNote.TheVariants as drain
use Rattle.reri_fields.specs.declared.report.Report.{Report}
use Rattle.reri_fields.specs.Records.{Error}
use Rattle.reri_fields.specs.Drain.{BankState, BankTry, BankNote, BankStep, may_begin, bank_step}
use Rattle.reri_fields.specs.Drain.BankTry.{Reports, Drains, Acknowledges}
use Rattle.reri_fields.specs.Drain.BankNote.{Heard, Drew, Acknowledged}
use Rattle.ras_device.specs.declared.act.Act.{Act}
use Rattle.ras_device.specs.declared.act.Act.TheVariants as act
use Rattle.board_plan.specs.declared.notes.Counts.{Counts}
use Rattle.board_plan.specs.declared.notes.Published.{Published}
use Rattle.board_plan.specs.declared.notes.Step.{Step}
use Rattle.board_plan.specs.declared.notes.Step.TheVariants.{Hart, Reporter}
use Rattle.board_plan.specs.declared.notes.StepNote.{StepNote}
use Rattle.board_plan.specs.declared.notes.StepNote.TheVariants as note
use Rattle.board_plan.specs.declared.ops.Op.{Op}
use Rattle.board_plan.specs.declared.ops.Op.TheVariants as ops
use Rattle.board_plan.specs.declared.plan.BankDecl.{BankDecl}
use Rattle.board_plan.specs.declared.plan.Reporter as plan_reporter
use Rattle.board_plan.specs.declared.plan.Plan.{Plan}
use Rattle.board_plan.specs.State.{BoardState, ReporterState, bank_plan, budget_of, counts_of}
use Rattle.board_plan.specs.Ops.{Done, op_at, is_user, needs_supervisor, past, sbi, set, loaded, save, store_word, risen, jump, jumped, sret}

-- ---- What a step leaves ----

-- all that a hart's step can change: the hart's reach, the banks, and the reporters
pub record BoardReach : Type 0 where
  pub own : Reach
  pub banks : List BankState
  pub reporters : List ReporterState

-- what a hart's step leaves, its note, and the copy that it published, if any
pub record Made : Type 0 where
  pub reach : BoardReach
  pub note : StepNote
  pub published : Option Published

abbrev pub quietly : BoardReach → StepNote → Made
quietly r n = record { reach = r; note = n; published = None }

-- what a bank's step or an act leaves of the events and the banks, its note, and the copy that it published, if any
pub record Effect : Type 0 where
  pub events : Events
  pub banks : List BankState
  pub note : StepNote
  pub published : Option Published

-- the board after a step, its note, and the copy that it published, if any
pub record Stepped : Type 0 where
  pub state : BoardState
  pub note : StepNote
  pub published : Option Published

-- ---- A bank on a board ----

-- the event that tells of a level, by the bank's scope: the RAS event of low priority for 1, that of high priority for
-- 2, and the one that the plan names for 3
abbrev pub level_event : BankDecl → ℕ → Option ℕ
level_event d level =
    if level == 1 then Some (if d.global then 0x108000 else 0x100000)
    else (if level == 2 then Some (if d.global then 0x8000 else 0x0)
    else (if level == 3 then d.plat
    else None))

-- an event, where the board has it for this hart
abbrev pub on_board : ℕ → Events → Option ℕ → Option ℕ
on_board h t None = None
on_board h t (Some id) = if is_on_board (instance_of id h) t then Some id else None

-- the event that a signal of this level is, on the home hart where it is local
abbrev pub event_signalled : BankDecl → Events → ℕ → Option ℕ
event_signalled d t level = on_board d.home t (level_event d level)

-- how a drain's step is noted
abbrev pub drain_note : ℕ → BankDecl → Events → ℕ → DrainNote → StepNote
drain_note bank d t rec (drain.Scanned found) = note.Scan bank (Some found)
drain_note bank d t rec drain.Over = note.Scan bank None
drain_note bank d t rec drain.Claimed = note.Claim bank rec
drain_note bank d t rec (drain.Read register) = note.Read bank rec register
drain_note bank d t rec drain.Torn = note.Check bank rec true
drain_note bank d t rec (drain.Published copy) = note.Check bank rec false
drain_note bank d t rec (drain.Invalidated cleared) = note.Invalidate bank rec cleared
drain_note bank d t rec (drain.Signal level) = note.Signal bank level (event_signalled d t level)

abbrev pub bank_note : ℕ → BankDecl → Events → BankNote → StepNote
bank_note bank d t (Heard report logged) = note.Error report logged
bank_note bank d t (Drew rec n) = drain_note bank d t rec n
bank_note bank d t (Acknowledged full) = note.Ack bank (Some full)

-- the events after a bank's step: a drain's last one signals
abbrev pub signal_event : ℕ → Events → Option ℕ → Events
signal_event h t None = t
signal_event h t (Some id) = signal (instance_of id h) t

abbrev pub events_after : BankDecl → Events → BankNote → Events
events_after d t (Drew rec (drain.Signal level)) = signal_event d.home t (event_signalled d t level)
events_after d t n = t

-- the copy that a bank's step published
abbrev pub published_by : ℕ → BankNote → Option Published
published_by bank (Drew rec (drain.Published copy)) = Some (record { bank = bank; copy = copy })
published_by bank n = None

abbrev pub bank_effect : ℕ → BankDecl → Events → List BankState → BankStep → Effect
bank_effect bank d t banks b =
    record {
      events = events_after d t b.note;
      banks = slice_set banks bank b.state;
      note = bank_note bank d t b.note;
      published = published_by bank b.note;
    }

-- what a try at a bank makes; none where the board hasn't the bank, or where the bank has no such step
abbrev pub tried_at : ℕ → BankTry → Plan → Events → List BankState → Option BankDecl → Option BankState → Option Effect
tried_at bank t plan events banks (Some d) (Some s) =
    option_map (bank_effect bank d events banks) (bank_step (bank_plan bank d plan.recs) s t)
tried_at bank t plan events banks d s = None

unfoldable pub at_bank : ℕ → BankTry → Plan → Events → List BankState → Option Effect
at_bank bank t plan events banks = tried_at bank t plan events banks (slice_get plan.banks bank) (slice_get banks bank)

-- ---- Which bank a hart drains ----

-- a drain of the hart's bank is under way
abbrev pub is_draining : ℕ → Plan → ℕ → BankDecl → BankState → Bool
is_draining h plan bank d s = (d.home == h) && is_some s.drain

-- a drain of the hart's bank may begin
abbrev pub is_waiting : ℕ → Plan → ℕ → BankDecl → BankState → Bool
is_waiting h plan bank d s = (d.home == h) && may_begin (bank_plan bank d plan.recs) s

abbrev pub passes : (BankDecl → BankState → Bool) → Option BankDecl → Option BankState → Bool
passes test (Some d) (Some s) = test d s
passes test d s = false

-- the bank of least number that passes a test
unfoldable pub first_bank : (ℕ → BankDecl → BankState → Bool) → Plan → List BankState → Option ℕ
first_bank test plan banks =
    find (λ b. passes (test b) (slice_get plan.banks b) (slice_get banks b)) (range_with_len 0 (length plan.banks))

-- the bank whose drain is under way comes before those that wait
abbrev pub drain_first : Option ℕ → Option ℕ → Option ℕ
drain_first (Some bank) waiting = Some bank
drain_first None waiting = waiting

unfoldable pub bank_due : ℕ → Plan → List BankState → Option ℕ
bank_due h plan banks =
    drain_first (first_bank (is_draining h plan) plan banks) (first_bank (is_waiting h plan) plan banks)

-- ---- The ops that reach banks and reporters ----

abbrev pub with_effect : BoardReach → Effect → Made
with_effect r e =
    record {
      reach = record { own = with_events e.events r.own; banks = e.banks; reporters = r.reporters };
      note = e.note;
      published = e.published;
    }

-- `ack`: the bank's slot is acknowledged
abbrev pub acknowledge : ℕ → Plan → BoardReach → Made
acknowledge bank plan r =
    unwrap_or (option_map (with_effect r) (at_bank bank Acknowledges plan r.own.events r.banks))
    (quietly r (note.Ack bank None))

-- `unplug`: the reporter makes no further act
abbrev pub unplugged : ℕ → BoardReach → Option ReporterState → Made
unplugged reporter r None = quietly r (note.Unplug reporter false)
unplugged reporter r (Some x) =
    let reporters = slice_set r.reporters reporter (record x { plugged = false }) in
    quietly (record r { reporters = reporters }) (note.Unplug reporter x.plugged)

-- ---- A hart's step ----

abbrev pub on_own : BoardReach → Done → Made
on_own r d = quietly (record r { own = d.reach }) d.note

-- an op on a hart that is past it already
abbrev pub apply : ℕ → Plan → List Stack → BoardReach → Op → Made
apply h plan stacks r ops.Nop = quietly r note.Nop
apply h plan stacks r (ops.Sbi eid fid args) = on_own r (sbi h eid fid args stacks r.own)
apply h plan stacks r (ops.Set reg value) = on_own r (set reg value r.own)
apply h plan stacks r (ops.Load reg addr) = on_own r (loaded reg r.own (load r.own.memory addr))
apply h plan stacks r (ops.Save reg addr) = on_own r (save reg addr r.own)
apply h plan stacks r (ops.Store addr value) = on_own r (store_word addr value r.own)
apply h plan stacks r (ops.Inc addr) = on_own r (risen addr r.own (load r.own.memory addr))
apply h plan stacks r (ops.Jump pc) = on_own r (jump pc r.own)
apply h plan stacks r (ops.Jlt addr value pc) = on_own r (jumped value pc r.own (load r.own.memory addr))
apply h plan stacks r ops.Sret = on_own r (sret r.own)
apply h plan stacks r (ops.Ack bank) = acknowledge bank plan r
apply h plan stacks r (ops.Unplug reporter) = unplugged reporter r (slice_get r.reporters reporter)

-- an op that is illegal in the hart's mode is passed over, before its address is looked at
abbrev pub allowed : ℕ → Plan → List Stack → BoardReach → Op → Made
allowed h plan stacks r op =
    let next = record r { own = past r.own } in
    if is_user r.own.stack.live.privilege && needs_supervisor op then quietly next note.Illegal
    else apply h plan stacks next op

-- the delivery that is chosen, else the op at pc
abbrev pub on_chosen : ℕ → Plan → List Stack → BoardReach → Option Instance → Option Made
on_chosen h plan stacks r None = option_map (allowed h plan stacks r) (op_at r.own.stack.live.pc plan.ops)
on_chosen h plan stacks r (Some at) =
    Some (quietly (record r { own = delivered h at r.own }) (note.Deliver (id_of at).0))

-- a drain that is due, else the other two
abbrev pub on_due : ℕ → Plan → List Stack → BoardReach → Option ℕ → Option Made
on_due h plan stacks r None = on_chosen h plan stacks r (next_for h r.own)
on_due h plan stacks r (Some bank) = option_map (with_effect r) (at_bank bank Drains plan r.own.events r.banks)

-- the first that applies
abbrev pub own_step : ℕ → Plan → List Stack → BoardReach → Option Made
own_step h plan stacks r = on_due h plan stacks r (bank_due h plan r.banks)

-- what is counted of a step
abbrev pub counted_call : SbiCode → Counts → Counts
counted_call code c =
    record {
      steps = c.steps + 1;
      calls = c.calls + 1;
      failed = if is_success code then c.failed else c.failed + 1;
      last = number_of code;
    }

abbrev pub counted : StepNote → Counts → Counts
counted (note.Call eid fid args code written) c = counted_call code c
counted n c = record c { steps = c.steps + 1 }

abbrev pub after_hart : ℕ → BoardState → Made → Stepped
after_hart h s m =
    record {
      state = record {
        machine = placed h m.reach.own s.machine;
        banks = m.reach.banks;
        reporters = m.reach.reporters;
        counts = slice_set s.counts h (counted m.note (counts_of h s));
        steps = suc s.steps;
      };
      note = m.note;
      published = m.published;
    }

abbrev pub board_reach : Stack → BoardState → BoardReach
board_reach stack s =
    record {
      own = record { stack = stack; events = s.machine.events; masks = s.machine.masks; memory = s.machine.memory };
      banks = s.banks;
      reporters = s.reporters;
    }

-- none where the board hasn't the hart, and where it has made its budget
abbrev pub step_of : ℕ → Plan → BoardState → Option Stack → Option Stepped
step_of h plan s None = None
step_of h plan s (Some stack) =
    if nat_lt (counts_of h s).steps (budget_of h plan.starts)
    then option_map (after_hart h s) (own_step h plan s.machine.stacks (board_reach stack s))
    else None

unfoldable pub hart_step : ℕ → Plan → BoardState → Option Stepped
hart_step h plan s = step_of h plan s (slice_get s.machine.stacks h)

-- ---- A reporter's step ----

-- an error is reported to its bank; it is stray where the board has no such bank or the bank no such record
abbrev pub on_error : Plan → Report → BoardState → Effect
on_error plan report s =
    let error : Error = record { step = suc s.steps; report = report } in
    unwrap_or (at_bank report.bank (Reports error) plan s.machine.events s.banks)
    (record { events = s.machine.events; banks = s.banks; note = note.Error report None; published = None })

-- an event is raised, on the hart that is named where it is local; it is stray where the board has no such instance
abbrev pub on_raise : ℕ → ℕ → BoardState → Effect
on_raise id h s =
    let raised = on_board h s.machine.events (Some id) in
    record {
      events = signal_event h s.machine.events raised;
      banks = s.banks;
      note = note.Raise id h (is_some raised);
      published = None;
    }

abbrev pub on_act : Plan → BoardState → Act → Effect
on_act plan s (act.Error report) = on_error plan report s
on_act plan s (act.Raise id h) = on_raise id h s

-- a reporter is wanted as long as it is plugged and below its limit
abbrev pub is_wanted : Option plan_reporter.Reporter → Option ReporterState → Bool
is_wanted (Some decl) (Some x) = x.plugged && nat_lt x.made decl.limit
is_wanted decl x = false

unfoldable pub wants : Plan → ℕ → BoardState → Bool
wants plan r s = is_wanted (slice_get plan.reporters r) (slice_get s.reporters r)

-- how many acts a reporter has made
abbrev pub made_by : Option ReporterState → ℕ
made_by None = 0
made_by (Some x) = x.made

abbrev pub acts_made : ℕ → BoardState → ℕ
acts_made r s = made_by (slice_get s.reporters r)

abbrev pub one_more : ReporterState → ReporterState
one_more x = record x { made = suc x.made }

abbrev pub with_one_more : ℕ → List ReporterState → Option ReporterState → List ReporterState
with_one_more r reporters None = reporters
with_one_more r reporters (Some x) = slice_set reporters r (one_more x)

abbrev pub after_reporter : ℕ → BoardState → Effect → Stepped
after_reporter r s e =
    record {
      state = record {
        machine = record s.machine { events = e.events };
        banks = e.banks;
        reporters = with_one_more r s.reporters (slice_get s.reporters r);
        counts = s.counts;
        steps = suc s.steps;
      };
      note = e.note;
      published = e.published;
    }

-- with the act that comes next, if there is one
unfoldable pub reporter_step : ℕ → Plan → Option Act → BoardState → Option Stepped
reporter_step r plan None s = None
reporter_step r plan (Some next) s = if wants plan r s then Some (after_reporter r s (on_act plan s next)) else None

-- ---- Any step ----

-- the acts of each reporter are given as lists; one makes them in their order
abbrev pub next_act : (ℕ → List Act) → ℕ → BoardState → Option Act
next_act acts r s = slice_get (acts r) (acts_made r s)

unfoldable pub step : Plan → (ℕ → List Act) → Step → BoardState → Option Stepped
step plan acts (Hart h) s = hart_step h plan s
step plan acts (Reporter r) s = reporter_step r plan (next_act acts r s) s
