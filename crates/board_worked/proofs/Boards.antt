-- Small plans, for the worked runs.
use Rattle.std.specs.Prelude.{ℕ, ◌+◌, Bool, true, false, List, [], ◌∷◌, map, replicate, length, slice_index_or, None}
use Rattle.sse_base.specs.declared.codes.SbiCode.TheVariants.{Success}
use Rattle.sse_base.specs.declared.events.EventDecl.{EventDecl}
use Rattle.reri_fields.specs.declared.severity.Severity.{Severity}
use Rattle.reri_fields.specs.declared.report.Report.{Report}
use Rattle.ras_device.specs.declared.act.Act.{Act}
use Rattle.ras_device.specs.declared.act.Act.TheVariants as act
use Rattle.board_plan.specs.declared.notes.Step.{Step}
use Rattle.board_plan.specs.declared.notes.Step.TheVariants.{Hart, Reporter}
use Rattle.board_plan.specs.declared.notes.StepNote.{StepNote}
use Rattle.board_plan.specs.declared.notes.StepNote.TheVariants as note
use Rattle.board_plan.specs.declared.ops.Op.{Op}
use Rattle.board_plan.specs.declared.ops.Op.TheVariants as ops
use Rattle.board_plan.specs.declared.ops.Placed.{Placed}
use Rattle.board_plan.specs.declared.plan.BankDecl.{BankDecl}
use Rattle.board_plan.specs.declared.plan.RecDecl.{RecDecl}
use Rattle.board_plan.specs.declared.plan.Start.{Start}
use Rattle.board_plan.specs.declared.plan.Reporter as plan_reporter
use Rattle.board_plan.specs.declared.plan.Plan.{Plan}
use Rattle.board_plan.specs.State.{BoardState}
use Rattle.board_plan.specs.Run.{Noted, lists}
use Rattle.sse_base.specs.declared.contexts.Privilege.{Privilege}
use Rattle.sse_base.specs.Contexts.{Context, Triple, top_triple}
use Rattle.sse_base.specs.Machine.{stack_of}

-- ---- Parts of plans ----

-- an event that only hardware signals, and one that software may inject
abbrev pub event : ℕ → EventDecl
event id = record { id = record { 0 = id }; inject = false }

abbrev pub injectable : ℕ → EventDecl
injectable id = record { id = record { 0 = id }; inject = true }

-- a local bank of hart 0 without an event of its own
abbrev pub local_bank : ℕ → ℕ → BankDecl
local_bank recs gather = record { home = 0; global = false; recs = recs; plat = None; gather = gather }

-- a record that is enabled, counts nothing, and has levels 1, 1 and 2
abbrev pub plain_record : ℕ → ℕ → RecDecl
plain_record bank rec = record { bank = bank; rec = rec; control = 0x95; count = 0 }

abbrev pub starts_at : ℕ → ℕ → ℕ → Start
starts_at hart pc budget = record { hart = hart; pc = pc; budget = budget }

-- the ops from an address on
abbrev pub ops_from : ℕ → List Op → List Placed
ops_from pc [] = []
ops_from pc (op ∷ more) = record { pc = pc; op = op } ∷ ops_from (pc + 4) more

-- a call of the SSE extension with up to five arguments
abbrev pub five : List ℕ → List ℕ
five args =
    slice_index_or args 0 0 ∷ slice_index_or args 1 0 ∷ slice_index_or args 2 0 ∷ slice_index_or args 3 0
    ∷ slice_index_or args 4 0 ∷ []

abbrev pub sbi : ℕ → List ℕ → Op
sbi fid args = ops.Sbi 0x535345 fid (five args)

-- a reporter that makes these acts
abbrev pub listed : List Act → plan_reporter.Reporter
listed acts = record { device = None; limit = length acts; acts = acts }

-- an error for a record: severity, priority, code, address and time
abbrev pub error : ℕ → ℕ → Severity → ℕ → ℕ → ℕ → ℕ → Report
error bank rec severity priority code address time =
    record {
      bank = bank;
      rec = rec;
      severity = severity;
      priority = priority;
      code = code;
      address = address;
      info = 0;
      supplement = 0;
      time = time;
    }

-- a plan of one hart, one bank and one reporter
abbrev pub one_bank_plan : ℕ → List EventDecl → BankDecl → List RecDecl → List Placed → ℕ → List Report → Plan
one_bank_plan version events bank recs ops pc reports =
    record {
      version = version;
      harts = 1;
      events = events;
      banks = bank ∷ [];
      recs = recs;
      ops = ops;
      starts = starts_at 0 pc 100 ∷ [];
      reporters = listed (map act.Error reports) ∷ [];
      schedule = None;
    }

-- a plan with no bank
abbrev pub handlers_plan : ℕ → List EventDecl → List Placed → List Start → List Act → Plan
handlers_plan harts events ops starts acts =
    record {
      version = 1;
      harts = harts;
      events = events;
      banks = [];
      recs = [];
      ops = ops;
      starts = starts;
      reporters = listed acts ∷ [];
      schedule = None;
    }

-- the acts that the plan lists
abbrev pub own_acts : Plan → ℕ → List Act
own_acts plan = lists plan []

-- ---- Tries and notes ----

abbrev pub h0 : Step
h0 = Hart 0

abbrev pub h1 : Step
h1 = Hart 1

abbrev pub r0 : Step
r0 = Reporter 0

abbrev pub only_notes : List Noted → List StepNote
only_notes ns = map (λ n. n.note) ns

-- a call that succeeded and wrote no attribute
abbrev pub called : ℕ → List ℕ → StepNote
called fid args = note.Call 0x535345 fid (five args) Success (replicate 10 0)

-- the four registers that a drain reads on its own
abbrev pub reads : ℕ → ℕ → List StepNote
reads bank rec = note.Read bank rec 2 ∷ note.Read bank rec 3 ∷ note.Read bank rec 4 ∷ note.Read bank rec 5 ∷ []

-- ---- What a hart runs ----

abbrev pub context : ℕ → Privilege → Bool → ℕ → ℕ → Context
context pc privilege sie a6 a7 = record { pc = pc; privilege = privilege; sie = sie; a6 = a6; a7 = a7 }

abbrev pub triple : ℕ → Privilege → Bool → Triple
triple sepc spp spie = record { sepc = sepc; spp = spp; spie = spie }

abbrev pub live_on : ℕ → BoardState → Context
live_on h s = (stack_of h s.machine).live

-- sepc, spp and spie
abbrev pub below_on : ℕ → BoardState → Triple
below_on h s = top_triple (stack_of h s.machine)
