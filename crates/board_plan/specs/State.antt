-- A whole board between two steps, and what its plan says of each part. Its event machine is that of the event book
-- (SBI 3.0, "Supervisor Software Events"), and its banks are those of the record book (RERI 1.0, and ACPI 6.5, 18.3.2.8
-- for the slot). Harts that begin in supervisor mode, budgets of steps, reporters and their limits, and that a record
-- which no statement names begins with zeros, are this project's own.
use Rattle.std.specs.Prelude.{ℕ, ◌==◌, ◌&&◌, Bool, true, if◌then◌else◌, pos, List, [], ◌∷◌, map, replicate, slice_index_or}
use Rattle.std.specs.List.{range_with_len}
use Rattle.sse_base.specs.Machine.{Machine}
use Rattle.sse_base.specs.Start.{start_machine}
use Rattle.reri_fields.specs.Records.{Origin}
use Rattle.reri_fields.specs.Drain.{BankPlan, BankState, bank_start}
use Rattle.board_plan.specs.declared.notes.Counts.{Counts}
use Rattle.board_plan.specs.declared.plan.BankDecl.{BankDecl}
use Rattle.board_plan.specs.declared.plan.RecDecl.{RecDecl}
use Rattle.board_plan.specs.declared.plan.Start.{Start}
use Rattle.board_plan.specs.declared.plan.Reporter.{Reporter}
use Rattle.board_plan.specs.declared.plan.Plan.{Plan}

-- ---- What a plan says ----

-- where a hart begins: at 0 where no start names it
abbrev pub start_of : ℕ → List Start → ℕ
start_of h [] = 0
start_of h (s ∷ ss) = if s.hart == h then s.pc else start_of h ss

-- how many steps a hart may make: none where no start names it
abbrev pub budget_of : ℕ → List Start → ℕ
budget_of h [] = 0
budget_of h (s ∷ ss) = if s.hart == h then s.budget else budget_of h ss

-- how a record begins: with a control and a count of 0 where nothing is said of it
abbrev pub origin_of : ℕ → ℕ → List RecDecl → Origin
origin_of bank rec [] = record { control = 0; count = 0 }
origin_of bank rec (d ∷ ds) =
    if (d.bank == bank) && (d.rec == rec) then record { control = d.control; count = d.count }
    else origin_of bank rec ds

-- what never changes of a bank: how its records begin, and how many copies a drain of it gathers
abbrev pub bank_plan : ℕ → BankDecl → List RecDecl → BankPlan
bank_plan bank d recs =
    record { origins = map (λ rec. origin_of bank rec recs) (range_with_len 0 d.recs); gather = d.gather }

-- ---- The state ----

-- a reporter: how many acts it has made, and whether it is plugged
pub record ReporterState : Type 0 where
  pub made : ℕ
  pub plugged : Bool

-- the whole board: the firmware's machine, the banks, the reporters, what is counted of each hart, and how many steps
-- were made by all
pub record BoardState : Type 0 where
  pub machine : Machine
  pub banks : List BankState
  pub reporters : List ReporterState
  pub counts : List Counts
  pub steps : ℕ

abbrev pub no_counts : Counts
no_counts = record { steps = 0; calls = 0; failed = 0; last = pos 0 }

abbrev pub counts_of : ℕ → BoardState → Counts
counts_of h s = slice_index_or s.counts h no_counts

-- ---- The board before its first step ----

-- every reporter is plugged and has made nothing
abbrev pub fresh_reporter : Reporter → ReporterState
fresh_reporter r = record { made = 0; plugged = true }

-- where each hart begins
abbrev pub start_places : ℕ → List Start → List ℕ
start_places harts starts = map (λ h. start_of h starts) (range_with_len 0 harts)

-- every hart is masked, every event unused, every record is as it begins, and all memory is 0
abbrev pub start_state : Plan → BoardState
start_state plan =
    record {
      machine = start_machine plan.harts plan.events (start_places plan.harts plan.starts);
      banks = map (λ d. bank_start) plan.banks;
      reporters = map fresh_reporter plan.reporters;
      counts = replicate plan.harts no_counts;
      steps = 0;
    }
