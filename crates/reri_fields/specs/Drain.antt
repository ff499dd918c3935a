-- The drain of a bank: how firmware takes errors out of a bank's records, one phase a step, while errors go on coming.
-- Read-in-progress and the invalidation are named after RERI 1.0 (`srdp` and `sinv` of `control_i`, `rdip` of
-- `status_i`). This project's own are their exact rules, the nine phases, up to how many copies a drain gathers, that
-- it signals once, at the greatest level, and the acknowledgement of a slot, after GHESv2 (ACPI 6.5, 18.3.2.8).
use Rattle.std.specs.Prelude.{ℕ, suc, max, nat_lt, ◌==◌, Bool, true, false, ◌&&◌, if◌then◌else◌, List, [], ◌∷◌, ◌++◌, slice_get, Option, Some, None}
use Rattle.std.specs.Option.{option_map}
use Rattle.reri_fields.specs.declared.report.RecordCopy.{RecordCopy}
use Rattle.reri_fields.specs.declared.report.Report.{Report}
use Rattle.reri_fields.specs.declared.report.Logged.{Logged}
use Rattle.reri_fields.specs.declared.drain.Phase.{Phase}
use Rattle.reri_fields.specs.declared.drain.Phase.TheVariants.{Scan, Claim, Address, Info, Supplement, Time, Check, Invalidate, Signal}
use Rattle.reri_fields.specs.declared.drain.DrainNote.{DrainNote}
use Rattle.reri_fields.specs.declared.drain.DrainNote.TheVariants as note
use Rattle.reri_fields.specs.Records.{Error, Origin, since, in_progress, shown, copy_after}
use Rattle.reri_fields.specs.Outcome.{outcome}
use Rattle.reri_fields.specs.Banks.{BankEvent, events_of, asks, least_signalled, copy_level}
use Rattle.reri_fields.specs.Banks.BankEvent.{Logs, Claims, Invalidates, ScanOver}

-- ---- A bank with its slot and its drain ----

-- what never changes of a bank: how its records began, and how many copies a drain of it gathers
pub record BankPlan : Type 0 where
  pub origins : List Origin
  pub gather : ℕ

-- A drain that is under way: the phase that its next step takes, the record that it has taken (0 where it has none),
-- how many copies it has published so far, and the greatest level of these, 0 where there are none.
pub record Draining : Type 0 where
  pub phase : Phase
  pub rec : ℕ
  pub count : ℕ
  pub level : ℕ

-- a copy that a drain published, with the record that it is of, and the error which that record showed
pub record Publication : Type 0 where
  pub rec : ℕ
  pub shown : Option Error
  pub copy : RecordCopy

-- What happened to the bank and what was published, the newest first; the copies that its slot holds, the oldest
-- first; and its drain, where one is under way.
pub record BankState : Type 0 where
  pub history : List BankEvent
  pub published : List Publication
  pub slot : List RecordCopy
  pub drain : Option Draining

-- a bank to which nothing has happened yet
abbrev pub bank_start : BankState
bank_start = record { history = []; published = []; slot = []; drain = None }

-- what one step of a drain leads to
pub record Drained : Type 0 where
  pub state : BankState
  pub note : DrainNote

-- ---- What happens to a bank from outside of its drain ----

-- an error was reported
abbrev pub reported : Error → BankState → BankState
reported error s = record s { history = Logs error ∷ s.history }

-- the slot was acknowledged
abbrev pub acknowledged : BankState → BankState
acknowledged s = record s { slot = [] }

-- ---- The phases ----

-- the errors that a record shows one of, and whether its claim still counts
abbrev pub errors_at : Origin → ℕ → List BankEvent → List Error
errors_at origin rec history = since origin (events_of rec history)

abbrev pub claimed_at : Origin → ℕ → List BankEvent → Bool
claimed_at origin rec history = in_progress origin (events_of rec history)

-- the drain goes on at this phase
abbrev pub goes_to : Phase → BankState → Draining → BankState
goes_to phase s d = record s { drain = Some (record d { phase = phase }) }

-- A Scan that finds no record takes the ask back. The drain signals if it has published anything, and is over if not.
abbrev pub after_empty_scan : Draining → Option Draining
after_empty_scan d = if d.count == 0 then None else Some (record d { phase = Signal; rec = 0 })

abbrev pub scanned : BankState → Draining → Option ℕ → Drained
scanned s d None =
    record { state = record s { history = ScanOver ∷ s.history; drain = after_empty_scan d }; note = note.Over }
scanned s d (Some rec) =
    record { state = record s { drain = Some (record d { phase = Claim; rec = rec }) }; note = note.Scanned rec }

-- read-in-progress is set
abbrev pub claimed : BankState → Draining → Drained
claimed s d =
    record { state = goes_to Address (record s { history = Claims d.rec ∷ s.history }) d; note = note.Claimed }

-- a register is read, by its number in the order of the six
abbrev pub read : ℕ → Phase → BankState → Draining → Drained
read register next s d = record { state = goes_to next s d; note = note.Read register }

-- an error wrote the record since it was claimed: it is claimed again
abbrev pub torn : BankState → Draining → Drained
torn s d = record { state = goes_to Claim s d; note = note.Torn }

-- the registers that the record has now go to the end of the slot
abbrev pub publication : BankState → ℕ → Origin → Publication
publication s rec origin =
    record {
      rec = rec;
      shown = shown (errors_at origin rec s.history);
      copy = copy_after origin (events_of rec s.history);
    }

abbrev pub published : BankState → Draining → Publication → Drained
published s d p =
    record {
      state = record s {
        published = p ∷ s.published;
        slot = s.slot ++ p.copy ∷ [];
        drain = Some (record d { phase = Invalidate; count = suc d.count; level = max d.level (copy_level p.copy) });
      };
      note = note.Published p.copy;
    }

-- A Check publishes where the claim still counts. A record that the bank has not is never checked: then it counts as
-- torn.
abbrev pub checked_if : BankState → Draining → Origin → Bool → Drained
checked_if s d origin true = published s d (publication s d.rec origin)
checked_if s d origin false = torn s d

abbrev pub checked : BankState → Draining → Option Origin → Drained
checked s d None = torn s d
checked s d (Some origin) = checked_if s d origin (claimed_at origin d.rec s.history)

-- whether an invalidation takes effect: where the claim still counts
abbrev pub is_cleared : Option Origin → ℕ → List BankEvent → Bool
is_cleared None rec history = false
is_cleared (Some origin) rec history = claimed_at origin rec history

-- the drain looks for a further record while it may gather more, and else signals
abbrev pub after_invalidate : ℕ → Draining → Draining
after_invalidate gather d =
    if nat_lt d.count gather then record d { phase = Scan; rec = 0 } else record d { phase = Signal }

abbrev pub invalidated : BankPlan → BankState → Draining → Drained
invalidated plan s d =
    record {
      state = record s { history = Invalidates d.rec ∷ s.history; drain = Some (after_invalidate plan.gather d) };
      note = note.Invalidated (is_cleared (slice_get plan.origins d.rec) d.rec s.history);
    }

-- the drain is over
abbrev pub signalled : BankState → Draining → Drained
signalled s d = record { state = record s { drain = None }; note = note.Signal d.level }

-- one step of a drain, by the phase that it is in
abbrev pub phase_step : BankPlan → BankState → Draining → Phase → Drained
phase_step plan s d Scan = scanned s d (least_signalled plan.origins s.history)
phase_step plan s d Claim = claimed s d
phase_step plan s d Address = read 2 Info s d
phase_step plan s d Info = read 3 Supplement s d
phase_step plan s d Supplement = read 4 Time s d
phase_step plan s d Time = read 5 Check s d
phase_step plan s d Check = checked s d (slice_get plan.origins d.rec)
phase_step plan s d Invalidate = invalidated plan s d
phase_step plan s d Signal = signalled s d

-- ---- A bank's steps ----

-- a drain that has made no step yet
abbrev pub fresh_drain : Draining
fresh_drain = record { phase = Scan; rec = 0; count = 0; level = 0 }

-- a slot is free where it holds no copy
unfoldable pub is_free : List RecordCopy → Bool
is_free [] = true
is_free (copy ∷ copies) = false

-- a drain may begin: the bank asks, and its slot is free
abbrev pub may_begin : BankPlan → BankState → Bool
may_begin plan s = asks plan.origins s.history && is_free s.slot

-- the drain that a step goes on with: the one under way, or else a fresh one where it may begin
abbrev pub due_drain : BankPlan → BankState → Option Draining → Option Draining
due_drain plan s (Some d) = Some d
due_drain plan s None = if may_begin plan s then Some fresh_drain else None

-- what a step that came to a bank was: an error for one of its records, a step of its drain, an acknowledgement of its
-- slot
pub data BankTry : Type 0 where
  Reports : Error → BankTry
  Drains : BankTry
  Acknowledges : BankTry

-- What such a step came to: what became of an error (none where the bank has not the record that it names), the record
-- and the note of a drain's step, and whether an acknowledgement found the slot full.
pub data BankNote : Type 0 where
  Heard : Report → Option Logged → BankNote
  Drew : ℕ → DrainNote → BankNote
  Acknowledged : Bool → BankNote

pub record BankStep : Type 0 where
  pub state : BankState
  pub note : BankNote

-- what became of an error that is reported after this history
abbrev pub heard : List Origin → List BankEvent → Error → Option Logged
heard origins history error =
    option_map (λ origin. outcome origin (events_of error.report.rec history) error)
    (slice_get origins error.report.rec)

abbrev pub drew : Draining → Drained → BankStep
drew d step = record { state = step.state; note = Drew d.rec step.note }

abbrev pub drained_by : BankPlan → BankState → Option Draining → Option BankStep
drained_by plan s None = None
drained_by plan s (Some d) = Some (drew d (phase_step plan s d d.phase))

-- what a try at a bank makes of it; none where no drain is due
unfoldable pub bank_step : BankPlan → BankState → BankTry → Option BankStep
bank_step plan s (Reports error) =
    Some (record { state = reported error s; note = Heard error.report (heard plan.origins s.history error) })
bank_step plan s Drains = drained_by plan s (due_drain plan s s.drain)
bank_step plan s Acknowledges =
    Some (record { state = acknowledged s; note = Acknowledged (if is_free s.slot then false else true) })
