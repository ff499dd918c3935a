-- How the code keeps a drain that is under way, and what its phases leave. This describes the code; no public clause
-- cites it.
use Rattle.std.specs.Prelude.{◌≡◌, ◌≤◌, ◌<◌, ℕ, Bool, true, false, List, length, Option, Some, None}
use Rattle.reri_fields.specs.declared.report.RecordCopy.{RecordCopy}
use Rattle.reri_fields.specs.declared.drain.Phase.{Phase}
use Rattle.reri_fields.specs.declared.drain.Phase.TheVariants.{Scan, Claim, Address, Info, Supplement, Time, Check, Invalidate, Signal}
use Rattle.reri_fields.specs.declared.drain.DrainNote.{DrainNote}
use Rattle.reri_fields.specs.Banks.{BankView}
use Rattle.reri_fields.specs.Drain.{BankPlan, BankState, Draining, phase_step}
use Rattle.ras_drain.specs.declared.phases.At.{At}
use Rattle.ras_drain.specs.Fits.{FitsWhere, HasRoom}
use Rattle.ras_drain.specs.Steps.{IsAt, Took}

-- where the drain is, as the book has it
abbrev pub draining : At → Draining
draining at = record { phase = at.phase; rec = at.rec; count = at.published; level = at.level }

abbrev pub where_is : Option At → Option Draining
where_is None = None
where_is (Some at) = Some (draining at)

-- the phases in which a drain can still publish
unfoldable pub is_gathering : Phase → Bool
is_gathering Scan = true
is_gathering Claim = true
is_gathering Address = true
is_gathering Info = true
is_gathering Supplement = true
is_gathering Time = true
is_gathering Check = true
is_gathering Invalidate = false
is_gathering Signal = false

-- a drain gathers at most four copies, and has published fewer than it gathers as long as it can publish
abbrev pub IsWithin : ℕ → Option At → Type 0
IsWithin gather None = Unit {0}
IsWithin gather (Some at) = (gather ≤ 4) × (is_gathering at.phase ≡ true → at.published < gather)

-- what a phase leaves that does not touch the slot
pub record Moves (at : At) (phase : Phase) (gather : ℕ) (before bank : BankView) (got : RecordCopy) (next : Option At)
    (note : DrainNote) : Type 0 where
  pub does : (plan : BankPlan) (s : BankState) (slot : List RecordCopy) → gather ≡ plan.gather
      → IsAt plan s before slot → Took plan (phase_step plan s (draining at) phase) (where_is next) bank slot note
  pub fits : FitsWhere (where_is next) got bank
  pub room : (slot : List RecordCopy) → length slot ≤ at.published → HasRoom (where_is next) slot
  pub within : IsWithin gather next

-- what any phase leaves: the drain, the bank, the slot and the note that the book gives; the drain fits the bank, the
-- slot has room, and the drain is within its numbers
pub record Leaves (at : At) (phase : Phase) (gather : ℕ) (before bank : BankView) (old slot : List RecordCopy)
    (got : RecordCopy) (next : Option At) (note : DrainNote) : Type 0 where
  pub does : (plan : BankPlan) (s : BankState) → gather ≡ plan.gather → IsAt plan s before old
      → Took plan (phase_step plan s (draining at) phase) (where_is next) bank slot note
  pub fits : FitsWhere (where_is next) got bank
  pub room : HasRoom (where_is next) slot
  pub within : IsWithin gather next
