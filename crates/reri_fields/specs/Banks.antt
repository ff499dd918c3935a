-- A bank of error records: what can happen to it, what of that happened to one record, when the bank asks to be
-- drained, and which of its records are signalled. A bank of records and the levels follow RERI 1.0 (an error bank,
-- and the signal codes of `control_i`). The ask flag, and that a drain goes by the least record that is signalled, are
-- this project's own.
use Rattle.std.specs.Prelude.{◌≡◌, ℕ, ◌<◌, nat_lt, ◌==◌, Bool, true, false, ◌&&◌, ◌||◌, if◌then◌else◌, List, [], ◌∷◌, length, find, slice_get, Option, Some, None}
use Rattle.std.specs.List.{range_with_len}
use Rattle.std.specs.Option.{option_map_or}
use Rattle.reri_fields.specs.declared.report.RecordCopy.{RecordCopy}
use Rattle.reri_fields.specs.declared.report.Logged.{Logged}
use Rattle.reri_fields.specs.declared.report.Logged.TheVariants.{Disabled, Counted, Wrote, Kept}
use Rattle.reri_fields.specs.Fields.{control_fields, control_spare, status_fields, level_of, greatest}
use Rattle.reri_fields.specs.Records.{Error, Event, Origin, Stands, since, shown}
use Rattle.reri_fields.specs.Records.Event.{Reported, Claimed, Invalidated}
use Rattle.reri_fields.specs.Outcome.{outcome}

-- ---- What can happen to a bank ----

-- An error was reported (its report names the record), somebody set read-in-progress of a record, somebody tried to
-- clear one, a search for a signalled record found none. A history has the newest event first. An event that names no
-- record of the bank means nothing.
pub data BankEvent : Type 0 where
  Logs : Error → BankEvent
  Claims : ℕ → BankEvent
  Invalidates : ℕ → BankEvent
  ScanOver : BankEvent

-- each error of the history came before this step
abbrev pub AllLogsBefore : ℕ → List BankEvent → Type 0
AllLogsBefore step [] = Unit {0}
AllLogsBefore step (Logs error ∷ history) = (error.step < step) × AllLogsBefore step history
AllLogsBefore step (Claims rec ∷ history) = AllLogsBefore step history
AllLogsBefore step (Invalidates rec ∷ history) = AllLogsBefore step history
AllLogsBefore step (ScanOver ∷ history) = AllLogsBefore step history

-- the errors of the history came one after the other
abbrev pub AreLogsInOrder : List BankEvent → Type 0
AreLogsInOrder [] = Unit {0}
AreLogsInOrder (Logs error ∷ history) = AllLogsBefore error.step history × AreLogsInOrder history
AreLogsInOrder (Claims rec ∷ history) = AreLogsInOrder history
AreLogsInOrder (Invalidates rec ∷ history) = AreLogsInOrder history
AreLogsInOrder (ScanOver ∷ history) = AreLogsInOrder history

-- what of it happened to one record
unfoldable pub events_of : ℕ → List BankEvent → List Event
events_of at [] = []
events_of at (Logs error ∷ history) =
    if error.report.rec == at then Reported error ∷ events_of at history else events_of at history
events_of at (Claims rec ∷ history) =
    if rec == at then Claimed ∷ events_of at history else events_of at history
events_of at (Invalidates rec ∷ history) =
    if rec == at then Invalidated ∷ events_of at history else events_of at history
events_of at (ScanOver ∷ history) = events_of at history

-- ---- Levels, and the ask flag ----

-- the level at which an error is signalled: only one that wrote its record is
unfoldable pub level_in : Logged → ℕ
level_in Disabled = 0
level_in Counted = 0
level_in (Wrote level) = level
level_in Kept = 0

-- the level at which an error is signalled when it is reported after this history
unfoldable pub raised : List Origin → List BankEvent → Error → ℕ
raised origins history error =
    let at = error.report.rec in
    option_map_or (λ origin. level_in (outcome origin (events_of at history) error)) (slice_get origins at) 0

-- some record of the bank was written by an error whose level isn't 0, and no search has come up empty since
unfoldable pub asks : List Origin → List BankEvent → Bool
asks origins [] = false
asks origins (Logs error ∷ history) = asks origins history || nat_lt 0 (raised origins history error)
asks origins (Claims rec ∷ history) = asks origins history
asks origins (Invalidates rec ∷ history) = asks origins history
asks origins (ScanOver ∷ history) = false

-- ---- Signalled records ----

-- the level of the error that a record shows, which has the greatest severity; 0 where it shows none
unfoldable pub level_after : Origin → List Event → ℕ
level_after origin history =
    option_map_or (λ error. level_of (control_fields origin.control) error.report.severity)
    (shown (since origin history)) 0

-- whether a record of the bank is signalled: it shows an error, and the level is not 0
unfoldable pub is_signalled_after : List Origin → List BankEvent → ℕ → Bool
is_signalled_after origins history at =
    option_map_or (λ origin. nat_lt 0 (level_after origin (events_of at history))) (slice_get origins at) false

-- the least record that is signalled
unfoldable pub least_signalled : List Origin → List BankEvent → Option ℕ
least_signalled origins history = find (is_signalled_after origins history) (range_with_len 0 (length origins))

-- the level of a copy, told from its registers: the control's code for the greatest severity, 0 where there is none
unfoldable pub copy_level : RecordCopy → ℕ
copy_level copy = option_map_or (level_of (control_fields copy.control)) (greatest (status_fields copy.status)) 0

-- the copy is valid, and its level is not 0
unfoldable pub is_signalled : RecordCopy → Bool
is_signalled copy = (status_fields copy.status).valid && nat_lt 0 (copy_level copy)

-- whether the record of this number is there and is signalled, told from the registers
unfoldable pub is_signalled_at : List RecordCopy → ℕ → Bool
is_signalled_at copies at = option_map_or is_signalled (slice_get copies at) false

-- the least number that passes, or none where none does
abbrev pub IsLeast : (ℕ → Bool) → Option ℕ → Type 0
IsLeast test None = (at : ℕ) → test at ≡ false
IsLeast test (Some least) = (test least ≡ true) × ((at : ℕ) → at < least → test at ≡ false)

-- ---- A bank, and the history that it stands for ----

-- the registers of each record, and the ask flag
pub record BankView : Type 0 where
  pub copies : List RecordCopy
  pub asks : Bool

-- the bank is that of records that began so, and to which this happened
pub record BankStands (origins : List Origin) (history : List BankEvent) (bank : BankView) : Type 0 where
  pub count : length bank.copies ≡ length origins
  pub controls : (at : ℕ) (origin : Origin) → slice_get origins at ≡ Some origin → control_spare origin.control ≡ 0
  pub each : (at : ℕ) (origin : Origin) (copy : RecordCopy) → slice_get origins at ≡ Some origin
      → slice_get bank.copies at ≡ Some copy → Stands origin (events_of at history) copy
  pub asking : bank.asks ≡ asks origins history
