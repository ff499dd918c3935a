-- What `log` writes into the registers. These definitions describe the code's update, for any registers; the rules that
-- the update keeps stand in the record book, and `log` is proved to keep them for every record that has a history.
use Rattle.std.specs.Prelude.{◌≡◌, ℕ, ◌+◌, ◌*◌, nat_lt, ◌==◌, Bool, true, false, ◌&&◌, if◌then◌else◌, Option, None}
use Rattle.std.specs.Option.{option_map_or}
use Rattle.reri_fields.specs.declared.severity.Severity.{Severity}
use Rattle.reri_fields.specs.declared.severity.Severity.TheVariants.{Ce, Ued, Uec}
use Rattle.reri_fields.specs.declared.report.Report.{Report}
use Rattle.reri_fields.specs.declared.report.RecordCopy.{RecordCopy}
use Rattle.reri_fields.specs.declared.report.Logged.{Logged}
use Rattle.reri_fields.specs.declared.report.Logged.TheVariants.{Disabled, Counted, Wrote, Kept}
use Rattle.reri_fields.specs.Fields.{StatusFields, control_fields, status_fields, status_spare, severity_number, level_of, greatest}
use Rattle.reri_fields.specs.Records.{is_counted}

-- the greatest severity that a valid record has
unfoldable pub top : StatusFields → Option Severity
top fields = if fields.valid then greatest fields else None

-- the rank of an error, the severity first
unfoldable pub rank : Severity → ℕ → ℕ
rank severity priority = 4 * severity_number severity + priority

-- whether an error takes the place of the shown one
unfoldable pub wins : StatusFields → Report → Bool
wins fields report =
    option_map_or (λ severity. nat_lt (rank severity fields.priority) (rank report.severity report.priority))
    (top fields) true

-- multiple occurrence: off at a greater severity than all before, on at an equal one, else as it was
unfoldable pub multiple_after : StatusFields → Severity → Bool
multiple_after fields severity =
    option_map_or
    (λ before. if nat_lt (severity_number before) (severity_number severity) then false else if severity_number
    before == severity_number severity then true else fields.multiple) (top fields) false

unfoldable pub with_severity : Severity → StatusFields → StatusFields
with_severity Ce fields = record fields { ce = true }
with_severity Ued fields = record fields { ued = true }
with_severity Uec fields = record fields { uec = true }

-- the bit of the severity, and multiple occurrence
unfoldable pub marked : StatusFields → Severity → StatusFields
marked fields severity = record (with_severity severity fields) { multiple = multiple_after fields severity }

-- the fields that tell of the shown error
unfoldable pub filled : StatusFields → Report → StatusFields
filled fields report =
    record fields { valid = true; priority = report.priority; code = report.code; in_progress = false }

-- the status fields once an error is logged
unfoldable pub entered : StatusFields → Report → StatusFields
entered fields report =
    if wins fields report then filled (marked fields report.severity) report else marked fields report.severity

-- the error raises the count, and does no more
unfoldable pub stays_counted : ℕ → StatusFields → Report → Bool
stays_counted control fields report = is_counted control report && nat_lt fields.count 65535

-- the status fields once the error is counted, if it is one that the record counts
unfoldable pub count_after : ℕ → StatusFields → Report → StatusFields
count_after control fields report =
    if is_counted control report
    then (if nat_lt fields.count 65535 then record fields { count = fields.count + 1 }
    else record fields { count = 0; overflow = true })
    else fields

unfoldable pub answer_of : ℕ → StatusFields → Report → Logged
answer_of control fields report =
    if (control_fields control).enable
    then (if stays_counted control fields report then Counted
    else if wins fields report then Wrote (level_of (control_fields control) report.severity) else Kept)
    else Disabled

unfoldable pub fields_after : ℕ → StatusFields → Report → StatusFields
fields_after control fields report =
    if (control_fields control).enable
    then (if stays_counted control fields report then count_after control fields report
    else entered (count_after control fields report) report)
    else fields

unfoldable pub is_written : Logged → Bool
is_written Disabled = false
is_written Counted = false
is_written (Wrote level) = true
is_written Kept = false

-- The registers after an error was counted, where the record counts it. `alone` says whether nothing more is to be
-- done.
pub record CountsUp (old : RecordCopy) (report : Report) (new : RecordCopy) (alone : Bool) : Type 0 where
  pub answered : alone ≡ stays_counted old.control (status_fields old.status) report
  pub status : status_fields new.status ≡ count_after old.control (status_fields old.status) report
  pub others : status_spare new.status ≡ status_spare old.status
  pub rest : new ≡ record old { status = new.status }

-- the registers after an error was entered into them, and whether it wrote or was kept out
pub record EntersInto (old : RecordCopy) (report : Report) (new : RecordCopy) (answer : Logged) : Type 0 where
  pub answered : answer
      ≡ (if wins (status_fields old.status) report then Wrote (level_of (control_fields old.control) report.severity)
      else Kept)
  pub control : new.control ≡ old.control
  pub status : status_fields new.status ≡ entered (status_fields old.status) report
  pub others : status_spare new.status ≡ status_spare old.status
  pub address : new.address ≡ (if is_written answer then report.address else old.address)
  pub info : new.info ≡ (if is_written answer then report.info else old.info)
  pub supplement : new.supplement ≡ (if is_written answer then report.supplement else old.supplement)
  pub time : new.time ≡ (if is_written answer then report.time else old.time)

-- the registers after an error was logged into them, and what logging answered
pub record Updates (old : RecordCopy) (report : Report) (new : RecordCopy) (answer : Logged) : Type 0 where
  pub answered : answer ≡ answer_of old.control (status_fields old.status) report
  pub control : new.control ≡ old.control
  pub status : status_fields new.status ≡ fields_after old.control (status_fields old.status) report
  pub others : status_spare new.status ≡ status_spare old.status
  pub address : new.address ≡ (if is_written answer then report.address else old.address)
  pub info : new.info ≡ (if is_written answer then report.info else old.info)
  pub supplement : new.supplement ≡ (if is_written answer then report.supplement else old.supplement)
  pub time : new.time ≡ (if is_written answer then report.time else old.time)
