-- What an error record holds, told from all that happened to it: the errors that were reported to it, the claims of
-- those who read it, and the attempts to clear it. No register is read here but the record's control word. The order of
-- severities, that a greater error takes the place of a smaller one, and read-in-progress are named after RERI 1.0 (the
-- registers `control_i` and `status_i`, and the rules for overwriting an error record) in this project's profile: three
-- severities, priorities 0 to 3, and an error of equal rank is kept out. This project's own are the exact rules of
-- read-in-progress and of an invalidation, the counting of corrected errors, when several errors are told by
-- `multiple`, and that a record without an error reads 0.
use Rattle.std.specs.Prelude.{◌≡◌, ℕ, ◌+◌, ◌*◌, ◌%◌, ◌^◌, ◌<◌, max, nat_lt, ◌==◌, Bool, true, false, not, ◌&&◌, ◌||◌, if◌then◌else◌}
use Rattle.std.specs.Prelude.{List, [], ◌∷◌, ◌++◌, find, count_by, Option, Some, None}
use Rattle.std.specs.Option.{option_map_or}
use Rattle.reri_fields.specs.declared.severity.Severity.{Severity}
use Rattle.reri_fields.specs.declared.severity.Severity.TheVariants.{Ce, Ued, Uec}
use Rattle.reri_fields.specs.declared.report.Report.{Report}
use Rattle.reri_fields.specs.declared.report.RecordCopy.{RecordCopy}
use Rattle.reri_fields.specs.Fields.{StatusFields, control_fields, control_spare, status_fields, status_spare, status_word, severity_number}

-- ---- What can happen to a record ----

-- an error that was reported, with the number of the step that reported it: two reports may be equal in every field
pub record Error : Type 0 where
  pub step : ℕ
  pub report : Report

-- an error was reported, somebody set read-in-progress, somebody tried to clear the record
pub data Event : Type 0 where
  Reported : Error → Event
  Claimed : Event
  Invalidated : Event

-- how a record began: its control word, and its count. A history of events goes with it, the newest event first
pub record Origin : Type 0 where
  pub control : ℕ
  pub count : ℕ

-- each error of the history came before this step
abbrev pub AllBefore : ℕ → List Event → Type 0
AllBefore step [] = Unit {0}
AllBefore step (Reported error ∷ history) = (error.step < step) × AllBefore step history
AllBefore step (Claimed ∷ history) = AllBefore step history
AllBefore step (Invalidated ∷ history) = AllBefore step history

-- the errors of the history came one after the other: each at a greater step than all that stand behind it
abbrev pub AreInOrder : List Event → Type 0
AreInOrder [] = Unit {0}
AreInOrder (Reported error ∷ history) = AllBefore error.step history × AreInOrder history
AreInOrder (Claimed ∷ history) = AreInOrder history
AreInOrder (Invalidated ∷ history) = AreInOrder history

-- what a report can say: each of its numbers fits its field or register
pub record IsReport (report : Report) : Type 0 where
  pub bank : report.bank < 2 ^ 8
  pub rec : report.rec < 2 ^ 8
  pub priority : report.priority < 4
  pub code : report.code < 256
  pub address : report.address < 2 ^ 64
  pub info : report.info < 2 ^ 64
  pub supplement : report.supplement < 2 ^ 64
  pub time : report.time < 2 ^ 64

-- ---- Errors, and which of them is shown ----

unfoldable pub severity_of : Error → ℕ
severity_of error = severity_number error.report.severity

-- the severity counts first, and then the priority, which is at most 3
unfoldable pub rank_of : Error → ℕ
rank_of error = 4 * severity_of error + error.report.priority

unfoldable pub greatest_of : (Error → ℕ) → List Error → ℕ
greatest_of number [] = 0
greatest_of number (error ∷ errors) = max (number error) (greatest_of number errors)

unfoldable pub is_any : List Error → Bool
is_any [] = false
is_any (error ∷ errors) = true

-- the first of greatest rank, in a list whose oldest error is first
unfoldable pub shown : List Error → Option Error
shown errors = find (λ error. rank_of error == greatest_of rank_of errors) errors

-- the rank of the shown error, and 0 where none is shown
unfoldable pub shown_rank : List Error → ℕ
shown_rank errors = option_map_or rank_of (shown errors) 0

-- two or more have the greatest severity
unfoldable pub is_multiple : List Error → Bool
is_multiple errors = nat_lt 1 (count_by (λ error. severity_of error == greatest_of severity_of errors) errors)

-- some error has this severity
unfoldable pub has_severity : ℕ → List Error → Bool
has_severity severity [] = false
has_severity severity (error ∷ errors) = severity_of error == severity || has_severity severity errors

-- whether it is the error of this step
unfoldable pub came_at : ℕ → Option Error → Bool
came_at step None = false
came_at step (Some error) = error.step == step

-- whether the error is the shown one once it stands at the end of the list
unfoldable pub is_shown_after : List Error → Error → Bool
is_shown_after errors error = came_at error.step (shown (errors ++ error ∷ []))

-- ---- Which errors are counted, and which are logged ----

unfoldable pub is_ce : Severity → Bool
is_ce Ce = true
is_ce Ued = false
is_ce Uec = false

-- whether a record with this control word counts the error: a CE, while it is enabled and counting
unfoldable pub is_counted : ℕ → Report → Bool
is_counted control report =
    (control_fields control).enable && (control_fields control).counting && is_ce report.severity

-- the starting count, and one for each counted error
unfoldable pub counted : Origin → List Event → ℕ
counted origin [] = origin.count
counted origin (Reported error ∷ history) =
    if is_counted origin.control error.report then counted origin history + 1 else counted origin history
counted origin (Claimed ∷ history) = counted origin history
counted origin (Invalidated ∷ history) = counted origin history

-- Of counted errors only each 65536th is logged, at which the count wraps. What isn't counted is logged, if the record
-- is enabled.
unfoldable pub is_logged : Origin → List Event → Report → Bool
is_logged origin history report =
    if is_counted origin.control report then (counted origin history + 1) % 65536 == 0
    else (control_fields origin.control).enable

unfoldable mutual
  -- the errors that the record was told of and logged, as far back as the last invalidation that took effect, oldest
  -- first
  pub since : Origin → List Event → List Error
  since origin [] = []
  since origin (Reported error ∷ history) =
      if is_logged origin history error.report then since origin history ++ error ∷ [] else since origin history
  since origin (Claimed ∷ history) = since origin history
  since origin (Invalidated ∷ history) = if in_progress origin history then [] else since origin history

  -- whether a claim of the error that the record holds still counts: an error that is written ends it, and so does an
  -- invalidation that takes effect
  pub in_progress : Origin → List Event → Bool
  in_progress origin [] = false
  in_progress origin (Reported error ∷ history) =
      in_progress origin history
      && not (is_logged origin history error.report && is_shown_after (since origin history) error)
  in_progress origin (Claimed ∷ history) = is_any (since origin history)
  in_progress origin (Invalidated ∷ history) = false

-- ---- What the registers show ----

-- a number of the shown error, and 0 where none is shown
unfoldable pub number_in : (Report → ℕ) → Option Error → ℕ
number_in number None = 0
number_in number (Some error) = number error.report

-- the registers show these errors
pub record Shows (errors : List Error) (copy : RecordCopy) : Type 0 where
  pub valid : (status_fields copy.status).valid ≡ is_any errors
  pub ce : (status_fields copy.status).ce ≡ has_severity 0 errors
  pub ued : (status_fields copy.status).ued ≡ has_severity 1 errors
  pub uec : (status_fields copy.status).uec ≡ has_severity 2 errors
  pub multiple : (status_fields copy.status).multiple ≡ is_multiple errors
  pub priority : (status_fields copy.status).priority ≡ number_in (λ report. report.priority) (shown errors)
  pub code : (status_fields copy.status).code ≡ number_in (λ report. report.code) (shown errors)
  pub address : copy.address ≡ number_in (λ report. report.address) (shown errors)
  pub info : copy.info ≡ number_in (λ report. report.info) (shown errors)
  pub supplement : copy.supplement ≡ number_in (λ report. report.supplement) (shown errors)
  pub time : copy.time ≡ number_in (λ report. report.time) (shown errors)

-- the registers are those of a record that began so, and to which this happened
pub record Stands (origin : Origin) (history : List Event) (copy : RecordCopy) : Type 0 where
  pub control : copy.control ≡ origin.control
  pub shows : Shows (since origin history) copy
  pub in_progress : (status_fields copy.status).in_progress ≡ in_progress origin history
  pub count : (status_fields copy.status).count ≡ counted origin history % 65536
  pub overflow : (status_fields copy.status).overflow ≡ nat_lt 65535 (counted origin history)
  pub others : status_spare copy.status ≡ (0, 0, 0)

-- What the registers of a record always are, whatever happened to it: the valid bit says whether any severity bit is
-- set, and the spare bits of the two words are clear.
pub record IsRecord (copy : RecordCopy) : Type 0 where
  pub valid : (status_fields copy.status).valid
      ≡ ((status_fields copy.status).ce || (status_fields copy.status).ued || (status_fields copy.status).uec)
  pub status_spare : status_spare copy.status ≡ (0, 0, 0)
  pub control_spare : control_spare copy.control ≡ 0

-- ---- The registers as a value ----

-- the fields of the status word after this history
unfoldable pub status_after : Origin → List Event → StatusFields
status_after origin history =
    let errors = since origin history in
    record {
      valid = is_any errors;
      ce = has_severity 0 errors;
      ued = has_severity 1 errors;
      uec = has_severity 2 errors;
      priority = number_in (λ report. report.priority) (shown errors);
      multiple = is_multiple errors;
      in_progress = in_progress origin history;
      overflow = nat_lt 65535 (counted origin history);
      code = number_in (λ report. report.code) (shown errors);
      count = counted origin history % 65536;
    }

-- the six registers after this history
unfoldable pub copy_after : Origin → List Event → RecordCopy
copy_after origin history =
    let error = shown (since origin history) in
    record {
      control = origin.control;
      status = status_word (status_after origin history);
      address = number_in (λ report. report.address) error;
      info = number_in (λ report. report.info) error;
      supplement = number_in (λ report. report.supplement) error;
      time = number_in (λ report. report.time) error;
    }
