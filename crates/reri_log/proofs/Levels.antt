-- The level of a record, told from its registers, is the one that its history gives.
use Rattle.std.proofs.Common.{◌≡◌, ◌+◌, ◌*◌, true, false, nat_lt, List, Some, None, refl, inl, inr, sym, ap, ◌∙◌, arith}
use Rattle.std.proofs.lemmas.Bool.{cases_Bool, cond-true}
use Rattle.reri_fields.specs.declared.severity.Severity.{Severity}
use Rattle.reri_fields.specs.declared.severity.Severity.TheVariants.{Ce, Ued, Uec}
use Rattle.reri_fields.specs.declared.report.RecordCopy.{RecordCopy}
use Rattle.reri_fields.specs.Fields.{StatusFields, control_fields, status_fields, severity_number, level_of, greatest}
use Rattle.reri_fields.specs.Records.{Error, Event, Origin, Shows, Stands, severity_of, rank_of, greatest_of, is_any, shown, since, number_in}
use Rattle.reri_fields.specs.Banks.{level_after, copy_level, is_signalled}
use Rattle.reri_log.specs.Update.{top, rank}
use Rattle.reri_log.proofs.Errors.{shown_some, shown_none}
use Rattle.reri_log.proofs.Entered.{top_some, rank_is}

same_severity : (s t : Severity) → severity_number s ≡ severity_number t → s ≡ t
unfolding severity_number
same_severity Ce Ce h = refl
same_severity Ce Ued h = absurd (omega arith)
same_severity Ce Uec h = absurd (omega arith)
same_severity Ued Ce h = absurd (omega arith)
same_severity Ued Ued h = refl
same_severity Ued Uec h = absurd (omega arith)
same_severity Uec Ce h = absurd (omega arith)
same_severity Uec Ued h = absurd (omega arith)
same_severity Uec Uec h = refl

top_valid : (fields : StatusFields) → fields.valid ≡ true → top fields ≡ greatest fields
unfolding top
top_valid fields h = cond-true _ (greatest fields) None h

-- the shown error has the severity that the fields tell
shown_severity : (errors : List Error) (copy : RecordCopy) (severity : Severity) (x : Error) → Shows errors copy
    → is_any errors ≡ true → severity_number severity ≡ greatest_of severity_of errors → shown errors ≡ Some x
    → rank_of x ≡ greatest_of rank_of errors → x.report.severity ≡ severity
unfolding rank_of severity_of rank number_in
shown_severity errors copy severity x s any e is r =
    let told : 4 * severity_number severity + (status_fields copy.status).priority
    ≡ greatest_of rank_of errors = rank_is errors copy severity s any e in
    let p : (status_fields copy.status).priority ≡ x.report.priority = s.priority
    ∙ ap (number_in (λ report. report.priority)) is in
    same_severity x.report.severity severity (omega (arith, told, p, r))

signal_of_none : (copy : RecordCopy) → (status_fields copy.status).valid ≡ false → is_signalled copy ≡ false
unfolding is_signalled
signal_of_none copy h = rw h refl

signal_of_some : (copy : RecordCopy) (severity : Severity) → (status_fields copy.status).valid ≡ true
    → greatest (status_fields copy.status) ≡ Some severity
    → is_signalled copy ≡ nat_lt 0 (level_of (control_fields copy.control) severity)
unfolding is_signalled copy_level
signal_of_some copy severity h k = rw (k, h) refl

pub level_of_none : (origin : Origin) (history : List Event) → shown (since origin history) ≡ None
    → level_after origin history ≡ 0
unfolding level_after
level_of_none origin history h = rw h refl

pub level_of_some : (origin : Origin) (history : List Event) (x : Error) → shown (since origin history) ≡ Some x
    → level_after origin history ≡ level_of (control_fields origin.control) x.report.severity
unfolding level_after
level_of_some origin history x h = rw h refl

pub signal_is : (origin : Origin) (history : List Event) (copy : RecordCopy) → Stands origin history copy
    → is_signalled copy ≡ nat_lt 0 (level_after origin history)
signal_is origin history copy s =
    let errors = since origin history in
    elim (cases_Bool (is_any errors)) as (λ _. is_signalled copy ≡ nat_lt 0 (level_after origin history)) [
      | inl any ↦
          let valid = s.shows.valid ∙ any in
          let t = top_some errors copy s.shows any in
          let at = shown_some errors any in
          let same = shown_severity errors copy t.0 at.0 s.shows any t.2 at.1 at.2 in
          signal_of_some copy t.0 valid (sym (top_valid (status_fields copy.status) valid) ∙ t.1)
          ∙ ap (λ w. nat_lt 0 (level_of (control_fields w) t.0)) s.control
          ∙ ap (λ x. nat_lt 0 (level_of (control_fields origin.control) x)) (sym same)
          ∙ ap (λ n. nat_lt 0 n) (sym (level_of_some origin history at.0 at.1))
      | inr none ↦
          signal_of_none copy (s.shows.valid ∙ none)
          ∙ ap (λ n. nat_lt 0 n) (sym (level_of_none origin history (shown_none errors none)))
    ]

level_of_copy : (copy : RecordCopy) (severity : Severity) → greatest (status_fields copy.status) ≡ Some severity
    → copy_level copy ≡ level_of (control_fields copy.control) severity
unfolding copy_level
level_of_copy copy severity h = rw h refl

-- the level that is read from a copy of a valid record is the level of its history
pub level_is : (origin : Origin) (history : List Event) (copy : RecordCopy) → Stands origin history copy
    → is_any (since origin history) ≡ true → copy_level copy ≡ level_after origin history
level_is origin history copy s any =
    let errors = since origin history in
    let valid = s.shows.valid ∙ any in
    let t = top_some errors copy s.shows any in
    let at = shown_some errors any in
    let same = shown_severity errors copy t.0 at.0 s.shows any t.2 at.1 at.2 in
    level_of_copy copy t.0 (sym (top_valid (status_fields copy.status) valid) ∙ t.1)
    ∙ ap (λ w. level_of (control_fields w) t.0) s.control
    ∙ ap (λ x. level_of (control_fields origin.control) x) (sym same)
    ∙ sym (level_of_some origin history at.0 at.1)
