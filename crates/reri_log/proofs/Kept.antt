-- Whatever is logged into a record, it stays valid exactly where a severity bit is set, with no bit outside its fields.
use Rattle.std.proofs.Common.{◌≡◌, ℕ, ◌+◌, Bool, true, false, cond, ◌||◌, nat_lt, None, refl, inl, inr, sym, ap, ◌∙◌, subst}
use Rattle.std.proofs.lemmas.Bool.{cases_Bool, true≢false}
use Rattle.reri_fields.specs.declared.severity.Severity.{Severity}
use Rattle.reri_fields.specs.declared.severity.Severity.TheVariants.{Ce, Ued, Uec}
use Rattle.reri_fields.specs.declared.report.Report.{Report}
use Rattle.reri_fields.specs.declared.report.RecordCopy.{RecordCopy}
use Rattle.reri_fields.specs.declared.report.Logged.{Logged}
use Rattle.reri_fields.specs.Fields.{StatusFields, control_fields, control_spare, status_fields}
use Rattle.reri_fields.specs.Records.{IsRecord, is_counted}
use Rattle.reri_log.specs.Update.{Updates, top, wins, with_severity, marked, filled, entered, stays_counted, count_after, fields_after}
use Rattle.reri_log.proofs.Entered.{wins_none}

-- valid exactly where a severity bit is set
abbrev IsMatched : StatusFields → Type 0
IsMatched fields = fields.valid ≡ (fields.ce || fields.ued || fields.uec)

-- valid, and a severity bit is set
pub record IsSet (fields : StatusFields) : Type 0 where
  pub valid : fields.valid ≡ true
  pub bit : (fields.ce || fields.ued || fields.uec) ≡ true

matched : (fields : StatusFields) → IsSet fields → IsMatched fields
matched fields s = s.valid ∙ sym s.bit

last_of_two : (a : Bool) → (a || true) ≡ true
last_of_two true = refl
last_of_two false = refl

middle_of_three : (a c : Bool) → (a || true || c) ≡ true
middle_of_three true c = refl
middle_of_three false c = refl

last_of_three : (a b : Bool) → (a || b || true) ≡ true
last_of_three true b = refl
last_of_three false b = last_of_two b

bit_set : (severity : Severity) (fields : StatusFields)
    → ((with_severity severity fields).ce || (with_severity severity fields).ued
    || (with_severity severity fields).uec) ≡ true
unfolding with_severity
bit_set Ce fields = refl
bit_set Ued fields = middle_of_three fields.ce fields.uec
bit_set Uec fields = last_of_three fields.ce fields.ued

valid_stays : (severity : Severity) (fields : StatusFields) → (with_severity severity fields).valid ≡ fields.valid
unfolding with_severity
valid_stays Ce fields = refl
valid_stays Ued fields = refl
valid_stays Uec fields = refl

top_of_invalid : (fields : StatusFields) → fields.valid ≡ false → top fields ≡ None
unfolding top
top_of_invalid fields h = rw h refl

-- an error is kept out of a valid record only
lost_valid : (fields : StatusFields) (report : Report) → wins fields report ≡ false → fields.valid ≡ true
lost_valid fields report lost =
    elim (cases_Bool fields.valid) as (λ _. fields.valid ≡ true) [
      | inl valid ↦ valid
      | inr not_valid ↦ absurd (true≢false (sym (wins_none fields report (top_of_invalid fields not_valid)) ∙ lost))
    ]

pub entered_set : (fields : StatusFields) (report : Report) → IsSet (entered fields report)
unfolding entered filled marked
entered_set fields report =
    elim (cases_Bool (wins fields report)) as (λ _. IsSet (entered fields report)) [
      | inl won ↦ rw won (record { valid = refl; bit = bit_set report.severity fields })
      | inr lost ↦
          rw lost (record {
            valid = valid_stays report.severity fields
                ∙ lost_valid fields report lost;
            bit = bit_set report.severity fields;
          })
    ]

counted_matched : (control : ℕ) (fields : StatusFields) (report : Report) → IsMatched fields
    → IsMatched (count_after control fields report)
unfolding count_after
counted_matched control fields report h =
    elim (is_counted control report) as (λ b. IsMatched
    (cond b (cond (nat_lt fields.count 65535) (record fields { count = fields.count + 1 })
    (record fields { count = 0; overflow = true })) fields)) [
      | true ↦
          elim (nat_lt fields.count 65535) as (λ b. IsMatched
          (cond b (record fields { count = fields.count + 1 }) (record fields { count = 0; overflow = true }))) [
            | true ↦ h
            | false ↦ h
          ]
      | false ↦ h
    ]

after_matched : (control : ℕ) (fields : StatusFields) (report : Report) → IsMatched fields
    → IsMatched (fields_after control fields report)
unfolding fields_after
after_matched control fields report h =
    let counted = count_after control fields report in
    elim (control_fields control).enable as (λ b. IsMatched
    (cond b (cond (stays_counted control fields report) counted (entered counted report)) fields)) [
      | true ↦
          elim (stays_counted control fields report) as (λ b. IsMatched (cond b counted (entered counted report))) [
            | true ↦ counted_matched control fields report h
            | false ↦ matched (entered counted report) (entered_set counted report)
          ]
      | false ↦ h
    ]

pub updates_keep : (old : RecordCopy) (report : Report) (new : RecordCopy) (answer : Logged)
    → Updates old report new answer → IsRecord old → IsRecord new
updates_keep old report new answer u is =
    record {
      valid = subst IsMatched (sym u.status) (after_matched old.control (status_fields old.status) report is.valid);
      status_spare = u.others ∙ is.status_spare;
      control_spare = ap control_spare u.control ∙ is.control_spare;
    }
