-- An error keeps what a drain has read, unless it writes the record, and then the record is no longer claimed.
use Rattle.std.proofs.Common.{◌≡◌, ℕ, ◌+◌, true, false, cond, nat_lt, slice_get, Option, Some, None, refl, inl, inr, sym, ap, ◌∙◌, subst}
use Rattle.std.specs.Prelude.{IfSome, IfNone}
use Rattle.std.proofs.lemmas.Bool.{cases_Bool, cases_eq, true≢false}
use Rattle.std.proofs.lemmas.Option.{same_Some, slice_get_within}
use Rattle.reri_fields.specs.declared.severity.Severity.{Severity}
use Rattle.reri_fields.specs.declared.severity.Severity.TheVariants.{Ce, Ued, Uec}
use Rattle.reri_fields.specs.declared.report.Report.{Report}
use Rattle.reri_fields.specs.declared.report.RecordCopy.{RecordCopy}
use Rattle.reri_fields.specs.declared.report.Logged.{Logged}
use Rattle.reri_fields.specs.declared.report.Logged.TheVariants.{Disabled, Counted, Kept}
use Rattle.reri_fields.specs.declared.drain.Phase.{Phase}
use Rattle.reri_fields.specs.declared.drain.Phase.TheVariants.{Scan, Claim, Address, Info, Supplement, Time, Check, Invalidate, Signal}
use Rattle.reri_fields.specs.Fields.{StatusFields, control_fields, status_fields}
use Rattle.reri_fields.specs.Records.{is_counted}
use Rattle.reri_fields.specs.Banks.{BankView}
use Rattle.reri_fields.specs.Drain.{Draining}
use Rattle.reri_log.specs.Update.{Updates, is_written, wins, with_severity, marked, filled, entered, stays_counted, count_after, answer_of, fields_after}
use Rattle.reri_log.proofs.Logging.{wins_after_count}
use Rattle.reri_log.proofs.Kept.{entered_set}
use Rattle.reri_bank.specs.Registers.{OneChanges}
use Rattle.reri_bank.proofs.Stands.{get-set_same, get-set_other}
use Rattle.ras_drain.specs.Fits.{DrainView, AreRead, HoldsRecord, FitsWhere, Fits}

-- ---- One record ----

-- counting changes neither whether the record is valid nor whether it is claimed
record SameClaim (old new : StatusFields) : Type 0 where
  valid : new.valid ≡ old.valid
  claim : new.in_progress ≡ old.in_progress

count_same : (control : ℕ) (fields : StatusFields) (report : Report)
    → SameClaim fields (count_after control fields report)
unfolding count_after
count_same control fields report =
    elim (is_counted control report) as (λ b. SameClaim fields
    (cond b (cond (nat_lt fields.count 65535) (record fields { count = fields.count + 1 })
    (record fields { count = 0; overflow = true })) fields)) [
      | true ↦
          elim (nat_lt fields.count 65535) as (λ b. SameClaim fields
          (cond b (record fields { count = fields.count + 1 }) (record fields { count = 0; overflow = true }))) [
            | true ↦ record { valid = refl; claim = refl }
            | false ↦ record { valid = refl; claim = refl }
          ]
      | false ↦ record { valid = refl; claim = refl }
    ]

severity_same : (severity : Severity) (fields : StatusFields) → (with_severity severity fields).in_progress
    ≡ fields.in_progress
unfolding with_severity
severity_same Ce fields = refl
severity_same Ued fields = refl
severity_same Uec fields = refl

entered_won : (fields : StatusFields) (report : Report) → wins fields report ≡ true
    → (entered fields report).in_progress ≡ false
unfolding entered filled
entered_won fields report h = rw h refl

entered_lost : (fields : StatusFields) (report : Report) → wins fields report ≡ false
    → (entered fields report).in_progress ≡ fields.in_progress
unfolding entered marked
entered_lost fields report h = rw h (severity_same report.severity fields)

-- what a record that is still claimed says of the error: it was claimed before, and the error did not write it
abbrev StillClaimed : ℕ → StatusFields → Report → Type 0
StillClaimed control fields report =
    (fields.in_progress ≡ true) × (is_written (answer_of control fields report) ≡ false)

written_kept : is_written Kept ≡ false
unfolding is_written
written_kept = refl

written_counted : is_written Counted ≡ false
unfolding is_written
written_counted = refl

written_disabled : is_written Disabled ≡ false
unfolding is_written
written_disabled = refl

still_claimed : (control : ℕ) (fields : StatusFields) (report : Report)
    → (fields_after control fields report).in_progress ≡ true → StillClaimed control fields report
unfolding fields_after answer_of
still_claimed control fields report h =
    let counted = count_after control fields report in
    let same = count_same control fields report in
    elim (cases_Bool (control_fields control).enable) as (λ _. StillClaimed control fields report) [
      | inr off ↦ (rw off at h, rw off written_disabled)
      | inl on ↦
          let later : (cond (stays_counted control fields report) counted (entered counted report)).in_progress
          ≡ true = rw on at h in
          elim (cases_Bool (stays_counted control fields report)) as (λ _. StillClaimed control fields report) [
            | inl stays ↦
                let then : counted.in_progress ≡ true = rw stays at later in
                (sym same.claim ∙ then, rw (on, stays) written_counted)
            | inr goes ↦
                let then : (entered counted report).in_progress ≡ true = rw goes at later in
                elim (cases_Bool (wins fields report)) as (λ _. StillClaimed control fields report) [
                  | inl won ↦
                      absurd (true≢false
                      (sym then ∙ entered_won counted report (wins_after_count control fields report ∙ won)))
                  | inr lost ↦ (
                    sym same.claim
                        ∙ sym (entered_lost counted report (wins_after_count control fields report ∙ lost))
                        ∙ then,
                    rw (on, goes, lost) written_kept,
                  )
                ]
          ]
    ]

still_valid : (control : ℕ) (fields : StatusFields) (report : Report) → fields.valid ≡ true
    → (fields_after control fields report).valid ≡ true
unfolding fields_after
still_valid control fields report h =
    let counted = count_after control fields report in
    elim (control_fields control).enable as (λ b.
    (cond b (cond (stays_counted control fields report) counted (entered counted report)) fields).valid ≡ true) [
      | true ↦
          elim (stays_counted control fields report) as (λ b. (cond b counted (entered counted report)).valid ≡ true) [
            | true ↦ (count_same control fields report).valid ∙ h
            | false ↦ (entered_set counted report).valid
          ]
      | false ↦ h
    ]

-- ---- The drain's record ----

-- what was read is what stands there as long as no register but the status changes
read_same : (phase : Phase) (got old new : RecordCopy) → new ≡ record old { status = new.status }
    → AreRead phase got old → AreRead phase got new
read_same Scan got old new h k = tt
read_same Claim got old new h k = tt
read_same Address got old new h k = k ∙ sym (ap (λ r. r.control) h)
read_same Info got old new h k = (k.0 ∙ sym (ap (λ r. r.control) h), k.1 ∙ sym (ap (λ r. r.address) h))
read_same Supplement got old new h k =
    (k.0 ∙ sym (ap (λ r. r.control) h), k.1 ∙ sym (ap (λ r. r.address) h), k.2 ∙ sym (ap (λ r. r.info) h))
read_same Time got old new h k = (
  k.0 ∙ sym (ap (λ r. r.control) h),
  k.1 ∙ sym (ap (λ r. r.address) h),
  k.2 ∙ sym (ap (λ r. r.info) h),
  k.3
      ∙ sym (ap (λ r. r.supplement) h),
)
read_same Check got old new h k = (
  k.0 ∙ sym (ap (λ r. r.control) h),
  k.1 ∙ sym (ap (λ r. r.address) h),
  k.2 ∙ sym (ap (λ r. r.info) h),
  k.3
      ∙ sym (ap (λ r. r.supplement) h),
  k.4 ∙ sym (ap (λ r. r.time) h),
)
read_same Invalidate got old new h k = tt
read_same Signal got old new h k = tt

not_written : (old : RecordCopy) (report : Report) (new : RecordCopy) (answer : Logged)
    → Updates old report new answer → is_written answer ≡ false → new ≡ record old { status = new.status }
not_written old report new answer u h =
    λ i. record {
      control = u.control i;
      status = new.status;
      address = (u.address ∙ ap (λ b. cond b report.address old.address) h) i;
      info = (u.info ∙ ap (λ b. cond b report.info old.info) h) i;
      supplement = (u.supplement ∙ ap (λ b. cond b report.supplement old.supplement) h) i;
      time = (u.time ∙ ap (λ b. cond b report.time old.time) h) i;
    }

error_here : (d : Draining) (got : RecordCopy) (bank : BankView) (old : RecordCopy) (report : Report)
    (new : RecordCopy) (answer : Logged)
    → (status_fields old.status).valid ≡ true
    → ((status_fields old.status).in_progress ≡ true → AreRead d.phase got old)
    → Updates old report new answer → slice_get bank.copies d.rec ≡ Some new → HoldsRecord d got bank
error_here d got bank old report new answer valid read u there =
    record {
      copy = new;
      there = there;
      valid = ap (λ f. f.valid) u.status ∙ still_valid old.control (status_fields old.status) report valid;
      read = λ on.
          let still = still_claimed old.control (status_fields old.status) report
          (sym (ap (λ f. f.in_progress) u.status) ∙ on) in
          read_same d.phase got old new (not_written old report new answer u (ap is_written u.answered ∙ still.1))
          (read still.0);
    }

-- an error that is logged into a record of the bank
pub error_holds : (d : Draining) (got : RecordCopy) (before bank : BankView) (report : Report) (answer : Logged)
    → HoldsRecord d got before
    → OneChanges (λ old new. Updates old report new answer) report.rec before.copies bank.copies
    → HoldsRecord d got bank
error_holds d got before bank report answer h one =
    let within = slice_get_within before.copies report.rec one.before one.was in
    elim (cases_eq d.rec report.rec) as (λ _. HoldsRecord d got bank) [
      | inl here ↦
          let same : h.copy
          ≡ one.before = same_Some h.copy one.before (sym h.there ∙ ap (slice_get before.copies) here ∙ one.was) in
          let there : slice_get bank.copies d.rec ≡ Some one.after = ap (slice_get bank.copies) here
          ∙ ap (λ copies. slice_get copies report.rec) one.is
          ∙ get-set_same before.copies report.rec one.after within in
          error_here d got bank one.before report one.after answer
          (ap (λ c. (status_fields c.status).valid) (sym same) ∙ h.valid)
          (λ on. subst (AreRead d.phase got) same
          (h.read (ap (λ c. (status_fields c.status).in_progress) same ∙ on))) one.changes there
      | inr elsewhere ↦
          record {
            copy = h.copy;
            there = ap (λ copies. slice_get copies d.rec) one.is
                ∙ get-set_other before.copies report.rec d.rec one.after elsewhere ∙ h.there;
            valid = h.valid;
            read = h.read;
          }
    ]

fits_still : (d : Option Draining) (got : RecordCopy) (before bank : BankView) (report : Report) (answer : Logged)
    → FitsWhere d got before
    → OneChanges (λ old new. Updates old report new answer) report.rec before.copies bank.copies → FitsWhere d got bank
fits_still None got before bank report answer h one = tt
fits_still (Some d) got before bank report answer h one = λ has. error_holds d got before bank report answer (h has) one

-- A report keeps whatever drain fits the bank. Its two premises are what `Bank::report` ensures by its clauses
-- `records` and `unchanged`.
pub report_keeps_fit : (drain : DrainView) (before bank : BankView) (report : Report) (answer : Option Logged)
    → Fits drain before
    → IfSome answer
    (λ logged. OneChanges (λ old new. Updates old report new logged) report.rec before.copies bank.copies)
    → IfNone answer (bank ≡ before) → Fits drain bank
report_keeps_fit drain before bank report None h records unchanged = subst (Fits drain) (sym unchanged) h
report_keeps_fit drain before bank report (Some logged) h records unchanged = fits_still drain.drain drain.gathered
    before bank report logged h records
