-- Fresh records.
use Rattle.std.proofs.Common.{◌≡◌, ℕ, ◌<◌, false, ◌||◌, [], refl, sym, ap, ◌∙◌, arith}
use Rattle.std.proofs.lemmas.Bool.{le-ltb}
use Rattle.reri_fields.specs.Fields.{StatusFields, status_fields, status_spare, control_spare, flag, bits}
use Rattle.reri_fields.specs.Records.{Stands, IsRecord, is_any, shown, is_multiple, has_severity, number_in, since, in_progress, counted}

pub zero_fields : status_fields 0
    ≡ record {
      valid = false;
      ce = false;
      ued = false;
      uec = false;
      priority = 0;
      multiple = false;
      in_progress =
          false;
      overflow = false;
      code = 0;
      count = 0;
    }
unfolding status_fields flag bits
zero_fields = refl

pub zero_spare : status_spare 0 ≡ (0, 0, 0)
unfolding status_spare bits
zero_spare = refl

-- a record whose status has nothing but a count stands for the history in which nothing happened
pub fresh_stands : (control count word : ℕ) → count < 65536
    → status_fields word ≡ record (status_fields 0) { count = count } → status_spare word ≡ status_spare 0
    → Stands (record { control = control; count = count }) []
    (record { control = control; status = word; address = 0; info = 0; supplement = 0; time = 0 })
unfolding since in_progress counted is_any has_severity is_multiple shown number_in
fresh_stands control count word small h spare =
    let put : StatusFields → StatusFields = λ f. record f { count = count } in
    let fields = h ∙ ap put zero_fields in
    record {
      control = refl;
      shows = record {
        valid = ap (λ f. f.valid) fields;
        ce = ap (λ f. f.ce) fields;
        ued = ap (λ f. f.ued) fields;
        uec = ap (λ f. f.uec) fields;
        multiple = ap (λ f. f.multiple) fields;
        priority = ap (λ f. f.priority) fields;
        code = ap (λ f. f.code) fields;
        address = refl;
        info = refl;
        supplement = refl;
        time = refl;
      };
      in_progress = ap (λ f. f.in_progress) fields;
      count = ap (λ f. f.count) fields ∙ omega arith;
      overflow = ap (λ f. f.overflow) fields ∙ sym (le-ltb 65535 count (omega arith));
      others = spare ∙ zero_spare;
    }

pub fresh_is_record : (control count word : ℕ) → status_fields word ≡ record (status_fields 0) { count = count }
    → status_spare word ≡ status_spare 0 → control_spare control ≡ 0
    → IsRecord (record { control = control; status = word; address = 0; info = 0; supplement = 0; time = 0 })
fresh_is_record control count word h spare clean =
    let put : StatusFields → StatusFields = λ f. record f { count = count } in
    let fields = h ∙ ap put zero_fields in
    record {
      valid = ap (λ f. f.valid) fields ∙ sym (ap (λ f. f.ce || f.ued || f.uec) fields);
      status_spare = spare ∙ zero_spare;
      control_spare = clean;
    }
