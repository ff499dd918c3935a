-- Worked values of the words, computed by the definitions.
use Rattle.std.proofs.Common.{◌≡◌, true, false, refl}
use Rattle.std.specs.Prelude.{Some, None}
use Rattle.reri_fields.specs.declared.severity.Severity.TheVariants.{Ued, Uec}
use Rattle.reri_fields.specs.Fields.{bits, flag, control_fields, control_spare, status_fields, status_spare, level_of, greatest}

-- enabled, not counting; corrected and deferred errors at low priority, critical ones at high
plain_control : control_fields 0x95
    ≡ record { enable = true; counting = false; ce_signal = 1; ued_signal = 1; uec_signal = 2 }
unfolding control_fields flag bits
plain_control = refl

-- the same with counting
counting_control : control_fields 0x97
    ≡ record { enable = true; counting = true; ce_signal = 1; ued_signal = 1; uec_signal = 2 }
unfolding control_fields flag bits
counting_control = refl

-- the level of an error that work can go on from, under that control
deferred_level : level_of (control_fields 0x95) Ued ≡ 1
unfolding level_of control_fields flag bits
deferred_level = refl

-- a corrected error of code 7 is shown, the count has wrapped and one more was counted since
wrapped_status : status_fields 0x100070103
    ≡ record {
      valid = true;
      ce = true;
      ued = false;
      uec = false;
      priority = 0;
      multiple = false;
      in_progress =
          false;
      overflow = true;
      code = 7;
      count = 1;
    }
unfolding status_fields flag bits
wrapped_status = refl

-- errors of two severities came, the record shows one of priority 0 and code 2 and is being read
read_status : status_fields 0x2008d
    ≡ record {
      valid = true;
      ce = false;
      ued = true;
      uec = true;
      priority = 0;
      multiple = false;
      in_progress =
          true;
      overflow = false;
      code = 2;
      count = 0;
    }
unfolding status_fields flag bits
read_status = refl

greatest_of_two : greatest (status_fields 0x2008d) ≡ Some Uec
unfolding greatest status_fields flag bits
greatest_of_two = refl

-- a record that nothing was logged into has no severity
greatest_of_none : greatest (status_fields 0x100000100) ≡ None
unfolding greatest status_fields flag bits
greatest_of_none = refl

-- the least bit that is in no field is seen
spare_status : status_spare 0x200 ≡ (1, 0, 0)
unfolding status_spare bits
spare_status = refl

spare_control : control_spare 0x195 ≡ 1
unfolding control_spare bits
spare_control = refl
