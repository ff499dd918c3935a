-- Goals of `cleared` that the tactics leave open.
use Rattle.std.proofs.Common.{refl, ap, ◌∙◌}
use Rattle.reri_fields.specs.Fields.{StatusFields}
use Rattle.reri_fields.proofs.Fresh.{zero_fields, zero_spare}
use Rattle.reri_bank.proofs.record.cleared.Goals as goal

pub returns : goal.returns
returns c =
    let with_overflow : StatusFields → StatusFields = λ f. record f { overflow = c.overflow.result } in
    let with_count : StatusFields → StatusFields = λ f. record f { count = c.count.result } in
    record {
      control = refl;
      status = c.with_count.ensures.set ∙ ap with_count (c.with_overflow.ensures.set ∙ ap with_overflow zero_fields)
          ∙ cc;
      others = c.with_count.ensures.others ∙ c.with_overflow.ensures.others ∙ zero_spare;
      address = refl;
      info = refl;
      supplement = refl;
      time = refl;
    }
