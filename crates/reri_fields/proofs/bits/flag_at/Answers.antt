-- Goals of `flag_at` that the tactics leave open.
use Rattle.std.proofs.Common.{ap}
use Rattle.std.specs.Prelude.{nat_eq}
use Rattle.reri_fields.specs.Fields.{flag}
use Rattle.reri_fields.proofs.bits.flag_at.Goals as goal

pub returns : goal.returns
unfolding flag
returns c = ap (λ n. nat_eq n 1) c.field.ensures.value
