-- Goals of `field` that the tactics leave open.
use Rattle.std.proofs.lemmas.Nat.{and_mask, one_shl}
use Rattle.reri_fields.specs.Fields.{bits}
use Rattle.reri_fields.proofs.bits.field.Goals as goal

pub returns-clause-value : goal.returns-clause-value
unfolding bits
returns-clause-value c = rw (one_shl c.args.width 64 c.requires.narrow) (and_mask _ c.args.width)
