-- Each copy of the test is one that a block can hold.
use Rattle.std.proofs.Common.{refl}
use Rattle.reri_fields.specs.Fields.{bits, flag, control_spare, status_spare, status_fields, greatest}
use Rattle.record_tests.proofs.blocks.slot_holds_up_to_four_copies.Goals as goal

pub append-requires-clause-copy : goal.append-requires-clause-copy
unfolding bits flag control_spare status_spare status_fields greatest
append-requires-clause-copy g c = record { valid = refl; severity = refl; status_spare = refl; control_spare = refl }

pub append-requires-2-clause-copy : goal.append-requires-2-clause-copy
unfolding bits flag control_spare status_spare status_fields greatest
append-requires-2-clause-copy g c = record { valid = refl; severity = refl; status_spare = refl; control_spare = refl }

pub append-requires-3-clause-copy : goal.append-requires-3-clause-copy
unfolding bits flag control_spare status_spare status_fields greatest
append-requires-3-clause-copy g c = record { valid = refl; severity = refl; status_spare = refl; control_spare = refl }

pub append-requires-4-clause-copy : goal.append-requires-4-clause-copy
unfolding bits flag control_spare status_spare status_fields greatest
append-requires-4-clause-copy g c = record { valid = refl; severity = refl; status_spare = refl; control_spare = refl }
