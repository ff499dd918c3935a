-- A Claim claims the record and reads its control.
use Rattle.std.proofs.Common.{◌<◌, length}
use Rattle.std.proofs.lemmas.Option.{slice_get_within}
use Rattle.reri_bank.specs.Registers.{OneChanges, IsClaimed}
use Rattle.ras_drain.proofs.Held.{granted, one_within}
use Rattle.ras_drain.proofs.Phased.{claim_moves}
use Rattle.ras_drain.proofs.phases.claim.Goals as goal
use Rattle.ras_drain.proofs.phases.claim.Goals.{After-access}

one : (c : After-access) → OneChanges IsClaimed c.args.at.rec c.args.bank.now.copies c.access.new.self.copies
one c =
    let within = slice_get_within c.args.bank.now.copies c.args.at.rec c.requires.copy c.requires.there in
    granted c.access.result (c.args.at.rec < length c.args.bank.now.copies)
    (OneChanges IsClaimed c.args.at.rec c.args.bank.now.copies c.access.new.self.copies) c.access.ensures.there
    within c.access.ensures.records

pub copy_of-requires : goal.copy_of-requires
copy_of-requires c = one_within IsClaimed c.args.at.rec c.args.bank.now.copies c.access.new.self.copies (one c)

pub returns : goal.returns
returns c =
    λ gather few below.
    claim_moves c.args.at gather c.args.bank.now c.access.new.self c.args.got.now c.copy_of.result c.requires
    (one c.before.before) c.access.ensures.stands c.copy_of.ensures.value few below
