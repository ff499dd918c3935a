use Rattle.std.proofs.Common.{rules, ◌≡◌, []}
use Rattle.ras_policy.proofs.Standing.{none_stands}
use Rattle.ras_policy.proofs.ledger.Ledger.with_room.Goals as goal

pub returns-clause-empty : goal.returns-clause-empty
returns-clause-empty c =
    let empty : c.in_ok-marks.marks.items ≡ [] = search rules in
    none_stands _ empty
