use Rattle.std.proofs.Common.{rules, ◌≡◌, [], ◌∷◌, ◌++◌}
use Rattle.ras_policy.specs.Books.{mark_of}
use Rattle.ras_policy.proofs.Standing.{more_stands}
use Rattle.ras_policy.proofs.ledger.Ledger.add.Goals as goal

pub returns-clause-copies : goal.returns-clause-copies
returns-clause-copies c =
    let grows : c.push.new.self.items ≡ c.args.self.now.marks ++ mark_of c.args.published.now ∷ [] = search rules in
    λ copies h. more_stands c.args.published.now copies c.args.self.now _ grows h
