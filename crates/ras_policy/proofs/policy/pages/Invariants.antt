use Rattle.std.proofs.Common.{◌≡◌, take, length}
use Rattle.ras_policy.specs.Books.{StandsFor}
use Rattle.ras_policy.proofs.policy.pages.Given as goal

-- the ledger stands for the copies so far
abbrev pub invariant-loop-published : goal.invariant-loop-published
invariant-loop-published l =
    StandsFor (take l.published-index l.blocks) l.ledger × (l.ledger.room ≡ length l.blocks)
    × (length l.ledger.marks ≡ l.published-index)
