use Rattle.std.proofs.Common.{◌≡◌, length}
use Rattle.policy_tests.proofs.many.filled.Given as goal

abbrev pub invariant-loop-published : goal.invariant-loop-published
invariant-loop-published l = (l.ledger.room ≡ length l.copies) × (length l.ledger.marks ≡ l.published-index)
