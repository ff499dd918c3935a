use Rattle.std.proofs.Common.{◌≡◌, vec_len}
use Rattle.policy_tests.proofs.many.apart.Given as goal

abbrev pub invariant-loop-i : goal.invariant-loop-i
invariant-loop-i l = vec_len l.copies ≡ l.i
