-- The place in the whole list is the index and the place in the rest.
use Rattle.std.proofs.Common.{◌≡◌, ◌+◌, drop}
use Rattle.sse_queue.specs.Places.{standing}
use Rattle.sse_queue.proofs.scan.standing.Given as goal

abbrev pub invariant-loop-i : goal.invariant-loop-i
invariant-loop-i l = standing l.at l.items ≡ l.i + standing l.at (drop l.i l.items)
