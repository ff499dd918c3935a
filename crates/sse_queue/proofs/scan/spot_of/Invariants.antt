-- The spot in the whole list is the index and the spot in the rest.
use Rattle.std.proofs.Common.{◌≡◌, ◌+◌, drop}
use Rattle.sse_queue.specs.Places.{spot_of}
use Rattle.sse_queue.proofs.scan.spot_of.Given as goal

abbrev pub invariant-loop-i : goal.invariant-loop-i
invariant-loop-i l = spot_of l.one l.items ≡ l.i + spot_of l.one (drop l.i l.items)
