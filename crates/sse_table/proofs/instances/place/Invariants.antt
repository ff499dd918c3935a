-- The place in the whole list is the index and the place in the rest.
use Rattle.std.proofs.Common.{◌≡◌, ◌+◌, drop}
use Rattle.sse_base.specs.Ids.{place}
use Rattle.sse_table.proofs.instances.place.Given as goal

abbrev pub invariant-loop-i : goal.invariant-loop-i
invariant-loop-i l = place l.at l.instances ≡ l.i + place l.at (drop l.i l.instances)
