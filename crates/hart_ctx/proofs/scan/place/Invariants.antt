-- The place in the whole list is the index and the place in the rest.
use Rattle.std.proofs.Common.{◌≡◌, ◌+◌, drop}
use Rattle.hart_ctx.specs.Levels.{kept_place}
use Rattle.hart_ctx.proofs.scan.place.Given as goal

abbrev pub invariant-loop-i : goal.invariant-loop-i
invariant-loop-i l = kept_place l.at l.kept ≡ l.i + kept_place l.at (drop l.i l.kept)
