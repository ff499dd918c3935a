-- Each hint so far is at an instance that stands first there, or at none.
use Rattle.std.proofs.Common.{◌≡◌, All, length}
use Rattle.sse_table.specs.Places.{StandsFirst}
use Rattle.sse_table.proofs.places.hints.Given as goal

abbrev pub invariant-loop-i : goal.invariant-loop-i
invariant-loop-i l = record {
  room : length l.hints ≡ 1024;
  first : All (StandsFirst l.instances) l.hints;
}
