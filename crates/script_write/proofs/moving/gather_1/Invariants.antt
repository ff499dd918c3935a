-- What the loop of `gather_1` keeps.
use Rattle.std.proofs.Common.{◌≡◌, ◌++◌, map, take, drop}
use Rattle.board_plan.specs.Canonical.{with_gather_1}
use Rattle.script_write.proofs.moving.gather_1.Given as goal

abbrev pub invariant-loop-i : goal.invariant-loop-i
invariant-loop-i l = l.banks ≡ map with_gather_1 (take l.i l.initial.banks) ++ drop l.i l.initial.banks
