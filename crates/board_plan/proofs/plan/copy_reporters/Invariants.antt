-- What the loop of `copy_reporters` keeps.
use Rattle.std.proofs.Common.{◌≡◌, take}
use Rattle.board_plan.proofs.plan.copy_reporters.Given as goal

abbrev pub invariant-loop-reporter : goal.invariant-loop-reporter
invariant-loop-reporter l = l.copies ≡ take l.reporter-index l.reporters
