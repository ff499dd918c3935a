-- What the loop of `listed` keeps.
use Rattle.std.proofs.Common.{length}
use Rattle.ras_tests.proofs.texts.listed.Given as goal

abbrev pub decreases-loop-rest : goal.decreases-loop-rest
decreases-loop-rest l = length l.rest
